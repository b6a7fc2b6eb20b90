-- Each slot is a call of its own: in any list of events, each at the slot that it names, a slot holds the call that its own events lead to,
-- and answers as that call does.
-- Assumes nothing.
use mathlib.Core.Path.{◌≡◌, refl, sym, ap, subst, ◌∙◌}
use mathlib.Core.Bool.{Bool, true, false}
use mathlib.Core.List.{List, [], ◌∷◌, ◌++◌}
use mathlib.Core.Option.{Option, some}
use Prim.Native.Nat.{ℕ, zero, suc, ◌≤◌, ◌<◌}
use native.Mathlib.Nat.{not-suc-le-zero, le_of_suc-le-suc}
use native.Mathlib.Omega.{arith}
use lib.Dec.{eqb, ltb}
use lib.ListN.{length, get_or, get_elem?, replicate}
use borrow.Author.Tests.{ltb-true, ltb-false, eqb-true, eqb-false}
use Rattle.meters.specs.declared.Payer.TheVariants.{Nobody}
use Rattle.rows.proofs.Payers.{answered_paid}
use Rattle.rows.proofs.Stays.{calls_stay}
use Rattle.rows.specs.Bill.{pick, Step, is_answered}
use Rattle.rows.specs.History.{run, written, history}
use Rattle.rows.specs.Step.{unopened_call, step_of}
use Rattle.rows.specs.Valid.{valid_of}
use Rattle.rows.specs.declared.Call.{Call}
use Rattle.rows.specs.declared.Event.{Event}
use Rattle.rows.specs.declared.Phase.TheVariants.{Answered}
use Rattle.board.specs.Numbers.{slots}
use Rattle.board.specs.Row.{answer_at, row_after, Named, run_row, own_of, steps_at, empty_row}
use Rattle.board.proofs.Laws.{some_is, placed_is, other_slots, own_slot, answer_is, row_length, past_63}

-- the row has the call that its own event led to, or, where the event was another slot's, the call that it had
own_next : (cs : List Call) (x : Named) (i : ℕ) (c : Call) → i < slots → get_elem? cs i ≡ some c → (b : Bool) → eqb x.slot i ≡ b →
    get_elem? (row_after cs x.slot x.event) i ≡ some (pick b (step_of c x.event).call c)
own_next cs x i c s h true t =
    subst (λ (j : ℕ). get_elem? (row_after cs j x.event) i ≡ some (step_of c x.event).call) (sym (eqb-true x.slot i t)) (own_slot cs i x.event c s h)
own_next cs x i c s h false t = other_slots cs x.slot i x.event (eqb-false x.slot i t) ∙ h

-- the run goes on from that call
run_next : (b : Bool) (c : Call) (e : Event) (es : List Event) → run (pick b (step_of c e).call c) es ≡ run c (pick b (e ∷ es) es)
run_next true c e es = refl
run_next false c e es = refl

pub slot_runs : (cs : List Call) (xs : List Named) (i : ℕ) (c : Call) → i < slots → get_elem? cs i ≡ some c →
    get_elem? (run_row cs xs) i ≡ some (run c (own_of i xs))
slot_runs cs [] i c s h = h
slot_runs cs (x ∷ xs) i c s h =
    slot_runs (row_after cs x.slot x.event) xs i (pick (eqb x.slot i) (step_of c x.event).call c) s
    (own_next cs x i c s h (eqb x.slot i) refl)
    ∙ ap {B = Option Call} some (run_next (eqb x.slot i) c x.event (own_of i xs))

pub slot_answers : (cs : List Call) (xs : List Named) (i : ℕ) (e : Event) (c : Call) → i < slots → get_elem? cs i ≡ some c →
    answer_at (run_row cs xs) i e ≡ step_of (run c (own_of i xs)) e
slot_answers cs xs i e c s h = answer_is (run_row cs xs) i e (run c (own_of i xs)) s (slot_runs cs xs i c s h)

-- the step that an event at its own slot writes
own_step : (cs : List Call) (x : Named) (i : ℕ) (c : Call) → i < slots → get_elem? cs i ≡ some c → x.slot ≡ i →
    written (get_or cs i unopened_call) x.event (answer_at cs x.slot x.event) ≡ written c x.event (step_of c x.event)
own_step cs x i c s h e =
    ap (λ (d : Call). written d x.event (answer_at cs x.slot x.event)) (placed_is cs i unopened_call c h)
    ∙ ap (λ (j : ℕ). written c x.event (answer_at cs j x.event)) e
    ∙ ap (written c x.event) (answer_is cs i x.event c s h)

pub slot_history : (cs : List Call) (xs : List Named) (i : ℕ) (c : Call) → i < slots → get_elem? cs i ≡ some c →
    steps_at i cs xs ≡ history c (own_of i xs)
slot_history cs [] i c s h = refl
slot_history cs (x ∷ xs) i c s h = by (eqb x.slot i) refl (slot_history (row_after cs x.slot x.event) xs i)
  where
    by : (b : Bool) → eqb x.slot i ≡ b →
        ((d : Call) → i < slots → get_elem? (row_after cs x.slot x.event) i ≡ some d → steps_at i (row_after cs x.slot x.event) xs ≡ history d (own_of i xs)) →
        pick b (written (get_or cs i unopened_call) x.event (answer_at cs x.slot x.event) ∷ steps_at i (row_after cs x.slot x.event) xs)
        (steps_at i (row_after cs x.slot x.event) xs)
        ≡ history c (pick b (x.event ∷ own_of i xs) (own_of i xs))
    by true t r =
        ap {B = List Step} (λ (y : Step). y ∷ steps_at i (row_after cs x.slot x.event) xs) (own_step cs x i c s h (eqb-true x.slot i t))
        ∙ ap {B = List Step} (λ (l : List Step). written c x.event (step_of c x.event) ∷ l) (r (step_of c x.event).call s (own_next cs x i c s h true t))
    by false t r = r c s (own_next cs x i c s h false t)

pub run_length : (cs : List Call) (xs : List Named) → length (run_row cs xs) ≡ length cs
run_length cs [] = refl
run_length cs (x ∷ xs) = run_length (row_after cs x.slot x.event) xs ∙ row_length cs x.slot x.event

-- an event changes nothing past 63: at its own place there is no slot
past_stays_once : (cs : List Call) (i j : ℕ) (e : Event) → slots ≤ j → get_elem? (row_after cs i e) j ≡ get_elem? cs j
past_stays_once cs i j e h = by (ltb i slots) refl
  where
    apart : i < slots → i ≡ j → ⊥
    apart s k = omega (arith, s, k, h)

    by : (b : Bool) → ltb i slots ≡ b → get_elem? (row_after cs i e) j ≡ get_elem? cs j
    by true t = other_slots cs i j e (apart (ltb-true i slots t))
    by false t = ap {B = Option Call} (λ (l : List Call). get_elem? l j) (past_63 cs i e (ltb-false i slots t)).1

pub past_stays : (cs : List Call) (xs : List Named) (j : ℕ) → slots ≤ j → get_elem? (run_row cs xs) j ≡ get_elem? cs j
past_stays cs [] j h = refl
past_stays cs (x ∷ xs) j h = past_stays (row_after cs x.slot x.event) xs j h ∙ past_stays_once cs x.slot j x.event h

-- ---- One list of events after another

pub run_append : (cs : List Call) (xs ys : List Named) → run_row cs (xs ++ ys) ≡ run_row (run_row cs xs) ys
run_append cs [] ys = refl
run_append cs (x ∷ xs) ys = run_append (row_after cs x.slot x.event) xs ys

pub own_append : (i : ℕ) (xs ys : List Named) → own_of i (xs ++ ys) ≡ own_of i xs ++ own_of i ys
own_append i [] ys = refl
own_append i (x ∷ xs) ys = by (eqb x.slot i) (own_append i xs ys)
  where
    by : (b : Bool) → own_of i (xs ++ ys) ≡ own_of i xs ++ own_of i ys →
        pick b (x.event ∷ own_of i (xs ++ ys)) (own_of i (xs ++ ys)) ≡ pick b (x.event ∷ own_of i xs) (own_of i xs) ++ own_of i ys
    by true h = ap {B = List Event} (λ (l : List Event). x.event ∷ l) h
    by false h = h

-- ---- The program's row

repeated : (n i : ℕ) (c : Call) → i < n → get_elem? (replicate n c) i ≡ some c
repeated zero i c h = absurd (not-suc-le-zero h)
repeated (suc n) zero c h = refl
repeated (suc n) (suc i) c h = repeated n i c (le_of_suc-le-suc h)

pub empty_slot : (i : ℕ) → i < slots → get_elem? empty_row i ≡ some unopened_call
unfolding empty_row
empty_slot i s = repeated slots i unopened_call s

pub program_slots : (xs : List Named) (i : ℕ) → i < slots →
    (get_elem? (run_row empty_row xs) i ≡ some (run unopened_call (own_of i xs))) × (steps_at i empty_row xs ≡ history unopened_call (own_of i xs))
program_slots xs i s = (
  slot_runs empty_row xs i unopened_call s (empty_slot i s),
  slot_history empty_row xs i unopened_call s (empty_slot i s),
)

-- ---- Somebody pays in each slot

pub slot_pays : (cs : List Call) (xs : List Named) (i : ℕ) (c d : Call) → i < slots → get_elem? cs i ≡ some c → valid_of c ≡ true →
    get_elem? (run_row cs xs) i ≡ some d → d.stand.phase ≡ Answered → d.meters.payer ≡ Nobody → ⊥
slot_pays cs xs i c d s h v g a =
    let e : d ≡ run c (own_of i xs) = some_is (sym g ∙ slot_runs cs xs i c s h) in
    answered_paid d (subst (λ (x : Call). valid_of x ≡ true) (sym e) (calls_stay c (own_of i xs) v)) (ap is_answered a)

pub program_pays : (xs : List Named) (i : ℕ) (d : Call) → i < slots → get_elem? (run_row empty_row xs) i ≡ some d →
    d.stand.phase ≡ Answered → d.meters.payer ≡ Nobody → ⊥
program_pays xs i d s = slot_pays empty_row xs i unopened_call d s (empty_slot i s) refl
