-- THE THEOREM OF DEMAND 3 for an originating call: its meters show what the bill of its history says.
-- Of the meters it uses what their crate promises, Rattle.meters.proofs.Laws; of the rows, their definitions.
-- Assumes nothing.
use mathlib.Core.Path.{◌≡◌, refl, sym, ◌∙◌, ap, subst}
use mathlib.Core.Bool.{Bool, true, false, ◌&&◌, ◌||◌, not}
use mathlib.Core.List.{List, [], ◌∷◌}
use Prim.Native.Nat.{ℕ, ◌+◌}
use native.Mathlib.Omega.{arith}
use lib.Dec.{eqb, leb}
use borrow.Author.Tests.{not-true}
use Rattle.std.specs.Prelude.{Option, Some, None}
use Rattle.meters.proofs.Laws
use Rattle.meters.proofs.Laws.{Gave, gave, Moved, moved_to_called, moved_to_far}
use Rattle.meters.specs.Meters.{new_of, paid_by_of, give_of, change_of}
use Rattle.meters.specs.declared.Change.TheVariants.{EntireToCalled, EntireToFar}
use Rattle.meters.specs.declared.Meters.{Meters}
use Rattle.meters.specs.declared.Payer.{Payer}
use Rattle.meters.specs.declared.Payer.TheVariants.{Nobody, Caller, Called, Far}
use Rattle.rows.specs.Bill.{pick, Step, accepted, seconds_in, counted, times, sum, answered, result_to, invoke_of, Said}
use Rattle.rows.specs.Bill.{saying, silence, said, Case, case_b, case_c, case_d, Mark, plain, second, reversed, turns_setup}
use Rattle.rows.specs.Bill.{turns_answered, turns, in_effect, is_rev, mark_by, still_waits, waits_in, waits_by, waits, marks, Took, nothing}
use Rattle.rows.specs.Bill.{took}
use Rattle.rows.specs.Bill.{reversal, turned_to, covers, payer, payments, bill, all_seconds, same, owed, an_opening, opens, none_opens}
use Rattle.rows.specs.Find.{vacant_of, originating_null_of, originating_setup_idle_of, wait_setup_of, originating_wait_answer_of}
use Rattle.rows.specs.Find.{originating_answered_idle_of, wait_active_of, active_of}
use Rattle.rows.specs.History.{run, written, history, opening}
use Rattle.rows.specs.Perform.{perform_of}
use Rattle.rows.specs.Read.{bit, lowest, flags_of, heard_of, kind_by, kind_of, read_of, error_of, cue_of, listed_of, interaction_by, mode_by}
use Rattle.rows.specs.Read.{extent_by, correct_by, terms_of}
use Rattle.rows.specs.Rows
use Rattle.rows.specs.Rows.{plan_of}
use Rattle.rows.specs.Step.{planned, unopened_call, if_in_range, step_of}
use Rattle.rows.specs.Valid.{event_ok}
use Rattle.rows.specs.declared.Call.{Call}
use Rattle.rows.specs.declared.Component.{Component}
use Rattle.rows.specs.declared.Component.TheVariants.{Absent, Invoke, Result, Error, Reject, Unknown}
use Rattle.rows.specs.declared.Correctness.{Correctness}
use Rattle.rows.specs.declared.Correctness.TheVariants.{Correct, Incorrect}
use Rattle.rows.specs.declared.Cue.{Cue}
use Rattle.rows.specs.declared.Event.{Event}
use Rattle.rows.specs.declared.Event.TheVariants.{Opening, Ask, Received, FromAccess, Expiry, Time}
use Rattle.rows.specs.declared.Heard.{Heard}
use Rattle.rows.specs.declared.Interaction.{Interaction}
use Rattle.rows.specs.declared.Interaction.TheVariants.{Allowed, NotAllowed}
use Rattle.rows.specs.declared.Kind.{Kind}
use Rattle.rows.specs.declared.Kind.TheVariants.{Iam, Answer, Rel, Fac}
use Rattle.rows.specs.declared.Message.{Message}
use Rattle.rows.specs.declared.Mode.{Mode}
use Rattle.rows.specs.declared.Mode.TheVariants.{NoTransfer, Transfer}
use Rattle.rows.specs.declared.Number.{Number}
use Rattle.rows.specs.declared.Outcome.{Outcome}
use Rattle.rows.specs.declared.Phase.{Phase}
use Rattle.rows.specs.declared.Phase.TheVariants.{Unopened, Null, Setup, Answered, Cleared}
use Rattle.rows.specs.declared.Plan.{Plan}
use Rattle.rows.specs.declared.RevState.{RevState}
use Rattle.rows.specs.declared.RevState.TheVariants.{Idle, WaitSetup, WaitActive, WaitAnswer, Active, WaitSetupConf, WaitActiveConf}
use Rattle.rows.specs.declared.RevState.TheVariants.{WaitCalled}
use Rattle.rows.specs.declared.Role.TheVariants.{Originating}
use Rattle.rows.specs.declared.Row.{Row}
use Rattle.rows.proofs.Answers.{performed, settled, refused_or_performed}
use Rattle.rows.proofs.Found.{split, fork}
use Rattle.rows.proofs.Truth.{differ, left, right}

-- ---- What a reader of the history knows so far: the reversal, the seconds before it and those after it

pub record Known : Type 0 where
  pub turn : Took
  pub before : ℕ
  pub after : ℕ

abbrev pub known : Took → ℕ → ℕ → Known
known w x y = record { turn = w; before = x; after = y }

abbrev pub at_first : Known
at_first = known nothing 0 0

abbrev pub note_seconds : Took → ℕ → ℕ → ℕ → Known
note_seconds nothing x y n = known nothing (x + n) y
note_seconds (took k t) x y n = known (took k t) x (y + n)

abbrev pub note_turn : Took → ℕ → ℕ → Took → Known
note_turn nothing x y w = known w x y
note_turn (took k t) x y w = known (took k t) x y

abbrev pub note : Known → Mark → Known
note o plain = o
note o (second n) = note_seconds o.turn o.before o.after n
note o (reversed k t) = note_turn o.turn o.before o.after (took k t)

-- n where two payers are the same
abbrev pub share : Payer → Payer → ℕ → ℕ
share q p n = pick (same q p) n 0

abbrev pub due : Payer → Known → ℕ
due q o = share q (payer o.turn false) o.before + share q (payer o.turn true) o.after

-- the three meters are what is due
abbrev pub Due : Meters → Known → Type 0
Due m o = (m.caller ≡ due Caller o) × (m.called ≡ due Called o) × (m.far ≡ due Far o)

-- and the payer who is being charged is the one whom the history names for the seconds to come
pub record Right (m : Meters) (o : Known) : Type 0 where
  pub pays : m.payer ≡ payer o.turn true
  pub owes : Due m o

-- ---- The invariant: a call agrees with what the history so far says

abbrev pub at : ℕ → Number → Number → Number → Phase → RevState → Bool → Bool → Meters → Call
at f u v w ph rv a r m =
    record {
      side = record { role = Originating; flags = flags_of f; own = u; calling = v; called = w };
      stand = record { phase = ph; rev = rv; agreed = a; rest = r };
      meters = m;
    }

-- f: the opening's flags; d: the case D that waits for the answer
pub data Agrees (f : ℕ) : Call → Mark → Known → Type 0 where
  null : {u v w : Number} {a r : Bool} {d : Mark} → Agrees f (at f u v w Null Idle a r new_of) d at_first
  setup : {u v w : Number} {a r : Bool} {d : Mark} → Agrees f (at f u v w Setup Idle a r new_of) d at_first
  asked_a : {u v w : Number} {a r : Bool} {d : Mark} → Agrees f (at f u v w Setup WaitSetup a r new_of) d at_first
  asked_d : {u v w : Number} {t r : Bool} → Agrees f (at f u v w Setup WaitAnswer t r new_of) (reversed case_d t) at_first
  talks : {u v w : Number} {a r : Bool} {d : Mark} {m : Meters} {x : ℕ} → Right m (known nothing x 0) →
      Agrees f (at f u v w Answered Idle a r m) d (known nothing x 0)
  asked_b : {u v w : Number} {a r : Bool} {d : Mark} {m : Meters} {x : ℕ} → Right m (known nothing x 0) →
      Agrees f (at f u v w Answered WaitActive a r m) d (known nothing x 0)
  turned : {u v w : Number} {a r t : Bool} {d : Mark} {m : Meters} {k : Case} {x y : ℕ} → Right m (known (took k t) x y) →
      Agrees f (at f u v w Answered Active a r m) d (known (took k t) x y)
  over : {u v w : Number} {a r : Bool} {d : Mark} {m : Meters} {o : Known} → Due m o →
      Agrees f (at f u v w Cleared Idle a r m) d o

-- an answer to an event keeps the agreement; w: what the event says
abbrev Good : ℕ → Said → Call → Mark → Known → Event → Outcome → Type 0
Good f w c d o e a = Agrees f a.call (waits_by w d (written c e a)) (note o (mark_by w d (written c e a)))

-- so does a row
abbrev Fine : ℕ → Said → Call → Mark → Known → Event → Option Row → Type 0
Fine f w c d o e row = Good f w c d o e (perform_of c (planned row (terms_of c.side.flags c.stand (read_of e))) (read_of e))

kinds : (P : Kind → Type 0) (a b r : Bool) → P Iam → P Answer → P Rel → P Fac → P (kind_by a b r)
kinds P true b r i n l c = i
kinds P false true r i n l c = n
kinds P false false true i n l c = l
kinds P false false false i n l c = c

pub by_kind : (m : Message) (P : Kind → Type 0) → P Iam → P Answer → P Rel → P Fac → P (kind_of m.kind)
by_kind m P = kinds P (eqb m.kind 1) (eqb m.kind 2 || eqb m.kind 3) (eqb m.kind 4)

-- a cleared call has a row for an opening, and for nothing else
pub after_clearing : (P : Option Row → Type 0) (e : Event) → (an_opening e ≡ true → P (Some Row.Opened)) → P None →
    P (vacant_of (read_of e).kind (cue_of (read_of e)))
after_clearing P (Opening r f n) h p = h refl
after_clearing P (Ask q n) h p = p
after_clearing P (Received m) h p = by_kind m (λ (k : Kind). P (vacant_of k (cue_of (read_of (Received m))))) p p p p
after_clearing P (FromAccess a n) h p = p
after_clearing P Expiry h p = p
after_clearing P (Time s) h p = p

-- ---- What the meters promise

law : (p : Payer) (n : ℕ) → (Laws.share Caller p n ≡ share Caller p n) × (Laws.share Called p n ≡ share Called p n) × (Laws.share Far p n ≡ share Far p n)
law Nobody n = (refl, refl, refl)
law Caller n = (refl, refl, refl)
law Called n = (refl, refl, refl)
law Far n = (refl, refl, refl)

pick_add : (b : Bool) (x y : ℕ) → pick b (x + y) 0 ≡ pick b x 0 + pick b y 0
pick_add true x y = refl
pick_add false x y = refl

share_add : (q p : Payer) (x y : ℕ) → share q p (x + y) ≡ share q p x + share q p y
share_add q p x y = pick_add (same q p) x y

-- the history names somebody
somebody : (w : Took) → payer w true ≡ Nobody → ⊥
somebody nothing h = differ (ap (same Nobody) h)
somebody (took k t) h = by (covers k true) t h
  where
    by : (b t : Bool) → pick b (turned_to t) Caller ≡ Nobody → ⊥
    by true true h = differ (ap (same Nobody) h)
    by true false h = differ (ap (same Nobody) h)
    by false t h = differ (ap (same Nobody) h)

-- the payer's meter takes the seconds
ticks : {m n : Meters} {x y : ℕ} (s : ℕ) (w : Took) → Right m (known w x y) → give_of m s ≡ Some n → Right n (note_seconds w x y s)
ticks {m} {n} {x} {y} s nothing z h =
    let g = gave m n s (λ e. somebody nothing (sym z.pays ∙ e)) h in
    let g' : Gave m n Caller s s = subst (λ (p : Payer). Gave m n p s s) z.pays g in
    record { pays = g.payer ∙ z.pays; owes = omega arith }
ticks {m} {n} {x} {y} s (took k t) z h =
    let g = gave m n s (λ e. somebody (took k t) (sym z.pays ∙ e)) h in
    let g' : Gave m n (payer (took k t) true) s s = subst (λ (p : Payer). Gave m n p s s) z.pays g in
    let l = law (payer (took k t) true) s in
    record {
      pays = g.payer ∙ z.pays;
      owes = omega (arith, share_add Caller (payer (took k t) true) y s, share_add Called (payer (took k t) true) y s, share_add Far (payer (took k t) true) y s);
    }

-- case C moves the caller's
moves : {m n : Meters} {x : ℕ} (t : Bool) → Right m (known nothing x 0) → Moved m n (turned_to t) → Right n (known (took case_c t) x 0)
moves true z g = record { pays = g.payer; owes = omega arith }
moves false z g = record { pays = g.payer; owes = omega arith }

-- a change of the payer moves nothing
switches : {m : Meters} {x : ℕ} (t : Bool) → Right m (known nothing x 0) →
    Right (paid_by_of m (turned_to t)) (known (took case_b t) x 0)
switches true z = record { pays = refl; owes = omega arith }
switches false z = record { pays = refl; owes = omega arith }

-- ---- Where a row that reverses nothing may leave a call

begins : {f : ℕ} {u v w : Number} {a r : Bool} {d : Mark} → Agrees f (at f u v w Answered Idle a r (paid_by_of new_of Caller)) d at_first
begins = talks (record { pays = refl; owes = (refl, refl, refl) })

fails : {f : ℕ} {u v w : Number} {a r : Bool} {d : Mark} → Agrees f (at f u v w Cleared Idle a r new_of) d at_first
fails = over (refl, refl, refl)

ends : {f : ℕ} {u v w : Number} {a r : Bool} {d : Mark} {m : Meters} {o : Known} → Right m o →
    Agrees f (at f u v w Cleared Idle a r (paid_by_of m Nobody)) d o
ends z = over z.owes

ruleset states = (null, setup, asked_a, asked_d, talks, asked_b, turned, over, begins, fails, ends)

-- ---- What a message says, by the rows' own tests

abbrev heard : ℕ → Message → Said
heard f m =
    saying (heard_of m.component).resultsetup (heard_of m.component).resultactive (heard_of m.component).invokecalled (bit 8 m.parts)
    (lowest f && lowest m.parts)
    (lowest f && (bit 2 m.parts && bit 4 m.parts))

abbrev heard_in : ℕ → Event → Said
heard_in f (Opening r g n) = silence
heard_in f (Ask q n) = silence
heard_in f (Received m) = heard f m
heard_in f (FromAccess a n) = silence
heard_in f Expiry = silence
heard_in f (Time s) = silence

same_tests : (x : Component) (p t g : Bool) →
    saying (result_to 1 x) (result_to 2 x) (invoke_of 3 x) p t g ≡ saying (heard_of x).resultsetup (heard_of x).resultactive (heard_of x).invokecalled p t g
same_tests (Absent n) p t g = refl
same_tests (Invoke n) p t g = refl
same_tests (Result n) p t g = refl
same_tests (Error n) p t g = refl
same_tests (Reject n) p t g = refl
same_tests (Unknown k n) p t g = refl

same_words : (f : ℕ) (e : Event) → heard_in f e ≡ said f e
same_words f (Opening r g n) = refl
same_words f (Ask q n) = refl
same_words f (Received m) = sym (same_tests m.component _ _ _)
same_words f (FromAccess a n) = refl
same_words f Expiry = refl
same_words f (Time s) = refl

-- ---- Plans that turn on flags and parts

-- so does a plan
abbrev Does : ℕ → Said → Call → Mark → Known → Event → Plan → Type 0
Does f s c d o e p = Good f s c d o e (perform_of c p (read_of e))

module _ (f : ℕ) (u v w : Number) (a r : Bool) (d : Mark) (q : ℕ) (n : Number) where
  -- case A asked for by the own user
  plan_a : (i : Interaction) (t : Mode) → Does f silence (at f u v w Null Idle a r new_of) d at_first (Ask q n) (Rows.ask_setup i t)
  plan_a NotAllowed t = search states
  plan_a Allowed NoTransfer = search states
  plan_a Allowed Transfer = search states

  -- case B asked for by the own user
  plan_b : {m : Meters} {x : ℕ} (i : Interaction) (t : Mode) → Right m (known nothing x 0) →
      Does f silence (at f u v w Answered Idle a r m) d (known nothing x 0) (Ask q n) (Rows.ask_active i t)
  plan_b NotAllowed t z = search states
  plan_b Allowed NoTransfer z = search states
  plan_b Allowed Transfer z = search states

-- the same Booleans stand in the row and in what the message says; s: what else it says
module _ (f : ℕ) (u v w : Number) (a r : Bool) (d : Mark) (m : Message) (s : Said) where
  -- case D asked for by the called user: transfer taken, called number or transfer requested
  plan_d : (i : Interaction) (k n : Bool) →
      Does f (saying s.accepts_a s.accepts_b true s.partial k s.gives_transfer) (at f u v w Setup Idle a r new_of) d at_first (Received m) (Rows.unconditional_asked i (mode_by k) n)
  plan_d NotAllowed k n = search states
  plan_d Allowed false true = search states
  plan_d Allowed false false = search states
  plan_d Allowed true n = search states

  -- case D answered, in transfer mode or not
  accepted_d : (k : Bool) → Does f s (at f u v w Setup WaitAnswer k r new_of) (reversed case_d k) at_first (Received m) (Rows.accepted_at_answer (mode_by k))
  accepted_d true = turned (record { pays = refl; owes = (refl, refl, refl) })
  accepted_d false = turned (record { pays = refl; owes = (refl, refl, refl) })

  -- case A accepted
  accepted_a : (k : Bool) →
      Does f (saying true s.accepts_b s.requests s.partial s.asks_transfer k) (at f u v w Setup WaitSetup a r new_of) d at_first (Received m) (Rows.accepted_at_answer (mode_by k))
  accepted_a true = turned (record { pays = refl; owes = (refl, refl, refl) })
  accepted_a false = turned (record { pays = refl; owes = (refl, refl, refl) })

  -- case A refused
  error_a : (k : Correctness) (e n : ℕ) → Does f s (at f u v w Setup WaitSetup a r new_of) d at_first (Received m) (Rows.setup_error k e n)
  error_a Correct e n = search states
  error_a Incorrect e n = search states

  module _ {n : Meters} {x : ℕ} (z : Right n (known nothing x 0)) where
    -- case B refused
    error-B : (k : Correctness) (e : ℕ) → Does f s (at f u v w Answered WaitActive a r n) d (known nothing x 0) (Received m) (Rows.wait_error k e)
    error-B Correct e = search states
    error-B Incorrect e = search states

    -- case B, asked for by the caller, accepted
    accepted-B : (k : Bool) →
        Does f (saying s.accepts_a true s.requests s.partial s.asks_transfer k) (at f u v w Answered WaitActive a r n) d (known nothing x 0) (Received m) (Rows.accepted_in_call (mode_by k))
    accepted-B true = turned (switches true z)
    accepted-B false = turned (switches false z)

    -- case C: the meters' own refusal leaves the call as it stood
    abbrev DoesBC : Bool → Bool → Plan → Type 0
    DoesBC c k p =
        Does f (saying s.accepts_a s.accepts_b true c k s.gives_transfer) (at f u v w Answered Idle a r n) d (known nothing x 0) (Received m) p

    abbrev GoodC : Bool → Outcome → Type 0
    GoodC k o = Good f (saying s.accepts_a s.accepts_b true false k s.gives_transfer) (at f u v w Answered Idle a r n) d (known nothing x 0) (Received m) o

    -- cases B and C, asked for by the called user: transfer taken, called number or transfer requested, partial
    plan-BC : (i : Interaction) (k l c : Bool) → DoesBC c k (Rows.called_asked i (extent_by c) (mode_by k) l)
    plan-BC NotAllowed k l c = search states
    plan-BC Allowed false true true = turned (switches false z)
    plan-BC Allowed true l true = turned (switches true z)
    plan-BC Allowed false true false =
        settled (GoodC false) (change_of EntireToCalled n 0) _ _ _ (λ n' h. turned (moves false z (moved_to_called n n' 0 h))) (search states)
    plan-BC Allowed true l false =
        settled (GoodC true) (change_of EntireToFar n 0) _ _ _ (λ n' h. turned (moves true z (moved_to_far n n' 0 h))) (search states)
    plan-BC Allowed false false true = search states
    plan-BC Allowed false false false = search states

-- ---- Each event in each state

-- an event's row keeps the agreement
abbrev Kept : ℕ → Call → Mark → Known → Event → Type 0
Kept f c d o e = Good f (heard_in f e) c d o e (performed c e)

-- an answer that accepts no opening
abbrev pub Unopening : Event → Outcome → Type 0
Unopening e a = (eqb a.number 0 && an_opening e) ≡ false

-- an opening is accepted at a cleared call alone: there another call begins
reopens : (f k g : ℕ) (n : Number) {c : Call} {d : Mark} {o : Known} → Agrees f c d o →
    Unopening (Opening k g n) (performed c (Opening k g n)) → Kept f c d o (Opening k g n)
reopens f k g n null h = search states
reopens f k g n setup h = search states
reopens f k g n asked_a h = search states
reopens f k g n asked_d h = search states
reopens f k g n (talks z) h = search states
reopens f k g n (asked_b z) h = search states
reopens f k g n (turned z) h = search states
reopens f k g n (over z) h = differ (sym h)

asks : (f q : ℕ) (n : Number) {c : Call} {d : Mark} {o : Known} → Agrees f c d o → Kept f c d o (Ask q n)
asks f q n {c} {d} {o} (null {u} {v} {w} {a} {r}) =
    split (Fine f silence c d o (Ask q n)) (eqb q 0) _ _ (search states)
    (split (Fine f silence c d o (Ask q n)) (eqb q 1) _ _ (plan_a f u v w a r d q n (interaction_by (bit 8 f)) (mode_by (lowest f))) (search states))
asks f q n setup = search states
asks f q n asked_a = search states
asks f q n asked_d = search states
asks f q n {c} {d} {o} (talks {u} {v} {w} {a} {r} z) =
    split (Fine f silence c d o (Ask q n)) (eqb q 2) _ _ (plan_b f u v w a r d q n (interaction_by (bit 8 f)) (mode_by (lowest f)) z) (search states)
asks f q n {c} {d} {o} (asked_b z) = split (Fine f silence c d o (Ask q n)) (leb 1 q && leb q 3) _ _ (search states) (search states)
asks f q n {c} {d} {o} (turned z) = split (Fine f silence c d o (Ask q n)) (leb 1 q && leb q 3) _ _ (search states) (search states)
asks f q n (over z) = search states

module _ (f : ℕ) (m : Message) where
  abbrev word : Heard
  word = heard_of m.component

  abbrev P : Call → Mark → Known → Option Row → Type 0
  P c d o row = Fine f (heard f m) c d o (Received m) row

  -- where an answer to case A, an answer to case B or the called user's request is what is tested
  abbrev asks_transfer : Bool
  asks_transfer = lowest f && lowest m.parts

  abbrev gives_transfer : Bool
  gives_transfer = lowest f && (bit 2 m.parts && bit 4 m.parts)

  abbrev enough : Bool
  enough = lowest m.parts || bit 32 m.parts

  abbrev OnA : Call → Mark → Known → Bool → Option Row → Type 0
  OnA c d o b row =
      Fine f (saying b word.resultactive word.invokecalled (bit 8 m.parts) asks_transfer gives_transfer) c d o (Received m) row

  abbrev OnB : Call → Mark → Known → Bool → Option Row → Type 0
  OnB c d o b row =
      Fine f (saying word.resultsetup b word.invokecalled (bit 8 m.parts) asks_transfer gives_transfer) c d o (Received m) row

  abbrev OnRequest : Call → Mark → Known → Bool → Option Row → Type 0
  OnRequest c d o b row =
      Fine f (saying word.resultsetup word.resultactive b (bit 8 m.parts) asks_transfer gives_transfer) c d o (Received m) row

  abbrev K : Call → Mark → Known → (Kind → Cue → Option Row) → Kind → Type 0
  K c d o table k = P c d o (table k (cue_of (read_of (Received m))))

  receives : {c : Call} {d : Mark} {o : Known} → Agrees f c d o → Kept f c d o (Received m)
  receives {c} {d} {o} null = by_kind m (K c d o originating_null_of) (search states) (search states) (search states) (search states)
  receives {c} {d} {o} (setup {u} {v} {w} {a} {r}) =
      by_kind m (K c d o originating_setup_idle_of) (search states)
      (split (P c d o) word.alone _ _ (search states) (search states))
      (search states)
      (fork (OnRequest c d o) word.invokecalled _ _
      (plan_d f u v w a r d m (heard f m) (interaction_by (bit 8 f)) asks_transfer enough) (search states))
  receives {c} {d} {o} (asked_a {u} {v} {w} {a} {r}) =
      by_kind m (K c d o wait_setup_of) (search states)
      (fork (OnA c d o) word.resultsetup _ _
      (accepted_a f u v w a r d m (heard f m) gives_transfer)
      (split (OnA c d o false) word.alone _ _ (search states) (search states)))
      (split (P c d o) word.failure _ _
      (error_a f u v w a r d m (heard f m) (correct_by (listed_of (error_of m.component))) (error_of m.component) m.cause)
      (split (P c d o) word.rejection _ _ (search states)
      (split (P c d o) word.alone _ _ (search states) (search states))))
      (search states)
  receives {c} {d} {o} (asked_d {u} {v} {w} {t} {r}) =
      by_kind m (K c d o originating_wait_answer_of) (search states)
      (split (P c d o) word.alone _ _ (accepted_d f u v w false r d m (heard f m) t) (search states))
      (search states)
      (search states)
  receives {c} {d} {o} (talks {u} {v} {w} {a} {r} z) =
      by_kind m (K c d o originating_answered_idle_of) (search states) (search states)
      (search states)
      (fork (OnRequest c d o) word.invokecalled _ _
      (plan-BC f u v w a r d m (heard f m) z (interaction_by (bit 8 f)) asks_transfer enough (bit 8 m.parts)) (search states))
  receives {c} {d} {o} (asked_b {u} {v} {w} {a} {r} z) =
      by_kind m (K c d o wait_active_of) (search states) (search states)
      (search states)
      (split (P c d o) word.invoke _ _ (search states)
      (fork (OnB c d o) word.resultactive _ _
      (accepted-B f u v w a r d m (heard f m) z gives_transfer)
      (split (OnB c d o false) word.failure _ _
      (error-B f u v w a r d m
      (saying word.resultsetup false word.invokecalled (bit 8 m.parts) asks_transfer gives_transfer)
      z (correct_by (listed_of (error_of m.component))) (error_of m.component))
      (split (OnB c d o false) word.rejection _ _ (search states)
      (split (OnB c d o false) word.alone _ _ (search states) (search states))))))
  receives {c} {d} {o} (turned z) =
      by_kind m (K c d o active_of) (search states) (search states)
      (search states)
      (split (P c d o) word.invoke _ _ (search states) (search states))
  receives {c} {d} {o} (over z) = by_kind m (K c d o vacant_of) (search states) (search states) (search states) (search states)

tells : (f k n : ℕ) {c : Call} {d : Mark} {o : Known} → Agrees f c d o → Kept f c d o (FromAccess k n)
tells f k n null = search states
tells f k n {c} {d} {o} setup = split (Fine f silence c d o (FromAccess k n)) (eqb k 4) _ _ (search states) (search states)
tells f k n {c} {d} {o} asked_a = split (Fine f silence c d o (FromAccess k n)) (eqb k 4) _ _ (search states) (search states)
tells f k n {c} {d} {o} asked_d = split (Fine f silence c d o (FromAccess k n)) (eqb k 4) _ _ (search states) (search states)
tells f k n {c} {d} {o} (talks z) = split (Fine f silence c d o (FromAccess k n)) (eqb k 4) _ _ (search states) (search states)
tells f k n {c} {d} {o} (asked_b z) = split (Fine f silence c d o (FromAccess k n)) (eqb k 4) _ _ (search states) (search states)
tells f k n {c} {d} {o} (turned z) = split (Fine f silence c d o (FromAccess k n)) (eqb k 4) _ _ (search states) (search states)
tells f k n (over z) = search states

expires : (f : ℕ) {c : Call} {d : Mark} {o : Known} → Agrees f c d o → Kept f c d o Expiry
expires f null = search states
expires f setup = search states
expires f asked_a = search states
expires f asked_d = search states
expires f (talks z) = search states
expires f (asked_b z) = search states
expires f (turned z) = search states
expires f (over z) = search states

passes : (f s : ℕ) {c : Call} {d : Mark} {o : Known} → Agrees f c d o → Kept f c d o (Time s)
passes f s null = search states
passes f s setup = search states
passes f s asked_a = search states
passes f s asked_d = search states
passes f s {c} {d} {o} (talks {m = m} z) =
    settled (Good f silence c d o (Time s)) (give_of m s) _ _ _ (λ n h. talks (ticks s nothing z h)) (search states)
passes f s {c} {d} {o} (asked_b {m = m} z) =
    settled (Good f silence c d o (Time s)) (give_of m s) _ _ _ (λ n h. asked_b (ticks s nothing z h)) (search states)
passes f s {c} {d} {o} (turned {t = t} {m = m} {k = k} z) =
    settled (Good f silence c d o (Time s)) (give_of m s) _ _ _ (λ n h. turned (ticks s (took k t) z h)) (search states)
passes f s (over z) = over z

takes : (f : ℕ) {c : Call} {d : Mark} {o : Known} (e : Event) → Agrees f c d o → Unopening e (performed c e) → Kept f c d o e
takes f (Opening k g n) y h = reopens f k g n y h
takes f (Ask q n) y h = asks f q n y
takes f (Received m) y h = receives f m y
takes f (FromAccess k n) y h = tells f k n y
takes f Expiry y h = expires f y
takes f (Time s) y h = passes f s y

keeps_heard : (f : ℕ) {c : Call} {d : Mark} {o : Known} (e : Event) → Agrees f c d o → Unopening e (step_of c e) →
    Good f (heard_in f e) c d o e (step_of c e)
keeps_heard f {c} {d} {o} e y =
    refused_or_performed (λ (a : Outcome). Unopening e a → Good f (heard_in f e) c d o e a) c e (λ h. y)
    (record { one = λ h. y; three = λ k h. y; fifteen = λ h. y; sixteen = λ h. y; seventeen = λ h. y; twenty = λ h. y }) (takes f e y)

pub keeps : (f : ℕ) {c : Call} {d : Mark} {o : Known} (e : Event) → Agrees f c d o → Unopening e (step_of c e) →
    Good f (said f e) c d o e (step_of c e)
keeps f {c} {d} {o} e y h = subst (λ (s : Said). Good f s c d o e (step_of c e)) (same_words f e) (keeps_heard f e y h)

-- no step of a history opens: not the first, and none after it
pub first_unopening : (s : Step) (h : List Step) → none_opens (s ∷ h) ≡ true → opens s ≡ false
first_unopening s h k = not-true _ (left (not (opens s)) _ k)

pub rest_unopening : (s : Step) (h : List Step) → none_opens (s ∷ h) ≡ true → none_opens h ≡ true
rest_unopening s h k = right (not (opens s)) _ k

-- ---- THE INDUCTION: from a call that agrees, any events among which no opening is accepted lead to one that agrees

abbrev pub read_all : Known → List Mark → Known
read_all o [] = o
read_all o (m ∷ ms) = read_all (note o m) ms

abbrev pub waiting : ℕ → Mark → List Step → Mark
waiting f d [] = d
waiting f d (s ∷ h) = waiting f (waits f d s) h

pub reached : (f : ℕ) (es : List Event) {c : Call} {d : Mark} {o : Known} → Agrees f c d o → none_opens (history c es) ≡ true →
    Agrees f (run c es) (waiting f d (history c es)) (read_all o (marks f d (history c es)))
reached f [] y n = y
reached f (e ∷ es) {c} y n =
    reached f es (keeps f e y (first_unopening (written c e (step_of c e)) (history (step_of c e).call es) n))
    (rest_unopening (written c e (step_of c e)) (history (step_of c e).call es) n)

-- the meters of a call that agrees are what is due
agreed_role : {f : ℕ} {c : Call} {d : Mark} {o : Known} → Agrees f c d o → c.side.role ≡ Originating
agreed_role null = refl
agreed_role setup = refl
agreed_role asked_a = refl
agreed_role asked_d = refl
agreed_role (talks y) = refl
agreed_role (asked_b y) = refl
agreed_role (turned y) = refl
agreed_role (over y) = refl

agreed_due : {f : ℕ} {c : Call} {d : Mark} {o : Known} → Agrees f c d o → Due c.meters o
agreed_due null = (refl, refl, refl)
agreed_due setup = (refl, refl, refl)
agreed_due asked_a = (refl, refl, refl)
agreed_due asked_d = (refl, refl, refl)
agreed_due (talks z) = z.owes
agreed_due (asked_b z) = z.owes
agreed_due (turned z) = z.owes
agreed_due (over z) = z

-- ---- THE BRIDGE: what is due by what is known is what is owed on the bill. Lists alone

share_zero : (q p : Payer) → share q p 0 ≡ 0
share_zero q p = pick-zero (same q p)
  where
    pick-zero : (b : Bool) → pick {A = ℕ} b 0 0 ≡ 0
    pick-zero true = refl
    pick-zero false = refl

after_turn : (q : Payer) (k : Case) (t : Bool) (x y : ℕ) (ms : List Mark) →
    due q (read_all (known (took k t) x y) ms) ≡ due q (known (took k t) x y) + owed q (payments (took k t) true ms)
after_turn q k t x y [] = omega arith
after_turn q k t x y (plain ∷ ms) = after_turn q k t x y ms
after_turn q k t x y (second n ∷ ms) = omega (arith, after_turn q k t x (y + n) ms, share_add q (payer (took k t) true) y n)
after_turn q k t x y (reversed k' t' ∷ ms) = after_turn q k t x y ms

before_turn : (q : Payer) (x : ℕ) (ms : List Mark) →
    due q (read_all (known nothing x 0) ms) ≡ share q (payer (reversal ms) false) x + owed q (payments (reversal ms) false ms)
before_turn q x [] = omega (arith, share_zero q Caller)
before_turn q x (plain ∷ ms) = before_turn q x ms
before_turn q x (second n ∷ ms) = omega (arith, before_turn q (x + n) ms, share_add q (payer (reversal ms) false) x n)
before_turn q x (reversed k t ∷ ms) = omega (arith, after_turn q k t x 0 ms, share_zero q (payer (took k t) true))

owed_due : (q : Payer) (ms : List Mark) → due q (read_all at_first ms) ≡ owed q (payments (reversal ms) false ms)
owed_due q ms = omega (arith, before_turn q 0 ms, share_zero q (payer (reversal ms) false))

-- each payment has one payer of the three
one_payer : (w : Took) (b : Bool) (n : ℕ) → share Caller (payer w b) n + share Called (payer w b) n + share Far (payer w b) n ≡ n
one_payer nothing b n = omega arith
one_payer (took k t) b n = go (covers k b) t
  where
    go : (c t' : Bool) → share Caller (pick c (turned_to t') Caller) n + share Called (pick c (turned_to t') Caller) n + share Far (pick c (turned_to t') Caller) n ≡ n
    go true true = omega arith
    go true false = omega arith
    go false t' = omega arith

-- the three payers' parts of the payments are their seconds
shares : (w : Took) (b : Bool) (ms : List Mark) →
    owed Caller (payments w b ms) + owed Called (payments w b ms) + owed Far (payments w b ms) ≡ sum (all_seconds (payments w b ms))
shares w b [] = refl
shares w b (plain ∷ ms) = shares w b ms
shares w b (second n ∷ ms) = omega (arith, shares w b ms, one_payer w b n)
shares w b (reversed k t ∷ ms) = shares w true ms

-- ---- THE BILL'S SECONDS are those of the accepted time events in ANSWERED, one payment for each, in order: of any steps

-- a mark that is no second pays nothing
pub data Still : Mark → Type 0 where
  still : Still plain
  turning : {k : Case} {t : Bool} → Still (reversed k t)

pick_still : (b : Bool) {x y : Mark} → Still x → Still y → Still (pick b x y)
pick_still true p q = p
pick_still false p q = q

setup_still : (s : Said) {d : Mark} (rv : RevState) → Still d → Still (turns_setup s d rv)
setup_still s Idle i = still
setup_still s WaitSetup i = pick_still s.accepts_a turning still
setup_still s WaitActive i = still
setup_still s WaitAnswer i = i
setup_still s Active i = still
setup_still s WaitSetupConf i = still
setup_still s WaitActiveConf i = still
setup_still s WaitCalled i = still

answered_still : (s : Said) (rv : RevState) → Still (turns_answered s rv)
answered_still s Idle = pick_still s.requests (pick_still s.partial turning turning) still
answered_still s WaitSetup = still
answered_still s WaitActive = pick_still s.accepts_b turning still
answered_still s WaitAnswer = still
answered_still s Active = still
answered_still s WaitSetupConf = still
answered_still s WaitActiveConf = still
answered_still s WaitCalled = still

turns_still : (s : Said) {d : Mark} (ph : Phase) (rv : RevState) → Still d → Still (turns s d ph rv)
turns_still s Unopened rv i = still
turns_still s Null rv i = still
turns_still s Setup rv i = setup_still s rv i
turns_still s Answered rv i = answered_still s rv
turns_still s Cleared rv i = still

waiting_still : (s : Said) {d : Mark} (rv : RevState) → Still d → Still (still_waits s d rv)
waiting_still s Idle i = pick_still s.requests turning still
waiting_still s WaitSetup i = still
waiting_still s WaitActive i = still
waiting_still s WaitAnswer i = i
waiting_still s Active i = still
waiting_still s WaitSetupConf i = still
waiting_still s WaitActiveConf i = still
waiting_still s WaitCalled i = still

waits_in_still : (s : Said) {d : Mark} (ph : Phase) (rv : RevState) → Still d → Still (waits_in s d ph rv)
waits_in_still s Unopened rv i = still
waits_in_still s Null rv i = still
waits_in_still s Setup rv i = waiting_still s rv i
waits_in_still s Answered rv i = still
waits_in_still s Cleared rv i = still

waits_still : (f : ℕ) {d : Mark} (s : Step) → Still d → Still (waits f d s)
waits_still f s i =
    pick_still (accepted s) (pick_still (is_rev WaitAnswer s.rev_after) (waits_in_still (said f s.event) s.phase s.rev i) still) i

pays_none : (w : Took) {m : Mark} (ms : List Mark) (l : List ℕ) → ((b : Bool) → all_seconds (payments w b ms) ≡ l) → Still m →
    (b : Bool) → all_seconds (payments w b (m ∷ ms)) ≡ l
pays_none w ms l h still b = h b
pays_none w ms l h turning b = h true

pub bill_times : (w : Took) (f : ℕ) (h : List Step) {d : Mark} → Still d → (b : Bool) → all_seconds (payments w b (marks f d h)) ≡ times h
bill_times w f [] i b = refl
bill_times w f (s ∷ h) {d} i b = go (counted s) (bill_times w f h (waits_still f s i))
  where
    go : (x : Bool) → ((b' : Bool) → all_seconds (payments w b' (marks f (waits f d s) h)) ≡ times h) →
        all_seconds (payments w b (pick x (second (seconds_in s.event)) (pick (accepted s && in_effect s) (turns (said f s.event) d s.phase s.rev) plain) ∷ marks f (waits f d s) h))
        ≡ pick x (seconds_in s.event ∷ times h) (times h)
    go true r = ap (λ (l : List ℕ). seconds_in s.event ∷ l) (r b)
    go false r = pays_none w (marks f (waits f d s) h) (times h) r (pick_still (accepted s && in_effect s) (turns_still (said f s.event) s.phase s.rev i) still) b

-- ---- THE THEOREM

-- what the meters of a call show, of a history and its opening's flags
pub record Shows (c : Call) (f : ℕ) (h : List Step) : Type 0 where
  -- the call is an originating one
  pub role : c.side.role ≡ Originating
  -- each meter is what its payer owes
  pub caller : c.meters.caller ≡ owed Caller (bill f h)
  pub called : c.meters.called ≡ owed Called (bill f h)
  pub far : c.meters.far ≡ owed Far (bill f h)
  -- the bill has one payment for each accepted time event after answer and before clearing, in order
  pub each : all_seconds (bill f h) ≡ times h
  -- the meters add up to the answered seconds
  pub all : c.meters.caller + c.meters.called + c.meters.far ≡ answered h

agreed_shows : {f : ℕ} {c : Call} (es : List Event) → Agrees f c plain at_first → none_opens (history c es) ≡ true →
    Shows (run c es) f (history c es)
agreed_shows {f} {c} es y n =
    let ms : List Mark = marks f plain (history c es) in
    let z = reached f es y n in
    let h = agreed_due z in
    let p = h.0 ∙ owed_due Caller ms in
    let q = h.1 ∙ owed_due Called ms in
    let r = h.2 ∙ owed_due Far ms in
    let t = bill_times (reversal ms) f (history c es) still false in
    record {
      role = agreed_role z;
      caller = p;
      called = q;
      far = r;
      each = t;
      all = omega (arith, p, q, r, shares (reversal ms) false ms, ap sum t);
    }

-- an opening that was accepted
opened : (f : ℕ) (own : Number) (b : Bool) → (if_in_range b unopened_call (Opening 0 f own)).number ≡ 0 →
    Agrees f (if_in_range b unopened_call (Opening 0 f own)).call plain at_first
opened f own true e = null
opened f own false e = absurd (omega arith)

pub from_opening : (f : ℕ) (own : Number) → (opening f own).number ≡ 0 → Agrees f (opening f own).call plain at_first
from_opening f own e = opened f own (event_ok (Opening 0 f own)) e

-- any flags and own number with which an originating call is opened; any events after its latest accepted opening, refused ones among them
pub billed : (f : ℕ) (own : Number) → (opening f own).number ≡ 0 → (es : List Event) → none_opens (history (opening f own).call es) ≡ true →
    Shows (run (opening f own).call es) f (history (opening f own).call es)
billed f own e es n = agreed_shows es (from_opening f own e) n

-- such an opening is one whose fields are in range: flags to 31, an own number
pub opens_in_range : (f : ℕ) (own : Number) → event_ok (Opening 0 f own) ≡ true → (opening f own).number ≡ 0
opens_in_range f own e = ap (λ (b : Bool). (if_in_range b unopened_call (Opening 0 f own)).number) e
