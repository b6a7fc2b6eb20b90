-- The laws of a row, by its definitions alone: they know a call's answer by its name, `step_of`, and stay when the rows change.
-- Assumes nothing.
use mathlib.Core.Path.{◌≡◌, refl, sym, ap, ◌∙◌}
use mathlib.Core.Bool.{Bool, true, false}
use mathlib.Core.List.{List, [], ◌∷◌}
use mathlib.Core.Option.{Option, none, some}
use Prim.Native.Nat.{ℕ, zero, suc, ◌≤◌, ◌<◌}
use native.Mathlib.Nat.{not-suc-le-zero, le_of_suc-le-suc}
use lib.Dec.{ltb}
use lib.ListN.{length, get_or, get_elem?, set}
use borrow.Author.Tests.{ltb-true, lt-ltb, le-ltb}
use Rattle.rows.specs.Bill.{pick}
use Rattle.rows.specs.Step.{step_of}
use Rattle.rows.specs.declared.Call.{Call}
use Rattle.rows.specs.declared.Event.{Event}
use Rattle.rows.specs.declared.Outcome.{Outcome}
use Rattle.rows.proofs.Refusals.{refusal_changes_nothing}
use Rattle.rows.proofs.Truth.{differ}
use Rattle.board.specs.Numbers.{slots}
use Rattle.board.specs.Row.{no_slot, answer_in, altered, row_in, answer_at, row_after}

-- ---- What an optional element holds

abbrev or_else : {A : Type 0} → A → Option A → A
or_else d none = d
or_else d (some x) = x

abbrev is_there : {A : Type 0} → Option A → Bool
is_there none = false
is_there (some x) = true

pub some_is : {A : Type 0} {x y : A} → some x ≡ some y → x ≡ y
some_is {A} {x} {y} e = ap (or_else x) e

pub none_is_not : {A X : Type 0} {x : A} → none ≡ some x → X
none_is_not {A} {X} {x} e = differ (ap is_there e)

-- ---- A list with one element changed

module _ {A : Type 0} where
  altered_other : (f : A → A) (xs : List A) (i j : ℕ) → (i ≡ j → ⊥) → get_elem? (altered f xs i) j ≡ get_elem? xs j
  altered_other f [] i j n = refl
  altered_other f (x ∷ xs) zero zero n = absurd (n refl)
  altered_other f (x ∷ xs) zero (suc j) n = refl
  altered_other f (x ∷ xs) (suc i) zero n = refl
  altered_other f (x ∷ xs) (suc i) (suc j) n = altered_other f xs i j (λ e. n (ap suc e))

  altered_own : (f : A → A) (xs : List A) (i : ℕ) (x : A) → get_elem? xs i ≡ some x → get_elem? (altered f xs i) i ≡ some (f x)
  altered_own f [] i x h = none_is_not h
  altered_own f (y ∷ ys) zero x h = ap {B = Option A} (λ z. some (f z)) (some_is h)
  altered_own f (y ∷ ys) (suc i) x h = altered_own f ys i x h

  altered_both : (f g : A → A) (xs : List A) (i j : ℕ) → (i ≡ j → ⊥) → altered g (altered f xs i) j ≡ altered f (altered g xs j) i
  altered_both f g [] i j n = refl
  altered_both f g (x ∷ xs) zero zero n = absurd (n refl)
  altered_both f g (x ∷ xs) zero (suc j) n = refl
  altered_both f g (x ∷ xs) (suc i) zero n = refl
  altered_both f g (x ∷ xs) (suc i) (suc j) n = ap {B = List A} (λ l. x ∷ l) (altered_both f g xs i j (λ e. n (ap suc e)))

  altered_not : (f : A → A) (xs : List A) (i : ℕ) → ((x : A) → get_elem? xs i ≡ some x → f x ≡ x) → altered f xs i ≡ xs
  altered_not f [] i h = refl
  altered_not f (x ∷ xs) zero h = ap {B = List A} (λ y. y ∷ xs) (h x refl)
  altered_not f (x ∷ xs) (suc i) h = ap {B = List A} (λ l. x ∷ l) (altered_not f xs i h)

  altered_set : (f : A → A) (xs : List A) (i : ℕ) (x : A) → get_elem? xs i ≡ some x → altered f xs i ≡ set xs i (f x)
  altered_set f [] i x h = refl
  altered_set f (y ∷ ys) zero x h = ap {B = List A} (λ z. f z ∷ ys) (some_is h)
  altered_set f (y ∷ ys) (suc i) x h = ap {B = List A} (λ l. y ∷ l) (altered_set f ys i x h)

  altered_length : (f : A → A) (xs : List A) (i : ℕ) → length (altered f xs i) ≡ length xs
  altered_length f [] i = refl
  altered_length f (x ∷ xs) zero = refl
  altered_length f (x ∷ xs) (suc i) = ap suc (altered_length f xs i)

  pub past_end : (xs : List A) (i : ℕ) → length xs ≤ i → get_elem? xs i ≡ none
  past_end [] i h = refl
  past_end (x ∷ xs) zero h = absurd (not-suc-le-zero h)
  past_end (x ∷ xs) (suc i) h = past_end xs i (le_of_suc-le-suc h)

  pub at_place : (xs : List A) (i : ℕ) (d : A) → i < length xs → get_elem? xs i ≡ some (get_or xs i d)
  at_place [] i d h = absurd (not-suc-le-zero h)
  at_place (x ∷ xs) zero d h = refl
  at_place (x ∷ xs) (suc i) d h = at_place xs i d (le_of_suc-le-suc h)

  pub placed_is : (xs : List A) (i : ℕ) (d x : A) → get_elem? xs i ≡ some x → get_or xs i d ≡ x
  placed_is [] i d x h = none_is_not h
  placed_is (y ∷ ys) zero d x h = some_is h
  placed_is (y ∷ ys) (suc i) d x h = placed_is ys i d x h

-- ---- An event at a slot

abbrev stepping : Event → Call → Call
stepping e c = (step_of c e).call

pub other_slots : (cs : List Call) (i j : ℕ) (e : Event) → (i ≡ j → ⊥) → get_elem? (row_after cs i e) j ≡ get_elem? cs j
other_slots cs i j e n = by (ltb i slots)
  where
    by : (b : Bool) → get_elem? (pick b (row_in cs i e) cs) j ≡ get_elem? cs j
    by true = altered_other (stepping e) cs i j n
    by false = refl

-- the answer, by what is in the slot
abbrev answer_by : Option Call → Event → Outcome
answer_by none e = no_slot
answer_by (some c) e = step_of c e

answers : (cs : List Call) (i : ℕ) (e : Event) → answer_in cs i e ≡ answer_by (get_elem? cs i) e
answers [] i e = refl
answers (c ∷ cs) zero e = refl
answers (c ∷ cs) (suc i) e = answers cs i e

pub answer_alone : (cs ds : List Call) (i : ℕ) (e : Event) → get_elem? cs i ≡ get_elem? ds i → answer_at cs i e ≡ answer_at ds i e
answer_alone cs ds i e h =
    ap (λ (r : Outcome). pick (ltb i slots) r no_slot) (answers cs i e ∙ ap (λ (o : Option Call). answer_by o e) h ∙ sym (answers ds i e))

pub answer_stays : (cs : List Call) (i j : ℕ) (e f : Event) → (i ≡ j → ⊥) → answer_at (row_after cs i e) j f ≡ answer_at cs j f
answer_stays cs i j e f n = answer_alone (row_after cs i e) cs j f (other_slots cs i j e n)

-- at a slot that is there
pub answer_is : (cs : List Call) (i : ℕ) (e : Event) (c : Call) → i < slots → get_elem? cs i ≡ some c → answer_at cs i e ≡ step_of c e
answer_is cs i e c s h =
    ap (λ (b : Bool). pick b (answer_in cs i e) no_slot) (lt-ltb i slots s) ∙ answers cs i e ∙ ap (λ (o : Option Call). answer_by o e) h

row_is_in : (cs : List Call) (i : ℕ) (e : Event) → i < slots → row_after cs i e ≡ row_in cs i e
row_is_in cs i e s = ap (λ (b : Bool). pick b (row_in cs i e) cs) (lt-ltb i slots s)

pub row_is : (cs : List Call) (i : ℕ) (e : Event) (c : Call) → i < slots → get_elem? cs i ≡ some c → row_after cs i e ≡ set cs i (step_of c e).call
row_is cs i e c s h = row_is_in cs i e s ∙ altered_set (stepping e) cs i c h

pub own_slot : (cs : List Call) (i : ℕ) (e : Event) (c : Call) → i < slots → get_elem? cs i ≡ some c →
    get_elem? (row_after cs i e) i ≡ some (step_of c e).call
own_slot cs i e c s h = ap {B = Option Call} (λ (l : List Call). get_elem? l i) (row_is_in cs i e s) ∙ altered_own (stepping e) cs i c h

pub row_length : (cs : List Call) (i : ℕ) (e : Event) → length (row_after cs i e) ≡ length cs
row_length cs i e = by (ltb i slots)
  where
    by : (b : Bool) → length (pick b (row_in cs i e) cs) ≡ length cs
    by true = altered_length (stepping e) cs i
    by false = refl

-- where there is none
pub past_63 : (cs : List Call) (i : ℕ) (e : Event) → slots ≤ i → (answer_at cs i e ≡ no_slot) × (row_after cs i e ≡ cs)
past_63 cs i e h = (
  ap (λ (b : Bool). pick b (answer_in cs i e) no_slot) (le-ltb i slots h),
  ap (λ (b : Bool). pick b (row_in cs i e) cs) (le-ltb i slots h),
)

answer_missing : (cs : List Call) (i : ℕ) (e : Event) → get_elem? cs i ≡ none → answer_at cs i e ≡ no_slot
answer_missing cs i e h = by (ltb i slots)
  where
    by : (b : Bool) → pick b (answer_in cs i e) no_slot ≡ no_slot
    by true = answers cs i e ∙ ap (λ (o : Option Call). answer_by o e) h
    by false = refl

row_missing : (cs : List Call) (i : ℕ) (e : Event) → get_elem? cs i ≡ none → row_after cs i e ≡ cs
row_missing cs i e h = by (ltb i slots)
  where
    by : (b : Bool) → pick b (row_in cs i e) cs ≡ cs
    by true = altered_not (stepping e) cs i (λ c k. none_is_not (sym h ∙ k))
    by false = refl

pub past_the_end : (cs : List Call) (i : ℕ) (e : Event) → length cs ≤ i → (answer_at cs i e ≡ no_slot) × (row_after cs i e ≡ cs)
past_the_end cs i e h = (answer_missing cs i e (past_end cs i h), row_missing cs i e (past_end cs i h))

-- ---- A refusal

pub refused_row_stays : (cs : List Call) (i : ℕ) (e : Event) → ((answer_at cs i e).number ≡ 0 → ⊥) → row_after cs i e ≡ cs
refused_row_stays cs i e h = by (ltb i slots) refl
  where
    stays : i < slots → (c : Call) → get_elem? cs i ≡ some c → (step_of c e).call ≡ c
    stays s c k = (refusal_changes_nothing c e (λ z. h (ap (λ (o : Outcome). o.number) (answer_is cs i e c s k) ∙ z))).call

    by : (b : Bool) → ltb i slots ≡ b → pick b (row_in cs i e) cs ≡ cs
    by true t = altered_not (stepping e) cs i (stays (ltb-true i slots t))
    by false t = refl

-- ---- Two events

rows_agree : (cs : List Call) (i j : ℕ) (e f : Event) → (i ≡ j → ⊥) → row_after (row_after cs i e) j f ≡ row_after (row_after cs j f) i e
rows_agree cs i j e f n = by (ltb i slots) (ltb j slots)
  where
    by : (a b : Bool) →
        pick b (row_in (pick a (row_in cs i e) cs) j f) (pick a (row_in cs i e) cs)
        ≡ pick a (row_in (pick b (row_in cs j f) cs) i e) (pick b (row_in cs j f) cs)
    by true true = altered_both (stepping e) (stepping f) cs i j n
    by true false = refl
    by false true = refl
    by false false = refl

pub either_order : (cs : List Call) (i j : ℕ) (e f : Event) → (i ≡ j → ⊥) →
    (row_after (row_after cs i e) j f ≡ row_after (row_after cs j f) i e)
    × (answer_at (row_after cs j f) i e ≡ answer_at cs i e)
    × (answer_at (row_after cs i e) j f ≡ answer_at cs j f)
either_order cs i j e f n = (rows_agree cs i j e f n, answer_stays cs j i f e (λ k. n (sym k)), answer_stays cs i j e f n)
