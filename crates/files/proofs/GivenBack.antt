-- The numbers on a listing's lines: 5, 6 or 7 where a record cannot be read, 19 where there is no such slot, and else the number of an
-- answer of the slot's own call.
-- Assumes nothing.
use Rattle.std.proofs.Common.{◌≡◌, ℕ, ◌≤◌, true, false, not, eqb, ◌⊎◌, List, take, sym, refl, ap, ◌∙◌, subst, inl, inr, arith, eqb-true}
use mathlib.Core.Option.{some}
use lib.ListN.{get_elem?}
use Rattle.text.proofs.Cases.{both_lt, both_eq}
use Rattle.rows.proofs.Refusals.{all_given}
use Rattle.rows.proofs.Stays.{nine_exactly, calls_stay, unopened_valid}
use Rattle.rows.proofs.Truth.{differ, either}
use Rattle.rows.specs.History.{run}
use Rattle.rows.specs.Promises.{given}
use Rattle.rows.specs.Step.{step_of, unopened_call}
use Rattle.rows.specs.declared.Event.{Event}
use Rattle.rows.specs.declared.Outcome.{Outcome}
use Rattle.board.specs.Row.{answer_at}
use Rattle.board.proofs.Theorems.{past_63}
use Rattle.files.specs.Shown.{entries_of, row_at, own_events, Shown, shown_of, AnswersEntry, RefusesRecord, on_a_line}
use Rattle.files.specs.Typed.{Entry}
use Rattle.files.proofs.Shown.{kth_shown, slot_answer}

-- What holds of 5, 6, 7 and 19, and of the number of every answer that events from before an opening can reach, holds of every number on a
-- listing.
numbers_hold : (P : ℕ → Type 0) → P 5 → P 6 → P 7 → P 19 → ((es : List Event) (e : Event) → P (step_of (run unopened_call es) e).number) →
    (s : List ℕ) (k : ℕ) (x : Shown) → get_elem? (shown_of s) k ≡ some x → P x.answer.number
numbers_hold P a b c d each s k x h = by (kth_shown s k x h).1
  where
    five-to-seven : (n : ℕ) → 5 ≤ n → n ≤ 7 → P n
    five-to-seven n p q =
        both_eq n 5 (λ (_ : ℕ). P n) 0 0 (λ e. subst P (sym e) a) λ u.
        both_eq n 6 (λ (_ : ℕ). P n) 0 0 (λ e. subst P (sym e) b) λ v.
        (let e : 7 ≡ n = omega arith in subst P e c)

    at_slot : (i : ℕ) (xs : List Entry) (e : Event) → P (answer_at (row_at xs) i e).number
    at_slot i xs e =
        both_lt i 64 (λ (_ : ℕ). P (answer_at (row_at xs) i e).number) 0 0
        (λ u. subst (λ (o : Outcome). P o.number) (sym (slot_answer xs i e u)) (each (own_events i xs) e))
        (λ u. subst (λ (o : Outcome). P o.number) (sym (past_63 (row_at xs) i e u).0) d)

    by : AnswersEntry s k x.slot x.answer ⊎ RefusesRecord s k x.slot x.answer → P x.answer.number
    by (inl (y, g, p, q)) = subst (λ (o : Outcome). P o.number) (sym q) (at_slot x.slot (take k (entries_of s)) y.event)
    by (inr (n, p, q, w, l, m, r)) = subst (λ (o : Outcome). P o.number) (sym r) (five-to-seven n p q)

-- what a call gives, but 9, may stand on a line
call_listed : (n : ℕ) → given n ≡ true → eqb n 9 ≡ false → on_a_line n ≡ true
call_listed n g h =
    either (eqb n 0) _ g (is 0 refl) λ g.
    either (eqb n 1) _ g (is 1 refl) λ g.
    either (eqb n 2) _ g (is 2 refl) λ g.
    either (eqb n 3) _ g (is 3 refl) λ g.
    either (eqb n 4) _ g (is 4 refl) λ g.
    either (eqb n 9) _ g (λ i. differ (sym h ∙ i)) λ g.
    either (eqb n 15) _ g (is 15 refl) λ g.
    either (eqb n 16) _ g (is 16 refl) λ g.
    either (eqb n 17) _ g (is 17 refl) (is 20 refl)
  where
    is : (k : ℕ) → on_a_line k ≡ true → eqb n k ≡ true → on_a_line n ≡ true
    is k z i = ap on_a_line (eqb-true n k i) ∙ z

pub numbers_listed : (s : List ℕ) (k : ℕ) (x : Shown) → get_elem? (shown_of s) k ≡ some x → on_a_line x.answer.number ≡ true
numbers_listed =
    numbers_hold (λ (n : ℕ). on_a_line n ≡ true) refl refl refl refl
    (λ es e. call_listed (step_of (run unopened_call es) e).number (all_given (run unopened_call es) e)
    (nine_exactly (run unopened_call es) e ∙ ap not (calls_stay unopened_call es unopened_valid)))

pub no_nine : (s : List ℕ) (k : ℕ) (x : Shown) → get_elem? (shown_of s) k ≡ some x → x.answer.number ≡ 9 → ⊥
no_nine s k x h e = differ (sym (ap on_a_line e) ∙ numbers_listed s k x h)
