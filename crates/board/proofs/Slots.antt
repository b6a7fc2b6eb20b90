-- The definitions of a row, as its functions meet them: at a slot that is there, and past the end.
-- Assumes nothing.
use mathlib.Core.Path.{◌≡◌, refl, sym, ap, ◌∙◌}
use mathlib.Core.Bool.{Bool, true, false, ◌||◌}
use mathlib.Core.List.{List, [], ◌∷◌}
use mathlib.Core.Logic.{◌⊎◌, inl, inr}
use Prim.Native.Nat.{ℕ, zero, suc, ◌≤◌, ◌<◌}
use lib.ListN.{length, get_or, set, take}
use Rattle.std.proofs.Common.{add-one}
use Rattle.std.specs.Prelude.{Some, position, cond}
use Rattle.std.specs.List.{position_from}
use Rattle.std.proofs.lemmas.Iterator.Adapters.{position_from-zero}
use Rattle.rows.specs.Bill.{pick}
use Rattle.rows.specs.Step.{free_of, step_of}
use Rattle.board.specs.Numbers.{slots}
use Rattle.board.specs.Row.{no_slot, answer_at, row_after, free_number, free_from, lowest_free, some_free, number_asked}
use Rattle.rows.specs.declared.Call.{Call}
use Rattle.rows.specs.declared.Event.{Event}
use Rattle.rows.specs.declared.Outcome.{Outcome}
use Rattle.board.proofs.Laws.{at_place, answer_is, row_is, past_63, past_the_end}

module _ (cs : List Call) (i : ℕ) (e : Event) where
  -- the call at a slot takes its step ..
  pub stepped : i < slots → i < length cs → (d : Call) (out : Outcome) (after : Call) → out ≡ step_of (get_or cs i d) e → after ≡ out.call →
      (out ≡ answer_at cs i e) × (set cs i after ≡ row_after cs i e)
  stepped s l d out after h k =
      let there = at_place cs i d l in (
        h ∙ sym (answer_is cs i e (get_or cs i d) s there),
        ap (λ (x : Call). set cs i x) (k ∙ ap (λ (o : Outcome). o.call) h) ∙ sym (row_is cs i e (get_or cs i d) s there),
      )

  -- .. and where there is none the row is as it was
  pub past : ((i < slots) × (length cs ≤ i)) ⊎ (slots ≤ i) → (out : Outcome) → out ≡ no_slot → (out ≡ answer_at cs i e) × (cs ≡ row_after cs i e)
  past (inl k) out h = let p = past_the_end cs i e k.1 in (h ∙ sym p.0, sym p.1)
  past (inr k) out h = let p = past_63 cs i e k in (h ∙ sym p.0, sym p.1)

-- ---- the search for a free slot

-- from the place i on, at most k slots
asked_from : (k i : ℕ) (cs : List Call) → position_from free_of i (take k cs) ≡ free_from k i cs
asked_from zero i cs = refl
asked_from (suc k) i [] = refl
asked_from (suc k) i (c ∷ cs) = rw add-one (by (free_of c) (asked_from k (suc i) cs))
  where
    by : (b : Bool) → position_from free_of (suc i) (take k cs) ≡ free_from k (suc i) cs →
        cond b (Some i) (position_from free_of (suc i) (take k cs)) ≡ pick b (Some i) (free_from k (suc i) cs)
    by true h = refl
    by false h = h

pub asked : (cs : List Call) → position free_of (take slots cs) ≡ lowest_free cs
asked cs = position_from-zero free_of (take slots cs) ∙ asked_from slots 0 cs

-- the number beside the answer
number_from_lem : (k i : ℕ) (cs : List Call) → free_number (free_from k i cs) ≡ pick (some_free k cs) 0 21
number_from_lem zero i cs = refl
number_from_lem (suc k) i [] = refl
number_from_lem (suc k) i (c ∷ cs) = by (free_of c) (number_from_lem k (suc i) cs)
  where
    by : (b : Bool) → free_number (free_from k (suc i) cs) ≡ pick (some_free k cs) 0 21 →
        free_number (pick b (Some i) (free_from k (suc i) cs)) ≡ pick (b || some_free k cs) 0 21
    by true h = refl
    by false h = h

pub number_asked_lem : (cs : List Call) → free_number (lowest_free cs) ≡ number_asked cs
number_asked_lem cs = number_from_lem slots 0 cs
