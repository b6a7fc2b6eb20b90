-- A record that was written is no longer than the room for it.
-- Assumes nothing.
use Rattle.std.proofs.Common.{◌≡◌, ℕ, ◌≤◌, Bool, true, false, List, length, IfOk, Ok, Err, refl}
use Rattle.std.proofs.lemmas.Bool.{ltb-false}
use Rattle.text.specs.Choose.{if_so, if_lt}
use Rattle.rows.specs.declared.Event.{Event}
use Rattle.files.specs.Write.{written_of, written_at}
use Rattle.files.specs.declared.Unwritten.{Unwritten}

whole_within : (m k : ℕ) (f g : Unwritten) (t u : Bool) → (u ≡ false → k ≤ m)
    → IfOk (if_so t (if_so u (Err g) (Ok k)) (Err f)) (λ n. n ≤ m)
unfolding if_so
whole_within m k f g true true h = tt
whole_within m k f g true false h = h refl
whole_within m k f g false u h = tt

pub plain_within : (e : Event) (out : List ℕ) → IfOk (written_of e out) (λ n. n ≤ length out)
unfolding written_of if_lt
plain_within e out = whole_within _ _ _ _ _ _ (ltb-false _ _)

pub slotted_within : (i : ℕ) (e : Event) (out : List ℕ) → IfOk (written_at i e out) (λ n. n ≤ length out)
unfolding written_at if_lt
slotted_within i e out = whole_within _ _ _ _ _ _ (ltb-false _ _)
