-- Any two results that a contract of `board` allows are the same: a law for each form that is not `result ≡ definition arguments`.
-- Assumes nothing.
use mathlib.Core.Path.{◌≡◌, refl, sym, ap, ◌∙◌}
use mathlib.Core.List.{List}
use Prim.Native.Nat.{ℕ}
use lib.Dec.{eqb}
use Rattle.std.specs.Prelude.{Option, Some, None}
use Rattle.rows.specs.declared.Call.{Call}
use Rattle.rows.specs.declared.Event.{Event}
use Rattle.rows.specs.declared.Outcome.{Outcome}
use Rattle.rows.proofs.Truth.{differ}
use Rattle.board.specs.Row.{answer_at, row_after, free_number, free_slot, lowest_free, number_asked}

-- What `step_slot` says of the row lent, cs, and of the row that it leaves, ds.
abbrev pub Stepped : List Call → ℕ → Event → Outcome → List Call → Type 0
Stepped cs i e out ds = (out ≡ answer_at cs i e) × (ds ≡ row_after cs i e)

-- For one row, slot and event there is one answer, and one row after it.
pub stepped_same : (cs : List Call) (i : ℕ) (e : Event) {out out' : Outcome} {ds ds' : List Call} →
    Stepped cs i e out ds → Stepped cs i e out' ds' → (out ≡ out') × (ds ≡ ds')
stepped_same cs i e p q = (p.0 ∙ sym q.0, p.1 ∙ sym q.1)

-- What `lowest_free` says of the row.
abbrev pub Asked : List Call → Option ℕ → Type 0
Asked cs out = (out ≡ lowest_free cs) × (free_number out ≡ number_asked cs)

-- For one row there is one answer.
pub asked_same : (cs : List Call) {out out' : Option ℕ} → Asked cs out → Asked cs out' → out ≡ out'
asked_same cs p q = p.0 ∙ sym q.0

-- An answer is told by its number and its slot: no two have both alike.
pub free_told : (f g : Option ℕ) → free_number f ≡ free_number g → free_slot f ≡ free_slot g → f ≡ g
free_told (Some i) (Some j) n s = ap Some s
free_told (Some i) None n s = differ (ap (λ (k : ℕ). eqb k 21) n)
free_told None (Some j) n s = differ (ap (λ (k : ℕ). eqb k 0) n)
free_told None None n s = refl
