-- The words of the board's theorems that are not the words of its contracts: what a free slot is in a row, and the rows by which each slot
-- is seen to matter.
-- Assumes nothing.
use Rattle.std.specs.Prelude.{true, List, ◌≡◌, ℕ, ◌<◌, length, set, replicate}
use Rattle.std.proofs.Math.Option.{some}
use Rattle.std.proofs.Math.ListN.{get_elem?}
use Rattle.rows.specs.History.{opening}
use Rattle.rows.specs.Step.{unopened_call, free_of}
use Rattle.rows.specs.declared.Call.{Call}
use Rattle.rows.specs.declared.Nature.TheVariants.{National}
use Rattle.board.specs.Numbers.{slots}
use Rattle.board.specs.Row.{lowest_free}

-- the slot i is there, and free
pub record FreeAt (cs : List Call) (i : ℕ) : Type 0 where
  pub call : Call
  pub there : get_elem? cs i ≡ some call
  pub free : free_of call ≡ true

-- no slot is free
abbrev pub NoneFree : List Call → Type 0
NoneFree cs = (j : ℕ) → j < slots → FreeAt cs j → ⊥

-- the slot i is free, and no lower one
pub record LowestAt (cs : List Call) (i : ℕ) : Type 0 where
  pub slot : i < slots
  pub free : FreeAt cs i
  pub lowest : (j : ℕ) → j < i → FreeAt cs j → ⊥

-- two rows of 64 calls that differ at the slot i alone, and get different answers
pub record Matters (i : ℕ) (cs ds : List Call) : Type 0 where
  pub long : (length cs ≡ slots) × (length ds ≡ slots)
  pub alike : (j : ℕ) → (i ≡ j → ⊥) → get_elem? cs j ≡ get_elem? ds j
  pub unlike : lowest_free cs ≡ lowest_free ds → ⊥

-- a call in use: one that was opened
abbrev pub call_in_use : Call
call_in_use = (opening 0 (record { nature = National; count = 1; value = 1 })).call

-- 64 calls in use ..
unfoldable pub all_in_use : List Call
all_in_use = replicate slots call_in_use

-- .. and the same with the slot i not opened
abbrev pub freed_at : ℕ → List Call
freed_at i = set all_in_use i unopened_call
