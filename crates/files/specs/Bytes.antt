-- Numbers in bytes, least byte first: how they are read and how they are written. A place past the end reads as 0.
-- Assumes nothing.
use Rattle.std.specs.Prelude.{ℕ, zero, suc, ◌+◌, ◌*◌, ◌/◌, ◌%◌, List, [], ◌∷◌, slice_index}

abbrev pub byte_at : List ℕ → ℕ → ℕ
byte_at s i = slice_index s i

-- the number of w bytes that stands at a place; of no bytes it is 0
unfoldable pub le_at : ℕ → List ℕ → ℕ → ℕ
le_at zero s i = 0
le_at (suc w) s i = byte_at s i + 256 * le_at w s (i + 1)

-- the w bytes of a number
unfoldable pub le_of : ℕ → ℕ → List ℕ
le_of zero v = []
le_of (suc w) v = (v % 256) ∷ le_of w (v / 256)

-- 1 where the part of this weight is present, else 0
abbrev pub part : ℕ → ℕ → ℕ
part parts weight = parts / weight % 2
