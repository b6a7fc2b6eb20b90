-- A text of a file in a buffer of any size: what is answered, and what the buffer then holds.
-- Assumes nothing.
use Rattle.std.specs.Prelude.{ℕ, List, ◌++◌, length, drop}
use Rattle.text.specs.Choose.{if_lt}

-- "A file has at most 65,536 bytes"
abbrev pub longest : ℕ
longest = 65536

-- 8: "listing longer than its buffer, or file too long"
abbrev pub too_long : ℕ
too_long = 8

-- "it gets the length or 8": for a file s whose text is t
unfoldable pub answers : List ℕ → List ℕ → List ℕ → ℕ
answers s t out = if_lt longest (length s) too_long (if_lt (length out) (length t) too_long (length t))

-- "bytes past that length stay"; on 8 "buffer unchanged"
unfoldable pub leaves : List ℕ → List ℕ → List ℕ → List ℕ
leaves s t out = if_lt longest (length s) out (if_lt (length out) (length t) out (t ++ drop (length t) out))
