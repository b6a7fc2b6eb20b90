-- The words of a line, and what a word says as a number.
-- Assumes nothing.
use Rattle.std.specs.Prelude.{cond, ℕ, ◌+◌, ◌*◌, ◌%◌, List, [], ◌∷◌, ◌==◌, slice_index_or}
use Rattle.std.specs.List.{slice_split, fold}
use Rattle.std.specs.Str.{bytes_eq}

-- what stands between the blanks
abbrev pub words : List ℕ → List (List ℕ)
words line = slice_split (λ b. b == 32) line

-- the word after the first one that is the name; none, where there is no such word
abbrev pub after_of : List ℕ → List (List ℕ) → List ℕ
after_of name [] = []
after_of name (w ∷ ws) = cond (bytes_eq w name) (slice_index_or ws 0 []) (after_of name ws)

-- the digits of a word in decimal; of a byte that is no digit, its last four bits
abbrev pub value_of : List ℕ → ℕ
value_of w = fold (λ n b. n * 10 + b % 16) 0 w
