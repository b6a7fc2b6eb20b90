-- 8 is never a length: a listing has 12 bytes at least, a dump 10. So an answer 8 says that the text was not given, and why.
-- Assumes nothing.
use Rattle.std.proofs.Common.{◌≡◌, ℕ, ◌+◌, ◌<◌, ◌≤◌, Bool, ◌⊎◌, ◌↔◌, List, [], ◌∷◌, ◌++◌, length, refl, inl, inr, arith, length-append}
use Rattle.text.specs.Text.{ascii, decimal, numbered}
use Rattle.text.proofs.Cases.{both_lt}
use Rattle.text.proofs.Decimal.{decimal_some}
use Rattle.rows.specs.declared.Call.{Call}
use Rattle.board.specs.Row.{empty_row}
use Rattle.files.specs.Bodies.{read_at}
use Rattle.files.specs.Dump.{dump_of}
use Rattle.files.specs.Fit.{longest, too_long, answers}
use Rattle.files.specs.Lines.{numbered_line, record_text}
use Rattle.files.specs.Listing.{slot_found, answer_by, row_by, rest_of, records_of, listing_by, names_slots, listing_of}
use Rattle.files.specs.Places.{places_of}

-- a word, a digit at least, and the end of the line
line_least : (word : List ℕ) (n : ℕ) → length word + 2 ≤ length (numbered_line word n)
unfolding numbered_line numbered
line_least word n =
    omega (arith, length-append (word ++ decimal n) (ascii "\n"), length-append word (decimal n), decimal_some n)

front_least : (n : ℕ) (a b : List ℕ) → n ≤ length a → n ≤ length (a ++ b)
front_least n a b h = omega (arith, length-append a b)

-- after any records END comes, with a count
rest_least : (s : List ℕ) (shown : Bool) (n : ℕ) (row : List Call) (places : List ℕ) → 6 ≤ length (rest_of s shown n row places)
unfolding rest_of
rest_least s shown n row [] = line_least (ascii "END ") n
rest_least s shown n row (at ∷ places) =
    let f = read_at s at in
    let rest = rest_of s shown (n + 1) (row_by f row) places in
    omega (arith, length-append (record_text (n + 1) shown (slot_found f) (answer_by f row)) rest, rest_least s shown (n + 1) (row_by f row) places)

-- Every listing has at least 12 bytes: `REV 1`, `END 0` and their ends of line.
pub listing_length : (s : List ℕ) → 12 ≤ length (listing_of s)
unfolding listing_of listing_by records_of
listing_length s = omega (arith, rest_least s (names_slots s) 0 empty_row (places_of s))

-- Every dump has at least 10 bytes: `RECORDS 0` and its end of line.
pub dump_length : (s : List ℕ) → 10 ≤ length (dump_of s)
unfolding dump_of
dump_length s =
    front_least 10 (numbered_line (ascii "RECORDS ") (length (places_of s))) _ (line_least (ascii "RECORDS ") (length (places_of s)))

-- of any text that is longer than 8 bytes
eight_means : (s t out : List ℕ) → 8 < length t → (answers s t out ≡ too_long) ↔ ((longest < length s) ⊎ (length out < length t))
unfolding answers
eight_means s t out h =
    both_lt _ _ (λ (k : ℕ). (k ≡ too_long) ↔ ((longest < length s) ⊎ (length out < length t))) _ _ (λ p. (λ _. inl p, λ _. refl)) λ p.
    both_lt _ _ (λ (k : ℕ). (k ≡ too_long) ↔ ((longest < length s) ⊎ (length out < length t))) _ _ (λ q. (λ _. inr q, λ _. refl)) λ q.
    (λ e. absurd (omega arith), λ w. neither w p q)
  where
    neither : (longest < length s) ⊎ (length out < length t) → length s ≤ longest → length t ≤ length out → length t ≡ too_long
    neither (inl a) p q = absurd (omega arith)
    neither (inr b) p q = absurd (omega arith)

-- `rev_listing` answers 8 exactly where the file has more than 65,536 bytes or the listing is longer than the buffer.
pub listing_eight : (s out : List ℕ) → (answers s (listing_of s) out ≡ 8) ↔ ((65536 < length s) ⊎ (length out < length (listing_of s)))
listing_eight s out = eight_means s (listing_of s) out (omega (arith, listing_length s))

-- `rev_dump` answers 8 exactly where the file has more than 65,536 bytes or the dump is longer than the buffer.
pub dump_eight : (s out : List ℕ) → (answers s (dump_of s) out ≡ 8) ↔ ((65536 < length s) ⊎ (length out < length (dump_of s)))
dump_eight s out = eight_means s (dump_of s) out (omega (arith, dump_length s))
