-- An element's first bytes: its tag, its length, and where its contents begin and end.
-- Assumes nothing.
use Rattle.std.specs.Prelude.{List, ℕ, zero, suc, ◌+◌, ◌-◌, ◌%◌, Result, Ok, Err}
use Rattle.text.specs.Choose.{if_lt, if_le, if_eq}
use Rattle.wire.specs.Bytes.{byte_at, big_at}
use Rattle.wire.specs.Answers.{Head, element}

abbrev pub bad_length : ℕ
bad_length = 12

-- the place after a tag number that begins at i: its last byte is the first below 128; `end` if there is none
unfoldable pub tag_by : ℕ → List ℕ → ℕ → ℕ
tag_by zero s i = i
tag_by (suc k) s i = if_lt (byte_at s i) 128 (i + 1) (tag_by k s (i + 1))

unfoldable pub tag_after : List ℕ → ℕ → ℕ → ℕ
tag_after s i end = tag_by (end - i) s i

-- where the length stands: after the first byte, and after the bytes of the tag number where its low five bits are all ones
unfoldable pub length_place : List ℕ → ℕ → ℕ → ℕ
length_place s at end = if_eq (byte_at s at % 32) 31 (tag_after s (at + 1) end) (at + 1)

-- contents of `len` bytes from `body` on; `short` where one stands past `end`
unfoldable pub filled_of : ℕ → ℕ → ℕ → ℕ → ℕ → Head
filled_of tag body end len short = if_lt end (body + len) (Err short) (Ok (element tag body (body + len)))

-- the same of a place and a count that are measured, or of the number where they could not be
abbrev pub spanned_of : ℕ → ℕ → ℕ → Result (ℕ × ℕ) ℕ → Head
spanned_of tag end short (Ok (body, len)) = filled_of tag body end len short
spanned_of tag end short (Err n) = Err n

-- by the first byte of the length: below 128 it is the length; 128 is the indefinite form and 255 is reserved; else it says how many
-- bytes the length has
unfoldable pub length_of : List ℕ → ℕ → ℕ → ℕ → ℕ → ℕ → Head
length_of s tag first after end short =
    if_lt first 128 (filled_of tag after end first short)
    (if_eq first 128 (Err bad_length)
    (if_eq first 255 (Err bad_length)
    (if_lt end (after + (first - 128)) (Err short)
    (filled_of tag (after + (first - 128)) end (big_at s after (first - 128)) short))))

-- with the length at `place`
unfoldable pub head_from : List ℕ → ℕ → ℕ → ℕ → ℕ → Head
head_from s tag place end short = if_le end place (Err short) (length_of s tag (byte_at s place) (place + 1) end short)

-- the element at a place, no byte of it past `end`: `short` is the number where one is
unfoldable pub head_of : List ℕ → ℕ → ℕ → ℕ → Head
head_of s at end short = if_le end at (Err short) (head_from s (byte_at s at) (length_place s at end) end short)
