-- The usual form of a component: every length in one byte, and no element but the module's own, each in its place. Whatever is found to
-- have it is what the grammar reads there (SaidAs, ReadAs; of a head, head_of itself); nothing is said of what is found to have another form.
-- Assumes nothing.
use Rattle.std.specs.Prelude.{◌≡◌, List, ℕ, ◌+◌, ◌-◌, ◌%◌, length, Bool, true, ◌&&◌, eqb, leb, Some, None, Ok}
use Rattle.text.specs.Choose.{if_so, if_lt, if_eq}
use Rattle.wire.specs.Bytes.{byte_at}
use Rattle.wire.specs.Cursors.{absent_of}
use Rattle.wire.specs.Values.{listed_at, absent_number, party_of, there_of, clock_at, seconds_at}
use Rattle.wire.specs.Grammar.{flag_part, first_part, party_part}
use Rattle.wire.specs.declared.Number.{Number}
use Rattle.wire.specs.declared.Said.{Said}
use Rattle.wire.specs.Answers.{Answer, Form, Parted}

-- where an element of this tag and size stands at i, all of it
unfoldable pub begins_of : List ℕ → ℕ → ℕ → ℕ → Bool
begins_of s i tag size = leb (i + (size + 2)) (length s) && (eqb (byte_at s i) tag && eqb (byte_at s (i + 1)) size)

-- the byte after a tag of one byte, where so many bytes follow it; 128 where not: below 128 it is the element's length
unfoldable pub short_of : List ℕ → ℕ → ℕ
short_of s at =
    if_eq (byte_at s at % 32) 31 128
    (if_so (begins_of s at (byte_at s at) (byte_at s (at + 1))) (byte_at s (at + 1)) 128)

-- the place after it; i where it does not stand there
unfoldable pub after_of : List ℕ → ℕ → ℕ → ℕ → ℕ
after_of s i tag size = if_so (begins_of s i tag size) (i + (size + 2)) i

-- after a number, of 3 to 10 bytes
unfoldable pub number_after : List ℕ → ℕ → ℕ
number_after s i = if_lt (byte_at s (i + 1)) 3 i (if_lt 10 (byte_at s (i + 1)) i (after_of s i 129 (byte_at s (i + 1))))

unfoldable pub number_at : List ℕ → ℕ → ℕ → Number
number_at s i next = if_lt (next - i) 2 absent_number (party_of s (i + 2) next)

-- after the last, which only CALLED has
unfoldable pub last_after : List ℕ → ℕ → ℕ → ℕ → ℕ
last_after s i k x = if_eq x 3 (if_eq k 1 (after_of s i 130 1) (after_of s i 130 3)) i

unfoldable pub last_part : List ℕ → ℕ → ℕ → ℕ → ℕ
last_part s i next k = if_eq k 1 (flag_part (next - i) (byte_at s (i + 2)) 0 8) (if_lt (next - i) 2 0 64)

unfoldable pub last_seconds : List ℕ → ℕ → ℕ → ℕ → ℕ
last_seconds s i next k = if_eq k 1 0 (if_lt (next - i) 2 0 (seconds_at s (i + 2)))

unfoldable pub last_ok : List ℕ → ℕ → ℕ → ℕ → Bool
last_ok s i next k = if_eq k 1 true (if_lt (next - i) 2 true (clock_at s (i + 2)))

-- no number, or a good one
unfoldable pub number_ok : ℕ → Number → Bool
number_ok size n = if_lt size 2 true (there_of n)

-- what a SEQUENCE from i to the end says, whose BOOLEAN ends at f and whose number n at e
unfoldable pub said_of : List ℕ → ℕ → ℕ → ℕ → Number → ℕ → ℕ → Said
said_of s i f e n k x =
    record {
      cursor = absent_of (length s);
      parts = first_part k (f - i) (byte_at s (i + 2)) + party_part k x n.count + last_part s e (length s) k;
      number = n;
      duration = last_seconds s e (length s) k;
    }

-- where an operation or error stands, from low to high
unfoldable pub coded_at : List ℕ → ℕ → ℕ → ℕ → Bool
coded_at s i low high = begins_of s i 6 7 && listed_at s (i + 2) low high

-- what the grammar says of it
abbrev pub SaidAs : List ℕ → Said → Parted → Type 0
SaidAs s d None = Unit {0}
SaidAs s d (Some x) = (d ≡ x) × (x.cursor ≡ absent_of (length s))

abbrev pub ReadAs : List ℕ → Answer → Form → Type 0
ReadAs s a None = Unit {0}
ReadAs s a (Some m) = a ≡ Ok (m, length s)
