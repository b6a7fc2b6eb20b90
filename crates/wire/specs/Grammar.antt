-- The grammar of components (docs/WIRE.md), a definition for each production. A production reads on in the holder that ends at `end`. A
-- cursor that is stopped goes through all that follows, and keeps its number and place; what it read besides does not count.
--
--     component  = A1 len { id [80 01 xx] op SEQ }     invoke        (80: linked identifier, left out)
--                | A2 len { id 30 len { op SEQ } }     return result
--                | A3 len { id err }                   return error
--                | A4 len { id|05 00  8p 01 xx }       reject, p = 0 to 3; the problem is left out
--     id         = 02 01 xx                            any byte
--     op         = 06 07 00 11 85 60 03 01 NN          NN = 1 SETUP, 2 ACTIVE, 3 CALLED
--     err        = 06 07 00 11 85 60 03 01 NN          NN = 4 to 12
--     SEQ        = 30 len { its own elements in this order, each at most once, then any that are not known }
--        invoke SETUP, ACTIVE : [80 01 bool: part 1]         [81 number: part 16, calling]
--        invoke CALLED        : [80 01 bool: part 1]         [81 number: part 32, called]    [82 01 bool: part 8]
--        result SETUP, ACTIVE : [80 01 bool: part 2, or 2+4] [81 number: part 32, called]
--        result CALLED        : [80 01 bool: part 2, or 2+4] [81 number: part 16, calling]   [82 03 HH MM SS: part 64]
--
-- Every length may be longer than it need be. Assumes nothing.
use Rattle.std.specs.Prelude.{List, ℕ, ◌+◌, ◌/◌, ◌%◌, length, take, Bool, eqb, Ok, Err}
use Rattle.text.specs.Choose.{if_so, if_eq}
use Rattle.wire.specs.Bytes.{byte_at}
use Rattle.wire.specs.Heads.{head_of}
use Rattle.wire.specs.Elements.{not_ours}
use Rattle.wire.specs.Cursors.{absent_of, inside_of, may_of, need_of, closed_of, checked_of, rest_of}
use Rattle.wire.specs.Values.{listed_at, absent_number, party_of, there_of, clock_at, seconds_at, problem_tag}
use Rattle.wire.specs.declared.Component.{Component}
use Rattle.wire.specs.declared.Cursor.{Cursor}
use Rattle.wire.specs.declared.Last.{Last}
use Rattle.wire.specs.declared.Number.{Number}
use Rattle.wire.specs.declared.Said.{Said}
use Rattle.wire.specs.Answers.{Answer, Head, refusal}

abbrev pub cut_short : ℕ
cut_short = 11

-- the contents of a SEQUENCE have any size
abbrev pub any : ℕ
any = 18446744073709551615

-- a reject may have no identifier
abbrev pub no_name : ℕ
no_name = 256

-- ---- op, err = 06 07 00 11 85 60 03 01 NN, NN from low to high

unfoldable pub code_of : List ℕ → Cursor → ℕ → ℕ → ℕ → Cursor
code_of s c end low high = let e = need_of s c end 6 7 7 in checked_of (listed_at s e.body low high) c.at e

-- its NN
abbrev pub item_at : List ℕ → Cursor → ℕ
item_at s o = byte_at s (o.body + 6)

-- ---- SEQ: what its own elements say

-- the part that a BOOLEAN sets: none where it is absent, `off` for FALSE, `on` for any other byte
unfoldable pub flag_part : ℕ → ℕ → ℕ → ℕ → ℕ
flag_part place b off on = if_eq place 0 0 (if_eq b 0 off on)

-- [80 01 bool]: Transfer Requested, which FALSE does not set; Transfer Accepted, and its value
unfoldable pub first_part : ℕ → ℕ → ℕ → ℕ
first_part k place b = if_eq k 1 (flag_part place b 0 1) (flag_part place b 2 6)

-- [81 number]
unfoldable pub party_at : List ℕ → Cursor → Number
party_at s e = if_eq e.body 0 absent_number (party_of s e.body e.at)

-- whose number it is: the caller's in an invoke SETUP or ACTIVE and in a result CALLED, else the called user's
unfoldable pub party_part : ℕ → ℕ → ℕ → ℕ
party_part k x n = if_eq n 0 0 (if_eq k 1 (if_eq x 3 32 16) (if_eq x 3 16 32))

-- [82 01 bool]: Partial Call Only
unfoldable pub partial_of : List ℕ → Cursor → ℕ → Last
partial_of s c end =
    let e = may_of s c end 130 1 1 in
    record { cursor = e; part = flag_part e.body (byte_at s e.body) 0 8; duration = 0 }

-- [82 03 HH MM SS]: Duration
unfoldable pub duration_of : List ℕ → Cursor → ℕ → Last
duration_of s c end =
    let e = may_of s c end 130 3 3 in
    if_eq e.body 0
    (record { cursor = e; part = 0; duration = 0 })
    (record { cursor = checked_of (clock_at s e.body) c.at e; part = 64; duration = seconds_at s e.body })

-- only CALLED has a third element of its own
unfoldable pub last_of : List ℕ → Cursor → ℕ → ℕ → ℕ → Last
last_of s c end k x = if_eq x 3 (if_eq k 1 (partial_of s c end) (duration_of s c end)) (record { cursor = c; part = 0; duration = 0 })

-- levels left for what a SEQUENCE holds: the component is 1, so it stands at 2 in an invoke and at 3 in a result, and 8 is the last
unfoldable pub depth_of : ℕ → ℕ
depth_of k = if_eq k 1 6 5

-- its own tags are 80 to 81, or 82
unfoldable pub known_of : ℕ → ℕ
known_of x = if_eq x 3 3 2

-- the elements of a SEQUENCE, of an invoke (k is 1) or a result, of the operation x
unfoldable pub parts_of : List ℕ → Cursor → ℕ → ℕ → ℕ → Said
parts_of s c end k x =
    let f = may_of s c end 128 1 1 in
    let e = may_of s f end 129 3 10 in
    let n = party_at s e in
    let l = last_of s (checked_of (there_of n) f.at e) end k x in
    record {
      cursor = rest_of s l.cursor end (depth_of k) (known_of x);
      parts = first_part k f.body (byte_at s f.body) + party_part k x n.count + l.part;
      number = n;
      duration = l.duration;
    }

-- ---- components, from their first element on

unfoldable pub number_if : Bool → Number → Number
number_if present n = if_so present n absent_number

unfoldable pub made_of : ℕ → ℕ → Said → ℕ → Component
made_of k x d i =
    record {
      kind = k;
      item = x;
      parts = d.parts;
      calling = number_if (eqb (d.parts / 16 % 2) 1) d.number;
      called = number_if (eqb (d.parts / 32 % 2) 1) d.number;
      duration = d.duration;
      id = i;
    }

-- one without parts
unfoldable pub bare_of : ℕ → ℕ → ℕ → Component
bare_of k x i = record { kind = k; item = x; parts = 0; calling = absent_number; called = absent_number; duration = 0; id = i }

unfoldable pub answer_of : Cursor → Component → Answer
answer_of c m = if_eq c.number 0 (Ok (m, c.at)) (Err (refusal c.number c.at))

-- { id [80 01 xx] op SEQ }
unfoldable pub invoke_of : List ℕ → ℕ → ℕ → Answer
invoke_of s at end =
    let i = need_of s (absent_of at) end 2 1 1 in
    let l = may_of s i end 128 1 1 in
    let o = code_of s l end 1 3 in
    let q = need_of s o end 48 0 any in
    let d = parts_of s (inside_of q) q.at 1 (item_at s o) in
    answer_of (closed_of s d.cursor end) (made_of 1 (item_at s o) d (byte_at s i.body))

-- { id 30 len { op SEQ } }
unfoldable pub result_of : List ℕ → ℕ → ℕ → Answer
result_of s at end =
    let i = need_of s (absent_of at) end 2 1 1 in
    let h = need_of s i end 48 0 any in
    let o = code_of s (inside_of h) h.at 1 3 in
    let q = need_of s o h.at 48 0 any in
    let d = parts_of s (inside_of q) q.at 2 (item_at s o) in
    answer_of (closed_of s (closed_of s d.cursor h.at) end) (made_of 2 (item_at s o) d (byte_at s i.body))

-- { id err }
unfoldable pub error_of : List ℕ → ℕ → ℕ → Answer
error_of s at end =
    let i = need_of s (absent_of at) end 2 1 1 in
    let o = code_of s i end 4 12 in
    answer_of (closed_of s o end) (bare_of 3 (item_at s o) (byte_at s i.body))

-- id, where no NULL stands in its place
unfoldable pub named_of : List ℕ → Cursor → ℕ → Cursor
named_of s n end = if_eq n.body 0 (need_of s n end 2 1 1) n

unfoldable pub name_of : Cursor → ℕ → ℕ
name_of n b = if_eq n.body 0 b no_name

-- { id|05 00  8p 01 xx }
unfoldable pub reject_of : List ℕ → ℕ → ℕ → Answer
reject_of s at end =
    let n = may_of s (absent_of at) end 5 0 0 in
    let i = named_of s n end in
    let p = need_of s i end (problem_tag (byte_at s i.at)) 1 1 in
    answer_of (closed_of s p end) (bare_of 4 0 (name_of n (byte_at s i.body)))

-- A1, A2, A3, A4: the component that begins at `place`, its contents at `at`, and that fills s up to its end
unfoldable pub kind_of : List ℕ → ℕ → ℕ → ℕ → Answer
kind_of s place tag at =
    if_eq tag 161 (invoke_of s at (length s))
    (if_eq tag 162 (result_of s at (length s))
    (if_eq tag 163 (error_of s at (length s))
    (if_eq tag 164 (reject_of s at (length s))
    (Err (refusal not_ours place)))))

-- 11 where the bytes end before it does; else it is read in its own bytes alone, so that what follows them cannot matter
unfoldable pub whole_of : List ℕ → ℕ → Head → Answer
whole_of s place (Err n) = Err (refusal n place)
whole_of s place (Ok e) = kind_of (take e.next s) place e.tag e.body

-- the component at a place
unfoldable pub component_of : List ℕ → ℕ → Answer
component_of s place = whole_of s place (head_of s place (length s) cut_short)
