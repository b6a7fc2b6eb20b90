-- What can be written: a component whose fields are all in range. Each field has a test of its own, which is 1 for a value in range, else 0.
-- Of a component that cannot be written the ordinal of its first field out of range is told.
-- Assumes nothing.
use Rattle.std.specs.Prelude.{List, [], ◌∷◌, ℕ, Option, Some, None, ◌+◌, ◌*◌, ◌/◌, ◌%◌, ◌^◌}
use Rattle.text.specs.Choose.{if_lt, if_eq}
use Rattle.wire.specs.declared.Component.{Component}
use Rattle.wire.specs.declared.Number.{Number}

-- n is low to high
unfoldable pub range_ok : ℕ → ℕ → ℕ → ℕ
range_ok n low high = if_lt n low 0 (if_lt high n 0 1)

-- a and b are in range
unfoldable pub both_ok : ℕ → ℕ → ℕ
both_ok a b = if_eq a 1 b 0

-- ---- component, operation or error

-- 1 invoke, 2 result, 3 error, 4 reject
abbrev pub kind_ok : ℕ → ℕ
kind_ok k = range_ok k 1 4

-- by the component: the operation of an invoke and of a result, the error, and none in a reject; a component that is none of these is told
-- before it
unfoldable pub item_ok : ℕ → ℕ → ℕ
item_ok k n =
    if_eq k 1 (range_ok n 1 3)
    (if_eq k 2 (range_ok n 1 3)
    (if_eq k 3 (range_ok n 4 12)
    (range_ok n 0 0)))

-- ---- parts

-- those that an invoke, and a result, have a place for; 4 only with 2
unfoldable pub argument_ok : ℕ → ℕ → ℕ
argument_ok x p = if_eq x 3 (if_eq (p % 2 + p / 8 % 2 * 8 + p / 32 % 2 * 32) p 1 0) (if_eq (p % 2 + p / 16 % 2 * 16) p 1 0)

unfoldable pub result_ok : ℕ → ℕ → ℕ
result_ok x p =
    if_lt (p / 2 % 2) (p / 4 % 2) 0
    (if_eq x 3 (if_eq (p / 2 % 2 * 2 + p / 4 % 2 * 4 + p / 16 % 2 * 16 + p / 64 % 2 * 64) p 1 0) (if_eq (p / 2 % 2 * 2 + p / 4 % 2 * 4 + p / 32 % 2 * 32) p 1 0))

-- an error and a reject have no place for any
unfoldable pub places_ok : ℕ → ℕ → ℕ → ℕ
places_ok k n p =
    if_eq k 1 (argument_ok n p)
    (if_eq k 2 (result_ok n p)
    (if_eq p 0 1 0))

-- a number that they do not name is 0 and 0, and such a Duration is 0
unfoldable pub unnamed_ok : ℕ → Number → ℕ
unnamed_ok named n = if_eq named 1 1 (if_eq n.count 0 (if_eq n.value 0 1 0) 0)

unfoldable pub untimed_ok : ℕ → ℕ → ℕ
untimed_ok named t = if_eq named 1 1 (if_eq t 0 1 0)

unfoldable pub parts_ok : Component → ℕ
parts_ok c =
    both_ok (places_ok c.kind c.item c.parts)
    (both_ok (unnamed_ok (c.parts / 16 % 2) c.calling)
    (both_ok (unnamed_ok (c.parts / 32 % 2) c.called)
    (untimed_ok (c.parts / 64 % 2) c.duration)))

-- ---- numbers, Duration, identifier

-- 1 to 15 digits, and a value of so many
unfoldable pub number_ok : Number → ℕ
number_ok n = if_lt (n.count % 128) 1 0 (if_lt 15 (n.count % 128) 0 (if_lt n.value (10 ^ (n.count % 128)) 1 0))

-- up to 255 hours, 59 minutes and 59 seconds
unfoldable pub duration_ok : ℕ → ℕ
duration_ok t = if_lt 921599 t 0 1

-- a byte; in a reject also none, 256
unfoldable pub id_ok : ℕ → ℕ → ℕ
id_ok k x = if_eq k 4 (if_lt 256 x 0 1) (if_lt 255 x 0 1)

-- ---- the fields in their order

-- a field that the parts name, and those after it; one that they do not name is no field
unfoldable pub field_if : ℕ → ℕ → List ℕ → List ℕ
field_if named ok fields = if_eq named 1 (ok ∷ fields) fields

-- 02 #106: "a number is one field"
unfoldable pub fields_of : Component → List ℕ
fields_of c =
    kind_ok c.kind  -- 1: component
    ∷ item_ok c.kind c.item  -- 2: operation or error
    ∷ parts_ok c  -- 3: parts
    ∷ field_if (c.parts / 16 % 2) (number_ok c.calling)  -- calling number
    (field_if (c.parts / 32 % 2) (number_ok c.called)  -- called number
    (field_if (c.parts / 64 % 2) (duration_ok c.duration)  -- Duration
    (id_ok c.kind c.id  -- identifier
    ∷ [])))

-- ---- the first that is out of range

-- of fields that begin with the k-th: the ordinal of the first that fails, or 0 if none does
unfoldable pub bad_from : ℕ → List ℕ → ℕ
bad_from k [] = 0
bad_from k (ok ∷ fields) = if_eq ok 1 (bad_from (k + 1) fields) k

unfoldable pub bad_of : Component → ℕ
bad_of c = bad_from 1 (fields_of c)

-- an ordinal as it is answered: 0, which is none, is None
unfoldable pub ordinal : ℕ → Option ℕ
ordinal k = if_eq k 0 None (Some k)

-- no field is out of range
unfoldable pub writable_of : Component → ℕ
writable_of c = if_eq (bad_of c) 0 1 0
