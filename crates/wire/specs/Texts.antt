-- The bytes of a component, and of a parameter of one, as they are written: every length is the shortest, one byte. And what the writers
-- answer and leave. (Writable.antt has what can be written.)
-- Assumes nothing.
use Rattle.std.specs.Prelude.{List, [], ◌∷◌, ◌++◌, ℕ, zero, suc, ◌+◌, ◌*◌, ◌/◌, ◌%◌, ◌^◌, length, drop, Result, Ok, Err}
use Rattle.text.specs.Choose.{if_lt, if_eq}
use Rattle.wire.specs.declared.Component.{Component}
use Rattle.wire.specs.declared.Number.{Number}
use Rattle.wire.specs.declared.Unwritten.{Unwritten}
use Rattle.wire.specs.declared.Unwritten.TheVariants.{BadField, NoRoom}

unfoldable pub element_text : ℕ → List ℕ → List ℕ
element_text tag t = tag ∷ length t ∷ t

-- a text that is there if `present` is 1
unfoldable pub text_if : ℕ → List ℕ → List ℕ
text_if present t = if_eq present 1 t []

-- ---- numbers

-- two digits, the first in the low half
abbrev pub pair_byte : ℕ → ℕ
pair_byte p = p / 10 + p % 10 * 16

-- the last 2 * m digits of v
unfoldable pub octets_of : ℕ → ℕ → List ℕ
octets_of zero v = []
octets_of (suc m) v = octets_of m (v / 100) ++ (pair_byte (v % 100) ∷ [])

-- its digits, at most 15, with the filler 0 where the count is odd
unfoldable pub padded_of : ℕ → ℕ → ℕ
padded_of n v = if_eq (n % 2) 1 (v % 10 ^ 15 * 10) (v % 10 ^ 15)

-- odd and nature; complete, E.164, allowed, network provided; the digits
unfoldable pub number_text : Number → List ℕ
number_text n = (n.count % 2 * 128 + n.count / 128 + 3) ∷ 19 ∷ octets_of ((n.count % 128 + 1) / 2) (padded_of n.count n.value)

-- ---- parts

unfoldable pub flag_text : ℕ → ℕ → ℕ → List ℕ
flag_text present tag x = text_if present (tag ∷ 1 ∷ x ∷ [])

unfoldable pub party_text : ℕ → Number → List ℕ
party_text present n = text_if present (element_text 129 (number_text n))

unfoldable pub duration_text : ℕ → ℕ → List ℕ
duration_text present t = text_if present (130 ∷ 3 ∷ t / 3600 % 256 ∷ t / 60 % 60 ∷ t % 60 ∷ [])

unfoldable pub first_text : ℕ → List ℕ
first_text p = flag_text (p % 2) 128 255 ++ flag_text (p / 2 % 2) 128 (p / 4 % 2 * 255)

unfoldable pub parties_text : Component → List ℕ
parties_text c = party_text (c.parts / 16 % 2) c.calling ++ party_text (c.parts / 32 % 2) c.called

unfoldable pub last_text : Component → List ℕ
last_text c = flag_text (c.parts / 8 % 2) 130 255 ++ duration_text (c.parts / 64 % 2) c.duration

unfoldable pub parts_text : Component → List ℕ
parts_text c = first_text c.parts ++ parties_text c ++ last_text c

unfoldable pub seq_text : Component → List ℕ
seq_text c = element_text 48 (parts_text c)

-- ---- components

unfoldable pub id_text : ℕ → List ℕ
id_text x = 2 ∷ 1 ∷ x % 256 ∷ []

unfoldable pub rejected_text : ℕ → List ℕ
rejected_text x = if_eq x 256 (5 ∷ 0 ∷ []) (id_text x)

unfoldable pub code_text : ℕ → List ℕ
code_text n = 6 ∷ 7 ∷ 0 ∷ 17 ∷ 133 ∷ 96 ∷ 3 ∷ 1 ∷ n ∷ []

unfoldable pub invoke_text : Component → List ℕ
invoke_text c = element_text 161 (id_text c.id ++ code_text c.item ++ seq_text c)

unfoldable pub held_text : Component → List ℕ
held_text c = element_text 48 (code_text c.item ++ seq_text c)

unfoldable pub result_text : Component → List ℕ
result_text c = element_text 162 (id_text c.id ++ held_text c)

unfoldable pub error_text : Component → List ℕ
error_text c = element_text 163 (id_text c.id ++ code_text c.item)

unfoldable pub reject_text : Component → List ℕ
reject_text c = element_text 164 (rejected_text c.id ++ (128 ∷ 1 ∷ 0 ∷ []))

unfoldable pub component_text : Component → List ℕ
component_text c = if_eq c.kind 1 (invoke_text c) (if_eq c.kind 2 (result_text c) (if_eq c.kind 3 (error_text c) (reject_text c)))

-- a parameter of one: name, the count of all bytes after it, protocol profile
unfoldable pub parameter_text : Component → List ℕ
parameter_text c = 50 ∷ (length (component_text c) + 1) ∷ 145 ∷ component_text c

-- ---- what a writer of the text t answers and leaves, where bad is the ordinal of the first field out of range, or 0

-- 01, "Numbers given back": a refusal's number, and the ordinal that stands beside it, else 0
unfoldable pub number_told : Unwritten → ℕ
number_told (BadField k) = 3
number_told NoRoom = 8

unfoldable pub field_told : Unwritten → ℕ
field_told (BadField k) = k
field_told NoRoom = 0

-- the bad field, then too little room, then the length
unfoldable pub written_of : ℕ → List ℕ → List ℕ → Result ℕ Unwritten
written_of bad t out = if_eq bad 0 (if_lt (length out) (length t) (Err NoRoom) (Ok (length t))) (Err (BadField bad))

-- bytes past the text stay; on a refusal all do
unfoldable pub leaves_of : ℕ → List ℕ → List ℕ → List ℕ
leaves_of bad t out = if_eq bad 0 (if_lt (length out) (length t) out (t ++ drop (length t) out)) out
