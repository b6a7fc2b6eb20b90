-- A component's line: kind, operation or error, identifier, parts in bit order. 01's words for a component and its parts, and `ID` with the
-- identifier as it stands on the wire.
--
--     INVOKE SETUP ID 01 TRANSFER CALLING 5550123
--     ERROR 5 ID 80
--     REJECT ID -
--
-- Assumes nothing.
use Rattle.std.specs.Prelude.{ℕ, ◌/◌, ◌%◌, List, ◌++◌}
use Rattle.text.specs.Choose.{if_eq}
use Rattle.text.specs.Text.{ascii, last_digits, decimal, value_text, numbered}
use Rattle.wire.specs.Texts.{text_if}
use Rattle.wire.specs.declared.Component.{Component}
use Rattle.wire.specs.declared.Number.{Number}
use Rattle.wireline.specs.Hex.{octet_text}

-- ---- numbers: from 128 on a count is that of an international one

-- by its digits, as many as the count
unfoldable pub digits_text : Number → List ℕ
digits_text n = text_if (n.count / 128) (ascii "+") ++ last_digits (n.count % 128) n.value

-- by its count and its value, so that one can be said whose value has more digits than its count
unfoldable pub counted_text : Number → List ℕ
counted_text n = text_if (n.count / 128) (ascii "+") ++ decimal (n.count % 128) ++ ascii ":" ++ value_text n.value

unfoldable pub number_text : ℕ → Number → List ℕ
number_text counted n = if_eq counted 1 (counted_text n) (digits_text n)

-- ---- parts

unfoldable pub party_text : ℕ → List ℕ → ℕ → Number → List ℕ
party_text present word counted n = text_if present (word ++ number_text counted n)

unfoldable pub duration_text : ℕ → ℕ → List ℕ
duration_text present t = text_if present (numbered (ascii " DURATION ") t)

unfoldable pub flags_text : ℕ → List ℕ
flags_text p =
    text_if (p % 2) (ascii " TRANSFER")
    ++ text_if (p / 2 % 2) (ascii " ACCEPTED")
    ++ text_if (p / 4 % 2) (ascii " AS-TRANSFER")
    ++ text_if (p / 8 % 2) (ascii " PARTIAL")

-- forms: 1 where the calling number is said by count and value, and 2 where the called one is
unfoldable pub values_text : ℕ → Component → List ℕ
values_text forms c =
    party_text (c.parts / 16 % 2) (ascii " CALLING ") (forms % 2) c.calling
    ++ party_text (c.parts / 32 % 2) (ascii " CALLED ") (forms / 2 % 2) c.called
    ++ duration_text (c.parts / 64 % 2) c.duration

-- ---- the component

-- 1 SETUP, 2 ACTIVE, 3 CALLED; another has its number
unfoldable pub operation_text : ℕ → List ℕ
operation_text operation =
    if_eq operation 1 (ascii " SETUP")
    (if_eq operation 2 (ascii " ACTIVE")
    (if_eq operation 3 (ascii " CALLED") (numbered (ascii " ") operation)))

unfoldable pub with_operation : List ℕ → ℕ → List ℕ
with_operation word operation = word ++ operation_text operation

unfoldable pub head_text : ℕ → ℕ → List ℕ
head_text kind item =
    if_eq kind 1 (with_operation (ascii "INVOKE") item)
    (if_eq kind 2 (with_operation (ascii "RESULT") item)
    (if_eq kind 3 (numbered (ascii "ERROR ") item) (ascii "REJECT")))

-- none, or two hexadecimal digits
unfoldable pub id_text : ℕ → List ℕ
id_text x = if_eq x 256 (ascii " ID -") (ascii " ID " ++ octet_text (x % 256))

unfoldable pub line_in : ℕ → Component → List ℕ
line_in forms c = head_text c.kind c.item ++ id_text c.id ++ flags_text c.parts ++ values_text forms c

-- with digits alone, as a component is shown that was read
unfoldable pub line_text : Component → List ℕ
line_text c = line_in 0 c
