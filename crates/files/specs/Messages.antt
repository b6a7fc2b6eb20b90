-- The line of a message that is sent. 01: "a message name, for REL its cause, then its component, then its parts in bit order".
-- Assumes nothing.
use Rattle.std.specs.Prelude.{ℕ, List, [], ◌++◌}
use Rattle.text.specs.Choose.{if_eq}
use Rattle.text.specs.Text.{ascii, last_digits, numbered}
use Rattle.rows.specs.declared.Component.{Component}
use Rattle.rows.specs.declared.Component.TheVariants.{Absent, Invoke, Result, Error, Reject, Unknown}
use Rattle.rows.specs.declared.Nature.{Nature}
use Rattle.rows.specs.declared.Nature.TheVariants.{National, International}
use Rattle.rows.specs.declared.Note.{Note}
use Rattle.rows.specs.declared.Number.{Number}
use Rattle.files.specs.Bytes.{part}

-- 1 SETUP, 2 ACTIVE, 3 CALLED
unfoldable pub operation_text : ℕ → List ℕ
operation_text operation = if_eq operation 1 (ascii " SETUP") (if_eq operation 2 (ascii " ACTIVE") (ascii " CALLED"))

unfoldable pub with_operation : List ℕ → ℕ → List ℕ
with_operation word operation = word ++ operation_text operation

-- "INVOKE or RESULT with SETUP, ACTIVE or CALLED; ERROR with number"; no row sends another component
abbrev pub component_text : Component → List ℕ
component_text (Absent n) = []
component_text (Invoke operation) = with_operation (ascii " INVOKE") operation
component_text (Result operation) = with_operation (ascii " RESULT") operation
component_text (Error n) = numbered (ascii " ERROR ") n
component_text (Reject n) = []
component_text (Unknown code n) = []

-- a text where its part is present
unfoldable pub text_if : ℕ → List ℕ → List ℕ
text_if present t = if_eq present 1 t []

-- 02 #103: "the listing puts `+` before international digits"
abbrev pub sign_text : Nature → List ℕ
sign_text National = []
sign_text International = ascii "+"

-- "digits (as many as the count)"
unfoldable pub number_text : Number → List ℕ
number_text n = sign_text n.nature ++ last_digits n.count n.value

unfoldable pub with_digits : List ℕ → Number → List ℕ
with_digits word n = word ++ number_text n

-- "its parts in bit order: TRANSFER, ACCEPTED, AS-TRANSFER, PARTIAL"
unfoldable pub parts_text : ℕ → List ℕ
parts_text parts =
    text_if (part parts 1) (ascii " TRANSFER")
    ++ text_if (part parts 2) (ascii " ACCEPTED")
    ++ text_if (part parts 4) (ascii " AS-TRANSFER")
    ++ text_if (part parts 8) (ascii " PARTIAL")

-- "CALLING and digits, CALLED and digits, DURATION and seconds"
unfoldable pub values_text : Note → List ℕ
values_text m =
    text_if (part m.parts 16) (with_digits (ascii " CALLING ") m.calling)
    ++ text_if (part m.parts 32) (with_digits (ascii " CALLED ") m.called)
    ++ text_if (part m.parts 64) (numbered (ascii " DURATION ") m.duration)

-- "then its component, then its parts in bit order"; "Lines end in one newline"
unfoldable pub carried_text : Note → List ℕ
carried_text m = component_text m.component ++ parts_text m.parts ++ values_text m ++ ascii "\n"

-- "a message name", "for REL its cause"
unfoldable pub sent_text : List ℕ → Note → List ℕ
sent_text name m = name ++ carried_text m

unfoldable pub released_text : Note → List ℕ
released_text m = numbered (ascii "> REL ") m.cause ++ carried_text m
