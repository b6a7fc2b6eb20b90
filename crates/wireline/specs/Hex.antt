-- Octets as two hexadecimal digits each: as they are written, and as a text says them.
-- Assumes nothing.
use Rattle.std.specs.Prelude.{◌≡◌, ℕ, ◌+◌, ◌-◌, ◌*◌, ◌/◌, ◌%◌, ◌<◌, List, [], ◌∷◌, ◌++◌, length, Option, None, Some}
use Rattle.text.specs.Choose.{if_lt, if_eq}
use Rattle.text.specs.Text.{Put, ascii}
use Rattle.wireline.specs.declared.hex.HexByte.{HexByte}
use Rattle.wireline.specs.declared.hex.HexByte.TheVariants.{Digit, Blank, Other}

-- ---- written: capitals, a blank between, one line

unfoldable pub hex_digit : ℕ → ℕ
hex_digit x = if_lt x 10 (48 + x) (55 + x)

unfoldable pub octet_text : ℕ → List ℕ
octet_text b = hex_digit (b / 16) ∷ hex_digit (b % 16) ∷ []

-- after an octet, by how many follow it
unfoldable pub end_text : ℕ → List ℕ
end_text left = if_eq left 0 (ascii "\n") (ascii " ")

unfoldable pub hex_text : List ℕ → List ℕ
hex_text [] = []
hex_text (b ∷ t) = octet_text b ++ end_text (length t) ++ hex_text t

-- ---- read

-- capitals or small letters; what is no digit is no part of such a text
unfoldable pub digit_of : ℕ → HexByte
digit_of b =
    if_lt b 48 Other
    (if_lt b 58 (Digit (b - 48))
    (if_lt b 65 Other
    (if_lt b 71 (Digit (b - 55))
    (if_lt b 97 Other
    (if_lt b 103 (Digit (b - 87)) Other)))))

-- a blank, a tab and the ends of lines
unfoldable pub meaning_of : ℕ → HexByte
meaning_of b = if_eq b 32 Blank (if_eq b 9 Blank (if_eq b 10 Blank (if_eq b 13 Blank (digit_of b))))

abbrev pub HasFourBits : HexByte → Type 0
HasFourBits (Digit d) = d < 16
HasFourBits Blank = Unit {0}
HasFourBits Other = Unit {0}

-- what a text says: nothing, where it is not two digits an octet; or octets
pub data Meant : Type 0 where
  nothing : Meant
  octets : List ℕ → Meant

unfoldable pub before : ℕ → Meant → Meant
before b nothing = nothing
before b (octets t) = octets (b ∷ t)

-- by the meaning of the next byte: blanks do not count; half is the first digit of an octet, where one waits for its second
unfoldable pub meant_by : HexByte → Option ℕ → (Option ℕ → Meant) → Meant
meant_by Other half rest = nothing
meant_by Blank half rest = rest half
meant_by (Digit d) None rest = rest (Some d)
meant_by (Digit d) (Some high) rest = before (high * 16 + d) (rest None)

unfoldable pub meant_from : Option ℕ → List ℕ → Meant
meant_from None [] = octets []
meant_from (Some high) [] = nothing
meant_from half (b ∷ t) = meant_by (meaning_of b) half (λ h. meant_from h t)

unfoldable pub hexed_of : List ℕ → Meant
hexed_of text = meant_from None text

-- the octets were put into a buffer, as far as it goes
pub record Laid (m : Meant) (old new : List ℕ) (n : ℕ) : Type 0 where
  pub said : List ℕ
  pub meant : m ≡ octets said
  pub put : Put old 0 said new n

abbrev pub Says : Meant → List ℕ → List ℕ → Option ℕ → Type 0
Says m old new None = m ≡ nothing
Says m old new (Some n) = Laid m old new n
