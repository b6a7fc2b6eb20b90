-- The table of fields: for each kind the fields of its body, in their order, as how many bytes each has. It is said here once. A record's
-- length is their sum (`length_of`, Frames.antt), its reader reads these fields and its writer writes them (Bodies.antt).
-- Assumes nothing.
use Rattle.std.specs.Prelude.{ℕ, ◌+◌, ◌*◌, List, [], ◌∷◌, ◌++◌}
use Rattle.files.specs.Bytes.{le_at, le_of, part}

-- 01: "A number is a digit count byte and 8 bytes of value": present is 1, or 0 where the number is not there, and no bytes stand for it
abbrev pub number_fields : ℕ → List ℕ
number_fields present = present ∷ 8 * present ∷ []

-- kind 1: role; flags; own number
abbrev pub opening_fields : List ℕ
opening_fields = 1 ∷ 1 ∷ number_fields 1

-- kind 2: what the own user asks; called number
abbrev pub ask_fields : List ℕ
ask_fields = 1 ∷ number_fields 1

-- kind 3: message; cause; component; operation or error number; parts; "then the numbers and the 4-byte duration present"
abbrev pub front_fields : List ℕ
front_fields = 1 ∷ 1 ∷ 1 ∷ 1 ∷ 1 ∷ []

abbrev pub carried_fields : ℕ → List ℕ
carried_fields parts = number_fields (part parts 16) ++ number_fields (part parts 32) ++ (4 * part parts 64 ∷ [])

abbrev pub message_fields : ℕ → List ℕ
message_fields parts = front_fields ++ carried_fields parts

-- kind 4: what the own access tells; error number
abbrev pub access_fields : List ℕ
access_fields = 1 ∷ 1 ∷ []

-- kind 5: nothing
abbrev pub expiry_fields : List ℕ
expiry_fields = []

-- kind 6: seconds
abbrev pub time_fields : List ℕ
time_fields = 4 ∷ []

-- ---- what a table says of a body

-- its length
unfoldable pub size_of : List ℕ → ℕ
size_of [] = 0
size_of (w ∷ ws) = w + size_of ws

-- the values of the fields of a body that begins at a place: each field stands where the one before it ends
unfoldable pub values_at : List ℕ → ℕ → List ℕ → List ℕ
values_at s i [] = []
values_at s i (w ∷ ws) = le_at w s i ∷ values_at s (i + w) ws

-- the body with these values
unfoldable pub bytes_of : List ℕ → List ℕ → List ℕ
bytes_of [] vs = []
bytes_of (w ∷ ws) [] = []
bytes_of (w ∷ ws) (v ∷ vs) = le_of w v ++ bytes_of ws vs
