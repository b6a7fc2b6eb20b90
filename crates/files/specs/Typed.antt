-- What the theorems between records and events speak of, beside the definitions of both (Bodies.antt): bytes, events with numbers of their
-- types, and the file of a list of entries. No code asks any of it.
-- Assumes nothing.
use Rattle.std.specs.Prelude.{◌≡◌, ℕ, ◌^◌, ◌<◌, true, List, [], ◌∷◌, ◌++◌}
use Rattle.rows.specs.Valid.{event_ok}
use Rattle.rows.specs.declared.Event.{Event}
use Rattle.rows.specs.declared.Event.TheVariants.{Opening, Ask, Received, FromAccess, Expiry, Time}
use Rattle.rows.specs.declared.Message.{Message}
use Rattle.rows.specs.declared.Number.{Number}
use Rattle.files.specs.Bodies.{code_of, item_of, entry_of}
use Rattle.files.specs.declared.Where.{Where}
use Rattle.files.specs.declared.Where.TheVariants.{Plain, Slot}

-- each is a byte, as in every file of a program
abbrev pub AllBytes : List ℕ → Type 0
AllBytes [] = Unit {0}
AllBytes (x ∷ xs) = (x < 256) × AllBytes xs

-- ---- an event whose fields are numbers of their types (crates/rows/src/lib.rt), as every event of a program is. In range, that says
-- something of an error number and of a Duration alone: a range bounds every other field.

abbrev pub TypedNumber : Number → Type 0
TypedNumber n = (n.count < 256) × (n.value < 2 ^ 64)

abbrev pub TypedMessage : Message → Type 0
TypedMessage m =
    (m.kind < 256) × (m.cause < 256) × (code_of m.component < 256) × (item_of m.component < 256) × (m.parts < 256)
    × TypedNumber m.calling × TypedNumber m.called × (m.duration < 2 ^ 32)

abbrev pub Typed : Event → Type 0
Typed (Opening role flags own) = (role < 256) × (flags < 256) × TypedNumber own
Typed (Ask item called) = (item < 256) × TypedNumber called
Typed (Received m) = TypedMessage m
Typed (FromAccess item error) = (item < 256) × (error < 256)
Typed Expiry = Unit {0}
Typed (Time seconds) = seconds < 2 ^ 32

-- a slot that a record can name
abbrev pub TypedWhere : Where → Type 0
TypedWhere Plain = Unit {0}
TypedWhere (Slot i) = i < 2 ^ 16

-- ---- an entry of a file: where it acts, and its event; and a file of entries: their records one after another

pub record Entry : Type 0 where
  pub acts : Where
  pub event : Event

abbrev pub file_of : List Entry → List ℕ
file_of [] = []
file_of (x ∷ xs) = entry_of x.acts x.event ++ file_of xs

-- each is in range, and its fields are numbers of their types
abbrev pub Writable : List Entry → Type 0
Writable [] = Unit {0}
Writable (x ∷ xs) = (event_ok x.event ≡ true) × Typed x.event × TypedWhere x.acts × Writable xs
