-- Framing: where a record ends, where it acts and what kind its event has, or why reading stops. 01: "Each record is a length (bytes that
-- follow) and a kind, 2 bytes little-endian each, and a body." 02 #107: "Event files get kind 7: two bytes of slot, then a whole inner
-- record of kind 1 to 6". A record of one of these six, in a file or inside one of kind 7, is a plain one.
-- Assumes nothing.
use Rattle.std.specs.Prelude.{ℕ, ◌+◌, List, length, Result, Ok, Err}
use Rattle.text.specs.Choose.{if_lt, if_eq}
use Rattle.files.specs.Bytes.{byte_at, le_at}
use Rattle.files.specs.Fields.{opening_fields, ask_fields, message_fields, access_fields, expiry_fields, time_fields, size_of}
use Rattle.files.specs.declared.Frame.{Frame}
use Rattle.files.specs.declared.Unreadable.{Unreadable}
use Rattle.files.specs.declared.Unreadable.TheVariants.{CutShort, BadLength, UnknownKind}
use Rattle.files.specs.declared.Where.{Where}
use Rattle.files.specs.declared.Where.TheVariants.{Plain, Slot}

-- 01, "Numbers given back"
abbrev pub cut_short : ℕ
cut_short = 5

abbrev pub bad_length : ℕ
bad_length = 6

abbrev pub unknown_kind : ℕ
unknown_kind = 7

abbrev pub stop_number : Unreadable → ℕ
stop_number CutShort = cut_short
stop_number BadLength = bad_length
stop_number UnknownKind = unknown_kind

-- what a frame is answered as: where the record acts, the kind of its event and the place after it; or why reading stops
abbrev pub Framing : Type 0
Framing = Result Frame Unreadable

abbrev pub framed : Where → ℕ → ℕ → Framing
framed w kind next = Ok (record { acts = w; kind = kind; next = next })

-- the length of a record with these fields: 2 bytes of kind, and its body
abbrev pub length_with : List ℕ → ℕ
length_with fields = 2 + size_of fields

-- the length that a kind has, 0 for an unknown kind; 01: "a kind 3 length follows parts 16, 32 and 64 alone"
unfoldable pub length_of : ℕ → ℕ → ℕ
length_of kind parts =
    if_eq kind 1 (length_with opening_fields)
    (if_eq kind 2 (length_with ask_fields)
    (if_eq kind 3 (length_with (message_fields parts))
    (if_eq kind 4 (length_with access_fields)
    (if_eq kind 5 (length_with expiry_fields)
    (if_eq kind 6 (length_with time_fields) 0)))))

-- ---- A plain record

-- the record at `at` of a file of n bytes, by its length and kind and the length that its kind has; 01: "Order: 5 if two
-- length bytes aren't there; 6 for the range; 5 if bytes lack; 7; 6 for the kind"
unfoldable pub plain_of : ℕ → ℕ → ℕ → ℕ → ℕ → Framing
plain_of n at len kind want =
    if_lt n (at + 2) (Err CutShort)
    (if_lt len 2 (Err BadLength)
    (if_lt 29 len (Err BadLength)
    (if_lt n (at + 2 + len) (Err CutShort)
    (if_eq want 0 (Err UnknownKind)
    (if_eq len want (framed Plain kind (at + 2 + len)) (Err BadLength))))))

-- the record at `at`: its length, its kind, and the byte where a message has its parts
unfoldable pub plain_frame : List ℕ → ℕ → Framing
plain_frame s at = plain_of (length s) at (le_at 2 s at) (le_at 2 s (at + 2)) (length_of (le_at 2 s (at + 2)) (byte_at s (at + 8)))

-- ---- A record of kind 7, and any record

abbrev pub slotted_kind : ℕ
slotted_kind = 7

-- "its length is 8 to 35"
abbrev pub longest_slotted : ℕ
longest_slotted = 35

-- where the file ends before two bytes of kind: 30 to 35 "with the kind cut off 5", and a shorter one lacks bytes too
unfoldable pub kindless_of : ℕ → ℕ → ℕ → Unreadable
kindless_of n at len =
    if_lt n (at + 2) CutShort
    (if_lt len 2 BadLength
    (if_lt longest_slotted len BadLength CutShort))

-- one of kind 7 up to the record inside it, of which `inner` is the length: why the reading stops, or nothing where nothing stops it. The
-- order is 01's; "6 if the inner length doesn't fill it", which is its own less the 6 bytes of kind, slot and inner length
unfoldable pub outer_of : ℕ → ℕ → ℕ → ℕ → Result (Unit {0}) Unreadable
outer_of n at len inner =
    if_lt len 2 (Err BadLength)
    (if_lt longest_slotted len (Err BadLength)
    (if_lt n (at + 2 + len) (Err CutShort)
    (if_lt len 8 (Err BadLength)
    (if_eq (inner + 6) len (Ok tt) (Err BadLength)))))

-- what is inside acts at the slot
abbrev pub in_slot : ℕ → Framing → Framing
in_slot i (Err e) = Err e
in_slot i (Ok f) = framed (Slot i) f.kind f.next

-- what stands inside is looked at where nothing stopped the reading before it
abbrev pub unless_stopped : Result (Unit {0}) Unreadable → Framing → Framing
unless_stopped (Err e) inside = Err e
unless_stopped (Ok u) inside = inside

-- then "7, then 6 for the kind": what stands inside is framed as any plain record
unfoldable pub slotted_frame : List ℕ → ℕ → Framing
slotted_frame s at =
    unless_stopped (outer_of (length s) at (le_at 2 s at) (le_at 2 s (at + 6)))
    (in_slot (le_at 2 s (at + 4)) (plain_frame s (at + 6)))

-- the record at `at`, of any kind: "30 to 35 with another kind stays 6"
unfoldable pub frame_at : List ℕ → ℕ → Framing
frame_at s at =
    if_lt (length s) (at + 4) (Err (kindless_of (length s) at (le_at 2 s at)))
    (if_eq (le_at 2 s (at + 2)) slotted_kind (slotted_frame s at) (plain_frame s at))
