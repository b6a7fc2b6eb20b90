-- A record's bytes and its event, both ways: what is written reads back, and what is read is what would be written.
-- Assumes nothing.
use Rattle.std.proofs.Common.{◌≡◌, ℕ, zero, suc, ◌+◌, ◌-◌, ◌*◌, ◌^◌, ◌<◌, ◌≤◌, Bool, true, false, ◌||◌, eqb, leb, ◌↔◌, List, [], ◌∷◌, ◌++◌, length, get_or, take, drop, sym, refl, ap, ◌∙◌, subst, ap₂, append_assoc, zero-add, arith, length-append, take-append-drop, drop_of_length-le, drop-drop, take-add, eqb-true}
use Rattle.text.specs.Choose.{if_eq, if_so}
use Rattle.text.proofs.Cases.{no_lt, yes_eq, no_eq, yes_le, no_le, both_le, both_eq}
use Rattle.rows.specs.Read.{bit}
use Rattle.rows.specs.Valid.{number_there, code_ok, event_ok}
use Rattle.rows.specs.Valid.{number_if as number_ok}
use Rattle.rows.specs.declared.Component.{Component}
use Rattle.rows.specs.declared.Component.TheVariants.{Absent, Invoke, Result, Error, Reject, Unknown}
use Rattle.rows.specs.declared.Event.{Event}
use Rattle.rows.specs.declared.Event.TheVariants.{Opening, Ask, Received, FromAccess, Expiry, Time}
use Rattle.rows.specs.declared.Message.{Message}
use Rattle.rows.specs.declared.Number.{Number}
use Rattle.rows.proofs.Ranges.{message_in_range}
use Rattle.rows.proofs.Truth.{left, right, differ}
use Rattle.files.specs.Bytes.{byte_at, le_at, le_of, part}
use Rattle.files.specs.Fields.{opening_fields, ask_fields, message_fields, size_of, values_at, bytes_of}
use Rattle.files.specs.Frames.{length_with, length_of, slotted_kind, plain_of, plain_frame, outer_of, in_slot, frame_at}
use Rattle.files.specs.Bodies.{count_of, count_byte, number_by, component_of, code_of, item_of, kind_of, fields_of, values_of, head_of, record_of, event_at}
use Rattle.files.specs.Bodies.{slot_head, slotted_of, entry_of, body_at, read_by, read_at, plain_at}
use Rattle.files.specs.Bodies.{opening_from, ask_from, message_from, access_from, time_from, opening_at, ask_at, message_at, access_at, time_at}
use Rattle.files.specs.Typed.{AllBytes, TypedNumber, Typed, TypedWhere, Entry, file_of, Writable}
use Rattle.files.specs.Write.{nature_with, number_with, message_with}
use Rattle.files.specs.Shown.{whole, Contents, and_then, contents_from, contents_of, entries_of}
use Rattle.files.specs.Frames.{Framing, framed}
use Rattle.files.specs.Bodies.{Reading, got}
use Rattle.files.specs.declared.Record.{Record}
use Rattle.files.specs.declared.Where.{Where}
use Rattle.files.specs.declared.Where.TheVariants.{Plain, Slot}
use Rattle.files.proofs.CountByte.{count_typed, byte_again, number_again, there_small, named_small, there_byte, named_byte, absent_byte}
use Rattle.files.proofs.Records.{le_one, plain_ways, frame_ways, slotted_in, frame_slotted, frame_plain, by_body, read_as, plain_read_as}
use Rattle.files.proofs.Stored.{Fits, Holds, holds_left, holds_right, holds_between, le_within, fields_length, fields_back, fields_again, bytes_join, fields_bytes}
use Rattle.std.specs.Prelude.{None, Some, Ok, Err}

-- ---- its values have room in its fields

-- a number that no part names has no bytes, and is 0
number_fits : (present : ℕ) (n : Number) → present < 2 → TypedNumber n → number_ok (eqb present 1) n ≡ true
    → (count_byte n.nature n.count < 256 ^ present) × (n.value < 256 ^ (8 * present))
number_fits zero n g h e = let (c, v) = absent_byte n e in (omega (arith, c), omega (arith, v))
number_fits (suc zero) n g h e = (named_byte true n e, h.1)
number_fits (suc (suc k)) n g h e = absurd (omega arith)

duration_fits : (present n : ℕ) → present < 2 → n < 2 ^ 32 → (eqb present 1 || eqb n 0) ≡ true → n < 256 ^ (4 * present)
duration_fits zero n g h e = let v : n ≡ 0 = eqb-true n 0 e in omega arith
duration_fits (suc zero) n g h e = h
duration_fits (suc (suc k)) n g h e = absurd (omega arith)

-- the numbers of an opening and of a request, each its last field
opening_there_lem : (role flags : ℕ) (own : Number) → event_ok (Opening role flags own) ≡ true → number_there own ≡ true
opening_there_lem role flags own k = left (number_there own) _ (right (leb flags 31) _ (right (leb role 1) _ k))

ask_named : (item : ℕ) (called : Number) → event_ok (Ask item called) ≡ true → number_ok (leb item 1) called ≡ true
ask_named item called k = left (number_ok (leb item 1) called) _ (right (leb item 3) _ k)

pub fits : (e : Event) → event_ok e ≡ true → Typed e → Fits (fields_of e) (values_of e)
fits (Opening role flags own) k h = (h.0, (h.1, (there_byte own (opening_there_lem role flags own k), (h.2.1, tt))))
fits (Ask item called) k h = (h.0, (named_byte (leb item 1) called (ask_named item called k), (h.1.1, tt)))
fits (Received m) k h =
    let o = message_in_range m k in
    let p = number_fits (part m.parts 16) m.calling (omega arith) h.5 o.calling in
    let q = number_fits (part m.parts 32) m.called (omega arith) h.6 o.called in
    let r = duration_fits (part m.parts 64) m.duration (omega arith) h.7 o.duration in
    (h.0, (h.1, (h.2, (h.3, (h.4, (p.0, (p.1, (q.0, (q.1, (r, tt))))))))))
fits (FromAccess item error) k h = (h.0, (h.1, tt))
fits Expiry k h = tt
fits (Time seconds) k h = (h, tt)

-- ---- a record is its length, its kind and its values, as fields one after another

record_as : (e : Event) → record_of e ≡ bytes_of (2 ∷ 2 ∷ fields_of e) (length_with (fields_of e) ∷ kind_of e ∷ values_of e)
unfolding record_of head_of bytes_of
record_as e = append_assoc (le_of 2 (length_with (fields_of e))) (le_of 2 (kind_of e)) (bytes_of (fields_of e) (values_of e))

as_many : (e : Event) → length (fields_of e) ≡ length (values_of e)
as_many (Opening role flags own) = refl
as_many (Ask item called) = refl
as_many (Received m) = refl
as_many (FromAccess item error) = refl
as_many Expiry = refl
as_many (Time seconds) = refl

pub record_length : (e : Event) → length (record_of e) ≡ 2 + length_with (fields_of e)
unfolding size_of
record_length e =
    ap length (record_as e)
    ∙ fields_length (2 ∷ 2 ∷ fields_of e) (length_with (fields_of e) ∷ kind_of e ∷ values_of e) (ap (λ (n : ℕ). suc (suc n)) (as_many e))

body_length : (e : Event) → size_of (fields_of e) ≤ 27
unfolding size_of
body_length (Opening role flags own) = omega arith
body_length (Ask item called) = omega arith
body_length (Received m) = omega arith
body_length (FromAccess item error) = omega arith
body_length Expiry = omega arith
body_length (Time seconds) = omega arith

-- ---- what stands in a file is read

component_back : (c : Component) → code_ok c ≡ true → component_of (code_of c) (item_of c) ≡ c
unfolding component_of if_eq if_so
component_back (Absent n) h = refl
component_back (Invoke n) h = refl
component_back (Result n) h = refl
component_back (Error n) h = refl
component_back (Reject n) h = refl
component_back (Unknown code n) h = differ h

-- the byte of a message that says which parts follow, among its values
parts_at : (s : List ℕ) (b : ℕ) (m : Message) → values_at s b (message_fields m.parts) ≡ values_of (Received m)
    → byte_at s (b + 4) ≡ m.parts
unfolding values_at
parts_at s b m v =
    let p : b + 1 + 1 + 1 + 1 ≡ b + 4 = omega arith in
    sym (ap (byte_at s) p) ∙ sym (le_one s (b + 1 + 1 + 1 + 1)) ∙ ap (λ (vs : List ℕ). get_or vs 4 0) v

-- a message with this component and these numbers
abbrev remade : Message → Component → Number → Number → Message
remade m c calling called =
    record {
      kind = m.kind;
      cause = m.cause;
      component = c;
      parts = m.parts;
      calling = calling;
      called = called;
      duration = m.duration;
    }

message_back : (m : Message) → event_ok (Received m) ≡ true → message_from (values_of (Received m)) ≡ m
message_back m k =
    let p = message_in_range m k in
    let calling : Number = number_by (count_byte m.calling.nature m.calling.count) m.calling.value in
    let called : Number = number_by (count_byte m.called.nature m.called.count) m.called.value in
    ap (λ (c : Component). remade m c calling called) (component_back m.component p.code)
    ∙ ap (λ (n : Number). remade m m.component n called) (number_again m.calling (named_small (bit 16 m.parts) m.calling p.calling))
    ∙ ap (λ (n : Number). remade m m.component m.calling n) (number_again m.called (named_small (bit 32 m.parts) m.called p.called))

event_back : (s : List ℕ) (b : ℕ) (e : Event) → event_ok e ≡ true → values_at s b (fields_of e) ≡ values_of e → event_at s b (kind_of e) ≡ e
unfolding event_at opening_at ask_at message_at access_at time_at if_eq if_so
event_back s b (Opening role flags own) k v =
    ap opening_from v ∙ ap (Opening role flags) (number_again own (there_small own (opening_there_lem role flags own k)))
event_back s b (Ask item called) k v =
    ap ask_from v ∙ ap (Ask item) (number_again called (named_small (leb item 1) called (ask_named item called k)))
event_back s b (Received m) k v =
    ap Received (ap (λ (n : ℕ). message_from (values_at s b (message_fields n))) (parts_at s b m v) ∙ ap message_from v ∙ message_back m k)
event_back s b (FromAccess item error) k v = ap access_from v
event_back s b Expiry k v = refl
event_back s b (Time seconds) k v = ap time_from v

want_back : (s : List ℕ) (b : ℕ) (e : Event) → values_at s b (fields_of e) ≡ values_of e
    → length_of (kind_of e) (byte_at s (b + 4)) ≡ length_with (fields_of e)
unfolding length_of if_eq if_so
want_back s b (Opening role flags own) v = refl
want_back s b (Ask item called) v = refl
want_back s b (Received m) v = ap (λ (n : ℕ). length_with (message_fields n)) (parts_at s b m v)
want_back s b (FromAccess item error) v = refl
want_back s b Expiry v = refl
want_back s b (Time seconds) v = refl

frame_back : (n at len kind want next : ℕ) → 2 ≤ len → len ≤ 29 → want ≡ len → next ≡ at + 2 + len → next ≤ n
    → plain_of n at len kind want ≡ framed Plain kind next
unfolding plain_of
frame_back n at len kind want next g h e f l =
    sym (no_lt _ _ _ _ _ (omega arith)
    (no_lt _ _ _ _ _ g
    (no_lt _ _ _ _ _ h
    (no_lt _ _ _ _ _ (omega arith)
    (no_eq _ _ _ _ _ (λ z. omega arith)
    (yes_eq _ _ _ _ _ (sym e) (ap (framed Plain kind) f)))))))

kind_small : (e : Event) → kind_of e < 256 ^ 2
kind_small (Opening role flags own) = omega arith
kind_small (Ask item called) = omega arith
kind_small (Received m) = omega arith
kind_small (FromAccess item error) = omega arith
kind_small Expiry = omega arith
kind_small (Time seconds) = omega arith

-- where a record's bytes stand, its length, its kind and its values are read
module _ (s : List ℕ) (at : ℕ) (e : Event) (k : event_ok e ≡ true) (t : Typed e) (f : Holds s at (record_of e)) where
  all_read : values_at s at (2 ∷ 2 ∷ fields_of e) ≡ length_with (fields_of e) ∷ kind_of e ∷ values_of e
  all_read =
      let l = body_length e in
      fields_back (2 ∷ 2 ∷ fields_of e) (length_with (fields_of e) ∷ kind_of e ∷ values_of e) s at
      (omega arith, (kind_small e, fits e k t)) (subst (Holds s at) (record_as e) f)

  length_read : le_at 2 s at ≡ length_with (fields_of e)
  unfolding values_at
  length_read = ap (λ (vs : List ℕ). get_or vs 0 0) all_read

  kind_read : le_at 2 s (at + 2) ≡ kind_of e
  unfolding values_at
  kind_read = ap (λ (vs : List ℕ). get_or vs 1 0) all_read

  values_read : values_at s (at + 4) (fields_of e) ≡ values_of e
  unfolding values_at
  values_read =
      let p : at + 2 + 2 ≡ at + 4 = omega arith in
      sym (ap (λ (i : ℕ). values_at s i (fields_of e)) p) ∙ ap (drop 2) all_read

  frame_read : at + length (record_of e) ≤ length s → plain_frame s at ≡ framed Plain (kind_of e) (at + length (record_of e))
  unfolding plain_frame
  frame_read h =
      let l = body_length e in
      let r = record_length e in
      let p : at + 4 + 4 ≡ at + 8 = omega arith in
      let w : length_of (kind_of e) (byte_at s (at + 8)) ≡ length_with (fields_of e) =
      ap (λ (i : ℕ). length_of (kind_of e) (byte_at s i)) (sym p) ∙ want_back s (at + 4) e values_read in
      rw (length_read, kind_read)
      (frame_back (length s) at (length_with (fields_of e)) (kind_of e) _ (at + length (record_of e))
      (omega arith) (omega arith) w (omega arith) h)

  record_read : at + length (record_of e) ≤ length s → plain_at s at ≡ got Plain e (at + length (record_of e))
  unfolding plain_at
  record_read h =
      let r = record_length e in
      sym (no_le _ _ _ _ _ (omega arith) (sym (ap (λ (x : Framing). Some (read_by s at x)) (frame_read h)
      ∙ ap (λ (x : Event). got Plain x (at + length (record_of e))) (event_back s (at + 4) e k values_read))))

-- ---- the kind of a record and its length; what a plain reading and a reading of any kind have to do with each other

unknown_length : (kind parts : ℕ) → 6 < kind → length_of kind parts ≡ 0
unfolding length_of
unknown_length kind parts h =
    sym (no_eq _ _ _ _ _ (λ e. omega arith)
    (no_eq _ _ _ _ _ (λ e. omega arith)
    (no_eq _ _ _ _ _ (λ e. omega arith)
    (no_eq _ _ _ _ _ (λ e. omega arith)
    (no_eq _ _ _ _ _ (λ e. omega arith)
    (no_eq _ _ _ _ _ (λ e. omega arith) refl))))))

-- what is found is where it acts, its event and the place after it
pub same_got : (v w : Where) (e f : Event) (m n : ℕ) → got v e m ≡ got w f n → (v ≡ w) × (e ≡ f) × (m ≡ n)
same_got v w e f m n g =
    let r : record { acts = v; event = e; next = m } ≡ record { acts = w; event = f; next = n } = cc in
    (ap (λ (x : Record). x.acts) r, ap (λ (x : Record). x.event) r, ap (λ (x : Record). x.next) r)

-- what led to a plain frame; its kind is one of six, and not 7
abbrev PlainFacts : List ℕ → ℕ → Framing → Type 0
PlainFacts s at (Err n) = Unit {0}
PlainFacts s at (Ok body) =
    (body.acts ≡ Plain) × (2 ≤ le_at 2 s at) × (le_at 2 s at ≤ 29) × (body.next ≡ at + 2 + le_at 2 s at) × (body.next ≤ length s) × (le_at 2 s (at + 2) ≡ slotted_kind → ⊥)

plain_facts : (s : List ℕ) (at : ℕ) → PlainFacts s at (plain_frame s at)
unfolding plain_frame
plain_facts s at =
    plain_ways _ at _ _ _ (PlainFacts s at) tt tt tt
    (λ a b c z e. (refl, a, b, refl, c, λ k. z (unknown_length (le_at 2 s (at + 2)) (byte_at s (at + 8)) (omega arith))))

facts_of : (s : List ℕ) (at kind next : ℕ) (w : Where) → plain_frame s at ≡ framed w kind next → PlainFacts s at (framed w kind next)
facts_of s at kind next w f = subst (PlainFacts s at) f (plain_facts s at)

-- the frame of what was read, and the event of its body
abbrev ReadParts : List ℕ → ℕ → Framing → Reading → Type 0
ReadParts s at f None = Unit {0}
ReadParts s at f (Some (Err n)) = Unit {0}
ReadParts s at f (Some (Ok found)) = (kind : ℕ) × (at < length s) × (f ≡ framed found.acts kind found.next) × (found.event ≡ event_at s (body_at found.acts at) kind)

parts_by : (s : List ℕ) (at : ℕ) (f : Framing) → at < length s → ReadParts s at f (Some (read_by s at f))
parts_by s at (Err n) l = tt
parts_by s at (Ok body) l = (body.kind, l, refl, refl)

any_parts : (s : List ℕ) (at next : ℕ) (w : Where) (e : Event) → read_at s at ≡ got w e next → ReadParts s at (frame_at s at) (got w e next)
unfolding read_at
any_parts s at next w e r = subst P r (both_le _ _ P _ _ (λ _. tt) (λ l. parts_by s at (frame_at s at) l))
  where
    P : Reading → Type 0
    P = ReadParts s at (frame_at s at)

plain_parts : (s : List ℕ) (at next : ℕ) (w : Where) (e : Event) → plain_at s at ≡ got w e next
    → ReadParts s at (plain_frame s at) (got w e next)
unfolding plain_at
plain_parts s at next w e r = subst P r (both_le _ _ P _ _ (λ _. tt) (λ l. parts_by s at (plain_frame s at) l))
  where
    P : Reading → Type 0
    P = ReadParts s at (plain_frame s at)

pub plain_acts : (s : List ℕ) (at next : ℕ) (w : Where) (e : Event) → plain_at s at ≡ got w e next → w ≡ Plain
plain_acts s at next w e r =
    let (kind, l, f, v) = plain_parts s at next w e r in
    (facts_of s at kind next w f).0

-- a plain reading is a reading
pub plain_is_read : (s : List ℕ) (at next : ℕ) (w : Where) (e : Event) → plain_at s at ≡ got w e next → read_at s at ≡ got w e next
plain_is_read s at next w e r =
    let (kind, l, f, v) = plain_parts s at next w e r in
    let (p, a, b, n, c, k) = facts_of s at kind next w f in
    sym (read_as s at (framed w kind next) (got w e next) l
    (frame_plain s at (le_at 2 s (at + 2)) (framed w kind next) (omega arith) refl k (sym f))
    (by_body s at kind next (body_at w at) w (framed w kind next) e refl refl v))

-- the six bytes before a record that stands inside one of kind 7: its length, its kind and its slot
pub record Headed (s : List ℕ) (at i : ℕ) : Type 0 where
  pub kind : le_at 2 s (at + 2) ≡ slotted_kind
  pub slot : le_at 2 s (at + 4) ≡ i
  pub filled : le_at 2 s (at + 6) + 6 ≡ le_at 2 s at

outer_passes : (n at len inner : ℕ) → 8 ≤ len → len ≤ 35 → at + 2 + len ≤ n → inner + 6 ≡ len → Ok tt ≡ outer_of n at len inner
unfolding outer_of
outer_passes n at len inner a b c d =
    no_lt _ _ _ _ _ (omega arith)
    (no_lt _ _ _ _ _ b
    (no_lt _ _ _ _ _ c
    (no_lt _ _ _ _ _ a
    (yes_eq _ _ _ _ _ d refl))))

-- and a plain reading behind such six bytes is a reading at the slot that they name
pub slotted_is_read : (s : List ℕ) (at i next : ℕ) (w : Where) (e : Event) → Headed s at i → plain_at s (at + 6) ≡ got w e next
    → read_at s at ≡ got (Slot i) e next
slotted_is_read s at i next w e h r =
    let (kind, l, f, v) = plain_parts s (at + 6) next w e r in
    let (p, a, b, n, c, k) = facts_of s (at + 6) kind next w f in
    let g = h.filled in
    let body : body_at Plain (at + 6) ≡ at + 10 = omega arith in
    let v' : e ≡ event_at s (at + 10) kind = v ∙ ap (λ (x : Where). event_at s (body_at x (at + 6)) kind) p ∙ ap (λ (b : ℕ). event_at s b kind) body in
    let o : Ok tt ≡ outer_of (length s) at (le_at 2 s at) (le_at 2 s (at + 6)) = outer_passes (length s) at (le_at 2 s at) (le_at 2 s (at + 6)) (omega arith) (omega arith) (omega arith) g in
    sym (read_as s at (framed (Slot i) kind next) (got (Slot i) e next) (omega arith)
    (frame_slotted s at slotted_kind (framed (Slot i) kind next) (omega arith) (sym h.kind) refl
    (slotted_in s at (le_at 2 s at) (le_at 2 s (at + 6)) (Ok tt) refl refl o refl i (framed w kind next) (framed (Slot i) kind next) (sym h.slot) (sym f) refl))
    (by_body s at kind next (at + 10) (Slot i) (framed (Slot i) kind next) e refl refl v'))

-- nothing else is read: every reading is one of these two. The event e was found at a place, plain or at a slot
abbrev pub FoundIn : List ℕ → ℕ → Where → Event → ℕ → Type 0
FoundIn s at Plain e next = plain_at s at ≡ got Plain e next
FoundIn s at (Slot i) e next = Headed s at i × (plain_at s (at + 6) ≡ got Plain e next)

abbrev FramedAt : List ℕ → ℕ → Where → ℕ → ℕ → Type 0
FramedAt s at Plain kind next = plain_frame s at ≡ framed Plain kind next
FramedAt s at (Slot i) kind next = Headed s at i × (plain_frame s (at + 6) ≡ framed Plain kind next)

abbrev FramedIn : List ℕ → ℕ → Framing → Type 0
FramedIn s at (Err n) = Unit {0}
FramedIn s at (Ok body) = FramedAt s at body.acts body.kind body.next

framed_plain : (s : List ℕ) (at : ℕ) (f : Framing) → plain_frame s at ≡ f → FramedIn s at f
framed_plain s at (Err n) e = tt
framed_plain s at (Ok body) e =
    let p = (facts_of s at body.kind body.next body.acts e).0 in
    subst (λ (w : Where). FramedAt s at w body.kind body.next) (sym p) (e ∙ ap (λ (w : Where). framed w body.kind body.next) p)

framed_inside : (s : List ℕ) (at i : ℕ) (f : Framing) → Headed s at i → plain_frame s (at + 6) ≡ f → FramedIn s at (in_slot i f)
framed_inside s at i (Err n) h e = tt
framed_inside s at i (Ok body) h e =
    (h, e ∙ ap (λ (x : Where). framed x body.kind body.next) (facts_of s (at + 6) body.kind body.next body.acts e).0)

any_framed : (s : List ℕ) (at : ℕ) → FramedIn s at (frame_at s at)
any_framed s at =
    frame_ways s at (FramedIn s at) tt tt tt (λ _ _. framed_plain s at (plain_frame s at) refl)
    (λ _ k _ _ _ g.
    framed_inside s at (le_at 2 s (at + 4)) (plain_frame s (at + 6)) (record { kind = k; slot = refl; filled = g }) refl)

found_framed : (s : List ℕ) (at kind next : ℕ) (w : Where) (e : Event) → at < length s → FramedIn s at (framed w kind next)
    → e ≡ event_at s (body_at w at) kind → FoundIn s at w e next
found_framed s at kind next Plain e l f v =
    sym (plain_read_as s at (framed Plain kind next) (got Plain e next) l (sym f)
    (by_body s at kind next (at + 4) Plain (framed Plain kind next) e refl refl v))
found_framed s at kind next (Slot i) e l (h, f) v =
    let (p, a, b, n, c, k) = facts_of s (at + 6) kind next Plain f in
    let body : at + 10 ≡ at + 6 + 4 = omega arith in (
      h,
      sym (plain_read_as s (at + 6) (framed Plain kind next) (got Plain e next) (omega arith) (sym f)
          (by_body s (at + 6) kind next (at + 6 + 4) Plain (framed Plain kind next) e refl refl (v ∙ ap (λ (b : ℕ). event_at s b kind) body))),
    )

pub read_is_found : (s : List ℕ) (at next : ℕ) (w : Where) (e : Event) → read_at s at ≡ got w e next → FoundIn s at w e next
read_is_found s at next w e r =
    let (kind, l, f, v) = any_parts s at next w e r in
    found_framed s at kind next w e l (subst (FramedIn s at) f (any_framed s at)) v

found_is_read : (w : Where) (s : List ℕ) (at next : ℕ) (e : Event) → FoundIn s at w e next → read_at s at ≡ got w e next
found_is_read Plain s at next e r = plain_is_read s at next Plain e r
found_is_read (Slot i) s at next e (h, r) = slotted_is_read s at i next Plain e h r

-- ---- what is read is what stands there

-- the record of e is the bytes of s from at on, and ends at next
abbrev pub Stands : List ℕ → ℕ → Event → ℕ → Type 0
Stands s at e next = (record_of e ≡ take (next - at) (drop at s)) × (next ≡ at + length (record_of e))

code_again : (code n : ℕ) → code_of (component_of code n) ≡ code
unfolding component_of
code_again code n =
    let P : Component → Type 0 = λ c. code_of c ≡ code in
    both_eq code 0 P (Absent n) _ (λ e. sym e) λ _.
    both_eq code 1 P (Invoke n) _ (λ e. sym e) λ _.
    both_eq code 2 P (Result n) _ (λ e. sym e) λ _.
    both_eq code 3 P (Error n) _ (λ e. sym e) λ _.
    both_eq code 4 P (Reject n) (Unknown code n) (λ e. sym e) (λ _. refl)

item_again : (code n : ℕ) → item_of (component_of code n) ≡ n
unfolding component_of
item_again code n =
    let P : Component → Type 0 = λ c. item_of c ≡ n in
    both_eq _ _ P _ _ (λ _. refl) λ _.
    both_eq _ _ P _ _ (λ _. refl) λ _.
    both_eq _ _ P _ _ (λ _. refl) λ _.
    both_eq _ _ P _ _ (λ _. refl) λ _.
    both_eq _ _ P _ _ (λ _. refl) (λ _. refl)

-- a message's values, of the message that they make: f and h are the count bytes of its numbers
values_again : (a b c d e f g h i j : ℕ) → f < 256 → h < 256 → let vs : List ℕ = a ∷ b ∷ c ∷ d ∷ e ∷ f ∷ g ∷ h ∷ i ∷ j ∷ [] in
    values_of (Received (message_from vs)) ≡ vs
values_again a b c d e f g h i j p q = rw (code_again c d, item_again c d, byte_again f p, byte_again h q)

-- a field of at most one byte
small_field : (w : ℕ) (s : List ℕ) (i : ℕ) → w < 2 → AllBytes s → le_at w s i < 256
small_field w s i h a = le_within w 1 s i (omega arith) a

message_again : (s : List ℕ) (b : ℕ) → AllBytes s → values_of (Received (message_at s b)) ≡ values_at s b (message_fields (byte_at s (b + 4)))
unfolding message_at values_at
message_again s b a = values_again _ _ _ _ _ _ _ _ _ _ (small_field _ s _ (omega arith) a) (small_field _ s _ (omega arith) a)

opening_again : (s : List ℕ) (b : ℕ) → AllBytes s → values_of (opening_at s b) ≡ values_at s b opening_fields
unfolding opening_at values_at
opening_again s b a = rw (byte_again (le_at 1 s (b + 1 + 1)) (small_field 1 s (b + 1 + 1) (omega arith) a))

ask_again : (s : List ℕ) (b : ℕ) → AllBytes s → values_of (ask_at s b) ≡ values_at s b ask_fields
unfolding ask_at values_at
ask_again s b a = rw (byte_again (le_at 1 s (b + 1)) (small_field 1 s (b + 1) (omega arith) a))

parts_again : (s : List ℕ) (b : ℕ) → (message_at s b).parts ≡ byte_at s (b + 4)
unfolding message_at values_at
parts_again s b =
    let p : b + 1 + 1 + 1 + 1 ≡ b + 4 = omega arith in
    le_one s (b + 1 + 1 + 1 + 1) ∙ ap (byte_at s) p

-- where the length and the kind that stand at a place are those of e, and the values are, there stands the record of e
module _ (s : List ℕ) (at : ℕ) (a : AllBytes s) (l : at + 2 + le_at 2 s at ≤ length s) where
  stands : (e : Event) → le_at 2 s at ≡ length_with (fields_of e) → le_at 2 s (at + 2) ≡ kind_of e
      → values_of e ≡ values_at s (at + 4) (fields_of e) → Stands s at e (at + 2 + le_at 2 s at)
  unfolding values_at size_of
  stands e f g h =
      let r = record_length e in
      let p : at + 4 ≡ at + 2 + 2 = omega arith in
      let v : length_with (fields_of e) ∷ kind_of e ∷ values_of e ≡ values_at s at (2 ∷ 2 ∷ fields_of e) =
      rw (← f, ← g, h, p) in
      let n : size_of (2 ∷ 2 ∷ fields_of e) ≡ at + 2 + le_at 2 s at - at = omega arith in (
        record_as e ∙ ap (bytes_of (2 ∷ 2 ∷ fields_of e)) v ∙ fields_again (2 ∷ 2 ∷ fields_of e) s at a (omega arith)
            ∙ ap (λ (k : ℕ). take k (drop at s)) n,
        omega arith,
      )

  message_stands : le_at 2 s at ≡ length_with (message_fields (byte_at s (at + 8))) → le_at 2 s (at + 2) ≡ 3
      → Stands s at (Received (message_at s (at + 4))) (at + 2 + le_at 2 s at)
  message_stands f g =
      let p : at + 4 + 4 ≡ at + 8 = omega arith in
      let q : (message_at s (at + 4)).parts ≡ byte_at s (at + 8) = parts_again s (at + 4) ∙ ap (byte_at s) p in
      stands (Received (message_at s (at + 4))) (f ∙ ap (λ (n : ℕ). length_with (message_fields n)) (sym q)) g
      (message_again s (at + 4) a ∙ ap (λ (n : ℕ). values_at s (at + 4) (message_fields n)) (sym (parts_again s (at + 4))))

by_kind : (s : List ℕ) (at : ℕ) → AllBytes s → at + 2 + le_at 2 s at ≤ length s → (kind : ℕ) → le_at 2 s (at + 2) ≡ kind
    → (length_of kind (byte_at s (at + 8)) ≡ 0 → ⊥) → le_at 2 s at ≡ length_of kind (byte_at s (at + 8))
    → Stands s at (event_at s (at + 4) kind) (at + 2 + le_at 2 s at)
unfolding length_of event_at opening_at ask_at access_at time_at values_at if_eq if_so
by_kind s at a l zero g z f = absurd (z refl)
by_kind s at a l (suc zero) g z f = stands s at a l (opening_at s (at + 4)) f g (opening_again s (at + 4) a)
by_kind s at a l (suc (suc zero)) g z f = stands s at a l (ask_at s (at + 4)) f g (ask_again s (at + 4) a)
by_kind s at a l (suc (suc (suc zero))) g z f = message_stands s at a l f g
by_kind s at a l (suc (suc (suc (suc zero)))) g z f = stands s at a l (access_at s (at + 4)) f g refl
by_kind s at a l (suc (suc (suc (suc (suc zero))))) g z f = stands s at a l Expiry f g refl
by_kind s at a l (suc (suc (suc (suc (suc (suc zero)))))) g z f = stands s at a l (time_at s (at + 4)) f g refl
by_kind s at a l (suc (suc (suc (suc (suc (suc (suc k))))))) g z f =
    absurd (z (unknown_length (suc (suc (suc (suc (suc (suc (suc k))))))) (byte_at s (at + 8)) (omega arith)))

abbrev FrameStands : List ℕ → ℕ → Framing → Type 0
FrameStands s at (Err n) = Unit {0}
FrameStands s at (Ok body) = Stands s at (event_at s (at + 4) body.kind) body.next

plain_frame_stands : (s : List ℕ) (at : ℕ) → AllBytes s → FrameStands s at (plain_frame s at)
unfolding plain_frame
plain_frame_stands s at a =
    plain_ways _ at _ _ _ (FrameStands s at) tt tt tt (λ _ _ l z f. by_kind s at a l (le_at 2 s (at + 2)) refl z f)

pub plain_stands : (s : List ℕ) (at next : ℕ) (e : Event) → AllBytes s → plain_at s at ≡ got Plain e next → Stands s at e next
plain_stands s at next e a r =
    let (kind, l, f, v) = plain_parts s at next Plain e r in
    subst (λ (x : Event). Stands s at x next) (sym v) (subst (FrameStands s at) f (plain_frame_stands s at a))

-- ---- a record of kind 7 is six bytes and a plain record

slot_head_as : (n i : ℕ) → slot_head n i ≡ bytes_of (2 ∷ 2 ∷ 2 ∷ []) ((n + 4) ∷ slotted_kind ∷ i ∷ [])
unfolding slot_head head_of bytes_of le_of
slot_head_as n i = refl

pub slot_head_length : (n i : ℕ) → length (slot_head n i) ≡ 6
unfolding slot_head head_of le_of
slot_head_length n i = refl

pub slotted_length : (i : ℕ) (inner : List ℕ) → length (slotted_of i inner) ≡ length inner + 6
unfolding slotted_of
slotted_length i inner = length-append (slot_head (length inner) i) inner ∙ omega (arith, slot_head_length (length inner) i)

-- where these bytes stand, they are read, and the plain record behind them
module _ (s : List ℕ) (at i : ℕ) (e : Event) (k : event_ok e ≡ true) (t : Typed e) (w : TypedWhere (Slot i)) (f : Holds s at (slotted_of i (record_of e))) where
  inner_stands : Holds s (at + 6) (record_of e)
  unfolding slotted_of
  inner_stands =
      subst (λ (n : ℕ). Holds s (at + n) (record_of e)) (slot_head_length (length (record_of e)) i)
      (holds_right s at (slot_head (length (record_of e)) i) (record_of e) f)

  head_read : values_at s at (2 ∷ 2 ∷ 2 ∷ []) ≡ (length (record_of e) + 4) ∷ slotted_kind ∷ i ∷ []
  unfolding slotted_of
  head_read =
      let l = body_length e in
      let r = record_length e in
      fields_back (2 ∷ 2 ∷ 2 ∷ []) ((length (record_of e) + 4) ∷ slotted_kind ∷ i ∷ []) s at (omega arith, (omega arith, (w, tt)))
      (subst (Holds s at) (slot_head_as (length (record_of e)) i) (holds_left s at (slot_head (length (record_of e)) i) (record_of e) f))

  headed : Headed s at i
  unfolding values_at
  headed =
      let p : at + 2 + 2 ≡ at + 4 = omega arith in
      let r = record_length e in
      let l : le_at 2 s (at + 6) ≡ length_with (fields_of e) = length_read s (at + 6) e k t inner_stands in
      let n : le_at 2 s at ≡ length (record_of e) + 4 = ap (λ (vs : List ℕ). get_or vs 0 0) head_read in
      record {
        kind = ap (λ (vs : List ℕ). get_or vs 1 0) head_read;
        slot = ap (le_at 2 s) (sym p) ∙ ap (λ (vs : List ℕ). get_or vs 2 0) head_read;
        filled = omega arith;
      }

  slotted_read : at + length (slotted_of i (record_of e)) ≤ length s
      → read_at s at ≡ got (Slot i) e (at + length (slotted_of i (record_of e)))
  slotted_read h =
      let l = slotted_length i (record_of e) in
      let n : at + 6 + length (record_of e) ≡ at + length (slotted_of i (record_of e)) = omega arith in
      slotted_is_read s at i _ Plain e headed
      (record_read s (at + 6) e k t inner_stands (omega arith) ∙ ap (got Plain e) n)

entry_read : (w : Where) (s : List ℕ) (at : ℕ) (e : Event) → event_ok e ≡ true → Typed e → TypedWhere w → Holds s at (entry_of w e)
    → at + length (entry_of w e) ≤ length s → read_at s at ≡ got w e (at + length (entry_of w e))
entry_read Plain s at e k t w f h = plain_is_read s at _ Plain e (record_read s at e k t f h)
entry_read (Slot i) s at e k t w f h = slotted_read s at i e k t w f h

-- the record of e at w is the bytes of s from at on, and ends at next
abbrev EntryStands : List ℕ → ℕ → Where → Event → ℕ → Type 0
EntryStands s at w e next = (entry_of w e ≡ take (next - at) (drop at s)) × (next ≡ at + length (entry_of w e))

head_stands : (s : List ℕ) (at i n : ℕ) → AllBytes s → at + 6 ≤ length s → Headed s at i → n + 4 ≡ le_at 2 s at → slot_head n i ≡ take 6 (drop at s)
unfolding values_at size_of
head_stands s at i n a l h e =
    let p : at + 2 + 2 ≡ at + 4 = omega arith in
    let v : (n + 4) ∷ slotted_kind ∷ i ∷ [] ≡ values_at s at (2 ∷ 2 ∷ 2 ∷ []) = rw (p, e, h.kind, h.slot) in
    slot_head_as n i ∙ ap (bytes_of (2 ∷ 2 ∷ 2 ∷ [])) v ∙ fields_again (2 ∷ 2 ∷ 2 ∷ []) s at a l

found_stands : (w : Where) (s : List ℕ) (at next : ℕ) (e : Event) → AllBytes s → FoundIn s at w e next → EntryStands s at w e next
unfolding slotted_of
found_stands Plain s at next e a r = plain_stands s at next e a r
found_stands (Slot i) s at next e a (h, r) =
    let (t, g) = plain_stands s (at + 6) next e a r in
    let (kind, l, f, v) = plain_parts s (at + 6) next Plain e r in
    let (p, x, y, n, c, k) = facts_of s (at + 6) kind next Plain f in
    let o = h.filled in
    let m : 6 + (next - (at + 6)) ≡ next - at = omega arith in
    let u : length (record_of e) + 4 ≡ le_at 2 s at = omega arith in
    let z = slotted_length i (record_of e) in (
      ap₂ (λ (a b : List ℕ). a ++ b) (head_stands s at i (length (record_of e)) a (omega arith) h u)
          (t ∙ ap (take (next - (at + 6))) (sym (drop-drop 6 at s)))
          ∙ sym (take-add 6 (next - (at + 6)) (drop at s)) ∙ ap (λ (j : ℕ). take j (drop at s)) m,
      omega arith,
    )

abbrev ReadStands : List ℕ → ℕ → Reading → Type 0
ReadStands s at None = length s ≤ at
ReadStands s at (Some (Err n)) = Unit {0}
ReadStands s at (Some (Ok found)) = EntryStands s at found.acts found.event found.next

stands_by : (s : List ℕ) (at : ℕ) → AllBytes s → (r : Reading) → read_at s at ≡ r → (r ≡ None → length s ≤ at) → ReadStands s at r
stands_by s at a None e f = f refl
stands_by s at a (Some (Err n)) e f = tt
stands_by s at a (Some (Ok found)) e f = found_stands found.acts s at found.next found.event a (read_is_found s at found.next found.acts found.event e)

never_ends : (s : List ℕ) (at : ℕ) (f : Framing) → Some (read_by s at f) ≡ None → ⊥
never_ends s at f e = cc

ends_past : (s : List ℕ) (at : ℕ) → read_at s at ≡ None → length s ≤ at
unfolding read_at
ends_past s at =
    both_le _ _ (λ (r : Reading). r ≡ None → length s ≤ at) _ _ (λ l _. l) (λ _ e. absurd (never_ends s at (frame_at s at) e))

pub plain_ends_past : (s : List ℕ) (at : ℕ) → plain_at s at ≡ None → length s ≤ at
unfolding plain_at
plain_ends_past s at =
    both_le _ _ (λ (r : Reading). r ≡ None → length s ≤ at) _ _ (λ l _. l) (λ _ e. absurd (never_ends s at (plain_frame s at) e))

pub plain_past_end : (s : List ℕ) (at : ℕ) → length s ≤ at → plain_at s at ≡ None
unfolding plain_at
plain_past_end s at h = sym (yes_le _ _ _ _ _ h refl)

read_stands : (s : List ℕ) (at : ℕ) → AllBytes s → ReadStands s at (read_at s at)
read_stands s at a = stands_by s at a (read_at s at) refl (ends_past s at)

-- ---- an event that is read of bytes has numbers of their types

module _ (s : List ℕ) (a : AllBytes s) where
  number_typed : (i present : ℕ) → present < 2 → (count_of (le_at present s i) < 256) × (le_at (8 * present) s (i + present) < 2 ^ 64)
  number_typed i present h = (count_typed (le_at present s i), le_within (8 * present) 8 s (i + present) (omega arith) a)

  message_typed : (b : ℕ) → Typed (Received (message_at s b))
  unfolding message_at values_at
  message_typed b =
      let p = byte_at s (b + 4) in
      let i : ℕ = b + 1 + 1 + 1 + 1 + 1 in
      let j : ℕ = i + part p 16 + 8 * part p 16 in
      let k : ℕ = j + part p 32 + 8 * part p 32 in
      let code : le_at 1 s (b + 1 + 1) < 256 = le_within 1 1 s (b + 1 + 1) (omega arith) a in
      let item : le_at 1 s (b + 1 + 1 + 1) < 256 = le_within 1 1 s (b + 1 + 1 + 1) (omega arith) a in (
        le_within 1 1 s b (omega arith) a,
        le_within 1 1 s (b + 1) (omega arith) a,
        rw (code_again (le_at 1 s (b + 1 + 1)) (le_at 1 s (b + 1 + 1 + 1))) code,
        rw (item_again (le_at 1 s (b + 1 + 1)) (le_at 1 s (b + 1 + 1 + 1))) item,
        le_within 1 1 s (b + 1 + 1 + 1 + 1) (omega arith) a,
        number_typed i (part p 16) (omega arith),
        number_typed j (part p 32) (omega arith),
        le_within (4 * part p 64) 4 s k (omega arith) a,
      )

  event_typed : (b kind : ℕ) → Typed (event_at s b kind)
  unfolding event_at opening_at ask_at access_at time_at values_at
  event_typed b kind =
      both_eq kind 1 Typed _ _
      (λ _. (le_within 1 1 s b (omega arith) a, le_within 1 1 s (b + 1) (omega arith) a, number_typed (b + 1 + 1) 1 (omega arith))) λ _.
      both_eq kind 2 Typed _ _ (λ _. (le_within 1 1 s b (omega arith) a, number_typed (b + 1) 1 (omega arith))) λ _.
      both_eq kind 3 Typed _ _ (λ _. message_typed b) λ _.
      both_eq kind 4 Typed _ _ (λ _. (le_within 1 1 s b (omega arith) a, le_within 1 1 s (b + 1) (omega arith) a)) λ _.
      both_eq kind 5 Typed _ _ (λ _. tt) λ _.
      le_within 4 4 s b (omega arith) a

pub plain_typed : (s : List ℕ) → AllBytes s → (at next : ℕ) (e : Event) → plain_at s at ≡ got Plain e next → Typed e
plain_typed s a at next e r =
    let (kind, l, f, v) = plain_parts s at next Plain e r in
    subst Typed (sym v) (event_typed s a (at + 4) kind)

found_typed : (w : Where) (s : List ℕ) → AllBytes s → (at next : ℕ) (e : Event) → FoundIn s at w e next → Typed e × TypedWhere w
found_typed Plain s a at next e r = (plain_typed s a at next e r, tt)
found_typed (Slot i) s a at next e (h, r) =
    let l : le_at 2 s (at + 4) < 2 ^ 16 = le_within 2 2 s (at + 4) (omega arith) a in
    (plain_typed s a (at + 6) next e r, subst (λ (n : ℕ). n < 2 ^ 16) h.slot l)

-- ---- a file of entries is read record by record

past_last : (s : List ℕ) (at : ℕ) → length s ≤ at → read_at s at ≡ None
unfolding read_at
past_last s at h = sym (yes_le _ _ _ _ _ h refl)

some_bytes : (w : Where) (e : Event) → 4 ≤ length (entry_of w e)
some_bytes Plain e = omega (arith, record_length e)
some_bytes (Slot i) e = let r = record_length e in omega (arith, slotted_length i (record_of e))

-- whatever stands before and after it
read_between : (w : Where) (e : Event) → event_ok e ≡ true → Typed e → TypedWhere w → (p q : List ℕ)
    → read_at (p ++ entry_of w e ++ q) (length p) ≡ got w e (length p + length (entry_of w e))
read_between w e k t u p q =
    let l = length-append (p ++ entry_of w e) q in
    let m = length-append p (entry_of w e) in
    entry_read w (p ++ entry_of w e ++ q) (length p) e k t u (holds_between p (entry_of w e) q) (omega arith)

-- behind p, with k records at most to read
from_place : (xs : List Entry) → Writable xs → (p : List ℕ) (k : ℕ) → length (file_of xs) ≤ k
    → contents_from k (p ++ file_of xs) (length p) ≡ record { entries = xs; ending = whole }
unfolding contents_from
from_place [] w p zero h = refl
from_place [] w p (suc k) h =
    ap (λ (r : Reading). and_then r (contents_from k (p ++ []))) (past_last (p ++ []) (length p) (omega (arith, length-append p [])))
from_place (x ∷ xs) w p zero h =
    absurd (let r = some_bytes x.acts x.event in let l = length-append (entry_of x.acts x.event) (file_of xs) in omega arith)
from_place (x ∷ xs) w p (suc k) h =
    let b : List ℕ = entry_of x.acts x.event in
    let r = some_bytes x.acts x.event in
    let l = length-append b (file_of xs) in
    let s : p ++ (b ++ file_of xs) ≡ p ++ b ++ file_of xs = sym (append_assoc p b (file_of xs)) in
    let n : length p + length b ≡ length (p ++ b) = sym (length-append p b) in
    let c : contents_from k (p ++ b ++ file_of xs) (length p + length b) ≡ record { entries = xs; ending = whole } =
    ap (contents_from k (p ++ b ++ file_of xs)) n ∙ from_place xs w.3 (p ++ b) k (omega arith) in
    ap (λ (y : List ℕ). and_then (read_at y (length p)) (contents_from k y)) s
    ∙ ap (λ (y : Reading). and_then y (contents_from k (p ++ b ++ file_of xs))) (read_between x.acts x.event w.0 w.1 w.2 p (file_of xs))
    ∙ ap (λ (y : Contents). record { entries = x ∷ y.entries; ending = y.ending }) c

-- what stands at a place, by what was found there
again_by : (k : ℕ) (s : List ℕ) (at : ℕ) (found : Reading) → ReadStands s at found → length s ≤ at + suc k
    → ((next : ℕ) → length s ≤ next + k → (contents_from k s next).ending ≡ whole → file_of (contents_from k s next).entries ≡ drop next s)
    → (and_then found (contents_from k s)).ending ≡ whole → file_of (and_then found (contents_from k s)).entries ≡ drop at s
again_by k s at None w h f e = sym (drop_of_length-le s w)
again_by k s at (Some (Err n)) w h f e = cc
again_by k s at (Some (Ok found)) w h f e =
    let r = some_bytes found.acts found.event in
    let g = w.1 in
    let n : at + (found.next - at) ≡ found.next = omega arith in
    ap₂ (λ (t u : List ℕ). t ++ u) w.0 (f found.next (omega arith) e ∙ ap (λ (i : ℕ). drop i s) (sym n) ∙ sym (drop-drop (found.next - at) at s))
    ∙ take-append-drop (found.next - at) (drop at s)

again_from : (k : ℕ) (s : List ℕ) (at : ℕ) → AllBytes s → length s ≤ at + k → (contents_from k s at).ending ≡ whole
    → file_of (contents_from k s at).entries ≡ drop at s
unfolding contents_from
again_from zero s at a h e = let l : length s ≤ at = omega arith in sym (drop_of_length-le s l)
again_from (suc k) s at a h e =
    again_by k s at (read_at s at) (read_stands s at a) h (λ next. again_from k s next a) e

-- ---- THE LAWS, each with its sentence, to be read alone

-- Every plain record has 4 to 31 bytes, and one of kind 7 six more than the record inside it: 10 to 37.
pub record_range : (e : Event) → (4 ≤ length (record_of e)) × (length (record_of e) ≤ 31)
record_range e = let l = record_length e in let b = body_length e in (omega arith, omega arith)

pub slotted_range : (i : ℕ) (e : Event)
    → (length (entry_of (Slot i) e) ≡ length (record_of e) + 6) × (10 ≤ length (entry_of (Slot i) e)) × (length (entry_of (Slot i) e) ≤ 37)
slotted_range i e =
    let l = slotted_length i (record_of e) in
    let (a, b) = record_range e in
    (l, omega arith, omega arith)

passed_byte : (x : Bool) (count : ℕ) → count_byte (nature_with x) count ≡ if_so x (128 + count) count
unfolding if_so
passed_byte true count = refl
passed_byte false count = refl

-- What a host in C passes for a message stands in the record as it was passed, in the order of the parameters.
pub message_passed : (kind cause code item parts : ℕ) (x : Bool) (i v : ℕ) (y : Bool) (j w duration : ℕ)
    → values_of (message_with kind cause code item parts (number_with x i v) (number_with y j w) duration)
    ≡ kind ∷ cause ∷ code ∷ item ∷ parts ∷ if_so x (128 + i) i ∷ v ∷ if_so y (128 + j) j ∷ w ∷ duration ∷ []
message_passed kind cause code item parts x i v y j w duration =
    rw (code_again code item, item_again code item, passed_byte x i, passed_byte y j)

-- A record is read as a plain one exactly where a reader of plain records alone reads it; and as one at a slot exactly where six bytes name
-- kind 7, that slot and a length that the record behind them fills, and that reader reads this one.
pub read_exactly : (s : List ℕ) (at next : ℕ) (w : Where) (e : Event) → (read_at s at ≡ got w e next) ↔ FoundIn s at w e next
read_exactly s at next w e = (read_is_found s at next w e, found_is_read w s at next e)

-- An event in range, written at any place, plain or at a slot, reads back as itself, whatever stands before and after it; and reading goes
-- on where it ends.
pub written_reads_back : (w : Where) (e : Event) → event_ok e ≡ true → Typed e → TypedWhere w → (p q : List ℕ)
    → read_at (p ++ entry_of w e ++ q) (length p) ≡ got w e (length p + length (entry_of w e))
written_reads_back = read_between

-- The same at the beginning of a file.
pub first_reads_back : (w : Where) (e : Event) → event_ok e ≡ true → Typed e → TypedWhere w → (q : List ℕ)
    → read_at (entry_of w e ++ q) 0 ≡ got w e (length (entry_of w e))
first_reads_back w e k t u q = written_reads_back w e k t u [] q ∙ ap (got w e) (zero-add (length (entry_of w e)))

-- Where a record of a file of bytes is read, in range or not, the bytes that stand there are the record of the event that was read.
pub read_writes_back : (s : List ℕ) → AllBytes s → (at next : ℕ) (w : Where) (e : Event) → read_at s at ≡ got w e next
    → (entry_of w e ≡ take (next - at) (drop at s)) × (next ≡ at + length (entry_of w e))
read_writes_back s a at next w e r = found_stands w s at next e a (read_is_found s at next w e r)

-- So what is read of bytes has numbers of their types, and what is written is bytes: neither has to be asked for where one follows the other.
pub read_typed : (s : List ℕ) → AllBytes s → (at next : ℕ) (w : Where) (e : Event) → read_at s at ≡ got w e next → Typed e × TypedWhere w
read_typed s a at next w e r = found_typed w s a at next e (read_is_found s at next w e r)

plain_bytes : (e : Event) → AllBytes (record_of e)
plain_bytes e = subst AllBytes (sym (record_as e)) (fields_bytes (2 ∷ 2 ∷ fields_of e) (length_with (fields_of e) ∷ kind_of e ∷ values_of e))

pub record_bytes : (w : Where) (e : Event) → AllBytes (entry_of w e)
unfolding slotted_of
record_bytes Plain e = plain_bytes e
record_bytes (Slot i) e =
    let n = length (record_of e) in
    bytes_join (slot_head n i) (record_of e)
    (subst AllBytes (sym (slot_head_as n i)) (fields_bytes (2 ∷ 2 ∷ 2 ∷ []) ((n + 4) ∷ slotted_kind ∷ i ∷ []))) (plain_bytes e)

-- Two events in range whose records begin a file alike are one event, and stand both plain or both at one slot: no record is the beginning
-- of another's.
pub same_bytes_same_event : (v w : Where) (e f : Event) → event_ok e ≡ true → Typed e → TypedWhere v → event_ok f ≡ true → Typed f → TypedWhere w
    → (q r : List ℕ) → entry_of v e ++ q ≡ entry_of w f ++ r → (v ≡ w) × (e ≡ f)
same_bytes_same_event v w e f k t x l u y q r h =
    let g = sym (first_reads_back v e k t x q) ∙ ap (λ (s : List ℕ). read_at s 0) h ∙ first_reads_back w f l u y r in
    let p = same_got v w e f _ _ g in
    (p.0, p.1)

-- An event has one form, plain or at a slot: wherever it is read in files of bytes, the same bytes stand there.
pub one_form : (s t : List ℕ) → AllBytes s → AllBytes t → (at next at' next' : ℕ) (w : Where) (e : Event)
    → read_at s at ≡ got w e next → read_at t at' ≡ got w e next' → take (next - at) (drop at s) ≡ take (next' - at') (drop at' t)
one_form s t a b at next at' next' w e g h = sym (read_writes_back s a at next w e g).0 ∙ (read_writes_back t b at' next' w e h).0

-- A file that is the records of events in range, plain or at slots, one after another, holds just these entries and ends after the last.
pub file_of_entries : (xs : List Entry) → Writable xs → contents_of (file_of xs) ≡ record { entries = xs; ending = whole }
unfolding contents_of
file_of_entries xs w = from_place xs w [] (length (file_of xs)) (omega arith)

-- A file of bytes that ends after a record is the records of the entries that it holds, in range or not, one after another.
pub entries_of_file : (s : List ℕ) → AllBytes s → (contents_of s).ending ≡ whole → file_of (entries_of s) ≡ s
unfolding contents_of
entries_of_file s a e = again_from (length s) s 0 a (omega arith) e
