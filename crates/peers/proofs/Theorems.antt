-- THE THEOREMS about what two exchanges say to each other, each with its sentence, to be read alone. What they speak of is defined in
-- specs/: Messages.antt (`received_of`, `sent_of`: a component as an event, what a row sends as a component) and Entries.antt (`entries_of`,
-- `read_gives`, `write_gives`: what a host in C gets); in `wire`, Parameters.antt (`parameter_of`) and Texts.antt (`parameter_text`,
-- `writable_of`). Same.antt and Contracts.antt tie them to the contracts of the functions.
-- Assumes nothing.
use mathlib.Core.Bool.{true}
use mathlib.Core.List.{List, [], ◌∷◌, ◌++◌}
use mathlib.Core.Logic.{◌⊎◌, inl, inr, ◌↔◌}
use mathlib.Core.Path.{◌≡◌, refl, sym, subst}
use Prim.Native.Nat.{ℕ, suc, ◌+◌, ◌*◌, ◌%◌, ◌≤◌, ◌<◌}
use native.Mathlib.Omega.{arith}
use lib.ListN.{length, drop}
use Rattle.text.proofs.Cases.{yes_eq, no_eq, both_eq, no_lt, both_lt}
use Rattle.rows.specs.History.{run}
use Rattle.rows.specs.Read.{listed_of}
use Rattle.rows.specs.Step.{unopened_call, step_of, message_of}
use Rattle.rows.specs.Valid.{number_there, bad_field_of}
use Rattle.rows.specs.declared.Call.{Call}
use Rattle.rows.specs.declared.Event.{Event}
use Rattle.rows.specs.declared.Event.TheVariants.{Received}
use Rattle.rows.specs.declared.Message.{Message}
use Rattle.rows.specs.declared.Note.{Note}
use Rattle.wire.specs.Grammar.{component_of}
use Rattle.wire.specs.Parameters.{Parameter, refused, holds, parameter_of}
use Rattle.wire.specs.Texts.{parameter_text, leaves_of}
use Rattle.wire.specs.Writable.{item_ok, bad_of, writable_of}
use Rattle.wire.specs.declared.Component.{Component}
use Rattle.wire.proofs.Fits.{FitsHeld, read_fits}
use Rattle.wire.proofs.Numbered.{NumberedWhole, parameter_numbered}
use Rattle.wire.proofs.Theorems.{parameter_reads_back}
use Rattle.peers.specs.Entries.{gives_of, or_none, entries_of, carrier_bad, first_bad, nearest, in_record, sent_bad, send_gives, read_gives, read_leaves}
use Rattle.peers.specs.Messages.{received_of, carried_of, sent_of}
use Rattle.peers.proofs.Backs
use Rattle.peers.proofs.Backs.{is_coded}
use Rattle.peers.proofs.Entered.{fits_first_bad, three_given}
use Rattle.peers.proofs.Hosted.{parameter_fits, none_in}
use Rattle.peers.proofs.Ranges.{fits_ranged}
use Rattle.peers.proofs.Sendings
use Rattle.peers.proofs.Sendings.{is_there}
use Rattle.std.specs.Prelude.{Ok}

-- An error is one of REV's to the rows, which have the module's list, exactly if the wire has a place for it, where the module's errors are
-- a range: none is passed on that cannot be written, and none that is read is told to a user as another.
pub same_errors : (n : ℕ) → (listed_of n ≡ true) ↔ (item_ok 3 n ≡ 1)
same_errors = Sendings.same_errors

-- What a row sends can be written, with any identifier of a byte, exactly if its Duration is at most 921,599 seconds (255:59:59): so a
-- Duration is all that can make it 3. The call has an own number, as every one has from its opening on ..
pub sent_written : (c : Call) (e : Event) (i : ℕ) → number_there c.side.own ≡ true → i < 256 →
    is_there (step_of c e).note.component ≡ true → (writable_of (sent_of (step_of c e).note i) ≡ 1) ↔ ((step_of c e).note.duration ≤ 921599)
sent_written = Sendings.sent_fits

-- .. so it holds after any list of events from before the opening.
pub sent_written_once_opened : (es : List Event) (e : Event) (i : ℕ) → i < 256 →
    is_there (step_of (run unopened_call es) e).note.component ≡ true →
    (writable_of (sent_of (step_of (run unopened_call es) e).note i) ≡ 1) ↔ ((step_of (run unopened_call es) e).note.duration ≤ 921599)
sent_written_once_opened = Sendings.sent_fits_once_opened

-- What is written of it reads back as that one component ..
pub sent_read : (n : Note) (i : ℕ) → writable_of (sent_of n i) ≡ 1 → parameter_of (parameter_text (sent_of n i)) ≡ holds (sent_of n i ∷ [])
sent_read n i e = parameter_reads_back (sent_of n i) (Backs.sized n i) e

-- .. and that is the event of the message which the note says: component, parts, numbers and Duration as they are. (is_coded: the component
-- is one of 01's codes 0 to 4. A number in range has a count below 128.)
pub sent_received : (message cause i : ℕ) (n : Note) → is_coded n.component ≡ true → n.calling.count < 128 → n.called.count < 128 →
    received_of message cause (sent_of n i) ≡ Received (message_of message cause n)
sent_received = Backs.received_back

-- No component that is read off the wire is out of range: of its event 3 can be said for the message's kind, field 1, and cause, field 2,
-- alone ..
pub read_in_range : (s : List ℕ) (at next message cause : ℕ) (c : Component) → component_of s at ≡ Ok (c, next) →
    bad_field_of (received_of message cause c) ≡ carrier_bad message cause
unfolding received_of
read_in_range s at next message cause c e = fits_ranged message cause c (read_fits s at next c e)

-- .. so beside the 3 of a parameter that is read stands 1 for the message, or else 2 for the cause.
pub three_is_the_carrier's : (s : List ℕ) (message cause : ℕ) (cs : List Component) → parameter_of s ≡ holds cs →
    first_bad message cause (or_none cs) ≡ carrier_bad message cause
three_is_the_carrier's s message cause cs e = fits_first_bad message cause cs (subst FitsHeld e (parameter_fits s))

-- What is given back says so: 3 + 256 times that ordinal, and for nothing else.
pub three_read : (s : List ℕ) (message cause k : ℕ) (out : List ℕ) (cs : List Component) → parameter_of s ≡ holds cs →
    (read_gives message cause (parameter_of s) out ≡ 3 + 256 * suc k) ↔ (carrier_bad message cause ≡ suc k)
unfolding read_gives
three_read s message cause k out cs e =
    subst (λ (p : Parameter). (read_gives message cause p out ≡ 3 + 256 * suc k) ↔ (carrier_bad message cause ≡ suc k)) (sym e)
    (subst (λ (n : ℕ). (gives_of (first_bad message cause (or_none cs)) (entries_of message cause (or_none cs)) out ≡ 3 + 256 * suc k) ↔ (n ≡ suc k))
    (three_is_the_carrier's s message cause cs e) (three_given (first_bad message cause (or_none cs)) (entries_of message cause (or_none cs)) out k))

-- Beside the 3 of an entry's message stands the first bad field. Two ordinals are compared, each 0 if there is none: the first field out of
-- range in the record, and the first that cannot be written, counted in the record's body (its own ordinal + 2). What is told is one of
-- them, 0 only where both are, and none that is there is before it.
pub record Nearest (a b n : ℕ) : Type 0 where
  pub one_of : (n ≡ a) ⊎ (n ≡ b)
  pub none : (n ≡ 0) ↔ ((a ≡ 0) × (b ≡ 0))
  pub first : (a ≡ 0 → ⊥) → n ≤ a
  pub second : (b ≡ 0 → ⊥) → n ≤ b

pub is_nearest : (a b : ℕ) → Nearest a b (nearest a b)
unfolding nearest
is_nearest a b =
    both_eq a 0 (Nearest a b) _ _
    (λ e. record { one_of = inr refl; none = (λ z. (e, z), λ z. z.1); first = λ h. absurd (h e); second = λ h. omega arith })
    (λ g.
    both_eq b 0 (Nearest a b) _ _
    (λ e. record { one_of = inl refl; none = (λ z. absurd (g z), λ z. z.0); first = λ h. omega arith; second = λ h. absurd (h e) })
    (λ h.
    both_lt b a (Nearest a b) _ _
    (λ l. record { one_of = inr refl; none = (λ z. absurd (h z), λ z. z.1); first = λ k. omega (arith, l); second = λ k. omega arith })
    (λ l. record { one_of = inl refl; none = (λ z. absurd (g z), λ z. z.0); first = λ k. omega arith; second = λ k. omega (arith, l) })))

pub none_in_record : (k : ℕ) → (in_record k ≡ 0) ↔ (k ≡ 0)
unfolding in_record
none_in_record k = (both_eq k 0 (λ (z : ℕ). z ≡ 0 → k ≡ 0) _ _ (λ e _. e) (λ _ e. absurd (omega (arith, e))), none_in k)

pub some_in_record : (k : ℕ) → (k ≡ 0 → ⊥) → in_record k ≡ 2 + k
unfolding in_record
some_in_record k h = sym (no_eq _ _ _ _ _ h refl)

pub entry_field_first : (m : Message) (id : ℕ) → Nearest (bad_field_of (Received m)) (in_record (bad_of (carried_of m id))) (sent_bad m id)
unfolding sent_bad
entry_field_first m id = is_nearest (bad_field_of (Received m)) (in_record (bad_of (carried_of m id)))

pub three_sent : (m : Message) (id k : ℕ) (out : List ℕ) → (send_gives (Received m) id out ≡ 3 + 256 * suc k) ↔ (sent_bad m id ≡ suc k)
unfolding send_gives
three_sent m id k out = three_given (sent_bad m id) (parameter_text (carried_of m id)) out k

-- Where a host is given the number 0 the entries are there: the parameter was read, every event of it is in range, there was room, the rest
-- is how many bytes they have, and the buffer begins with them. No refusal of a parameter, whatever its place, can be taken for that.
abbrev pub Entries : ℕ → ℕ → Parameter → List ℕ → Type 0
Entries message cause (refused n place) out = ⊥
Entries message cause (holds cs) out =
    (first_bad message cause (or_none cs) ≡ 0) × (length (entries_of message cause (or_none cs)) ≤ length out)
    × (read_gives message cause (holds cs) out ≡ 256 * length (entries_of message cause (or_none cs)))
    × (read_leaves message cause (holds cs) out ≡ entries_of message cause (or_none cs) ++ drop (length (entries_of message cause (or_none cs))) out)

by_number : (message cause : ℕ) (p : Parameter) (out : List ℕ) → NumberedWhole p → read_gives message cause p out % 256 ≡ 0 → Entries message cause p out
unfolding read_gives read_leaves gives_of leaves_of
by_number message cause (refused n place) out (h, g) = λ e. absurd (omega arith)
by_number message cause (holds cs) out h =
    both_eq _ 0 (λ (z : ℕ). z % 256 ≡ 0 → Entries message cause (holds cs) out) _ _
    (λ r. both_lt _ _ (λ (z : ℕ). z % 256 ≡ 0 → Entries message cause (holds cs) out) _ _ (λ _ e. absurd (omega arith))
    (λ l _. (r, l, sym (yes_eq _ _ _ _ _ r (no_lt _ _ _ _ _ l (omega arith))), sym (yes_eq _ _ _ _ _ r (no_lt _ _ _ _ _ l refl)))))
    (λ _ e. absurd (omega arith))

pub zero_is_written : (s : List ℕ) (message cause : ℕ) (out : List ℕ) → read_gives message cause (parameter_of s) out % 256 ≡ 0 →
    Entries message cause (parameter_of s) out
zero_is_written s message cause out = by_number message cause (parameter_of s) out (parameter_numbered s)
