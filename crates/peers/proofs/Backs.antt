-- What is sent is what is received: the parameter reads back, and its component is the event that the note says.
-- Assumes nothing.
use mathlib.Core.Bool.{Bool, true, false}
use mathlib.Core.Path.{◌≡◌, refl, ap, ◌∙◌}
use Prim.Native.Nat.{ℕ, ◌%◌, ◌<◌}
use native.Mathlib.Omega.{arith}
use Rattle.text.specs.Choose.{if_so, if_eq}
use Rattle.files.specs.Bodies.{number_by, count_byte, component_of, code_of, item_of}
use Rattle.files.proofs.CountByte.{number_again}
use Rattle.rows.specs.Step.{message_of}
use Rattle.rows.specs.declared.Component.{Component as Sent}
use Rattle.rows.specs.declared.Component.TheVariants.{Absent, Invoke, Result, Error, Reject, Unknown}
use Rattle.rows.specs.declared.Event.TheVariants.{Received}
use Rattle.rows.specs.declared.Message.{Message}
use Rattle.rows.specs.declared.Nature.{Nature}
use Rattle.rows.specs.declared.Nature.TheVariants.{National, International}
use Rattle.rows.specs.declared.Note.{Note}
use Rattle.rows.specs.declared.Number.{Number}
use Rattle.rows.proofs.Truth.{differ}
use Rattle.wire.proofs.Goods.{Sized}
use Rattle.peers.specs.Messages.{number_of, heard_of, received_of, party_of, carried_of, sent_of}

pub sized : (n : Note) (i : ℕ) → Sized (sent_of n i)
unfolding sent_of carried_of party_of
sized n i = record { calling_byte = omega arith; called_byte = omega arith }

-- a component of 01's codes 0 to 4
abbrev pub is_coded : Sent → Bool
is_coded (Absent n) = true
is_coded (Invoke n) = true
is_coded (Result n) = true
is_coded (Error n) = true
is_coded (Reject n) = true
is_coded (Unknown code n) = false

component_back : (x : Sent) → is_coded x ≡ true → component_of (code_of x) (item_of x) ≡ x
unfolding component_of if_eq if_so
component_back (Absent n) h = refl
component_back (Invoke n) h = refl
component_back (Result n) h = refl
component_back (Error n) h = refl
component_back (Reject n) h = refl
component_back (Unknown code n) h = differ h

-- of a count below 128 the byte is whole
byte_whole : (x : Nature) (n : ℕ) → n < 128 → count_byte x n % 256 ≡ count_byte x n
byte_whole National n h = omega arith
byte_whole International n h = omega arith

number_back : (n : Number) → n.count < 128 → number_of (party_of n) ≡ n
unfolding number_of party_of
number_back n h = ap (λ (b : ℕ). number_by b n.value) (byte_whole n.nature n.count h) ∙ number_again n h

abbrev made : ℕ → ℕ → Note → Sent → Number → Number → Message
made message cause n x calling called =
    record { kind = message; cause = cause; component = x; parts = n.parts; calling = calling; called = called; duration = n.duration }

pub received_back : (message cause i : ℕ) (n : Note) → is_coded n.component ≡ true → n.calling.count < 128 → n.called.count < 128
    → received_of message cause (sent_of n i) ≡ Received (message_of message cause n)
unfolding received_of heard_of sent_of carried_of
received_back message cause i n h g k =
    let a = number_of (party_of n.calling) in
    let b = number_of (party_of n.called) in
    ap (λ (y : Sent). Received (made message cause n y a b)) (component_back n.component h)
    ∙ ap (λ (y : Number). Received (made message cause n n.component y b)) (number_back n.calling g)
    ∙ ap (λ (y : Number). Received (made message cause n n.component n.calling y)) (number_back n.called k)
