-- A component of the wire as the event that a call takes, and a message that a call sends as a component of the wire. Code, item and count
-- byte are the same on the wire and in a record: what says so is in `files` (Bodies.antt).
-- Assumes nothing.
use Rattle.std.specs.Prelude.{ℕ, ◌%◌}
use Rattle.files.specs.Bodies.{number_by, count_byte, component_of, code_of, item_of}
use Rattle.rows.specs.Step.{message_of}
use Rattle.rows.specs.declared.Event.{Event}
use Rattle.rows.specs.declared.Event.TheVariants.{Received}
use Rattle.rows.specs.declared.Message.{Message}
use Rattle.rows.specs.declared.Note.{Note}
use Rattle.rows.specs.declared.Number.{Number}
use Rattle.wire.specs.Grammar.{no_name}
use Rattle.wire.specs.Values.{absent_number}
use Rattle.wire.specs.declared.Component.{Component}
use Rattle.wire.specs.declared.Number.{Number as Party}

-- ---- from the wire

unfoldable pub number_of : Party → Number
number_of n = number_by n.count n.value

-- the message that carried the component c
unfoldable pub heard_of : ℕ → ℕ → Component → Message
heard_of message cause c =
    record {
      kind = message;
      cause = cause;
      component = component_of c.kind c.item;
      parts = c.parts;
      calling = number_of c.calling;
      called = number_of c.called;
      duration = c.duration;
    }

unfoldable pub received_of : ℕ → ℕ → Component → Event
received_of message cause c = Received (heard_of message cause c)

-- 01: "component 0 none"; it has no identifier
unfoldable pub no_component : Component
no_component = record { kind = 0; item = 0; parts = 0; calling = absent_number; called = absent_number; duration = 0; id = no_name }

-- a message without a component
unfoldable pub alone_of : ℕ → ℕ → Event
alone_of message cause = received_of message cause no_component

-- ---- to the wire

-- of a count below 128 nothing is cut off
unfoldable pub party_of : Number → Party
party_of n = record { count = count_byte n.nature n.count % 256; value = n.value }

-- the component that a message carries, with its identifier
unfoldable pub carried_of : Message → ℕ → Component
carried_of m id =
    record {
      kind = code_of m.component;
      item = item_of m.component;
      parts = m.parts;
      calling = party_of m.calling;
      called = party_of m.called;
      duration = m.duration;
      id = id;
    }

-- the component of the message that a row sends: the kind and cause of the message are not the component's
unfoldable pub sent_of : Note → ℕ → Component
sent_of n id = carried_of (message_of 0 0 n) id
