-- What a file holds, and what its listing shows of it: said by the entries alone, with the row that they reach. proofs/Billed.antt proves
-- that the listing is the text of this, and that the meters on a slot's line are the bill of that slot's own events.
-- Assumes nothing.
use Rattle.std.specs.Prelude.{◌≡◌, ℕ, zero, suc, ◌+◌, ◌≤◌, Bool, false, ◌&&◌, ◌||◌, List, [], ◌∷◌, ◌++◌, length, take, nat_le, slice_index_or, None, Some, Ok, Err}
use Rattle.std.proofs.Math.Option.{some}
use Rattle.std.proofs.Math.ListN.{get_elem?}
use Rattle.meters.specs.declared.Payer.TheVariants.{Caller, Called, Far}
use Rattle.text.specs.Choose.{if_eq}
use Rattle.text.specs.Text.{ascii, decimal, numbered}
use Rattle.rows.specs.Bill.{Step, bill, owed}
use Rattle.rows.specs.Numbers.{applied}
use Rattle.rows.specs.Perform.{refused_of}
use Rattle.rows.specs.Step.{step_of, unopened_call}
use Rattle.rows.specs.declared.Call.{Call}
use Rattle.rows.specs.declared.Event.{Event}
use Rattle.rows.specs.declared.Outcome.{Outcome}
use Rattle.board.specs.Row.{Named, answer_at, run_row, own_of, empty_row}
use Rattle.files.specs.Bodies.{Reading, read_at}
use Rattle.files.specs.Frames.{stop_number}
use Rattle.files.specs.Lines.{slot_text, stand_text, actions_text, numbered_line, record_text}
use Rattle.files.specs.Listing.{slot_of}
use Rattle.files.specs.Typed.{Entry}

-- ---- What a file holds: entries, and how it ends

-- after a record; or at a record that cannot be read, with its number
pub data Ending : Type 0 where
  whole : Ending
  unread : ℕ → Ending

pub record Contents : Type 0 where
  pub entries : List Entry
  pub ending : Ending

-- what was found at a place, and then what the file holds from the next place on
abbrev pub and_then : Reading → (ℕ → Contents) → Contents
and_then None rest = record { entries = []; ending = whole }
and_then (Some (Err e)) rest = record { entries = []; ending = unread (stop_number e) }
and_then (Some (Ok r)) rest =
    record {
      entries = record { acts = r.acts; event = r.event } ∷ (rest r.next).entries;
      ending = (rest r.next).ending;
    }

-- from a place on, k records at most
unfoldable pub contents_from : ℕ → List ℕ → ℕ → Contents
contents_from zero s at = record { entries = []; ending = whole }
contents_from (suc k) s at = and_then (read_at s at) (contents_from k s)

-- a record has a byte at least, so a file of n bytes has at most n
unfoldable pub contents_of : List ℕ → Contents
contents_of s = contents_from (length s) s 0

abbrev pub entries_of : List ℕ → List Entry
entries_of s = (contents_of s).entries

-- ---- The row that entries reach, from a row in which no call is opened; and the events of one slot

abbrev pub named_all : List Entry → List Named
named_all [] = []
named_all (x ∷ xs) = record { slot = slot_of x.acts; event = x.event } ∷ named_all xs

unfoldable pub row_at : List Entry → List Call
row_at xs = run_row empty_row (named_all xs)

-- those that act at the slot i: plain ones at 0
unfoldable pub own_events : ℕ → List Entry → List Event
own_events i xs = own_of i (named_all xs)

-- ---- What its listing shows: a record is its ordinal, its slot and the answer to it

pub record Shown : Type 0 where
  pub ordinal : ℕ
  pub slot : ℕ
  pub answer : Outcome

-- after these entries, a record that cannot be read: refused with its number, by slot 0
abbrev pub last_shown : List Entry → Ending → List Shown
last_shown before whole = []
last_shown before (unread n) =
    record { ordinal = length before + 1; slot = 0; answer = refused_of n (slice_index_or (row_at before) 0 unopened_call) } ∷ []

-- after these entries, those: each is answered by the row that the entries before it reach
abbrev pub shown_after : List Entry → List Entry → Ending → List Shown
shown_after before [] ending = last_shown before ending
shown_after before (x ∷ xs) ending =
    record { ordinal = length before + 1; slot = slot_of x.acts; answer = answer_at (row_at before) (slot_of x.acts) x.event }
    ∷ shown_after (before ++ (x ∷ [])) xs ending

unfoldable pub shown_of : List ℕ → List Shown
shown_of s = shown_after [] (contents_of s).entries (contents_of s).ending

-- with slots or without
abbrev pub shown_text : Bool → List Shown → List ℕ
shown_text shown [] = []
shown_text shown (x ∷ xs) = record_text x.ordinal shown x.slot x.answer ++ shown_text shown xs

-- ---- An answer o to the k-th record, k from 0, at the slot i

-- the answer to the k-th entry, of the row that the entries before it reach
abbrev pub AnswersEntry : List ℕ → ℕ → ℕ → Outcome → Type 0
AnswersEntry s k i o =
    (x : Entry) × (get_elem? (entries_of s) k ≡ some x) × (i ≡ slot_of x.acts) × (o ≡ answer_at (row_at (take k (entries_of s))) i x.event)

-- after all entries, the refusal of a record that cannot be read: the 5, 6 or 7 with which the file ends, slot 0 and its call as it stood
abbrev pub RefusesRecord : List ℕ → ℕ → ℕ → Outcome → Type 0
RefusesRecord s k i o =
    (n : ℕ) × (5 ≤ n) × (n ≤ 7) × ((contents_of s).ending ≡ unread n) × (k ≡ length (entries_of s)) × (i ≡ 0) × (o ≡ refused_of n (slice_index_or (row_at (entries_of s)) 0 unopened_call))

-- ---- A record's text with its meters taken from the bill, and not from the call

-- "caller, called, far": what each owes on the bill of these steps, f being the opening's flags
unfoldable pub bill_text : ℕ → List Step → List ℕ
bill_text f h =
    numbered (ascii " ") (owed Caller (bill f h))
    ++ numbered (ascii " ") (owed Called (bill f h))
    ++ numbered (ascii " ") (owed Far (bill f h))

-- "its ordinal, number, phase, REV state, caller, called, far; then its actions"
unfoldable pub billed_text : Bool → Shown → ℕ → List Step → List ℕ
billed_text shown x f h =
    decimal x.ordinal ++ slot_text shown x.slot ++ numbered (ascii " ") x.answer.number ++ stand_text x.answer.call.stand
    ++ bill_text f h ++ ascii "\n"
    ++ if_eq x.answer.number applied (actions_text x.answer) []

-- ---- One call. What a listing is of a call that has no board: each event is answered by the one call that those before it reach

abbrev pub events_in : List Entry → List Event
events_in [] = []
events_in (x ∷ xs) = x.event ∷ events_in xs

unfoldable pub one_rest : ℕ → Call → List Event → Ending → List ℕ
one_rest n c [] whole = numbered_line (ascii "END ") n
one_rest n c [] (unread k) = record_text (n + 1) false 0 (refused_of k c) ++ numbered_line (ascii "END ") (n + 1)
one_rest n c (e ∷ es) ending = record_text (n + 1) false 0 (step_of c e) ++ one_rest (n + 1) (step_of c e).call es ending

unfoldable pub one_listing : List Event → Ending → List ℕ
one_listing es ending = ascii "REV 1\n" ++ one_rest 0 unopened_call es ending

-- The numbers that a line may give back: 0 to 7, 15 to 17, 19 and 20. 8 is of the whole listing, 9 and 21 are a host's, and 11 to 14 the wire's
abbrev pub on_a_line : ℕ → Bool
on_a_line n = nat_le n 7 || ((nat_le 15 n && nat_le n 17) || (nat_le 19 n && nat_le n 20))
