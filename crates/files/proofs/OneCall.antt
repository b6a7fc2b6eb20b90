-- A file of plain records lists as one call does: its board is the one slot 0, and no line has a slot.
-- Assumes nothing.
use Rattle.std.proofs.Common.{◌≡◌, ℕ, zero, suc, ◌+◌, Bool, true, false, ◌||◌, List, ◌∷◌, ◌++◌, length, sym, refl, ap, ◌∙◌, arith}
use mathlib.Core.Option.{some}
use lib.ListN.{get_elem?}
use Rattle.text.specs.Text.{ascii}
use Rattle.text.proofs.Cases.{both_lt}
use Rattle.rows.specs.Perform.{refused_of}
use Rattle.rows.specs.Step.{step_of, unopened_call}
use Rattle.rows.specs.declared.Call.{Call}
use Rattle.rows.specs.declared.Event.{Event}
use Rattle.rows.specs.declared.Outcome.{Outcome}
use Rattle.rows.proofs.Truth.{differ}
use Rattle.board.specs.Row.{answer_at, row_after, empty_row}
use Rattle.board.proofs.Laws.{placed_is, answer_is, own_slot}
use Rattle.board.proofs.Runs.{empty_slot}
use Rattle.files.specs.Bodies.{Reading, read_at}
use Rattle.files.specs.Frames.{stop_number}
use Rattle.files.specs.Lines.{record_text}
use Rattle.files.specs.Listing.{slot_of, is_slot, slot_found, names_slot, answer_by, row_by, rest_of, records_of, listing_by, names_in, names_slots, listing_of}
use Rattle.files.specs.Places.{place_after, places_from, places_of}
use Rattle.files.specs.Shown.{and_then, contents_from, contents_of, events_in, one_rest, one_listing}
use Rattle.files.specs.declared.Where.{Where}
use Rattle.files.proofs.Shown.{Stands, stands, past, no_places}
use Rattle.std.specs.Prelude.{None, Some, Ok, Err}

neither : (a b : Bool) → (a || b) ≡ false → (a ≡ false) × (b ≡ false)
neither true b h = differ (sym h)
neither false b h = (refl, h)

-- the records from a place on, k at most, none of which names a slot: a row whose slot 0 has the call c lists them as c does
abbrev AsOne : ℕ → List ℕ → ℕ → Type 0
AsOne k s at = (n : ℕ) (row : List Call) (c : Call) → get_elem? row 0 ≡ some c → names_in s (places_from k s at) ≡ false →
    rest_of s false n row (places_from k s at) ≡ one_rest n c (events_in (contents_from k s at).entries) (contents_from k s at).ending

module _ (k : ℕ) (s : List ℕ) (more : (at : ℕ) → AsOne k s at) where
  by_acts : (w : Where) (e : Event) (next n : ℕ) (row : List Call) (c : Call) → get_elem? row 0 ≡ some c →
      is_slot w ≡ false → names_in s (places_from k s next) ≡ false →
      record_text (n + 1) false (slot_of w) (answer_at row (slot_of w) e) ++ rest_of s false (n + 1) (row_after row (slot_of w) e) (places_from k s next)
      ≡ one_rest n c (e ∷ events_in (contents_from k s next).entries) (contents_from k s next).ending
  unfolding rest_of one_rest
  by_acts Where.Plain e next n row c h u v =
      let rest = rest_of s false (n + 1) (row_after row 0 e) (places_from k s next) in
      ap (λ (o : Outcome). record_text (n + 1) false 0 o ++ rest) (answer_is row 0 e c (omega arith) h)
      ∙ ap (λ (l : List ℕ). record_text (n + 1) false 0 (step_of c e) ++ l)
      (more next (n + 1) (row_after row 0 e) (step_of c e).call (own_slot row 0 e c (omega arith) h) v)
  by_acts (Where.Slot i) e next n row c h u v = differ (sym u)

  by_read : (found : Reading) → Stands found → (n : ℕ) (row : List Call) (c : Call) → get_elem? row 0 ≡ some c →
      names_slot found ≡ false → names_in s (places_from k s (place_after found (length s))) ≡ false →
      record_text (n + 1) false (slot_found found) (answer_by found row) ++ rest_of s false (n + 1) (row_by found row) (places_from k s (place_after found (length s)))
      ≡ one_rest n c (events_in (and_then found (contents_from k s)).entries) (and_then found (contents_from k s)).ending
  unfolding rest_of place_after one_rest
  by_read None t n row c h u v = absurd t
  by_read (Some (Err stop)) t n row c h u v =
      let m = stop_number stop in
      ap (λ (d : Call). record_text (n + 1) false 0 (refused_of m d) ++ rest_of s false (n + 1) row (places_from k s (length s))) (placed_is row 0 unopened_call c h)
      ∙ ap (λ (ps : List ℕ). record_text (n + 1) false 0 (refused_of m c) ++ rest_of s false (n + 1) row ps) (no_places k s (length s) (omega arith))
  by_read (Some (Ok found)) t n row c h u v = by_acts found.acts found.event found.next n row c h u v

as_one : (k : ℕ) (s : List ℕ) (at : ℕ) → AsOne k s at
unfolding rest_of places_from contents_from names_in one_rest
as_one zero s at n row c h = λ v. refl
as_one (suc k) s at n row c h =
    both_lt at (length s)
    (λ (ps : List ℕ). names_in s ps ≡ false →
    rest_of s false n row ps ≡ one_rest n c (events_in (and_then (read_at s at) (contents_from k s)).entries) (and_then (read_at s at) (contents_from k s)).ending)
    _ _
    (λ g v.
    let w = neither (names_slot (read_at s at)) _ v in
    by_read k s (as_one k s) (read_at s at) (stands s at g) n row c h w.0 w.1)
    (λ g v. ap (λ (found : Reading). one_rest n c (events_in (and_then found (contents_from k s)).entries) (and_then found (contents_from k s)).ending) (past s at g))

-- A file in which no record names a slot lists as one call does: each event is answered by the call that the events before it reach.
pub plain_lists_as_one : (s : List ℕ) → names_slots s ≡ false → listing_of s ≡ one_listing (events_in (contents_of s).entries) (contents_of s).ending
unfolding listing_of listing_by records_of names_slots places_of contents_of one_listing
plain_lists_as_one s h =
    ap (λ (b : Bool). ascii "REV 1\n" ++ rest_of s b 0 empty_row (places_from (length s) s 0)) h
    ∙ ap (λ (l : List ℕ). ascii "REV 1\n" ++ l) (as_one (length s) s 0 0 empty_row unopened_call (empty_slot 0 (omega arith)) h)
