-- From the bytes of a file to the bill (demand 3), for a host that calls `rev_listing`:
--
--   host_gets     its first n bytes are a header, the text of each record shown, and END with their count;
--   billed_line   the k-th record shown is the answer to the k-th entry at its slot, and its meters are what each payer owes on the bill of
--                 that slot's own events since its latest accepted opening: so for an originating call its text is written from the bill.
--
-- What a file holds and shows is defined in specs/Shown.antt, the bill in crates/rows/specs/Bill.antt.
-- Assumes nothing.
use Rattle.std.proofs.Common.{◌≡◌, ℕ, ◌+◌, ◌<◌, ◌≤◌, Bool, ◌⊎◌, List, ◌++◌, length, take, drop, sym, refl, ◌∙◌, subst, arith}
use mathlib.Core.Option.{some}
use lib.ListN.{get_elem?}
use lib.Seq.{take-append_seam, drop-append_seam}
use Rattle.text.specs.Text.{ascii}
use Rattle.text.proofs.Cases.{yes_lt, no_lt, both_lt}
use Rattle.rows.specs.Bill.{Step, line, originating}
use Rattle.rows.specs.History.{run, history}
use Rattle.rows.specs.Step.{step_of, unopened_call}
use Rattle.rows.specs.declared.Call.{Call}
use Rattle.rows.specs.declared.Event.{Event}
use Rattle.board.specs.Row.{no_slot}
use Rattle.rows.proofs.Opened.{Told, line_billed}
use Rattle.rows.proofs.Whole.{Shows}
use Rattle.files.specs.Fit.{longest, answers, leaves}
use Rattle.files.specs.Lines.{numbered_line, meters_text, line_text, record_text}
use Rattle.files.specs.Listing.{names_slots, listing_of}
use Rattle.files.specs.Typed.{Entry}
use Rattle.files.specs.Shown.{entries_of, own_events, Shown, shown_of, shown_text, AnswersEntry, RefusesRecord, bill_text, billed_text}
use Rattle.files.proofs.Eight.{listing_length, listing_eight}
use Rattle.files.proofs.Same.{Fitted}
use Rattle.files.proofs.Shown.{listing_shown, kth_shown, kth_own, kth_call, kth_past, Last, last_own}

-- ---- What a host gets

-- `rev_listing` gave n for the file s, and left the buffer `new` where `old` was
pub record Gets (s old : List ℕ) (n : ℕ) (new : List ℕ) : Type 0 where
  -- 8: the file or its listing is too long, and the buffer is as it was
  pub reason : n ≡ 8 → (65536 < length s) ⊎ (length old < length (listing_of s))
  pub refused : n ≡ 8 → new ≡ old
  -- any other n is the length of the listing
  pub size : (n ≡ 8 → ⊥) → n ≡ length (listing_of s)
  -- the first n bytes are the header, the text of each record shown, and END with their count
  pub listing : (n ≡ 8 → ⊥) → take n new ≡ ascii "REV 1\n" ++ shown_text (names_slots s) (shown_of s) ++ numbered_line (ascii "END ") (length (shown_of s))
  -- and the bytes past them stay
  pub beyond : (n ≡ 8 → ⊥) → drop n new ≡ drop n old

-- What a host gets by the contract of `rev_listing`, which is `Fitted s (listing_of s) old n new` (Contracts.antt).
pub host_gets : (s old : List ℕ) (n : ℕ) (new : List ℕ) → Fitted s (listing_of s) old n new → Gets s old n new
unfolding answers leaves
host_gets s old n new (e, f) =
    both_lt longest (length s) (λ (_ : ℕ). Gets s old n new) 0 0
    (λ p. not-given (e ∙ sym (yes_lt _ _ _ _ _ p refl)) (f ∙ sym (yes_lt _ _ _ _ _ p refl)))
    λ p.
    both_lt (length old) (length (listing_of s)) (λ (_ : ℕ). Gets s old n new) 0 0
    (λ q. not-given (e ∙ sym (no_lt _ _ _ _ _ p (yes_lt _ _ _ _ _ q refl))) (f ∙ sym (no_lt _ _ _ _ _ p (yes_lt _ _ _ _ _ q refl))))
    (λ q. given (e ∙ sym (no_lt _ _ _ _ _ p (no_lt _ _ _ _ _ q refl))) (f ∙ sym (no_lt _ _ _ _ _ p (no_lt _ _ _ _ _ q refl))))
  where
    not-given : n ≡ 8 → new ≡ old → Gets s old n new
    not-given p q =
        record {
          reason = λ g. (listing_eight s old).0 (sym e ∙ g);
          refused = λ _. q;
          size = λ g. absurd (g p);
          listing = λ g. absurd (g p);
          beyond = λ g. absurd (g p);
        }

    given : n ≡ length (listing_of s) → new ≡ listing_of s ++ drop (length (listing_of s)) old → Gets s old n new
    given p q =
        record {
          reason = λ g. (listing_eight s old).0 (sym e ∙ g);
          refused = λ g. absurd (omega (arith, listing_length s));
          size = λ _. p;
          listing = λ _. rw (p, q) (take-append_seam (listing_of s) (drop (length (listing_of s)) old) ∙ listing_shown s);
          beyond = λ _. rw (p, q) (drop-append_seam (listing_of s) (drop (length (listing_of s)) old));
        }

-- ---- The k-th record shown, k from 0

-- the history of the slot i up to the k-th record: the steps of its own events, from a call before its opening
abbrev pub own_history : List ℕ → ℕ → ℕ → List Step
own_history s k i = history unopened_call (own_events i (take (k + 1) (entries_of s)))

pub record Line (s : List ℕ) (k : ℕ) (x : Shown) : Type 0 where
  pub ordinal : x.ordinal ≡ k + 1
  -- the answer to the k-th entry; or, after all entries, the refusal of a record that cannot be read
  pub answer : AnswersEntry s k x.slot x.answer ⊎ RefusesRecord s k x.slot x.answer
  -- an entry is answered by the call that its slot's own events before it reach, and by nothing else
  pub own : (y : Entry) → get_elem? (entries_of s) k ≡ some y → x.slot < 64 →
      x.answer ≡ step_of (run unopened_call (own_events x.slot (take k (entries_of s)))) y.event
  -- where there is no such slot: 19 with an unopened call
  pub past : 64 ≤ x.slot → x.answer ≡ no_slot
  -- else its meters show the bill of that slot's own events up to it, from the latest accepted opening on (`line`, crates/rows/specs/Bill.antt;
  -- `Told`, crates/rows/proofs/Opened.antt): of an originating call each meter is what its payer owes, and they add up to the answered seconds;
  -- before an opening the call is as at first; of a destination's the caller's is 0, and the others add up to the seconds that its steps say
  pub meters : x.slot < 64 → Told x.answer.call (line (own_history s k x.slot))
  -- so where an originating call was opened with the flags f, and h are the steps after that opening, its text is written from the bill
  pub text : (f : ℕ) (h : List Step) → x.slot < 64 → line (own_history s k x.slot) ≡ originating f h →
      record_text x.ordinal (names_slots s) x.slot x.answer ≡ billed_text (names_slots s) x f h

told_text : (slots : Bool) (x : Shown) (f : ℕ) (h : List Step) → Shows x.answer.call f h →
    record_text x.ordinal slots x.slot x.answer ≡ billed_text slots x f h
unfolding record_text line_text meters_text billed_text bill_text
told_text slots x f h t = rw (t.caller, t.called, t.far)

told_line : (s : List ℕ) (k : ℕ) (x : Shown) → x.slot < 64 → AnswersEntry s k x.slot x.answer ⊎ RefusesRecord s k x.slot x.answer →
    Told x.answer.call (line (own_history s k x.slot))
told_line s k x u h =
    let es = own_events x.slot (take (k + 1) (entries_of s)) in
    subst (λ (c : Call). Told c (line (history unopened_call es))) (sym (kth_call s k x.slot x.answer u h)) (line_billed es)

-- Of every file, every record shown.
pub billed_line : (s : List ℕ) (k : ℕ) (x : Shown) → get_elem? (shown_of s) k ≡ some x → Line s k x
billed_line s k x g =
    let i = kth_shown s k x g in
    record {
      ordinal = i.0;
      answer = i.1;
      own = λ y h u. kth_own s k x.slot x.answer u i.1 y h;
      past = λ u. kth_past s k x.slot x.answer u i.1;
      meters = λ u. told_line s k x u i.1;
      text = λ f h u e. told_text (names_slots s) x f h (subst (Told x.answer.call) e (told_line s k x u i.1));
    }

-- Of the last record shown of a slot: its meters show the bill of all that slot's own events, from the latest accepted opening on.
pub last_line_billed : (s : List ℕ) (k : ℕ) (x : Shown) → get_elem? (shown_of s) k ≡ some x → x.slot < 64 → Last s k x.slot →
    Told x.answer.call (line (history unopened_call (own_events x.slot (entries_of s))))
last_line_billed s k x g u l =
    subst (λ (es : List Event). Told x.answer.call (line (history unopened_call es))) (last_own s k x.slot l) ((billed_line s k x g).meters u)
