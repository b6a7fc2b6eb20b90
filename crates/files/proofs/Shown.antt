-- What a listing shows of a file is what specs/Shown.antt says: the bytes of the listing, and each record shown.
-- Assumes nothing.
use Rattle.std.proofs.Common.{◌≡◌, ℕ, zero, suc, ◌+◌, ◌<◌, ◌≤◌, Bool, eqb, ◌⊎◌, List, [], ◌∷◌, ◌++◌, length, get_or, take, sym, refl, ap, ◌∙◌, subst, inl, inr, append_assoc, append-nil, add-zero, add-suc, zero-add, add-one, arith, length-append, take_all, eq-eqb, ne_eqb}
use mathlib.Core.Option.{some}
use lib.ListN.{get_elem?}
use lib.Seq.{append_snoc}
use Rattle.text.specs.Text.{ascii}
use Rattle.text.proofs.Cases.{no_lt, yes_le, both_lt, both_le}
use Rattle.rows.specs.Bill.{pick}
use Rattle.rows.specs.History.{run}
use Rattle.rows.specs.Perform.{refused_of}
use Rattle.rows.specs.Step.{step_of, unopened_call}
use Rattle.rows.specs.declared.Call.{Call}
use Rattle.rows.specs.declared.Event.{Event}
use Rattle.rows.specs.declared.Outcome.{Outcome}
use Rattle.board.specs.Row.{Named, no_slot, answer_at, row_after, run_row, own_of, empty_row}
use Rattle.board.proofs.Laws.{some_is, none_is_not, placed_is}
use Rattle.board.proofs.Runs.{run_append, own_append, empty_slot}
use Rattle.board.proofs.Theorems.{past_63, slot_answers, program_slots}
use Rattle.files.specs.Bodies.{read_by, read_at}
use Rattle.files.specs.Frames.{frame_at}
use Rattle.files.specs.Lines.{numbered_line, record_text}
use Rattle.files.specs.Listing.{slot_of, slot_found, answer_by, row_by, rest_of, records_of, listing_by, names_slots, listing_of}
use Rattle.files.specs.Places.{place_after, places_from, places_of}
use Rattle.files.specs.Shown.{Ending, whole, unread, Contents, and_then, contents_from, contents_of, entries_of, named_all, row_at, own_events}
use Rattle.files.specs.Shown.{Shown, shown_after, shown_of, shown_text, AnswersEntry, RefusesRecord}
use Rattle.files.specs.Typed.{Entry}
use Rattle.files.specs.Frames.{stop_number, Framing}
use Rattle.files.specs.Bodies.{Reading}
use Rattle.files.proofs.Records.{Within, read_within}
use Rattle.files.proofs.Unread.{unread_number}
use Rattle.std.specs.Prelude.{None, Some, Ok, Err}

-- ---- Where something stands

-- within the file something stands
abbrev pub Stands : Reading → Type 0
Stands None = ⊥
Stands (Some (Err n)) = Unit {0}
Stands (Some (Ok found)) = Unit {0}

by_frame : (s : List ℕ) (at : ℕ) (f : Framing) → Stands (Some (read_by s at f))
by_frame s at (Err n) = tt
by_frame s at (Ok body) = tt

pub stands : (s : List ℕ) (at : ℕ) → at < length s → Stands (read_at s at)
unfolding read_at
stands s at h = both_le (length s) at Stands _ _ (λ g. absurd (omega arith)) (λ _. by_frame s at (frame_at s at))

pub past : (s : List ℕ) (at : ℕ) → length s ≤ at → None ≡ read_at s at
unfolding read_at
past s at h = yes_le _ _ _ _ _ h refl

pub no_places : (k : ℕ) (s : List ℕ) (at : ℕ) → length s ≤ at → places_from k s at ≡ []
unfolding places_from
no_places zero s at h = refl
no_places (suc k) s at h = sym (no_lt _ _ _ _ _ h refl)

-- ---- No record is left out

by_place : (k : ℕ) (s : List ℕ) (at : ℕ) (found : Reading) → Within (length s) at found → length s ≤ at + suc k →
    ((next : ℕ) → length s ≤ next + k → contents_from (suc k) s next ≡ contents_from k s next) →
    and_then found (contents_from (suc k) s) ≡ and_then found (contents_from k s)
by_place k s at None w h i = refl
by_place k s at (Some (Err n)) w h i = refl
by_place k s at (Some (Ok found)) w h i =
    ap (λ (x : Contents). record { entries = record { acts = found.acts; event = found.event } ∷ x.entries; ending = x.ending }) (i found.next (omega (arith, w.0, h)))

one_enough : (k : ℕ) (s : List ℕ) (at : ℕ) → length s ≤ at + k → contents_from (suc k) s at ≡ contents_from k s at
unfolding contents_from
one_enough zero s at h = ap (λ (found : Reading). and_then found (contents_from 0 s)) (sym (past s at (omega arith)))
one_enough (suc k) s at h = by_place k s at (read_at s at) (read_within s at) h (one_enough k s)

-- Whoever looks for more records than a file has bytes finds no more.
pub all_read : (s : List ℕ) (k : ℕ) → contents_from (length s + k) s 0 ≡ contents_of s
unfolding contents_of
all_read s zero = ap (λ (n : ℕ). contents_from n s 0) (add-zero (length s))
all_read s (suc k) = ap (λ (n : ℕ). contents_from n s 0) (add-suc (length s) k) ∙ one_enough (length s + k) s 0 (omega arith) ∙ all_read s k

-- ---- The row that entries reach, an entry more

abbrev named : Entry → Named
named x = record { slot = slot_of x.acts; event = x.event }

named_on : (xs : List Entry) (x : Entry) → named_all (xs ++ (x ∷ [])) ≡ named_all xs ++ (named x ∷ [])
named_on [] x = refl
named_on (y ∷ xs) x = ap (λ (ns : List Named). named y ∷ ns) (named_on xs x)

row_on : (xs : List Entry) (x : Entry) → row_at (xs ++ (x ∷ [])) ≡ row_after (row_at xs) (slot_of x.acts) x.event
unfolding row_at
row_on xs x = ap (run_row empty_row) (named_on xs x) ∙ run_append empty_row (named_all xs) (named x ∷ [])

one_more : (xs : List Entry) (x : Entry) → length (xs ++ (x ∷ [])) ≡ length xs + 1
one_more xs x = length-append xs (x ∷ [])

-- ---- The listing's bytes

-- what is shown after `before`, and END with the count, n of the records being before
abbrev text_after : Bool → List Entry → ℕ → Contents → List ℕ
text_after slots before n x =
    shown_text slots (shown_after before x.entries x.ending)
    ++ numbered_line (ascii "END ") (n + length (shown_after before x.entries x.ending))

-- a record and what comes after it, by what was found
abbrev turn : List ℕ → Bool → ℕ → List Call → Reading → List ℕ → List ℕ
turn s slots n row found places =
    record_text (n + 1) slots (slot_found found) (answer_by found row) ++ rest_of s slots (n + 1) (row_by found row) places

-- the records from a place on, k at most, are shown so
abbrev RestShown : ℕ → List ℕ → Bool → ℕ → List Entry → Type 0
RestShown k s slots at before =
    rest_of s slots (length before) (row_at before) (places_from k s at) ≡ text_after slots before (length before) (contents_from k s at)

module _ (k : ℕ) (s : List ℕ) (slots : Bool) (more : (at : ℕ) (before : List Entry) → RestShown k s slots at before) where
  by_read : (found : Reading) (before : List Entry) → Stands found →
      turn s slots (length before) (row_at before) found (places_from k s (place_after found (length s)))
      ≡ text_after slots before (length before) (and_then found (contents_from k s))
  unfolding rest_of place_after
  by_read None before h = absurd h
  by_read (Some (Err n)) before h =
      let t = record_text (length before + 1) slots 0 (refused_of (stop_number n) (get_or (row_at before) 0 unopened_call)) in
      ap (λ (ps : List ℕ). t ++ rest_of s slots (length before + 1) (row_at before) ps) (no_places k s (length s) (omega arith))
      ∙ ap (λ (u : List ℕ). u ++ numbered_line (ascii "END ") (length before + 1)) (sym (append-nil t))
  by_read (Some (Ok found)) before h =
      let y : Entry = record { acts = found.acts; event = found.event } in
      let t = record_text (length before + 1) slots (slot_of found.acts) (answer_at (row_at before) (slot_of found.acts) found.event) in
      let d = before ++ (y ∷ []) in
      let x = contents_from k s found.next in
      let shown = shown_after d x.entries x.ending in
      ap (λ (n : ℕ). t ++ rest_of s slots n (row_after (row_at before) (slot_of found.acts) found.event) (places_from k s found.next)) (sym (one_more before y))
      ∙ ap (λ (row : List Call). t ++ rest_of s slots (length d) row (places_from k s found.next)) (sym (row_on before y))
      ∙ ap (λ (u : List ℕ). t ++ u) (more found.next d)
      ∙ sym (append_assoc t (shown_text slots shown) (numbered_line (ascii "END ") (length d + length shown)))
      ∙ ap (λ (n : ℕ). t ++ shown_text slots shown ++ numbered_line (ascii "END ") n) (omega (arith, one_more before y))

rest_shown : (k : ℕ) (s : List ℕ) (slots : Bool) (at : ℕ) (before : List Entry) → RestShown k s slots at before
unfolding rest_of places_from contents_from
rest_shown zero s slots at before = ap (numbered_line (ascii "END ")) (sym (add-zero (length before)))
rest_shown (suc k) s slots at before =
    both_lt at (length s)
    (λ (ps : List ℕ).
    rest_of s slots (length before) (row_at before) ps ≡ text_after slots before (length before) (and_then (read_at s at) (contents_from k s)))
    _ _ (λ h. by_read k s slots (rest_shown k s slots) (read_at s at) before (stands s at h))
    (λ h.
    ap (numbered_line (ascii "END ")) (sym (add-zero (length before)))
    ∙ ap (λ (found : Reading). text_after slots before (length before) (and_then found (contents_from k s))) (past s at h))

-- The listing of a file is its header, the text of each record shown, and END with their count; with slots on all lines or on none.
pub listing_shown : (s : List ℕ) →
    listing_of s ≡ ascii "REV 1\n" ++ shown_text (names_slots s) (shown_of s) ++ numbered_line (ascii "END ") (length (shown_of s))
unfolding listing_of listing_by records_of places_of contents_of shown_of row_at
listing_shown s =
    let shown = shown_after [] (contents_of s).entries (contents_of s).ending in
    ap (λ (t : List ℕ). ascii "REV 1\n" ++ t) (rest_shown (length s) s (names_slots s) 0 [])
    ∙ ap (λ (n : ℕ). ascii "REV 1\n" ++ shown_text (names_slots s) shown ++ numbered_line (ascii "END ") n) (zero-add (length shown))

-- ---- The k-th record shown, k from 0

pub some_some : {A : Type 0} (P : A → Type 0) (y x : A) → some y ≡ some x → P y → P x
some_some P y x h p = subst P (some_is h) p

-- the answer to the k-th entry, by the row that the entries before it reach
abbrev ByEntry : List Entry → List Entry → ℕ → ℕ → Outcome → Type 0
ByEntry before xs k i o =
    (x : Entry) × (get_elem? xs k ≡ some x) × (i ≡ slot_of x.acts) × (o ≡ answer_at (row_at (before ++ take k xs)) i x.event)

-- after all entries, the refusal of a record that cannot be read
abbrev ByEnding : List Entry → List Entry → Ending → ℕ → ℕ → Outcome → Type 0
ByEnding before xs ending k i o =
    (n : ℕ) × (ending ≡ unread n) × (k ≡ length xs) × (i ≡ 0) × (o ≡ refused_of n (get_or (row_at (before ++ xs)) 0 unopened_call))

abbrev Kth : List Entry → List Entry → Ending → ℕ → Shown → Type 0
Kth before xs ending k x =
    (x.ordinal ≡ length before + k + 1) × (ByEntry before xs k x.slot x.answer ⊎ ByEnding before xs ending k x.slot x.answer)

after_one : (before xs : List Entry) (y : Entry) (ending : Ending) (k i : ℕ) (o : Outcome) →
    ByEntry (before ++ (y ∷ [])) xs k i o ⊎ ByEnding (before ++ (y ∷ [])) xs ending k i o →
    ByEntry before (y ∷ xs) (suc k) i o ⊎ ByEnding before (y ∷ xs) ending (suc k) i o
after_one before xs y ending k i o (inl (d, g, p, q)) =
    inl (d, g, p, q ∙ ap (λ (ds : List Entry). answer_at (row_at ds) i d.event) (append_snoc before y (take k xs)))
after_one before xs y ending k i o (inr (n, g, l, p, q)) =
    inr (n, g, ap suc l, p, q ∙ ap (λ (ds : List Entry). refused_of n (get_or (row_at ds) 0 unopened_call)) (append_snoc before y xs))

kth : (before xs : List Entry) (ending : Ending) (k : ℕ) (x : Shown) →
    get_elem? (shown_after before xs ending) k ≡ some x → Kth before xs ending k x
kth before [] whole k x h = none_is_not h
kth before [] (unread n) zero x h =
    some_some (Kth before [] (unread n) 0) _ x h
    (omega arith, inr (n, refl, refl, refl, ap (λ (ds : List Entry). refused_of n (get_or (row_at ds) 0 unopened_call)) (sym (append-nil before))))
kth before [] (unread n) (suc k) x h = none_is_not h
kth before (y ∷ xs) ending zero x h =
    some_some (Kth before (y ∷ xs) ending 0) _ x h
    (omega arith, inl (y, refl, refl, ap (λ (ds : List Entry). answer_at (row_at ds) (slot_of y.acts) y.event) (sym (append-nil before))))
kth before (y ∷ xs) ending (suc k) x h =
    let i = kth (before ++ (y ∷ [])) xs ending k x h in
    (omega (arith, i.0, one_more before y), after_one before xs y ending k x.slot x.answer i.1)

-- The k-th record shown has the ordinal k + 1, and answers the k-th entry at its slot; or, after all entries, refuses a record that cannot be
-- read.
pub kth_shown : (s : List ℕ) (k : ℕ) (x : Shown) → get_elem? (shown_of s) k ≡ some x →
    (x.ordinal ≡ k + 1) × (AnswersEntry s k x.slot x.answer ⊎ RefusesRecord s k x.slot x.answer)
unfolding shown_of
kth_shown s k x h = let i = kth [] (entries_of s) (contents_of s).ending k x h in (omega (arith, i.0), told i.1)
  where
    told : {i : ℕ} {o : Outcome} → ByEntry [] (entries_of s) k i o ⊎ ByEnding [] (entries_of s) (contents_of s).ending k i o →
        AnswersEntry s k i o ⊎ RefusesRecord s k i o
    told (inl i) = inl i
    told (inr (n, g, l, p, q)) = inr (n, (unread_number s n g).0, (unread_number s n g).1, g, l, p, q)

-- ---- A slot's call is the one that its own events reach

pub slot_call : (xs : List Entry) (i : ℕ) (d : Call) → i < 64 → get_or (row_at xs) i d ≡ run unopened_call (own_events i xs)
unfolding row_at own_events
slot_call xs i d h = placed_is (run_row empty_row (named_all xs)) i d _ (program_slots (named_all xs) i h).0

pub slot_answer : (xs : List Entry) (i : ℕ) (e : Event) → i < 64 → answer_at (row_at xs) i e ≡ step_of (run unopened_call (own_events i xs)) e
unfolding row_at own_events
slot_answer xs i e h = slot_answers empty_row (named_all xs) i e unopened_call h (empty_slot i h)

-- an entry of that slot more
run_one : (c : Call) (es : List Event) (e : Event) → run c (es ++ (e ∷ [])) ≡ (step_of (run c es) e).call
run_one c [] e = refl
run_one c (d ∷ es) e = run_one (step_of c d).call es e

own_more : (i : ℕ) (xs : List Entry) (x : Entry) → i ≡ slot_of x.acts → own_events i (xs ++ (x ∷ [])) ≡ own_events i xs ++ (x.event ∷ [])
unfolding own_events
own_more i xs x h =
    ap (own_of i) (named_on xs x) ∙ own_append i (named_all xs) (named x ∷ [])
    ∙ ap (λ (b : Bool). own_of i (named_all xs) ++ pick b (x.event ∷ []) []) (eq-eqb (slot_of x.acts) i (sym h))

take_one : (xs : List Entry) (k : ℕ) (x : Entry) → get_elem? xs k ≡ some x → take (suc k) xs ≡ take k xs ++ (x ∷ [])
take_one [] k x h = none_is_not h
take_one (y ∷ xs) zero x h = some_some (λ (z : Entry). y ∷ [] ≡ z ∷ []) y x h refl
take_one (y ∷ xs) (suc k) x h = ap (λ (l : List Entry). y ∷ l) (take_one xs k x h)

-- The call of the k-th record shown, at a slot, is the one that this slot's own events up to it reach ..
pub kth_call : (s : List ℕ) (k i : ℕ) (o : Outcome) → i < 64 → AnswersEntry s k i o ⊎ RefusesRecord s k i o →
    o.call ≡ run unopened_call (own_events i (take (k + 1) (entries_of s)))
kth_call s k i o u (inl (x, h, p, q)) =
    let xs = take k (entries_of s) in
    ap (λ (a : Outcome). a.call) (q ∙ slot_answer xs i x.event u) ∙ sym (run_one unopened_call (own_events i xs) x.event)
    ∙ ap (run unopened_call) (sym (own_more i xs x p)) ∙ ap (λ (l : List Entry). run unopened_call (own_events i l)) (sym (take_one (entries_of s) k x h))
    ∙ ap (λ (j : ℕ). run unopened_call (own_events i (take j (entries_of s)))) (sym (add-one k))
kth_call s k i o u (inr (n, a, b, g, m, p, q)) =
    ap (λ (a : Outcome). a.call) q ∙ slot_call (entries_of s) 0 unopened_call (omega arith) ∙ ap (λ (j : ℕ). run unopened_call (own_events j (entries_of s))) (sym p)
    ∙ ap (λ (l : List Entry). run unopened_call (own_events i l)) (sym (take_all (k + 1) (entries_of s) (omega arith)))

-- .. and where there is no such slot, the answer is 19 with an unopened call.
pub kth_past : (s : List ℕ) (k i : ℕ) (o : Outcome) → 64 ≤ i → AnswersEntry s k i o ⊎ RefusesRecord s k i o → o ≡ no_slot
kth_past s k i o u (inl (x, h, p, q)) = q ∙ (past_63 (row_at (take k (entries_of s))) i x.event u).0
kth_past s k i o u (inr (n, a, b, g, m, p, q)) = absurd (omega (arith, u, p))

-- past the last entry there is none
none_past : (xs : List Entry) (x : Entry) → get_elem? xs (length xs) ≡ some x → ⊥
none_past [] x h = none_is_not h
none_past (y ∷ xs) x h = none_past xs x h

-- An entry is answered by the call that its slot's own events before it reach.
pub kth_own : (s : List ℕ) (k i : ℕ) (o : Outcome) → i < 64 → AnswersEntry s k i o ⊎ RefusesRecord s k i o →
    (y : Entry) → get_elem? (entries_of s) k ≡ some y → o ≡ step_of (run unopened_call (own_events i (take k (entries_of s)))) y.event
kth_own s k i o u (inl (x, h, p, q)) y g =
    q ∙ slot_answer (take k (entries_of s)) i x.event u
    ∙ some_some (λ (z : Entry). step_of (run unopened_call (own_events i (take k (entries_of s)))) x.event ≡ step_of (run unopened_call (own_events i (take k (entries_of s)))) z.event)
    x y (sym h ∙ g) refl
kth_own s k i o u (inr (n, a, b, w, l, m, q)) y g = absurd (none_past (entries_of s) y (subst (λ (j : ℕ). get_elem? (entries_of s) j ≡ some y) l g))

-- ---- The last record shown of a slot

-- after the k-th no record is shown of the slot i
abbrev pub Last : List ℕ → ℕ → ℕ → Type 0
Last s k i = (j : ℕ) (y : Shown) → k < j → get_elem? (shown_of s) j ≡ some y → y.slot ≡ i → ⊥

-- each entry is shown, at its slot
entry_shown : (before xs : List Entry) (ending : Ending) (j : ℕ) (x : Entry) → get_elem? xs j ≡ some x →
    (y : Shown) × (get_elem? (shown_after before xs ending) j ≡ some y) × (y.slot ≡ slot_of x.acts)
entry_shown before [] ending j x h = none_is_not h
entry_shown before (z ∷ xs) ending zero x h = (
  record { ordinal = length before + 1; slot = slot_of z.acts; answer = answer_at (row_at before) (slot_of z.acts) z.event },
  refl,
  some_some (λ (w : Entry). slot_of z.acts ≡ slot_of w.acts) z x h refl,
)
entry_shown before (z ∷ xs) ending (suc j) x h = entry_shown (before ++ (z ∷ [])) xs ending j x h

-- from a place on no entry acts at the slot
abbrev Beyond : List Entry → ℕ → ℕ → Type 0
Beyond xs k i = (j : ℕ) (x : Entry) → k ≤ j → get_elem? xs j ≡ some x → slot_of x.acts ≡ i → ⊥

own_taken : (i : ℕ) (xs : List Entry) (k : ℕ) → Beyond xs k i → own_events i (take k xs) ≡ own_events i xs
unfolding own_events
own_taken i [] zero h = refl
own_taken i [] (suc k) h = refl
own_taken i (x ∷ xs) zero h =
    own_taken i xs zero (λ j y g e. h (suc j) y (omega arith) e)
    ∙ ap (λ (b : Bool). pick b (x.event ∷ own_of i (named_all xs)) (own_of i (named_all xs))) (sym (ne_eqb (slot_of x.acts) i (h 0 x (omega arith) refl)))
own_taken i (x ∷ xs) (suc k) h =
    ap (λ (es : List Event). pick (eqb (slot_of x.acts) i) (x.event ∷ es) es) (own_taken i xs k (λ j y g e. h (suc j) y (omega (arith, g)) e))

-- so the slot's own events up to its last record are all that it has
pub last_own : (s : List ℕ) (k i : ℕ) → Last s k i → own_events i (take (k + 1) (entries_of s)) ≡ own_events i (entries_of s)
unfolding shown_of
last_own s k i l =
    own_taken i (entries_of s) (k + 1)
    (λ j x g h e.
    let y = entry_shown [] (entries_of s) (contents_of s).ending j x h in
    l j y.0 (omega (arith, g)) y.1 (y.2 ∙ e))
