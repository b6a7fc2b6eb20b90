-- The loops over the records of a file: what they keep, and what one turn does to it.
-- Assumes nothing.
use Rattle.std.proofs.Common.{◌≡◌, ℕ, zero, suc, ◌+◌, ◌-◌, ◌<◌, ◌≤◌, Bool, true, false, ◌||◌, ltb, List, [], ◌∷◌, ◌++◌, length, get_or, set, replicate, sym, refl, ap, ◌∙◌, subst, append_assoc, append-nil, arith}
use Rattle.text.specs.Page.{Wrote}
use Rattle.text.specs.Text.{ascii}
use Rattle.text.specs.declared.page.Page.{Page}
use Rattle.text.proofs.Cases.{yes_lt, no_lt, both_lt}
use Rattle.text.proofs.Writes.{wrote_none, wrote_after, wrote_as}
use Rattle.rows.proofs.Truth.{or_assoc}
use Rattle.rows.specs.Perform.{refused_of}
use Rattle.rows.specs.Step.{step_of, unopened_call}
use Rattle.board.specs.Numbers.{no_such_slot}
use Rattle.board.specs.Row.{empty_row}
use Rattle.rows.specs.declared.Call.{Call}
use Rattle.rows.specs.declared.Event.{Event}
use Rattle.rows.specs.declared.Outcome.{Outcome}
use Rattle.files.specs.Bodies.{event_at, body_at, read_by, read_at}
use Rattle.files.specs.Dump.{place_text, places_text, dump_of}
use Rattle.files.specs.Lines.{numbered_line, record_text}
use Rattle.files.specs.Listing.{slot_found, slot_framed, after_frame, names_slot, names_framed, answer_of, row_by, index_of, rest_of, records_of, listing_by, names_in, names_slots, listing_of}
use Rattle.files.specs.Places.{place_after, places_from, places_of, GoesOn}
use Rattle.files.specs.declared.places.Records.{Records}
use Rattle.std.specs.Iterator.{Yields, Drains}
use Rattle.std.specs.Borrow.{Bor}
use Rattle.files.specs.Frames.{frame_at}
use Rattle.files.specs.Frames.{stop_number, Framing, framed}
use Rattle.files.specs.Bodies.{Reading}
use Rattle.files.specs.declared.Where.{Where}
use Rattle.files.proofs.Held.{Holds, holds_other, answered}
use Rattle.files.proofs.Records.{Within, read_within, read_as}
use Rattle.std.specs.Prelude.{None, Some, Result as OkOrErr, Ok, Err}
use Rattle.files.specs.declared.Record.{Record}
use Rattle.files.specs.declared.Unreadable.{Unreadable}

or_false : (b : Bool) → (b || false) ≡ b
or_false true = refl
or_false false = refl

-- ---- where a loop stands

-- k places at most are left, n records came before
pub record Stands (s : List ℕ) (at n k : ℕ) : Type 0 where
  pub within : at ≤ length s
  pub enough : length s ≤ at + k
  pub count : n ≤ at

first : (s : List ℕ) → Stands s 0 0 (length s)
first s = record { within = omega arith; enough = omega arith; count = omega arith }

-- from a place within the file the next one lies further on, and not past the end
onward : (n at : ℕ) (rd : Reading) → Within n at rd → at < n → (at < place_after rd n) × (place_after rd n ≤ n)
unfolding place_after
onward n at None w h = (h, omega arith)
onward n at (Some (Err k)) w h = (h, omega arith)
onward n at (Some (Ok found)) w h = (omega (arith, w), w.1)

places_on : (k : ℕ) (s : List ℕ) (at : ℕ) → at < length s → at ∷ places_from k s (place_after (read_at s at) (length s)) ≡ places_from (suc k) s at
unfolding places_from
places_on k s at h = yes_lt _ _ _ _ _ h refl

places_done : (k : ℕ) (s : List ℕ) (at : ℕ) → length s ≤ at → [] ≡ places_from k s at
unfolding places_from
places_done zero s at h = refl
places_done (suc k) s at h = no_lt _ _ _ _ _ h refl

-- f is what was read, `next` the place after it
module _ (s : List ℕ) (at next : ℕ) (f : Reading) (h : at < length s) (g : f ≡ read_at s at) (e : next ≡ place_after f (length s)) where
  moves : (at < next) × (next ≤ length s)
  moves = rw (e, g) (onward (length s) at (read_at s at) (read_within s at) h)

  pub loop_falls : length s - next < length s - at
  loop_falls = omega (arith, moves)

  one_less : (k : ℕ) → at ∷ places_from k s next ≡ places_from (suc k) s at
  one_less k = rw (e, g) (places_on k s at h)

  steps : (n k : ℕ) → Stands s at n (suc k) → Stands s next (n + 1) k
  steps n k i = record { within = moves.1; enough = omega (arith, moves, i.enough); count = omega (arith, moves, i.count) }

-- ---- a loop that puts a text: `text` has been put, and `rest` of the places that are left is what is left of `whole`

pub record So (s : List ℕ) (page₀ : Page) (whole : List ℕ) (rest : List ℕ → List ℕ) (page : Page) (at n : ℕ) : Type 0 where
  pub text : List ℕ
  pub turns : ℕ
  pub wrote : Wrote text page₀ page
  pub left : text ++ rest (places_from turns s at) ≡ whole
  pub stands : Stands s at n turns

so_start : (s : List ℕ) (page₀ : Page) (rest : List ℕ → List ℕ) → So s page₀ (rest (places_of s)) rest page₀ 0 0
unfolding places_of
so_start s page₀ rest = record { text = []; turns = length s; wrote = wrote_none page₀; left = refl; stands = first s }

-- one turn puts a piece more
module _ (s : List ℕ) (at next : ℕ) (f : Reading) (h : at < length s) (g : f ≡ read_at s at) (e : next ≡ place_after f (length s)) where
  so_step : (page₀ page page' : Page) (whole piece : List ℕ) (n : ℕ) (rest rest' : List ℕ → List ℕ) (i : So s page₀ whole rest page at n)
      → Wrote piece page page' → ((ps : List ℕ) → piece ++ rest' ps ≡ rest (at ∷ ps)) → (k : ℕ) → i.turns ≡ suc k
      → So s page₀ whole rest' page' next (n + 1)
  so_step page₀ page page' whole piece n rest rest' i p r k t =
      let l : i.text ++ (piece ++ rest' (places_from k s next)) ≡ whole =
      ap (λ (x : List ℕ). i.text ++ x) (r (places_from k s next) ∙ ap rest (one_less s at next f h g e k) ∙ ap (λ (x : ℕ). rest (places_from x s at)) (sym t)) ∙ i.left in
      record {
        text = i.text ++ piece;
        turns = k;
        wrote = wrote_after p i.wrote;
        left = rw append_assoc l;
        stands = steps s at next f h g e n k (rw t at i.stands);
      }

-- within the file there is a turn to come
one_comes : (s : List ℕ) (at n k : ℕ) → at < length s → Stands s at n k → (j : ℕ) × (k ≡ suc j)
one_comes s at n zero h i = absurd (omega (arith, i.enough))
one_comes s at n (suc j) h i = (j, refl)

-- after the last turn
so_done : (s : List ℕ) (page₀ page : Page) (whole : List ℕ) (at n : ℕ) (rest : List ℕ → List ℕ) (i : So s page₀ whole rest page at n) → length s ≤ at → i.text ++ rest [] ≡ whole
so_done s page₀ page whole at n rest i h = ap (λ (ps : List ℕ). i.text ++ rest ps) (places_done i.turns s at h) ∙ i.left

-- ---- the listing

-- the row that the records before reached is held (Held.antt), and whether one of them named a slot is remembered
pub record Listed (s : List ℕ) (shown : Bool) (page₀ page : Page) (at n : ℕ) (named : Bool) (row : List Call) (held : ℕ) (call : Call) : Type 0 where
  pub reached : List Call
  pub holds : Holds reached row held call
  pub so : So s page₀ (records_of s shown) (rest_of s shown n reached) page at n
  pub names : (named || names_in s (places_from so.turns s at)) ≡ names_slots s

listed_start : (s : List ℕ) (shown : Bool) (page₀ : Page) (c : Call) → c ≡ unopened_call → Listed s shown page₀ page₀ 0 0 false (replicate 65 c) 0 c
unfolding records_of names_slots empty_row places_of so_start
listed_start s shown page₀ c e =
    record {
      reached = empty_row;
      holds = record { slots = refl; kept = ap (λ (x : Call). set (replicate 65 x) 0 x) e; there = omega arith };
      so = so_start s page₀ (rest_of s shown 0 empty_row);
      names = refl;
    }

-- the place of the row that is looked for is held already, or the call of another place is taken up
pub record Found (s : List ℕ) (shown : Bool) (page₀ page : Page) (at n : ℕ) (named : Bool) (index : ℕ) (row : List Call) (held : ℕ) (call : Call) : Type 0 where
  pub listed : Listed s shown page₀ page at n named row held call
  pub index_held : held ≡ index

module _ {s : List ℕ} {shown : Bool} {page₀ page : Page} {at n : ℕ} {named : Bool} {row : List Call} {held : ℕ} {call : Call}
    (l : Listed s shown page₀ page at n named row held call) (index : ℕ) (row' : List Call) (held' : ℕ) (call' : Call) where
  pub found_here : index ≡ held → call' ≡ call → row' ≡ row → held' ≡ held → Found s shown page₀ page at n named index row' held' call'
  found_here e f g h = rw (f, g, h) (record { listed = l; index_held = sym e })

  pub found_there : (d : Call) → index < 65 → call' ≡ get_or (set row held call) index d → row' ≡ set row held call → held' ≡ index
      → Found s shown page₀ page at n named index row' held' call'
  found_there d h e f g =
      rw (e, f, g) (record { listed = record { reached = l.reached; holds = holds_other l.holds index d h; so = l.so; names = l.names }; index_held = refl })

listed_on : (s : List ℕ) (shown : Bool) (page₀ page page' : Page) (at next n slot index : ℕ) (named named' b names : Bool) (row : List Call) (held : ℕ) (call : Call) (f : Reading) (o : Outcome)
    → Found s shown page₀ page at n named index row held call → at < length s
    → f ≡ read_at s at → slot ≡ slot_found f → index ≡ index_of slot → b ≡ ltb index 64 → o ≡ answer_of f b call
    → names ≡ names_slot f → named' ≡ (named || names)
    → Wrote (record_text (n + 1) shown slot o) page page' → next ≡ place_after f (length s)
    → Listed s shown page₀ page' next (n + 1) named' row held o.call
unfolding rest_of names_in so_step
listed_on s shown page₀ page page' at next n slot index named named' b names row held call f o i h g u v t d w x p e =
    let l = i.listed in
    let k = answered l.holds f b o (i.index_held ∙ v ∙ ap index_of u) (t ∙ ap (λ (j : ℕ). ltb j 64) (sym i.index_held)) d in
    let q : (ps : List ℕ) → record_text (n + 1) shown slot o ++ rest_of s shown (n + 1) (row_by f l.reached) ps ≡ rest_of s shown n l.reached (at ∷ ps) =
    λ ps. rw (u, k.0, g) in
    let c = one_comes s at n l.so.turns h l.so.stands in
    record {
      reached = row_by f l.reached;
      holds = k.1;
      so = so_step s at next f h g e page₀ page page' (records_of s shown) (record_text (n + 1) shown slot o) n (rest_of s shown n l.reached) (rest_of s shown (n + 1) (row_by f l.reached)) l.so p q c.0 c.1;
      names =
          ap (λ (b : Bool). b || names_in s (places_from c.0 s next)) (x ∙ ap (λ (b : Bool). named || b) (w ∙ ap names_slot g))
          ∙ or_assoc named (names_slot (read_at s at)) (names_in s (places_from c.0 s next))
          ∙ ap (λ (ps : List ℕ). named || names_in s ps) (one_less s at next f h g e c.0)
          ∙ ap (λ (y : ℕ). named || names_in s (places_from y s at)) (sym c.1) ∙ l.names;
    }

-- the answer, by the frame that was found
module _ (s : List ℕ) (at : ℕ) (f : Framing) (there : Bool) (c : Call) (o : Outcome) where
  pub answer_stop : (stop : Unreadable) (n : ℕ) → f ≡ Err stop → n ≡ stop_number stop → o ≡ refused_of n c → o ≡ answer_of (Some (read_by s at f)) there c
  answer_stop stop n e g h = h ∙ ap (λ (k : ℕ). refused_of k c) g ∙ ap (λ (x : Framing). answer_of (Some (read_by s at x)) there c) (sym e)

  pub answer_step : (w : Where) (kind next b : ℕ) (v : Event) → f ≡ framed w kind next → b ≡ body_at w at → v ≡ event_at s b kind → there ≡ true
      → o ≡ step_of c v → o ≡ answer_of (Some (read_by s at f)) there c
  answer_step w kind next b v e g h t k = k ∙ rw (e, t, h, g)

  pub answer_miss : (w : Where) (kind next : ℕ) → f ≡ framed w kind next → there ≡ false → o ≡ refused_of no_such_slot c → o ≡ answer_of (Some (read_by s at f)) there c
  answer_miss w kind next e t k = k ∙ rw (e, t)

-- by the frame that was found
slot_by : (s : List ℕ) (at : ℕ) (f : Framing) → slot_framed f ≡ slot_found (Some (read_by s at f))
slot_by s at (Err n) = refl
slot_by s at (Ok body) = refl

names_by : (s : List ℕ) (at : ℕ) (f : Framing) → names_framed f ≡ names_slot (Some (read_by s at f))
names_by s at (Err n) = refl
names_by s at (Ok body) = refl

after_by : (s : List ℕ) (at stay : ℕ) (f : Framing) → after_frame f stay ≡ place_after (Some (read_by s at f)) stay
unfolding place_after
after_by s at stay (Err n) = refl
after_by s at stay (Ok body) = refl

module _ (s : List ℕ) (at next : ℕ) (f : Framing) (h : at < length s) (g : f ≡ frame_at s at) (e : next ≡ after_frame f (length s)) where
  pub frame_falls : length s - next < length s - at
  frame_falls = loop_falls s at next (Some (read_by s at f)) h (read_as s at f (Some (read_by s at f)) h g refl) (e ∙ after_by s at (length s) f)

  -- it is where an iterator over the records then stands
  pub frame_on : next ≡ place_after (read_at s at) (length s)
  frame_on = e ∙ after_by s at (length s) f ∙ ap (λ (r : Reading). place_after r (length s)) (read_as s at f (Some (read_by s at f)) h g refl)

-- ---- a turn of a loop over an iterator

-- where it begins
begun : (file : Bor (List ℕ)) (of it : Records) → (of.file ≡ file) × (of.at ≡ 0) → it ≡ of → (it.file.now ≡ file.now) × (it.at ≡ 0)
begun file of it e f =
    (ap (λ (r : Records). r.file.now) f ∙ ap (λ (r : Bor (List ℕ)). r.now) e.0, ap (λ (r : Records). r.at) f ∙ e.1)

-- it comes to the place and the frame where the iterator stood, which then stands behind them
module _ (s : List ℕ) (before after : Records) (at : ℕ) (f : Framing) (q : before.file.now ≡ s) (g : GoesOn before (Some (at, f)) after) where
  turn_file : after.file.now ≡ s
  turn_file = ap (λ (r : Bor (List ℕ)). r.now) g.3 ∙ q

  turn_within : at < length s
  turn_within = rw (g.1, sym q) g.0

  turn_frame : f ≡ frame_at s at
  turn_frame = g.2 ∙ rw (g.1, q)

  turn_next : after.at ≡ place_after (read_at s at) (length s)
  turn_next = g.4 ∙ rw (g.1, q)

-- ---- the listing, turn by turn

pub listed_begin : (file : Bor (List ℕ)) (of it : Records) (shown : Bool) (page₀ : Page) (c : Call) → c ≡ unopened_call → (of.file ≡ file) × (of.at ≡ 0) → it ≡ of
    → (it.file.now ≡ file.now) × Listed file.now shown page₀ page₀ it.at 0 false (replicate 65 c) 0 c
listed_begin file of it shown page₀ c u e f =
    let b = begun file of it e f in
    (b.0, rw b.1 (listed_start file.now shown page₀ c u))

module _ (s : List ℕ) (before after : Records) (at : ℕ) (f : Framing) (q : before.file.now ≡ s) (g : GoesOn before (Some (at, f)) after) where
  pub listed_turn : (shown : Bool) (page₀ page page' : Page) (n slot index : ℕ) (named named' b names : Bool) (row : List Call) (held : ℕ) (call : Call) (o : Outcome)
      → Found s shown page₀ page before.at n named index row held call
      → slot ≡ slot_framed f → index ≡ index_of slot → b ≡ ltb index 64 → o ≡ answer_of (Some (read_by s at f)) b call
      → names ≡ names_framed f → named' ≡ (named || names)
      → Wrote (record_text (n + 1) shown slot o) page page'
      → (after.file.now ≡ s) × Listed s shown page₀ page' after.at (n + 1) named' row held o.call
  listed_turn shown page₀ page page' n slot index named named' b names row held call o i u v t d w x p =
      let h = turn_within s before after at f q g in
      let k : Some (read_by s at f) ≡ read_at s at = read_as s at f (Some (read_by s at f)) h (turn_frame s before after at f q g) refl in
      let j : Found s shown page₀ page at n named index row held call = rw g.1 i in (
        turn_file s before after at f q g,
        listed_on s shown page₀ page page' at after.at n slot index named named' b names row held call (Some (read_by s at f)) o j h
            k (u ∙ slot_by s at f) v t d (w ∙ names_by s at f) x p
            (turn_next s before after at f q g ∙ ap (λ (y : Reading). place_after y (length s)) (sym k)),
      )

pub listed_done : (s : List ℕ) (old page₀ page page' : Page) (shown : Bool) (at n : ℕ) (named : Bool) (row : List Call) (held : ℕ) (call : Call) → Listed s shown page₀ page at n named row held call
    → length s ≤ at → Wrote (ascii "REV 1\n") old page₀ → Wrote (numbered_line (ascii "END ") n) page page' → Wrote (listing_by shown s) old page'
unfolding listing_by rest_of
listed_done s old page₀ page page' shown at n named row held call i h p l =
    wrote_after (wrote_as (so_done s page₀ page (records_of s shown) at n (rest_of s shown n i.reached) i.so h) (wrote_after l i.so.wrote)) p

pub listed_names : (s : List ℕ) (page₀ page : Page) (shown : Bool) (at n : ℕ) (named : Bool) (row : List Call) (held : ℕ) (call : Call) → Listed s shown page₀ page at n named row held call
    → length s ≤ at → named ≡ names_slots s
unfolding names_in
listed_names s page₀ page shown at n named row held call i h =
    sym (or_false named) ∙ ap (λ (ps : List ℕ). named || names_in s ps) (places_done i.so.turns s at h) ∙ i.names

-- with slots if a record names one
pub listed_as : (s : List ℕ) (a b : Page) (shown : Bool) → shown ≡ names_slots s → Wrote (listing_by shown s) a b → Wrote (listing_of s) a b
unfolding listing_of
listed_as s a b shown e p = wrote_as (ap (λ (x : Bool). listing_by x s) e) p

-- ---- the dump

abbrev pub Dumped : List ℕ → Page → Page → ℕ → ℕ → Type 0
Dumped s page₀ page at n = So s page₀ (places_text s 0 (places_of s)) (places_text s n) page at n

dumped_start : (s : List ℕ) (page₀ : Page) → Dumped s page₀ page₀ 0 0
dumped_start s page₀ = so_start s page₀ (places_text s 0)

dumped_on : (s : List ℕ) (page₀ page page' : Page) (at next n : ℕ) (f : Reading) → Dumped s page₀ page at n → at < length s
    → f ≡ read_at s at → Wrote (place_text (n + 1) f at) page page' → next ≡ place_after f (length s)
    → Dumped s page₀ page' next (n + 1)
unfolding places_text
dumped_on s page₀ page page' at next n f i h g p e =
    let c = one_comes s at n i.turns h i.stands in
    so_step s at next f h g e page₀ page page' (places_text s 0 (places_of s)) (place_text (n + 1) f at) n (places_text s n) (places_text s (n + 1)) i p (λ ps. rw g) c.0 c.1

pub dumped_begin : (file : Bor (List ℕ)) (of it : Records) (page₀ : Page) → (of.file ≡ file) × (of.at ≡ 0) → it ≡ of
    → (it.file.now ≡ file.now) × Dumped file.now page₀ page₀ it.at 0
dumped_begin file of it page₀ e f =
    let b = begun file of it e f in
    (b.0, rw b.1 (dumped_start file.now page₀))

pub dumped_turn : (s : List ℕ) (page₀ page page' : Page) (n : ℕ) (before after : Records) (at : ℕ) (f : Framing) (r : OkOrErr Record Unreadable)
    → (before.file.now ≡ s) × Dumped s page₀ page before.at n → GoesOn before (Some (at, f)) after → r ≡ read_by s at f
    → Wrote (place_text (n + 1) (Some r) at) page page'
    → (after.file.now ≡ s) × Dumped s page₀ page' after.at (n + 1)
dumped_turn s page₀ page page' n before after at f r i g e p =
    let h = turn_within s before after at f i.0 g in
    let d : Dumped s page₀ page at n = rw g.1 i.1 in
    let k : Some r ≡ read_at s at = read_as s at f (Some r) h (turn_frame s before after at f i.0 g) (ap (λ (x : OkOrErr Record Unreadable). Some x) e) in (
      turn_file s before after at f i.0 g,
      dumped_on s page₀ page page' at after.at n (Some r) d h k p (turn_next s before after at f i.0 g ∙ ap (λ (x : Reading). place_after x (length s)) (sym k)),
    )

pub dumped_done : (s : List ℕ) (old page₀ page : Page) (at n k : ℕ) → Dumped s page₀ page at n → length s ≤ at → k ≡ length (places_of s) → Wrote (numbered_line (ascii "RECORDS ") k) old page₀
    → Wrote (dump_of s) old page
unfolding dump_of places_text
dumped_done s old page₀ page at n k i h e p =
    wrote_after (wrote_as (sym (append-nil i.text) ∙ so_done s page₀ page (places_text s 0 (places_of s)) at n (places_text s n) i h) i.wrote) (rw e at p)

-- ---- the count of records

-- as many items come of an iterator as there are places from where it stands
drained_from : (xs : List (ℕ × Framing)) (k : ℕ) (before last after : Records) → Yields GoesOn before xs last → GoesOn last None after
    → length before.file.now ≤ before.at + k → length xs ≡ length (places_from k before.file.now before.at)
drained_from [] k before last after y e h =
    let l : length before.file.now ≤ before.at = subst (λ (r : Records). length r.file.now ≤ r.at) (sym y) e.0 in
    ap length (places_done k before.file.now before.at l)
drained_from (x ∷ xs) zero before last after (next, (l, p, f, q, n), y) e h = absurd (omega arith)
drained_from (x ∷ xs) (suc k) before last after (next, (l, p, f, q, n), y) e h =
    let s = before.file.now in
    let on = onward (length s) before.at (read_at s before.at) (read_within s before.at) l in
    let same : length next.file.now ≡ length s = ap (λ (r : Bor (List ℕ)). length r.now) q in
    ap suc (drained_from xs k next last after y e (omega (arith, on, same, n, h))
    ∙ ap (λ (r : Bor (List ℕ)). length (places_from k r.now next.at)) q
    ∙ ap (λ (at : ℕ). length (places_from k s at)) n)
    ∙ ap length (places_on k s before.at l)

pub drained_count : (s : List ℕ) (xs : List (ℕ × Framing)) (n : ℕ) (it : Records) → it.file.now ≡ s → it.at ≡ 0 → Drains GoesOn it xs → n ≡ length xs → n ≡ length (places_of s)
unfolding places_of
drained_count s xs n it q z (after, (last, y, e)) c =
    c ∙ drained_from xs (length it.file.now) it last after y e (omega arith)
    ∙ ap (λ (at : ℕ). length (places_from (length it.file.now) it.file.now at)) z
    ∙ ap (λ (t : List ℕ). length (places_from (length t) t 0)) q

-- a file has at most as many records as bytes
most_places : (k : ℕ) (s : List ℕ) (at : ℕ) → length (places_from k s at) ≤ k
unfolding places_from
most_places zero s at = omega arith
most_places (suc k) s at =
    both_lt at (length s) (λ (ps : List ℕ). length ps ≤ suc k) _ _ (λ _. omega (arith, most_places k s (place_after (read_at s at) (length s)))) (λ _. omega arith)

pub records_most : (s : List ℕ) → length (places_of s) ≤ length s
unfolding places_of
records_most s = most_places (length s) s 0
