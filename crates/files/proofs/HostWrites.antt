-- What a host gets by the contracts of the writers: when each number is given, and what the buffer then holds.
-- Assumes nothing.
use Rattle.std.proofs.Common.{◌≡◌, ℕ, Result, Ok, suc, ◌+◌, ◌-◌, ◌*◌, ◌<◌, ◌≤◌, true, false, ◌⊎◌, ◌↔◌, List, ◌++◌, length, take, drop, sym, refl, ap, ◌∙◌, subst, ap₂, inl, inr, arith}
use lib.Seq.{take-append_seam, drop-append_seam}
use Rattle.text.proofs.Cases.{both_so, both_lt}
use Rattle.rows.specs.Reasons.{FirstOut}
use Rattle.rows.specs.Valid.{ranges_of, event_ok, bad_field_of}
use Rattle.rows.specs.declared.Event.{Event}
use Rattle.rows.proofs.Ranges.{first_bad_exactly, none_bad_exactly}
use Rattle.rows.proofs.Truth.{differ}
use Rattle.files.specs.Bodies.{kind_of, fields_of, values_of, head_of, record_of, slot_head, slotted_of, entry_of, read_at, plain_at}
use Rattle.files.specs.Bytes.{le_at, le_of}
use Rattle.files.specs.Fields.{bytes_of}
use Rattle.files.specs.Frames.{length_with}
use Rattle.files.specs.Typed.{AllBytes, Typed, TypedWhere}
use Rattle.files.specs.Write.{number_of, bytes_written, gives_back, slot_gives, slot_leaves}
use Rattle.files.specs.Bodies.{Reading, got, stopped}
use Rattle.files.specs.Frames.{stop_number}
use Rattle.files.specs.declared.Where.{Where}
use Rattle.files.specs.declared.Where.TheVariants.{Plain, Slot}
use Rattle.files.specs.declared.Unwritten.{Unwritten}
use Rattle.files.proofs.BothWays.{same_got, record_length, record_range, slotted_length, first_reads_back, read_writes_back}
use Rattle.files.proofs.BothWays.{plain_stands, plain_acts, plain_ends_past, plain_past_end}
use Rattle.files.proofs.Puts.{is_whole, ways}
use Rattle.files.proofs.Unread.{plain_stop_number}
use Rattle.files.proofs.Same.{answered_of, held_of, Wrote, Numbered, HandedOver}
use Rattle.std.specs.Prelude.{None, Some, Ok, Err}
use Rattle.files.specs.declared.Unreadable.{Unreadable}
use Rattle.files.specs.declared.Unreadable.TheVariants.{CutShort, BadLength, UnknownKind}

-- A writer gave r for the event e, plain or at a slot, and left the buffer `new` where `old` was
pub record Writes (w : Where) (e : Event) (old : List ℕ) (r : ℕ) (new : List ℕ) : Type 0 where
  -- 3 and an ordinal for a field out of range, whatever the room; 8 for a record in range that is longer than the room; else 0
  pub three : (r ≡ 3 + 256 * bad_field_of e) ↔ (event_ok e ≡ false)
  pub eight : (r ≡ 8) ↔ ((event_ok e ≡ true) × (length old < length (entry_of w e)))
  pub done : (r ≡ 0) ↔ ((event_ok e ≡ true) × (length (entry_of w e) ≤ length old))
  -- the ordinal, from 1, is that of the field that is out of range with every field before it in range
  pub field : (k : ℕ) → (r ≡ 3 + 256 * suc k) ↔ FirstOut (ranges_of e) k
  -- on a refusal every byte is as it was
  pub refused : (r ≡ 0 → ⊥) → new ≡ old
  -- on 0 the buffer begins with the record, and the bytes past it stay
  pub written : r ≡ 0 → take (length (entry_of w e)) new ≡ entry_of w e
  pub beyond : r ≡ 0 → drop (length (entry_of w e)) new ≡ drop (length (entry_of w e)) old
  -- its first two bytes count those that follow them
  pub stated : r ≡ 0 → 2 + le_at 2 new 0 ≡ length (entry_of w e)
  -- and the reader gives the event back, where it acts, and the place after it
  pub read : r ≡ 0 → Typed e → TypedWhere w → read_at new 0 ≡ got w e (length (entry_of w e))

two_bytes : (n : ℕ) (a b c : List ℕ) → n < 65536 → le_at 2 (le_of 2 n ++ a ++ b ++ c) 0 ≡ n
unfolding le_at le_of
two_bytes n a b c h = omega arith

-- what its first two bytes say, of a plain record and of one of kind 7
plain_two : (e : Event) (rest : List ℕ) → le_at 2 (record_of e ++ rest) 0 ≡ length_with (fields_of e)
unfolding record_of head_of
plain_two e rest =
    two_bytes (length_with (fields_of e)) (le_of 2 (kind_of e)) (bytes_of (fields_of e) (values_of e)) rest (omega (arith, record_length e, (record_range e).1))

slotted_two : (i n : ℕ) (inner rest : List ℕ) → n < 65532 → le_at 2 (slot_head n i ++ inner ++ rest) 0 ≡ n + 4
unfolding slot_head head_of le_at le_of
slotted_two i n inner rest h = omega arith

first_two : (w : Where) (e : Event) (rest : List ℕ) → 2 + le_at 2 (entry_of w e ++ rest) 0 ≡ length (entry_of w e)
unfolding slotted_of
first_two Plain e rest = ap (λ (n : ℕ). 2 + n) (plain_two e rest) ∙ sym (record_length e)
first_two (Slot i) e rest =
    let l = slotted_length i (record_of e) in
    let t : le_at 2 (slot_head (length (record_of e)) i ++ record_of e ++ rest) 0 ≡ length (record_of e) + 4 =
    slotted_two i (length (record_of e)) (record_of e) rest (omega (arith, (record_range e).1)) in
    omega arith

-- where all fields are in range, none is the first that is not
none_first : (e : Event) → event_ok e ≡ true → (k : ℕ) → FirstOut (ranges_of e) k → ⊥
none_first e h k f = omega (arith, (first_bad_exactly e k).1 f, (none_bad_exactly e).1 h)

module _ (w : Where) (e : Event) (old : List ℕ) where
  bad_writes : event_ok e ≡ false → Writes w e old (3 + 256 * bad_field_of e) old
  bad_writes h =
      record {
        three = (λ _. h, λ _. refl);
        eight = (λ k. absurd (omega arith), λ k. differ (sym h ∙ k.0));
        done = (λ k. absurd (omega arith), λ k. differ (sym h ∙ k.0));
        field = λ k. (λ i. (first_bad_exactly e k).0 (omega arith), λ i. omega (arith, (first_bad_exactly e k).1 i));
        refused = λ _. refl;
        written = λ k. absurd (omega arith);
        beyond = λ k. absurd (omega arith);
        stated = λ k. absurd (omega arith);
        read = λ k _ _. absurd (omega arith);
      }

  module _ (h : event_ok e ≡ true) where
    narrow-writes : length old < length (entry_of w e) → Writes w e old 8 old
    narrow-writes l =
        record {
          three = (λ k. absurd (omega arith), λ k. differ (sym k ∙ h));
          eight = (λ _. (h, l), λ _. refl);
          done = (λ k. absurd (omega arith), λ k. absurd (omega (arith, k.1)));
          field = λ k. (λ i. absurd (omega arith), λ i. absurd (none_first e h k i));
          refused = λ _. refl;
          written = λ k. absurd (omega arith);
          beyond = λ k. absurd (omega arith);
          stated = λ k. absurd (omega arith);
          read = λ k _ _. absurd (omega arith);
        }

    whole-writes : length (entry_of w e) ≤ length old → Writes w e old 0 (entry_of w e ++ drop (length (entry_of w e)) old)
    whole-writes l =
        let rest = drop (length (entry_of w e)) old in
        record {
          three = (λ k. absurd (omega arith), λ k. differ (sym k ∙ h));
          eight = (λ k. absurd (omega arith), λ k. absurd (omega (arith, k.1)));
          done = (λ _. (h, l), λ _. refl);
          field = λ k. (λ i. absurd (omega arith), λ i. absurd (none_first e h k i));
          refused = λ k. absurd (k refl);
          written = λ _. take-append_seam (entry_of w e) rest;
          beyond = λ _. drop-append_seam (entry_of w e) rest;
          stated = λ _. first_two w e rest;
          read = λ _ t u. first_reads_back w e h t u rest;
        }

-- What a host gets by the contract of each `rev_write_` function of an event, which is `Numbered Plain e old r new` (Contracts.antt), and by
-- that of `rev_write_slot` where it reads one.
pub host_writes : (w : Where) (e : Event) (old : List ℕ) (r : ℕ) (new : List ℕ) → Numbered w e old r new → Writes w e old r new
host_writes w e old r new (g, f) =
    subst (λ (k : ℕ). Writes w e old k new) (sym g) (subst (Writes w e old (gives_back (answered_of w e old))) (sym f)
    (ways w e old (λ a l. Writes w e old (gives_back a) l) (bad_writes w e old) (narrow-writes w e old) (whole-writes w e old)))

all_measured : (w : Where) (e : Event) (old : List ℕ) → number_of (answered_of w e old) ≡ 0 → bytes_written (answered_of w e old) ≡ length (entry_of w e)
all_measured w e old =
    ways w e old (λ a _. number_of a ≡ 0 → bytes_written a ≡ length (entry_of w e)) (λ _ k. absurd (omega arith)) (λ _ _ k. absurd (omega arith)) (λ _ _ _. refl)

-- By the contracts of `write_event` and `write_at_slot`, which are `Wrote w e old a new`: the same with the number and the ordinal of the
-- answer, and on 0 the answer has the record's length.
pub event_written : (w : Where) (e : Event) (old : List ℕ) (a : Result ℕ Unwritten) (new : List ℕ) → Wrote w e old a new
    → Writes w e old (gives_back a) new × (number_of a ≡ 0 → bytes_written a ≡ length (entry_of w e))
event_written w e old a new (g, f) =
    (host_writes w e old (gives_back a) new (ap gives_back g, f), λ k. ap bytes_written g ∙ all_measured w e old (ap number_of (sym g) ∙ k))

-- What the reader accepts with every field in range, the writer writes back byte for byte, wherever there is room for it.
pub read_then_written : (s : List ℕ) → AllBytes s → (at next : ℕ) (w : Where) (e : Event) → read_at s at ≡ got w e next → event_ok e ≡ true
    → (old : List ℕ) → next - at ≤ length old
    → (answered_of w e old ≡ Ok (next - at)) × (held_of w e old ≡ take (next - at) (drop at s) ++ drop (next - at) old)
read_then_written s b at next w e g h old l =
    let a = read_writes_back s b at next w e g in
    let n : length (entry_of w e) ≡ next - at = omega (arith, a.1) in
    let (f, k) = is_whole w e old h (omega (arith, n)) in
    (sym f ∙ ap Ok n, sym k ∙ ap₂ (λ (x : List ℕ) (m : ℕ). x ++ drop m old) a.0 n)

-- ---- A host in C hands over bytes for the record inside one of kind 7

-- `rev_write_slot` gave r for the bytes `inner` and the slot i, and left the buffer `new` where `old` was
pub record Hands (inner : List ℕ) (i : ℕ) (old : List ℕ) (r : ℕ) (new : List ℕ) : Type 0 where
  -- where a plain record stands at their beginning, it is written at the slot as any event is
  pub reads : (e : Event) (next : ℕ) → plain_at inner 0 ≡ got Plain e next → Writes (Slot i) e old r new
  -- .. and if they are bytes, those of that record stand behind the six bytes before it
  pub inside : AllBytes inner → (e : Event) (next : ℕ) → plain_at inner 0 ≡ got Plain e next → r ≡ 0
      → take (6 + next) new ≡ slot_head next i ++ take next inner
  -- 0 exactly where such a record stands there with its fields in range, and there is room for it and the six bytes
  pub done : (r ≡ 0) ↔ ((e : Event) × (next : ℕ) × (plain_at inner 0 ≡ got Plain e next) × (event_ok e ≡ true) × (length (entry_of (Slot i) e) ≤ length old))
  -- 5, 6 and 7 exactly where the reader of plain records says so; where nothing is handed over the length lacks, which is 5
  pub five : (r ≡ 5) ↔ ((plain_at inner 0 ≡ stopped CutShort) ⊎ (length inner ≡ 0))
  pub six : (r ≡ 6) ↔ (plain_at inner 0 ≡ stopped BadLength)
  pub seven : (r ≡ 7) ↔ (plain_at inner 0 ≡ stopped UnknownKind)
  -- on a refusal every byte is as it was
  pub refused : (r ≡ 0 → ⊥) → new ≡ old

-- the numbers of a writer's answer are none of the reader's
apart_from_read : (w : Where) (e : Event) (old : List ℕ) (r : ℕ) (new : List ℕ) (n : ℕ) → Writes w e old r new → 5 ≤ n → n ≤ 7 → r ≡ n → ⊥
apart_from_read w e old r new n t a b k =
    both_so (event_ok e) (λ (_ : ℕ). ⊥) 0 0
    (λ h.
    both_lt (length old) (length (entry_of w e)) (λ (_ : ℕ). ⊥) 0 0
    (λ l. omega (arith, t.eight.1 (h, l))) (λ l. omega (arith, t.done.1 (h, l))))
    (λ h. omega (arith, t.three.1 h))

-- why a record cannot be read is told by its number
number_tells : (a b : Unreadable) → stop_number a ≡ stop_number b → a ≡ b
number_tells CutShort CutShort e = refl
number_tells CutShort BadLength e = absurd (omega arith)
number_tells CutShort UnknownKind e = absurd (omega arith)
number_tells BadLength CutShort e = absurd (omega arith)
number_tells BadLength BadLength e = refl
number_tells BadLength UnknownKind e = absurd (omega arith)
number_tells UnknownKind CutShort e = absurd (omega arith)
number_tells UnknownKind BadLength e = absurd (omega arith)
number_tells UnknownKind UnknownKind e = refl

same_stop : (a b : Unreadable) → stopped a ≡ stopped b → stop_number a ≡ stop_number b
same_stop a b e = let f : a ≡ b = cc in ap stop_number f

module _ (inner : List ℕ) (i : ℕ) (old : List ℕ) where
  none_hands : plain_at inner 0 ≡ None → Hands inner i old 5 old
  none_hands g =
      let l : length inner ≡ 0 = omega (arith, plain_ends_past inner 0 g) in
      record {
        reads = λ e next h. let z : false ≡ true = cc in differ z;
        inside = λ _ e next h _. cc;
        done = (λ k. absurd (omega arith), λ (e, next, h, k, m). cc);
        five = (λ _. inr l, λ _. refl);
        six = (λ k. absurd (omega arith), λ k. cc);
        seven = (λ k. absurd (omega arith), λ k. cc);
        refused = λ _. refl;
      }

  five_is : (stop : Unreadable) → plain_at inner 0 ≡ stopped stop → (plain_at inner 0 ≡ stopped CutShort) ⊎ (length inner ≡ 0) → stop_number stop ≡ 5
  five_is stop g (inl k) = same_stop stop CutShort (sym g ∙ k)
  five_is stop g (inr k) = let h = plain_past_end inner 0 (omega arith) in cc

  stop_hands : (stop : Unreadable) → plain_at inner 0 ≡ stopped stop → Hands inner i old (stop_number stop) old
  stop_hands stop g =
      let (a, b) = plain_stop_number inner 0 stop g in
      record {
        reads = λ e next h. let z : false ≡ true = cc in differ z;
        inside = λ _ e next h k. absurd (omega arith);
        done = (λ k. absurd (omega arith), λ (e, next, h, k, m). cc);
        five = (λ k. inl (g ∙ ap stopped (number_tells stop CutShort k)), five_is stop g);
        six = (λ k. g ∙ ap stopped (number_tells stop BadLength k), λ k. same_stop stop BadLength (sym g ∙ k));
        seven = (λ k. g ∙ ap stopped (number_tells stop UnknownKind k), λ k. same_stop stop UnknownKind (sym g ∙ k));
        refused = λ _. refl;
      }

  module _ (r : ℕ) (new : List ℕ) where
    stands-inside : AllBytes inner → (e : Event) (next : ℕ) → plain_at inner 0 ≡ got Plain e next
        → take (length (entry_of (Slot i) e)) new ≡ entry_of (Slot i) e → take (6 + next) new ≡ slot_head next i ++ take next inner
    unfolding slotted_of
    stands-inside a e next g h =
        let (t, n) = plain_stands inner 0 next e a g in
        let l = slotted_length i (record_of e) in
        let m : next - 0 ≡ next = omega arith in
        let j : 6 + next ≡ length (slotted_of i (record_of e)) = omega arith in
        let k : length (record_of e) ≡ next = omega arith in
        ap (λ (x : ℕ). take x new) j ∙ h
        ∙ ap₂ (λ (x : ℕ) (y : List ℕ). slot_head x i ++ y) k (t ∙ ap (λ (x : ℕ). take x inner) m)

    module _ (e : Event) (next : ℕ) (g : plain_at inner 0 ≡ got Plain e next) (t : Writes (Slot i) e old r new) where
      same-event : (f : Event) (m : ℕ) → plain_at inner 0 ≡ got Plain f m → Writes (Slot i) f old r new
      same-event f m h = let z : e ≡ f = (same_got Plain Plain e f next m (sym g ∙ h)).1 in subst (λ (x : Event). Writes (Slot i) x old r new) z t

      not_five : (plain_at inner 0 ≡ stopped CutShort) ⊎ (length inner ≡ 0) → r ≡ 5
      not_five (inl k) = cc
      not_five (inr k) = let h = plain_past_end inner 0 (omega arith) in cc

      got-hands : Hands inner i old r new
      got-hands =
          let no : (n : ℕ) → 5 ≤ n → n ≤ 7 → r ≡ n → ⊥ = λ n. apart_from_read (Slot i) e old r new n t in
          record {
            reads = same-event;
            inside = λ a f m h k. stands-inside a f m h ((same-event f m h).written k);
            done = (λ k. (e, next, g, (t.done.0 k).0, (t.done.0 k).1), λ (f, m, h, k, l). (same-event f m h).done.1 (k, l));
            five = (λ k. absurd (no 5 (omega arith) (omega arith) k), not_five);
            six = (λ k. absurd (no 6 (omega arith) (omega arith) k), λ k. cc);
            seven = (λ k. absurd (no 7 (omega arith) (omega arith) k), λ k. cc);
            refused = t.refused;
          }

    hands-by : (f : Reading) → plain_at inner 0 ≡ f → (r ≡ slot_gives f i old) × (new ≡ slot_leaves f i old) → Hands inner i old r new
    hands-by None g (a, b) = subst (λ (x : ℕ). Hands inner i old x new) (sym a) (subst (Hands inner i old 5) (sym b) (none_hands g))
    hands-by (Some (Err stop)) g (a, b) =
        subst (λ (x : ℕ). Hands inner i old x new) (sym a) (subst (Hands inner i old (stop_number stop)) (sym b) (stop_hands stop g))
    hands-by (Some (Ok found)) g p =
        got-hands found.event found.next (g ∙ ap (λ (x : Where). got x found.event found.next) (plain_acts inner 0 found.next found.acts found.event g)) (host_writes (Slot i) found.event old r new p)

-- What a host gets by the contract of `rev_write_slot`, which is `HandedOver inner i old r new`.
pub host_hands : (inner : List ℕ) (i : ℕ) (old : List ℕ) (r : ℕ) (new : List ℕ) → HandedOver inner i old r new → Hands inner i old r new
host_hands inner i old r new p = hands-by inner i old r new (plain_at inner 0) refl p
