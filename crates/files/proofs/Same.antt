-- Any two results that a contract of `files` allows are the same: a law for each form that is not already in the Same.antt of `text`
-- (`same`: `read_at`, `found_at`, `left`, `count_records`; `wrote_same`: the functions that put text; `put_same`: those that put
-- bytes).
-- Assumes nothing.
use Rattle.std.proofs.Common.{◌≡◌, ℕ, Result, Bool, true, false, List, sym, refl, ap, ◌∙◌, Bor}
use Rattle.text.proofs.Same.{same}
use Rattle.rows.specs.declared.Event.{Event}
use Rattle.files.specs.Bodies.{read_at, plain_at}
use Rattle.files.specs.Fit.{answers, leaves}
use Rattle.files.specs.Places.{place_after}
use Rattle.files.specs.Words.{Says}
use Rattle.files.specs.Write.{written_of, left_of, written_at, left_at, gives_back, slot_gives, slot_leaves}
use Rattle.files.specs.Bodies.{Reading}
use Rattle.files.specs.declared.Reader.{Reader}
use Rattle.files.specs.declared.Where.{Where}
use Rattle.files.specs.declared.Where.TheVariants.{Plain, Slot}
use Rattle.files.specs.declared.Unwritten.{Unwritten}

-- What `rev_listing` and `rev_dump` say, t being the listing or the dump: the number given back, and the bytes that the buffer then holds.
abbrev pub Fitted : List ℕ → List ℕ → List ℕ → ℕ → List ℕ → Type 0
Fitted s t old r new = (r ≡ answers s t old) × (new ≡ leaves s t old)

-- Whatever an answer and a content of the buffer are said to be, there is one of each.
both_same : {A : Type 0} {a r r' : A} {b new new' : List ℕ} → (r ≡ a) × (new ≡ b) → (r' ≡ a) × (new' ≡ b) → (r ≡ r') × (new ≡ new')
both_same p q = (same p.0 q.0, same p.1 q.1)

-- For one file and one buffer there is one number, and one content of the buffer after it.
pub fitted_same : (s t old : List ℕ) {r r' : ℕ} {new new' : List ℕ} →
    Fitted s t old r new → Fitted s t old r' new' → (r ≡ r') × (new ≡ new')
fitted_same s t old p q = both_same p q

-- What `open` says: a reader over these bytes, at the first.
abbrev pub Opened : Bor (List ℕ) → Reader → Type 0
Opened src r = (r.src ≡ src) × (r.at ≡ 0)

reader_is : {r r' : Reader} → r.src ≡ r'.src → r.at ≡ r'.at → r ≡ r'
reader_is {r} {r'} e f =
    ap (λ (src : Bor (List ℕ)). record { src = src; at = r.at }) e ∙ ap (λ (at : ℕ). record { src = r'.src; at = at }) f

-- Over one slice there is one reader at its first byte.
pub opened_same : (src : Bor (List ℕ)) {r r' : Reader} → Opened src r → Opened src r' → r ≡ r'
opened_same src p q = reader_is (same p.0 q.0) (same p.1 q.1)

-- What `next` says of a reader that is `before` and then `after`: what it found where it stood, and where it then stands, over the same
-- bytes.
abbrev pub Moved : Reader → Reading → Reader → Type 0
Moved before f after =
    (f ≡ read_at before.src.now before.at)
    × (after.src ≡ before.src)
    × (after.at ≡ place_after (read_at before.src.now before.at) before.at)

-- From one reader there is one thing found, and one reader after it.
pub moved_same : (before : Reader) {f f' : Reading} {after after' : Reader} →
    Moved before f after → Moved before f' after' → (f ≡ f') × (after ≡ after')
moved_same before p q = (same p.0 q.0, reader_is (same p.1 q.1) (same p.2 q.2))

-- What `write_event` says of a plain record, and `write_at_slot` of one of kind 7: the answer, and the bytes that the buffer then holds.
abbrev pub answered_of : Where → Event → List ℕ → Result ℕ Unwritten
answered_of Plain e old = written_of e old
answered_of (Slot i) e old = written_at i e old

abbrev pub held_of : Where → Event → List ℕ → List ℕ
held_of Plain e old = left_of e old
held_of (Slot i) e old = left_at i e old

abbrev pub Wrote : Where → Event → List ℕ → Result ℕ Unwritten → List ℕ → Type 0
Wrote w e old a new = (a ≡ answered_of w e old) × (new ≡ held_of w e old)

-- What the `rev_write_` functions say of their event: the number and the ordinal of that answer, and the same bytes.
abbrev pub Numbered : Where → Event → List ℕ → ℕ → List ℕ → Type 0
Numbered w e old r new = (r ≡ gives_back (answered_of w e old)) × (new ≡ held_of w e old)

-- What `rev_write_slot` says of the bytes that are handed over for the record inside.
abbrev pub HandedOver : List ℕ → ℕ → List ℕ → ℕ → List ℕ → Type 0
HandedOver inner i old r new = (r ≡ slot_gives (plain_at inner 0) i old) × (new ≡ slot_leaves (plain_at inner 0) i old)

-- For one event, one slot and one buffer there is one answer, one number, and one content of the buffer after it.
pub wrote_same : (w : Where) (e : Event) (old : List ℕ) {a a' : Result ℕ Unwritten} {new new' : List ℕ} →
    Wrote w e old a new → Wrote w e old a' new' → (a ≡ a') × (new ≡ new')
wrote_same w e old p q = both_same p q

pub numbered_same : (w : Where) (e : Event) (old : List ℕ) {r r' : ℕ} {new new' : List ℕ} →
    Numbered w e old r new → Numbered w e old r' new' → (r ≡ r') × (new ≡ new')
numbered_same w e old p q = both_same p q

pub handed_over_same : (inner : List ℕ) (i : ℕ) (old : List ℕ) {r r' : ℕ} {new new' : List ℕ} →
    HandedOver inner i old r new → HandedOver inner i old r' new' → (r ≡ r') × (new ≡ new')
handed_over_same inner i old p q = both_same p q

-- What `says` says is `Says` (Words.antt). For one line, one event and one slot there is one answer.
pub says_same : {line : List ℕ} {w : Where} {e : Event} (r r' : Bool) → Says line w e r → Says line w e r' → r ≡ r'
says_same true true p q = refl
says_same true false p q = sym (q.whole (p.right refl))
says_same false true p q = p.whole (q.right refl)
says_same false false p q = refl
