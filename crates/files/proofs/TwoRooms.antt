-- TWO ROOMS STAY TWO: numbers that are not the same, by nature, count or value, have different text in the listing and different bytes in a
-- record. `same_number` is what the function for hosts says of them.
-- Assumes nothing.
use Rattle.std.proofs.Common.{◌≡◌, ℕ, Bool, true, false, ◌&&◌, ◌||◌, ◌↔◌, List, [], ◌++◌, sym, refl, ap, ◌∙◌, append-nil, arith}
use Rattle.rows.specs.Bill.{bit_at}
use Rattle.rows.specs.Promises.{named_by}
use Rattle.rows.specs.Step.{if_call, step_of}
use Rattle.rows.specs.Telephone.{absent, same_number}
use Rattle.rows.specs.Valid.{in_range, number_there, event_ok, valid_of}
use Rattle.rows.specs.declared.Act.{Act}
use Rattle.rows.specs.declared.Act.TheVariants.{SendRel}
use Rattle.rows.specs.declared.Call.{Call}
use Rattle.rows.specs.declared.Event.{Event}
use Rattle.rows.specs.declared.Event.TheVariants.{Opening, Ask, Received, FromAccess, Expiry, Time}
use Rattle.rows.specs.declared.Note.{Note}
use Rattle.rows.specs.declared.Number.{Number}
use Rattle.rows.proofs.Passed.{passed_on}
use Rattle.rows.proofs.SameNumbers.{same_exactly, same_is_equal}
use Rattle.rows.proofs.Stays.{good}
use Rattle.rows.proofs.Truth.{left}
use Rattle.files.specs.Bodies.{number_values, head_of, record_of}
use Rattle.files.specs.Bytes.{le_of}
use Rattle.files.specs.Fields.{number_fields, size_of, bytes_of}
use Rattle.files.specs.Lines.{action_text}
use Rattle.files.specs.Messages.{number_text}
use Rattle.files.specs.Write.{nature_with, number_with}
use Rattle.files.specs.declared.Where.TheVariants.{Plain}
use Rattle.files.proofs.Apart.{is_message, NamedSame, number_text_lem, action_apart}
use Rattle.files.proofs.BothWays.{same_bytes_same_event}
use Rattle.files.proofs.CountByte.{there_typed}

-- ---- text

-- the text of a number that is there
pub text_apart : (a b : Number) → number_there a ≡ true → number_there b ≡ true → (number_text a ≡ number_text b) ↔ (same_number a b ≡ true)
text_apart a b p q = (
  λ h. (same_is_equal a b).1 (number_text_lem a b p q [] [] tt tt (append-nil (number_text a) ∙ h ∙ sym (append-nil (number_text b)))).0,
  λ h. ap number_text ((same_is_equal a b).0 h),
)

-- ---- the line of a message that an answer sends

named_in_range : (b : Bool) (n : Number) → in_range n ≡ true → in_range (named_by b n) ≡ true
named_in_range true n h = h
named_in_range false n h = refl

abbrev SentInRange : Note → Type 0
SentInRange m = (in_range m.calling ≡ true) × (in_range m.called ≡ true)

-- what is no call sends nothing; a call holds its own number in range, and sends no other
pub sent_in_range : (c : Call) (e : Event) → SentInRange (step_of c e).note
sent_in_range c e = by_call (valid_of c) refl
  where
    by_call : (b : Bool) → valid_of c ≡ b → SentInRange (if_call (valid_of c) c e).note
    by_call true v =
        let p = passed_on c e in
        let own : (t : Bool) → in_range (named_by t c.side.own) ≡ true =
        λ t. named_in_range t c.side.own (left (in_range c.side.own) (in_range c.side.calling && in_range c.side.called) (good c v).held) in (
          ap in_range p.calling_sent ∙ own (bit_at 16 (step_of c e).note.parts),
          ap in_range p.called_sent ∙ own (bit_at 32 (step_of c e).note.parts),
        )
    by_call false v = rw v (refl, refl)

module _ (c d : Call) (e f : Event) where
  abbrev a : Note
  a = (step_of c e).note

  abbrev b : Note
  b = (step_of d f).note

  pub lines_apart : (act : Act) → is_message act ≡ true → (act ≡ SendRel → a.cause ≡ b.cause) → a.component ≡ b.component
      → a.parts ≡ b.parts → action_text a act ≡ action_text b act → NamedSame a b
  lines_apart act m u x p h =
      let r = sent_in_range c e in
      let s = sent_in_range d f in
      action_apart act a b m u x p ((λ _. r.0), (λ _. r.1)) ((λ _. s.0), (λ _. s.1)) h

-- ---- bytes

-- a number that an event brings
abbrev asked : Event → Number
asked (Opening role flags own) = own
asked (Ask item called) = called
asked (Received m) = m.called
asked (FromAccess item error) = absent
asked Expiry = absent
asked (Time seconds) = absent

asked_bytes : (a : Number) → record_of (Ask 0 a) ≡ head_of 12 2 ++ (le_of 1 0 ++ bytes_of (number_fields 1) (number_values a))
unfolding record_of size_of bytes_of
asked_bytes a = refl

asked_ok : (a : Number) → number_there a ≡ true → event_ok (Ask 0 a) ≡ true
asked_ok a p = ap (λ (t : Bool). (t || false) && true) p

pub bytes_apart : (a b : Number) → number_there a ≡ true → number_there b ≡ true
    → (bytes_of (number_fields 1) (number_values a) ≡ bytes_of (number_fields 1) (number_values b)) ↔ (same_number a b ≡ true)
bytes_apart a b p q = (
  λ h. (same_is_equal a b).1 (ap asked
      (same_bytes_same_event Plain Plain (Ask 0 a) (Ask 0 b) (asked_ok a p) (omega arith, there_typed a p) tt (asked_ok b q) (omega arith, there_typed b q) tt [] []
      (ap (λ (l : List ℕ). l ++ []) (asked_bytes a ∙ ap (λ (l : List ℕ). head_of 12 2 ++ (le_of 1 0 ++ l)) h ∙ sym (asked_bytes b)))).1),
  λ h. ap (λ (n : Number). bytes_of (number_fields 1) (number_values n)) ((same_is_equal a b).0 h),
)

-- ---- what a host in C passes

nature_passed : (x y : Bool) → nature_with x ≡ nature_with y → x ≡ y
nature_passed true true e = refl
nature_passed true false e = cc
nature_passed false true e = cc
nature_passed false false e = refl

pub passed_same_exactly : (x y : Bool) (i j v w : ℕ)
    → (same_number (number_with x i v) (number_with y j w) ≡ true) ↔ ((x ≡ y) × (i ≡ j) × (v ≡ w))
passed_same_exactly x y i j v w =
    let a : Number = number_with x i v in
    let b : Number = number_with y j w in (
      λ h. let r = (same_exactly a b).0 h in (nature_passed x y r.0, r.1, r.2),
      λ r. (same_exactly a b).1 (ap nature_with r.0, r.1, r.2),
    )
