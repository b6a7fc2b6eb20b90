-- DIFFERENT TELEPHONE NUMBERS HAVE DIFFERENT TEXT: nature, count and value can be read off the digits and the sign before them, in the
-- listing and in the dump.
-- Assumes nothing.
use Rattle.std.proofs.Common.{◌≡◌, ℕ, ◌^◌, ◌<◌, ◌≤◌, Bool, true, false, eqb, leb, ◌⊎◌, List, [], ◌∷◌, ◌++◌, length, sym, refl, ap, ◌∙◌, inl, inr, append_assoc, append-nil, arith, eq-eqb, eqb-true, leb-false, leb-true}
use mathlib.Core.List.{head-eq_of_cons-eq, tail-eq_of_cons-eq, append_cancel_left}
use Rattle.text.specs.Choose.{if_eq, if_so}
use Rattle.text.specs.Text.{ascii, last_digits, decimal_by, decimal, value_text, numbered}
use Rattle.text.specs.Value.{AllDigits, NoDigit, value_of}
use Rattle.text.proofs.Cases.{yes_eq, no_eq, yes_so, no_so, both_eq}
use Rattle.text.proofs.Decimal.{decimal_value, by_value, decimal_digits, by_digits, last_digits_lem, decimal_some}
use Rattle.text.proofs.Ends.{digits_end, digits_length, digits_apart}
use Rattle.rows.specs.Valid.{in_range, number_there}
use Rattle.rows.specs.declared.Act.{Act}
use Rattle.rows.specs.declared.Act.TheVariants.{Nothing, NotifyAccepted, AccessSetup, AccessAsk, AccessError, AccessRel, ChargeCalling}
use Rattle.rows.specs.declared.Act.TheVariants.{ChargeCalled, Stop, SendIam, SendAnm, SendRel, SendFac}
use Rattle.rows.specs.declared.Component.{Component}
use Rattle.rows.specs.declared.Nature.{Nature}
use Rattle.rows.specs.declared.Nature.TheVariants.{National, International}
use Rattle.rows.specs.declared.Note.{Note}
use Rattle.rows.specs.declared.Number.{Number}
use Rattle.rows.proofs.SameNumbers.{number_equal, digitless_is_absent}
use Rattle.rows.proofs.Truth.{both, differ, left, right}
use Rattle.files.specs.Bytes.{part}
use Rattle.files.specs.Lines.{action_text}
use Rattle.files.specs.Messages.{component_text, text_if, sign_text, number_text, with_digits, parts_text, values_text, carried_text}
use Rattle.files.specs.Messages.{sent_text, released_text}
use Rattle.files.specs.Typed.{TypedNumber}
use Rattle.files.specs.Words.{digits_word, counted_word, number_word}
use Rattle.files.proofs.CountByte.{in_range_value}

-- ---- A sign, digits, and what stands after them

-- `+` does not begin it
abbrev NoSign : List ℕ → Type 0
NoSign [] = Unit {0}
NoSign (c ∷ cs) = c ≡ 43 → ⊥

never_sign : {A : Type 0} (s t : List ℕ) → NoSign s → s ≡ 43 ∷ t → A
never_sign [] t n h = let z : ◌≡◌ {A = ℕ} 0 1 = cc in absurd (omega arith)
never_sign (c ∷ s) t n h = absurd (n (head-eq_of_cons-eq h))

-- no digit is a `+`: so one digit at least is enough, whatever stands after it
digit_no_sign : (d s : List ℕ) → 1 ≤ length d → AllDigits d → NoSign (d ++ s)
digit_no_sign [] s l p = absurd (omega arith)
digit_no_sign (c ∷ d) s l p = let g : 48 ≤ c = p.0 in λ e. omega arith

signed : (x y : Nature) (d e s t : List ℕ) → AllDigits d → AllDigits e → NoDigit s → NoDigit t → NoSign (d ++ s) → NoSign (e ++ t)
    → sign_text x ++ d ++ s ≡ sign_text y ++ e ++ t → (x ≡ y) × (d ≡ e) × (s ≡ t)
signed National National d e s t p q m n u v h = let r = digits_end d e s t p q m n h in (refl, r.0, r.1)
signed National International d e s t p q m n u v h = never_sign (d ++ s) (e ++ t) u h
signed International National d e s t p q m n u v h = never_sign (e ++ t) (d ++ s) v (sym h)
signed International International d e s t p q m n u v h =
    let r = digits_end d e s t p q m n (tail-eq_of_cons-eq h) in (refl, r.0, r.1)

-- ---- The text of a number, and what stands after it

number_after_lem : (a b : Number) → in_range a ≡ true → in_range b ≡ true → (s t : List ℕ) → NoDigit s → NoDigit t
    → NoSign (last_digits a.count a.value ++ s) → NoSign (last_digits b.count b.value ++ t)
    → number_text a ++ s ≡ number_text b ++ t → (a ≡ b) × (s ≡ t)
unfolding number_text
number_after_lem a b p q s t m n u v h =
    let d = last_digits a.count a.value in
    let e = last_digits b.count b.value in
    let r = signed a.nature b.nature d e s t (last_digits_lem a.count a.value) (last_digits_lem b.count b.value) m n u v h in
    let w = digits_apart a.count b.count a.value b.value (in_range_value a p).1 (in_range_value b q).1 r.1 in
    (number_equal r.0 w.0 w.1, r.2)

there_no_sign : (n : Number) (s : List ℕ) → number_there n ≡ true → NoSign (last_digits n.count n.value ++ s)
there_no_sign n s h =
    let g : 1 ≤ n.count = leb-true 1 n.count (right (in_range n) _ h) in
    let l : length (last_digits n.count n.value) ≡ n.count = digits_length n.count n.value in
    digit_no_sign (last_digits n.count n.value) s (omega arith) (last_digits_lem n.count n.value)

-- A number that is there, and then a text that no digit begins: which number it is, and which text stands after it, can be read off the
-- whole. So `+5550100` is not `5550100`, and `0550100` not `550100`.
pub number_text_lem : (a b : Number) → number_there a ≡ true → number_there b ≡ true → (s t : List ℕ) → NoDigit s → NoDigit t
    → number_text a ++ s ≡ number_text b ++ t → (a ≡ b) × (s ≡ t)
number_text_lem a b p q s t m n h =
    number_after_lem a b (left (in_range a) _ p) (left (in_range b) _ q) s t m n (there_no_sign a s p) (there_no_sign b t q) h

-- Nothing stands after it, or a text that begins with a blank or a newline, as all texts after a number in a line do.
abbrev pub Spaced : List ℕ → Type 0
Spaced [] = Unit {0}
Spaced (c ∷ cs) = (c ≡ 32) ⊎ (c ≡ 10)

spaced_no_digit : (s : List ℕ) → Spaced s → NoDigit s
spaced_no_digit [] h = tt
spaced_no_digit (c ∷ s) (inl e) = inl (omega arith)
spaced_no_digit (c ∷ s) (inr e) = inl (omega arith)

spaced_no_sign : (d s : List ℕ) → AllDigits d → Spaced s → NoSign (d ++ s)
spaced_no_sign [] [] p h = tt
spaced_no_sign [] (c ∷ s) p (inl e) = λ f. omega arith
spaced_no_sign [] (c ∷ s) p (inr e) = λ f. omega arith
spaced_no_sign (c ∷ d) s p h = let g : 48 ≤ c = p.0 in λ f. omega arith

-- The same in a line, where a number may also be absent: a blank or a newline is no `+`.
pub number_spaced : (a b : Number) → in_range a ≡ true → in_range b ≡ true → (s t : List ℕ) → Spaced s → Spaced t
    → number_text a ++ s ≡ number_text b ++ t → (a ≡ b) × (s ≡ t)
number_spaced a b p q s t m n h =
    number_after_lem a b p q s t (spaced_no_digit s m) (spaced_no_digit t n)
    (spaced_no_sign (last_digits a.count a.value) s (last_digits_lem a.count a.value) m)
    (spaced_no_sign (last_digits b.count b.value) t (last_digits_lem b.count b.value) n) h

-- ---- The line of a message

-- one such text after another, and where it is there by a part alone
spaced_on : (s t : List ℕ) → Spaced s → Spaced t → Spaced (s ++ t)
spaced_on [] t m n = n
spaced_on (c ∷ s) t m n = m

spaced_if : (present : ℕ) (s t : List ℕ) → Spaced s → Spaced t → Spaced (text_if present s ++ t)
unfolding text_if
spaced_if present s t m n = spaced_on (if_eq present 1 s []) t (both_eq present 1 Spaced s [] (λ _. m) (λ _. tt)) n

-- b: whether its part is present
number_so : (b : Bool) (word : List ℕ) (u v : Number) → (b ≡ true → in_range u ≡ true) → (b ≡ true → in_range v ≡ true)
    → (s t : List ℕ) → Spaced s → Spaced t → if_so b (with_digits word u) [] ++ s ≡ if_so b (with_digits word v) [] ++ t
    → (b ≡ true → u ≡ v) × (s ≡ t)
unfolding if_so with_digits
number_so true word u v p q s t m n h =
    let g : word ++ (number_text u ++ s) ≡ word ++ (number_text v ++ t) =
    sym (append_assoc word (number_text u) s) ∙ h ∙ append_assoc word (number_text v) t in
    let r = number_spaced u v (p refl) (q refl) s t m n (append_cancel_left word (number_text u ++ s) (number_text v ++ t) g) in
    ((λ _. r.0), r.1)
number_so false word u v p q s t m n h = ((λ e. differ e), h)

number_if_lem : (present : ℕ) (word : List ℕ) (u v : Number) → (present ≡ 1 → in_range u ≡ true) → (present ≡ 1 → in_range v ≡ true)
    → (s t : List ℕ) → Spaced s → Spaced t → text_if present (with_digits word u) ++ s ≡ text_if present (with_digits word v) ++ t
    → (present ≡ 1 → u ≡ v) × (s ≡ t)
unfolding text_if if_eq
number_if_lem present word u v p q s t m n h =
    let r = number_so (eqb present 1) word u v (λ e. p (eqb-true present 1 e)) (λ e. q (eqb-true present 1 e)) s t m n h in
    ((λ e. r.0 (eq-eqb present 1 e)), r.1)

-- what stands before the numbers, and what stands after the first and after both
abbrev before : Component → ℕ → List ℕ
before x parts = component_text x ++ parts_text parts

abbrev after_both : ℕ → ℕ → List ℕ
after_both parts duration = text_if (part parts 64) (numbered (ascii " DURATION ") duration) ++ ascii "\n"

abbrev after_first : ℕ → Number → ℕ → List ℕ
after_first parts called duration = text_if (part parts 32) (with_digits (ascii " CALLED ") called) ++ after_both parts duration

abbrev after_none : ℕ → Number → Number → ℕ → List ℕ
after_none parts calling called duration =
    text_if (part parts 16) (with_digits (ascii " CALLING ") calling) ++ after_first parts called duration

spaced_both : (parts duration : ℕ) → Spaced (after_both parts duration)
unfolding numbered
spaced_both parts duration = spaced_if (part parts 64) (numbered (ascii " DURATION ") duration) (ascii "\n") (inl refl) (inr refl)

spaced_first : (parts : ℕ) (called : Number) (duration : ℕ) → Spaced (after_first parts called duration)
unfolding with_digits
spaced_first parts called duration =
    spaced_if (part parts 32) (with_digits (ascii " CALLED ") called) (after_both parts duration) (inl refl) (spaced_both parts duration)

carried_is : (m : Note) → carried_text m ≡ before m.component m.parts ++ after_none m.parts m.calling m.called m.duration
unfolding carried_text values_text
carried_is m = simp append_assoc

-- Each number that a message's parts name, 16 the calling and 32 the called number, is in range.
abbrev pub NamedInRange : Note → Type 0
NamedInRange m = (part m.parts 16 ≡ 1 → in_range m.calling ≡ true) × (part m.parts 32 ≡ 1 → in_range m.called ≡ true)

-- Each number that the parts of the first name is that of the second.
abbrev pub NamedSame : Note → Note → Type 0
NamedSame m n = (part m.parts 16 ≡ 1 → m.calling ≡ n.calling) × (part m.parts 32 ≡ 1 → m.called ≡ n.called)

-- without what stands before the numbers
after_alike : (m n : Note) → m.component ≡ n.component → m.parts ≡ n.parts → carried_text m ≡ carried_text n
    → after_none m.parts m.calling m.called m.duration ≡ after_none m.parts n.calling n.called n.duration
after_alike m n e f h =
    append_cancel_left (before m.component m.parts) _ _
    (sym (carried_is m) ∙ h ∙ carried_is n
    ∙ ap (λ (x : Component). before x n.parts ++ after_none n.parts n.calling n.called n.duration) (sym e)
    ∙ ap (λ (p : ℕ). before m.component p ++ after_none p n.calling n.called n.duration) (sym f))

-- Two messages of the same component and the same parts, whose lines are the same text from the component on, name the same numbers: so
-- other numbers make another line.
pub carried_apart : (m n : Note) → m.component ≡ n.component → m.parts ≡ n.parts → NamedInRange m → NamedInRange n
    → carried_text m ≡ carried_text n → NamedSame m n
carried_apart m n e f p q h =
    let q₀ : part m.parts 16 ≡ 1 → in_range n.calling ≡ true = λ z. q.0 (ap (λ (x : ℕ). part x 16) (sym f) ∙ z) in
    let q₁ : part m.parts 32 ≡ 1 → in_range n.called ≡ true = λ z. q.1 (ap (λ (x : ℕ). part x 32) (sym f) ∙ z) in
    let r = number_if_lem (part m.parts 16) (ascii " CALLING ") m.calling n.calling p.0 q₀
    (after_first m.parts m.called m.duration) (after_first m.parts n.called n.duration)
    (spaced_first m.parts m.called m.duration) (spaced_first m.parts n.called n.duration) (after_alike m n e f h) in
    let l = number_if_lem (part m.parts 32) (ascii " CALLED ") m.called n.called p.1 q₁
    (after_both m.parts m.duration) (after_both m.parts n.duration)
    (spaced_both m.parts m.duration) (spaced_both m.parts n.duration) r.1 in
    (r.0, l.0)

-- The same of the whole line of a message with a name, `> IAM`, `> ANM` or `> FAC`, and of the line of a REL, of the same cause.
sent_apart : (name : List ℕ) (m n : Note) → m.component ≡ n.component → m.parts ≡ n.parts → NamedInRange m → NamedInRange n
    → sent_text name m ≡ sent_text name n → NamedSame m n
unfolding sent_text
sent_apart name m n e f p q h = carried_apart m n e f p q (append_cancel_left name (carried_text m) (carried_text n) h)

released_apart : (m n : Note) → m.cause ≡ n.cause → m.component ≡ n.component → m.parts ≡ n.parts → NamedInRange m
    → NamedInRange n → released_text m ≡ released_text n → NamedSame m n
unfolding released_text
released_apart m n g e f p q h =
    carried_apart m n e f p q
    (append_cancel_left (numbered (ascii "> REL ") m.cause) (carried_text m) (carried_text n)
    (h ∙ ap (λ (c : ℕ). numbered (ascii "> REL ") c ++ carried_text n) (sym g)))

-- An action that sends a message.
abbrev pub is_message : Act → Bool
is_message Nothing = false
is_message NotifyAccepted = false
is_message AccessSetup = false
is_message AccessAsk = false
is_message AccessError = false
is_message AccessRel = false
is_message ChargeCalling = false
is_message ChargeCalled = false
is_message Stop = false
is_message SendIam = true
is_message SendAnm = true
is_message SendRel = true
is_message SendFac = true

-- So it is of the line that the listing has for the action.
pub action_apart : (act : Act) (m n : Note) → is_message act ≡ true → (act ≡ SendRel → m.cause ≡ n.cause) → m.component ≡ n.component
    → m.parts ≡ n.parts → NamedInRange m → NamedInRange n → action_text m act ≡ action_text n act → NamedSame m n
action_apart Nothing m n s g = differ s
action_apart NotifyAccepted m n s g = differ s
action_apart AccessSetup m n s g = differ s
action_apart AccessAsk m n s g = differ s
action_apart AccessError m n s g = differ s
action_apart AccessRel m n s g = differ s
action_apart ChargeCalling m n s g = differ s
action_apart ChargeCalled m n s g = differ s
action_apart Stop m n s g = differ s
action_apart SendIam m n s g = sent_apart (ascii "> IAM") m n
action_apart SendAnm m n s g = sent_apart (ascii "> ANM") m n
action_apart SendRel m n s g = released_apart m n (g refl)
action_apart SendFac m n s g = sent_apart (ascii "> FAC") m n

-- ---- The word of a number in the dump

-- what the word of a number is: that there is none; its digits; its count and value, where it is out of range
data Kind (n : Number) : Type 0 where
  none : in_range n ≡ true → n.count ≡ 0 → Kind n
  digits : number_there n ≡ true → Kind n
  counted : in_range n ≡ false → Kind n

kind : (n : Number) → Kind n
kind n = ranged (in_range n) refl
  where
    there : (b : Bool) → leb 1 n.count ≡ b → in_range n ≡ true → Kind n
    there true e p = digits (both p e)
    there false e p = let g : n.count < 1 = leb-false 1 n.count e in none p (omega arith)

    ranged : (b : Bool) → in_range n ≡ b → Kind n
    ranged true p = there (leb 1 n.count) refl p
    ranged false p = counted p

-- a blank, then the sign, then digits, then what ends them
abbrev sign_of : (n : Number) → Kind n → Nature
sign_of n (none p z) = National
sign_of n (digits p) = n.nature
sign_of n (counted p) = n.nature

abbrev digits_of : (n : Number) → Kind n → List ℕ
digits_of n (none p z) = []
digits_of n (digits p) = last_digits n.count n.value
digits_of n (counted p) = decimal n.count

abbrev end_of : (n : Number) → Kind n → List ℕ
end_of n (none p z) = ascii "-"
end_of n (digits p) = []
end_of n (counted p) = 58 ∷ value_text n.value

word_is : (n : Number) (k : Kind n) → number_word n ≡ 32 ∷ (sign_text (sign_of n k) ++ digits_of n k ++ end_of n k)
unfolding number_word digits_word counted_word with_digits number_text
word_is n (none p z) = sym (yes_so (in_range n) _ _ (counted_word n) p (yes_eq n.count 0 (ascii " -") _ (with_digits (ascii " ") n) z refl))
word_is n (digits p) =
    let g : 1 ≤ n.count = leb-true 1 n.count (right (in_range n) _ p) in
    sym (yes_so (in_range n) _ _ (counted_word n) (left (in_range n) _ p)
    (no_eq n.count 0 _ (ascii " -") (with_digits (ascii " ") n) (λ z. omega arith)
    (ap (λ (l : List ℕ). 32 ∷ l) (append-nil (sign_text n.nature ++ last_digits n.count n.value)))))
word_is n (counted p) =
    sym (no_so (in_range n) _ (digits_word n) (counted_word n) p
    (ap (λ (l : List ℕ). 32 ∷ l) (sym (append_assoc (sign_text n.nature ++ decimal n.count) (ascii ":") (value_text n.value)))))

word_digits : (n : Number) (k : Kind n) → AllDigits (digits_of n k)
word_digits n (none p z) = tt
word_digits n (digits p) = last_digits_lem n.count n.value
word_digits n (counted p) = decimal_digits n.count

word_no_digit : (n : Number) (k : Kind n) (s : List ℕ) → Spaced s → NoDigit (end_of n k ++ s)
word_no_digit n (none p z) s h = inl (omega arith)
word_no_digit n (digits p) s h = spaced_no_digit s h
word_no_digit n (counted p) s h = inr (omega arith)

word_no_sign : (n : Number) (k : Kind n) (s : List ℕ) → NoSign (digits_of n k ++ (end_of n k ++ s))
word_no_sign n (none p z) s = λ e. omega arith
word_no_sign n (digits p) s = there_no_sign n s p
word_no_sign n (counted p) s =
    digit_no_sign (decimal n.count) ((58 ∷ value_text n.value) ++ s) (decimal_some n.count) (decimal_digits n.count)

-- one digit at least is not none
digits_not_none : {A : Type 0} (n : Number) → number_there n ≡ true → [] ≡ last_digits n.count n.value → A
digits_not_none n p e =
    let g : 1 ≤ n.count = leb-true 1 n.count (right (in_range n) _ p) in
    let l : 0 ≡ n.count = ap length e ∙ digits_length n.count n.value in
    absurd (omega arith)

count_not_none : {A : Type 0} (n : Number) → [] ≡ decimal n.count → A
count_not_none n e = let l : 0 ≡ length (decimal n.count) = ap length e in absurd (omega (arith, decimal_some n.count))

-- a colon is neither a blank nor a newline
never_colon : {A : Type 0} (s t : List ℕ) → Spaced s → s ≡ 58 ∷ t → A
never_colon [] t m h = let z : ◌≡◌ {A = ℕ} 0 1 = cc in absurd (omega arith)
never_colon (c ∷ s) t (inl e) h = let f : c ≡ 58 = head-eq_of_cons-eq h in absurd (omega arith)
never_colon (c ∷ s) t (inr e) h = let f : c ≡ 58 = head-eq_of_cons-eq h in absurd (omega arith)

module _ (a b : Number) (f : TypedNumber a) (g : TypedNumber b) (s t : List ℕ) (m : Spaced s) (n : Spaced t) where
  both_counted : a.nature ≡ b.nature → decimal a.count ≡ decimal b.count
      → value_text a.value ++ s ≡ value_text b.value ++ t → (a ≡ b) × (s ≡ t)
  unfolding value_text
  both_counted x d h =
      let r = digits_end (decimal_by 20 a.value) (decimal_by 20 b.value) s t (by_digits 20 a.value) (by_digits 20 b.value)
      (spaced_no_digit s m) (spaced_no_digit t n) h in
      let f₀ : a.count < 256 = f.0 in
      let g₀ : b.count < 256 = g.0 in
      let f₁ : a.value < 2 ^ 64 = f.1 in
      let g₁ : b.value < 2 ^ 64 = g.1 in
      let c = sym (decimal_value a.count (omega arith)) ∙ ap value_of d ∙ decimal_value b.count (omega arith) in
      let v = sym (by_value 20 a.value (omega arith)) ∙ ap value_of r.0 ∙ by_value 20 b.value (omega arith) in
      (number_equal x c v, r.1)

  by_kinds : (h : Kind a) (k : Kind b) → sign_of a h ≡ sign_of b k → digits_of a h ≡ digits_of b k → end_of a h ++ s ≡ end_of b k ++ t
      → (a ≡ b) × (s ≡ t)
  by_kinds (none p z) (none q y) x d e = (digitless_is_absent a p z ∙ sym (digitless_is_absent b q y), tail-eq_of_cons-eq e)
  by_kinds (none p z) (digits q) x d e = digits_not_none b q d
  by_kinds (none p z) (counted q) x d e = count_not_none b d
  by_kinds (digits p) (none q y) x d e = digits_not_none a p (sym d)
  by_kinds (digits p) (digits q) x d e =
      let w = digits_apart a.count b.count a.value b.value (in_range_value a (left (in_range a) _ p)).1
      (in_range_value b (left (in_range b) _ q)).1 d in
      (number_equal x w.0 w.1, e)
  by_kinds (digits p) (counted q) x d e = never_colon s (value_text b.value ++ t) m e
  by_kinds (counted p) (none q y) x d e = count_not_none a (sym d)
  by_kinds (counted p) (digits q) x d e = never_colon t (value_text a.value ++ s) n (sym e)
  by_kinds (counted p) (counted q) x d e = both_counted x d (tail-eq_of_cons-eq e)

  words_by : (h : Kind a) (k : Kind b) → number_word a ++ s ≡ number_word b ++ t → (a ≡ b) × (s ≡ t)
  words_by h k e =
      let c = tail-eq_of_cons-eq (ap (λ (w : List ℕ). w ++ s) (sym (word_is a h)) ∙ e ∙ ap (λ (w : List ℕ). w ++ t) (word_is b k)) in
      let r = signed (sign_of a h) (sign_of b k) (digits_of a h) (digits_of b k) (end_of a h ++ s) (end_of b k ++ t) (word_digits a h)
      (word_digits b k) (word_no_digit a h s m) (word_no_digit b k t n) (word_no_sign a h s) (word_no_sign b k t)
      (sym (append_assoc (sign_text (sign_of a h) ++ digits_of a h) (end_of a h) s) ∙ c
      ∙ append_assoc (sign_text (sign_of b k) ++ digits_of b k) (end_of b k) t) in
      by_kinds h k r.0 r.1 r.2

-- Any two numbers of their types, in range or not, have different words in the dump: nature, count and value can be read off the word,
-- and what stands after it too.
pub number_word_lem : (a b : Number) → TypedNumber a → TypedNumber b → (s t : List ℕ) → Spaced s → Spaced t
    → number_word a ++ s ≡ number_word b ++ t → (a ≡ b) × (s ≡ t)
number_word_lem a b f g s t m n e = words_by a b f g s t m n (kind a) (kind b) e
