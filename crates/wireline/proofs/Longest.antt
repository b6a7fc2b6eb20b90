-- How long a component's line can be: no longer than 354 bytes, so that it fits in an array of as many.
-- Assumes nothing.
use Rattle.std.proofs.Common.{ℕ, ◌+◌, ◌/◌, ◌%◌, ◌≤◌, List, [], ◌++◌, length, arith, length-append}
use Rattle.text.specs.Choose.{if_eq}
use Rattle.text.specs.Text.{ascii, last_digits, decimal, value_text, numbered}
use Rattle.text.proofs.Cases.{both_eq}
use Rattle.text.proofs.Ends.{digits_length}
use Rattle.text.proofs.Numbers.{by_most, count_most}
use Rattle.wire.specs.Texts.{text_if}
use Rattle.wire.specs.declared.Component.{Component}
use Rattle.wire.specs.declared.Number.{Number}
use Rattle.wireline.specs.Hex.{octet_text}
use Rattle.wireline.specs.Lines.{digits_text, counted_text, number_text, party_text, duration_text, flags_text, values_text}
use Rattle.wireline.specs.Lines.{operation_text, with_operation, head_text, id_text, line_in}

-- ---- by the form of a text

join : {j k : ℕ} (n : ℕ) (s t : List ℕ) → length s ≤ j → length t ≤ k → j + k ≤ n → length (s ++ t) ≤ n
join n s t f g h = omega (arith, length-append s t)

eq_most : (n : ℕ) (s t : List ℕ) → length s ≤ n → length t ≤ n → (a b : ℕ) → length (if_eq a b s t) ≤ n
eq_most n s t f g a b = both_eq a b (λ (u : List ℕ). length u ≤ n) s t (λ _. f) (λ _. g)

if_most : (n present : ℕ) (t : List ℕ) → length t ≤ n → length (text_if present t) ≤ n
unfolding text_if
if_most n present t h = eq_most n t [] h (omega arith) present 1

numbered_most : (n : ℕ) (word : List ℕ) (x : ℕ) → length word + 10 ≤ n → length (numbered word x) ≤ n
unfolding numbered
numbered_most n word x h = omega (arith, length-append word (decimal x), count_most x)

-- ---- numbers: a count is below 128, but for the mark of an international one

sign_most : (n : Number) → length (text_if (n.count / 128) (ascii "+")) ≤ 1
sign_most n = if_most 1 (n.count / 128) (ascii "+") (omega arith)

digits_most : (n : Number) → length (digits_text n) ≤ 128
unfolding digits_text
digits_most n =
    join {j = 1} {k = 127} 128 _ (last_digits (n.count % 128) n.value) (sign_most n)
    (omega (arith, digits_length (n.count % 128) n.value)) (omega arith)

counted_most : (n : Number) → length (counted_text n) ≤ 128
unfolding counted_text value_text
counted_most n =
    join {j = 12} {k = 20} 128 _ (value_text n.value)
    (join {j = 11} {k = 1} 12 _ (ascii ":")
    (join {j = 1} {k = 10} 11 _ (decimal (n.count % 128)) (sign_most n) (count_most (n.count % 128)) (omega arith))
    (omega arith) (omega arith))
    (by_most 20 n.value) (omega arith)

number_most : (counted : ℕ) (n : Number) → length (number_text counted n) ≤ 128
unfolding number_text
number_most counted n = eq_most 128 (counted_text n) (digits_text n) (counted_most n) (digits_most n) counted 1

-- ---- parts

party_most : (k present : ℕ) (word : List ℕ) (counted : ℕ) (n : Number) → length word + 128 ≤ k → length (party_text present word counted n) ≤ k
unfolding party_text
party_most k present word counted n h =
    if_most k present (word ++ number_text counted n) (omega (arith, h, number_most counted n, length-append word (number_text counted n)))

duration_most : (present t : ℕ) → length (duration_text present t) ≤ 20
unfolding duration_text
duration_most present t = if_most 20 present (numbered (ascii " DURATION ") t) (numbered_most 20 (ascii " DURATION ") t (omega arith))

flags_most : (p : ℕ) → length (flags_text p) ≤ 38
unfolding flags_text
flags_most p =
    join {j = 30} {k = 8} 38 _ _
    (join {j = 18} {k = 12} 30 _ _
    (join {j = 9} {k = 9} 18 _ _
    (if_most 9 (p % 2) (ascii " TRANSFER") (omega arith))
    (if_most 9 (p / 2 % 2) (ascii " ACCEPTED") (omega arith)) (omega arith))
    (if_most 12 (p / 4 % 2) (ascii " AS-TRANSFER") (omega arith)) (omega arith))
    (if_most 8 (p / 8 % 2) (ascii " PARTIAL") (omega arith)) (omega arith)

values_most : (forms : ℕ) (c : Component) → length (values_text forms c) ≤ 293
unfolding values_text
values_most forms c =
    join {j = 273} {k = 20} 293 _ _
    (join {j = 137} {k = 136} 273 _ _
    (party_most 137 (c.parts / 16 % 2) (ascii " CALLING ") (forms % 2) c.calling (omega arith))
    (party_most 136 (c.parts / 32 % 2) (ascii " CALLED ") (forms / 2 % 2) c.called (omega arith)) (omega arith))
    (duration_most (c.parts / 64 % 2) c.duration) (omega arith)

-- ---- the component

operation_most : (operation : ℕ) → length (operation_text operation) ≤ 11
unfolding operation_text
operation_most operation =
    eq_most 11 (ascii " SETUP") _ (omega arith)
    (eq_most 11 (ascii " ACTIVE") _ (omega arith)
    (eq_most 11 (ascii " CALLED") _ (omega arith) (numbered_most 11 (ascii " ") operation (omega arith)) operation 3) operation 2) operation 1

with_operation_most : (word : List ℕ) (operation : ℕ) → length word ≤ 6 → length (with_operation word operation) ≤ 17
unfolding with_operation
with_operation_most word operation h = join {j = 6} {k = 11} 17 word (operation_text operation) h (operation_most operation) (omega arith)

head_most : (kind item : ℕ) → length (head_text kind item) ≤ 17
unfolding head_text
head_most kind item =
    eq_most 17 (with_operation (ascii "INVOKE") item) _ (with_operation_most (ascii "INVOKE") item (omega arith))
    (eq_most 17 (with_operation (ascii "RESULT") item) _ (with_operation_most (ascii "RESULT") item (omega arith))
    (eq_most 17 (numbered (ascii "ERROR ") item) (ascii "REJECT") (numbered_most 17 (ascii "ERROR ") item (omega arith)) (omega arith) kind 3) kind 2) kind 1

id_most : (x : ℕ) → length (id_text x) ≤ 6
unfolding id_text octet_text
id_most x = eq_most 6 (ascii " ID -") (ascii " ID " ++ octet_text (x % 256)) (omega arith) (omega arith) x 256

pub line_most : (forms : ℕ) (c : Component) → length (line_in forms c) ≤ 354
unfolding line_in
line_most forms c =
    join {j = 61} {k = 293} 354 _ (values_text forms c)
    (join {j = 23} {k = 38} 61 _ (flags_text c.parts)
    (join {j = 17} {k = 6} 23 (head_text c.kind c.item) (id_text c.id) (head_most c.kind c.item) (id_most c.id) (omega arith))
    (flags_most c.parts) (omega arith))
    (values_most forms c) (omega arith)
