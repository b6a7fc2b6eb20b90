-- What fits on the wire is in range as an event, where the message that carries it is.
-- Assumes nothing.
use mathlib.Core.Bool.{Bool, true, false, ◌&&◌, ◌||◌, not}
use mathlib.Core.Path.{◌≡◌, refl, sym, ap, subst, ◌∙◌}
use mathlib.Core.List.{List, [], ◌∷◌}
use Prim.Native.Nat.{ℕ, zero, suc, ◌+◌, ◌*◌, ◌/◌, ◌%◌, ◌^◌, ◌≤◌, ◌<◌}
use native.Mathlib.Omega.{arith}
use borrow.Author.Tests.{lt-ltb, le-leb, eq-eqb}
use lib.Dec.{ltb, leb, eqb}
use Rattle.text.specs.Choose.{if_so, if_lt, if_eq}
use Rattle.files.specs.Bodies.{nature_of, count_of, component_of}
use Rattle.rows.specs.Telephone.{national}
use Rattle.rows.specs.Read.{bit}
use Rattle.rows.specs.Valid.{pickℕ, every_one, first_false, number_there, number_absent, code_ok, item_ok, parts_ok, present_then, carried_ranges, bad_field_of}
use Rattle.rows.specs.declared.Event.TheVariants.{Received}
use Rattle.rows.specs.declared.Message.{Message}
use Rattle.rows.proofs.Ranges.{none_false}
use Rattle.rows.proofs.Truth.{both, or_true}
use Rattle.wire.specs.Writable.{argument_ok, result_ok}
use Rattle.wire.specs.Values.{absent_number}
use Rattle.wire.specs.declared.Component.{Component}
use Rattle.wire.specs.declared.Number.{Number as Party}
use Rattle.wire.proofs.Digited.{Fine}
use Rattle.wire.proofs.Fits.{Shaped, Fits}
use Rattle.wire.proofs.Goods.{argument_inv, result_inv}
use Rattle.peers.specs.Entries.{carrier_bad}
use Rattle.peers.specs.Messages.{number_of, heard_of, no_component}

-- ---- component and parts

abbrev Known : ℕ → ℕ → Type 0
Known k n = (code_ok (component_of k n) ≡ true) × (item_ok (component_of k n) ≡ true)

by_code : (k j n : ℕ) → k ≡ j → Known j n → Known k n
by_code k j n h e = subst (λ (i : ℕ). Known i n) (sym h) e

component_ranged : (k n p : ℕ) → Shaped k n p → Known k n
unfolding component_of if_eq if_so
component_ranged k n p (Shaped.calls h a b e) = by_code k 1 n h (refl, both (le-leb 1 n a) (le-leb n 3 b))
component_ranged k n p (Shaped.answers h a b e) = by_code k 2 n h (refl, both (le-leb 1 n a) (le-leb n 3 b))
component_ranged k n p (Shaped.fails h a b e) = by_code k 3 n h (refl, refl)
component_ranged k n p (Shaped.rejects h a e) = by_code k 4 n h (refl, eq-eqb n 0 a)

-- no part past 64, and 4 only with 2
abbrev Named : ℕ → Type 0
Named p = (p ≤ 127) × (p / 4 % 2 ≤ p / 2 % 2)

-- with neither 2 nor 4
no_answer : (p a m : ℕ) → a < 2 → p ≡ a + 8 * m → p / 4 % 2 ≤ p / 2 % 2
no_answer p a m h e =
    let q : p / 4 ≡ 2 * m = omega arith in
    let r : p / 4 % 2 ≡ 0 = omega arith in
    omega arith

argument_named : (n p : ℕ) → argument_ok n p ≡ 1 → Named p
argument_named n p e =
    argument_inv (Named p) n p e (λ h k. (omega arith, no_answer p (p % 2) (p / 8 % 2 + p / 32 % 2 * 4) (omega arith) (omega arith)))
    (λ h k. (omega arith, no_answer p (p % 2) (p / 16 % 2 * 2) (omega arith) (omega arith)))

result_named : (n p : ℕ) → result_ok n p ≡ 1 → Named p
result_named n p e = result_inv (Named p) n p e (λ h k l. (omega arith, l)) (λ h k l. (omega arith, l))

none_named : (p : ℕ) → p ≡ 0 → Named p
none_named p e = (omega arith, omega arith)

shaped_named : (k n p : ℕ) → Shaped k n p → Named p
shaped_named k n p (Shaped.calls h a b e) = argument_named n p e
shaped_named k n p (Shaped.answers h a b e) = result_named n p e
shaped_named k n p (Shaped.fails h a b e) = none_named p e
shaped_named k n p (Shaped.rejects h a e) = none_named p e

-- the one bit is set where the other is
bits_follow : (a b : ℕ) → a < 2 → b ≤ a → (eqb a 1 || not (eqb b 1)) ≡ true
bits_follow zero zero h g = refl
bits_follow zero (suc b) h g = absurd (omega arith)
bits_follow (suc zero) b h g = refl
bits_follow (suc (suc a)) b h g = absurd (omega arith)

parts_ranged : (p : ℕ) → Named p → (leb p 127 && (bit 2 p || not (bit 4 p))) ≡ true
parts_ranged p (h, g) = both (le-leb p 127 h) (bits_follow (p / 2 % 2) (p / 4 % 2) (omega arith) g)

-- ---- numbers

ten_above : (t : Bool) (value top : ℕ) → t ≡ true → value < top → ltb value (pickℕ t top 0) ≡ true
ten_above t value top h g = ap (λ (u : Bool). ltb value (pickℕ u top 0)) h ∙ lt-ltb value top g

fine_ranged : (n : Party) → Fine n → number_there (number_of n) ≡ true
unfolding number_of count_of
fine_ranged n f =
    let count = n.count % 128 in
    let some : leb 1 count ≡ true = le-leb 1 count f.some in
    both
    (both (ten_above (leb count 15) n.value (10 ^ count) (le-leb count 15 f.most) f.fits)
    (or_true (national (nature_of n.count)) (leb 1 count) some)) some

absent_ranged : number_absent (number_of absent_number) ≡ true
unfolding number_of nature_of count_of if_lt if_so
absent_ranged = refl

-- not there where its part is not ..
unnamed_ranged : (b : ℕ) (n : Party) → b < 2 → (b ≡ 0 → n ≡ absent_number) → (eqb b 1 || number_absent (number_of n)) ≡ true
unnamed_ranged zero n h g = ap (λ (x : Party). number_absent (number_of x)) (g refl) ∙ absent_ranged
unnamed_ranged (suc zero) n h g = refl
unnamed_ranged (suc (suc b)) n h g = absurd (omega arith)

-- .. and in range where it is
present_ranged : (b : ℕ) (n : Party) (rest : List Bool) → b < 2 → (b ≡ 1 → Fine n) → every_one rest ≡ true
    → every_one (present_then (eqb b 1) (number_there (number_of n)) rest) ≡ true
present_ranged zero n rest h f e = e
present_ranged (suc zero) n rest h f e = both (fine_ranged n (f refl)) e
present_ranged (suc (suc b)) n rest h f e = absurd (omega arith)

-- ---- the Duration

duration_ranged : (b d : ℕ) → b < 2 → (b ≡ 0 → d ≡ 0) → (eqb b 1 || eqb d 0) ≡ true
duration_ranged zero d h g = eq-eqb d 0 (g refl)
duration_ranged (suc zero) d h g = refl
duration_ranged (suc (suc b)) d h g = absurd (omega arith)

timed_ranged : (b : Bool) → every_one (present_then b true []) ≡ true
timed_ranged true = refl
timed_ranged false = refl

-- ---- the message

-- message and cause alone are left to judge
carrier_only : (m : Message) → every_one (code_ok m.component ∷ item_ok m.component ∷ parts_ok m ∷ carried_ranges m) ≡ true
    → bad_field_of (Received m) ≡ first_false 1 ((leb 1 m.kind && leb m.kind 5) ∷ leb m.cause 127 ∷ [])
carrier_only m h =
    ap (λ (k : ℕ). pickℕ (leb 1 m.kind && leb m.kind 5) (pickℕ (leb m.cause 127) k 2) 1)
    (none_false 3 (code_ok m.component ∷ item_ok m.component ∷ parts_ok m ∷ carried_ranges m) h)

-- What fits is in range in any message whose kind and cause are: nothing of the component need be looked at again.
pub fits_ranged : (message cause : ℕ) (c : Component) → Fits c → bad_field_of (Received (heard_of message cause c)) ≡ carrier_bad message cause
unfolding heard_of carrier_bad
fits_ranged message cause c f =
    let p = c.parts in
    let k = component_ranged c.kind c.item p f.shaped in
    let timed : List Bool = present_then (eqb (p / 64 % 2) 1) true [] in
    let called : List Bool = present_then (eqb (p / 32 % 2) 1) (number_there (number_of c.called)) timed in
    carrier_only (heard_of message cause c)
    (both k.0
    (both k.1
    (both
    (both (parts_ranged p (shaped_named c.kind c.item p f.shaped))
    (both (unnamed_ranged (p / 16 % 2) c.calling (omega arith) f.calling_none)
    (both (unnamed_ranged (p / 32 % 2) c.called (omega arith) f.called_none)
    (duration_ranged (p / 64 % 2) c.duration (omega arith) f.duration_none))))
    (present_ranged (p / 16 % 2) c.calling called (omega arith) f.calling_fine
    (present_ranged (p / 32 % 2) c.called timed (omega arith) f.called_fine (timed_ranged (eqb (p / 64 % 2) 1)))))))

pub none_ranged : (message cause : ℕ) → bad_field_of (Received (heard_of message cause no_component)) ≡ carrier_bad message cause
unfolding heard_of carrier_bad no_component component_of number_of nature_of count_of if_eq if_lt if_so
none_ranged message cause = carrier_only (heard_of message cause no_component) refl

pub carrier_small : (message cause : ℕ) → carrier_bad message cause ≤ 2
unfolding carrier_bad
carrier_small message cause = by (leb 1 message && leb message 5) (leb cause 127)
  where
    by : (a b : Bool) → pickℕ a (pickℕ b 0 2) 1 ≤ 2
    by true true = omega arith
    by true false = omega arith
    by false b = omega arith
