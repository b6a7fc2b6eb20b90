-- The digits and the numbers that were written are read back.
-- Assumes nothing.
use mathlib.Core.Path.{◌≡◌, refl, sym, ap, ◌∙◌}
use mathlib.Core.List.{List, [], ◌∷◌}
use Prim.Native.Nat.{ℕ, zero, suc, ◌+◌, ◌-◌, ◌*◌, ◌/◌, ◌%◌, ◌^◌, ◌≤◌, ◌<◌}
use native.Mathlib.Nat.{pow-suc, pow-le-pow_right}
use native.Mathlib.Omega.{arith}
use lib.ListN.{length}
use Rattle.text.proofs.Cases.{no_lt, yes_eq, no_eq}
use Rattle.wire.specs.Bytes.{byte_at}
use Rattle.wire.specs.Values.{paired_of, pair_on, pairs_at, counted_of, natured_of, digited_of, party_by, party_of, there_of}
use Rattle.wire.specs.Texts.{pair_byte, octets_of, padded_of, number_text}
use Rattle.wire.specs.declared.Number.{Number}
use Rattle.wire.proofs.Pieces.{octets_length}
use Rattle.wire.proofs.Back.{Holds, holds_left, holds_right, holds_first, holds_second, holds_after}
use Rattle.wire.specs.Answers.{Digits}
use Rattle.std.specs.Prelude.{Some}
use Rattle.std.specs.Prelude.{true, false, not, eqb}
use Rattle.text.proofs.Cases.{yes_so, no_so}
use borrow.Author.Tests.{ne_eqb}

pair_back : (v : ℕ) → Some v ≡ paired_of (v / 100) (pair_byte (v % 100))
unfolding paired_of
pair_back v =
    let e : v / 100 * 100 + (pair_byte (v % 100) % 16 * 10 + pair_byte (v % 100) / 16) ≡ v = omega arith in
    no_lt _ _ _ _ _ (omega arith) (no_lt _ _ _ _ _ (omega arith) (rw e))

pub pairs_back : (s : List ℕ) (i m v : ℕ) → v < 100 ^ m → Holds s (i + 2) (octets_of m v) → Some v ≡ pairs_at s i m
unfolding pairs_at octets_of pair_on
pairs_back s i zero v h f = let e : v ≡ 0 = omega arith in rw e
pairs_back s i (suc m) v h f =
    let p = pow-suc 100 m in
    let q = pairs_back s i m (v / 100) (omega arith) (holds_left s (i + 2) (octets_of m (v / 100)) _ f) in
    let w = holds_right s (i + 2) (octets_of m (v / 100)) _ f in
    let k = octets_length m (v / 100) in
    let z : i + 2 + length (octets_of m (v / 100)) ≡ i + (2 + m) = omega arith in
    let b : byte_at s (i + (2 + m)) ≡ pair_byte (v % 100) = ap (byte_at s) (sym z) ∙ holds_first s _ _ [] w in
    pair_back v ∙ ap (λ (x : ℕ). paired_of (v / 100) x) (sym b) ∙ ap (λ (x : Digits). pair_on x (byte_at s (i + (2 + m)))) q

-- ---- a number

pub hundred : (m : ℕ) → 10 ^ (m + m) ≡ 100 ^ m
hundred zero = refl
hundred (suc m) =
    let e : suc m + suc m ≡ suc (suc (m + m)) = omega arith in
    let p = pow-suc 10 (suc (m + m)) in
    let q = pow-suc 10 (m + m) in
    let r = pow-suc 100 m in
    let h = hundred m in
    rw e (omega arith)

pub number_eq : (n : Number) (x y : ℕ) → n.count ≡ x → n.value ≡ y → n ≡ record { count = x; value = y }
number_eq n x y e f = rw (sym e, sym f)

counted_odd : (n : Number) (m k : ℕ) → (m ≡ 0 → ⊥) → n.count ≡ k + (2 * m - 1) → n ≡ counted_of m true k (n.value * 10)
unfolding counted_of
counted_odd n m k h e = no_eq _ _ _ _ _ h (yes_so _ _ _ _ refl (yes_eq _ _ _ _ _ (omega arith) (number_eq n _ _ e (omega arith))))

counted_even : (n : Number) (m k : ℕ) → (m ≡ 0 → ⊥) → (m ≡ 8 → ⊥) → n.count ≡ k + 2 * m → n ≡ counted_of m false k n.value
unfolding counted_of
counted_even n m k h g e = no_eq _ _ _ _ _ h (no_so _ _ _ _ refl (no_eq _ _ _ _ _ g (number_eq n _ _ e refl)))

natured_back : (n : Number) (m v o z : ℕ) → z < 2 → n ≡ counted_of m (eqb o 1) (z * 128) v → n ≡ natured_of m (o * 128 + z + 3) 19 v
unfolding natured_of
natured_back n m v o zero h e =
    let q : (o * 128 + 0 + 3) / 128 ≡ o = omega arith in yes_eq _ _ _ _ _ refl (yes_eq _ _ _ _ _ (omega arith) (rw q e))
natured_back n m v o (suc zero) h e =
    let q : (o * 128 + 1 + 3) / 128 ≡ o = omega arith in yes_eq _ _ _ _ _ refl (no_eq _ _ _ _ _ (λ f. omega arith) (yes_eq _ _ _ _ _ (omega arith) (rw q e)))
natured_back n m v o (suc (suc z)) h e = absurd (omega arith)

-- one that can be written
pub record Fine (n : Number) : Type 0 where
  pub byte : n.count < 256
  pub some : 1 ≤ n.count % 128
  pub most : n.count % 128 ≤ 15
  pub fits : n.value < 10 ^ (n.count % 128)

abbrev pub octet_count : Number → ℕ
octet_count n = (n.count % 128 + 1) / 2

module _ (n : Number) (f : Fine n) where
  below : n.value < 10 ^ 15
  below =
      let h = f.most in
      let p : 10 ^ (n.count % 128) ≤ 10 ^ 15 = pow-le-pow_right (omega arith) h in
      let g = f.fits in omega arith

  by_parity : (o : ℕ) → n.count % 2 ≡ o → (padded_of n.count n.value < 100 ^ octet_count n) × (n ≡ counted_of (octet_count n) (eqb o 1) (n.count / 128 * 128) (padded_of n.count n.value))
  unfolding padded_of
  by_parity zero e =
      let z : padded_of n.count n.value ≡ n.value = sym (no_eq _ _ _ _ _ (λ k. omega arith) (let b = below in omega arith)) in
      let d : n.count % 128 ≡ octet_count n + octet_count n = omega arith in
      let g : n.value < 10 ^ (octet_count n + octet_count n) = rw d at f.fits in
      let h = hundred (octet_count n) in
      let a = f.some in
      let b = f.most in
      let t = f.byte in
      rw z ((omega arith), counted_even n (octet_count n) (n.count / 128 * 128) (λ k. omega arith) (λ k. omega arith) (omega arith))
  by_parity (suc zero) e =
      let z : padded_of n.count n.value ≡ n.value * 10 = sym (yes_eq _ _ _ _ _ e (let b = below in omega arith)) in
      let d : suc (n.count % 128) ≡ octet_count n + octet_count n = omega arith in
      let p = pow-suc 10 (n.count % 128) in
      let g : 10 ^ suc (n.count % 128) ≡ 10 ^ (octet_count n + octet_count n) = rw d in
      let h = hundred (octet_count n) in
      let a = f.some in
      let b = f.most in
      let t = f.byte in
      let k = f.fits in
      rw z ((omega arith), counted_odd n (octet_count n) (n.count / 128 * 128) (λ k. omega arith) (omega arith))
  by_parity (suc (suc o)) e = absurd (omega arith)

  pub party_back : (s : List ℕ) (i next : ℕ) → Holds s i (number_text n) → next ≡ i + 2 + octet_count n → next ≤ length s → party_of s i next ≡ n
  unfolding party_of party_by number_text digited_of
  party_back s i next h e g =
      let w = by_parity (n.count % 2) refl in
      let m : next - (i + 2) ≡ octet_count n = omega arith in
      let b = f.most in
      let t = f.byte in
      let a : ℕ = n.count % 2 * 128 + n.count / 128 + 3 in
      let l : List ℕ = octets_of (octet_count n) (padded_of n.count n.value) in
      let x : byte_at s i ≡ n.count % 2 * 128 + n.count / 128 + 3 = holds_first s i a (19 ∷ l) h in
      let y : byte_at s (i + 1) ≡ 19 = holds_second s i a 19 l h in
      let q = pairs_back s i (octet_count n) (padded_of n.count n.value) w.0 (holds_after s i a 19 l h) in
      sym
      (no_lt _ _ _ _ _ g
      (no_lt _ _ _ _ _ (omega arith)
      (rw m
      (no_lt _ _ _ _ _ (omega arith)
      (natured_back n (octet_count n) (padded_of n.count n.value) (n.count % 2) (n.count / 128) (omega arith) w.1
      ∙ ap (λ (z : ℕ). natured_of (octet_count n) z 19 (padded_of n.count n.value)) (sym x)
      ∙ ap (λ (z : ℕ). natured_of (octet_count n) (byte_at s i) z (padded_of n.count n.value)) (sym y)
      ∙ ap (λ (z : Digits). digited_of (octet_count n) (byte_at s i) (byte_at s (i + 1)) z) q)))))

  pub there_back : there_of n ≡ true
  unfolding there_of
  there_back = let a = f.some in ap not (ne_eqb n.count 0 (λ e. omega arith))
