-- Numbers and fields in bytes, both ways: what is written is what is read, and what is read is what stands there.
-- Assumes nothing.
use Rattle.std.proofs.Common.{◌≡◌, ℕ, zero, suc, ◌+◌, ◌*◌, ◌/◌, ◌%◌, ◌^◌, ◌<◌, ◌≤◌, List, [], ◌∷◌, ◌++◌, length, get_or, take, drop, sym, refl, ap, ◌∙◌, ap₂, add-zero, add_assoc, pow-suc, arith, length-append, drop-cons, drop-drop, get_or-append-add, take-add}
use native.Mathlib.Nat.{pow-le-pow_right}
use lib.ListN.{get_or-append}
use Rattle.files.specs.Bytes.{byte_at, le_at, le_of}
use Rattle.files.specs.Fields.{size_of, values_at, bytes_of}
use Rattle.files.specs.Typed.{AllBytes}

-- as many values as fields, and each value has room in its field
abbrev pub Fits : List ℕ → List ℕ → Type 0
Fits [] [] = Unit {0}
Fits [] (v ∷ vs) = ⊥
Fits (w ∷ ws) [] = ⊥
Fits (w ∷ ws) (v ∷ vs) = (v < 256 ^ w) × Fits ws vs

-- t stands in s at i
abbrev pub Holds : List ℕ → ℕ → List ℕ → Type 0
Holds s i t = (j : ℕ) → j < length t → byte_at s (i + j) ≡ get_or t j 0

-- ---- bytes that stand at a place

-- also past the end, where 0 is read
byte_small : (s : List ℕ) (i : ℕ) → AllBytes s → byte_at s i < 256
byte_small [] i h = omega arith
byte_small (x ∷ xs) zero h = h.0
byte_small (x ∷ xs) (suc i) h = byte_small xs i h.1

module _ (s : List ℕ) where
  pub holds_left : (i : ℕ) (t u : List ℕ) → Holds s i (t ++ u) → Holds s i t
  holds_left i t u f j h = f j (let e = length-append t u in omega arith) ∙ get_or-append t u 0 j h

  pub holds_right : (i : ℕ) (t u : List ℕ) → Holds s i (t ++ u) → Holds s (i + length t) u
  holds_right i t u f j h =
      ap (byte_at s) (add_assoc i (length t) j) ∙ f (length t + j) (let e = length-append t u in omega arith) ∙ get_or-append-add t u j 0

  holds_first : (i x : ℕ) (t : List ℕ) → Holds s i (x ∷ t) → byte_at s i ≡ x
  holds_first i x t f = ap (byte_at s) (sym (add-zero i)) ∙ f 0 (omega arith)

-- between what stands before it and what follows
pub holds_between : (p t q : List ℕ) → Holds (p ++ t ++ q) (length p) t
holds_between p t q j h =
    let e = length-append p t in
    get_or-append (p ++ t) q 0 (length p + j) (omega arith) ∙ get_or-append-add p t j 0

-- ---- a number

-- what is written is bytes, and what is read of bytes has room in as many
pub le_bytes : (w v : ℕ) → AllBytes (le_of w v)
unfolding le_of
le_bytes zero v = tt
le_bytes (suc w) v = (omega arith, le_bytes w (v / 256))

le_below : (w : ℕ) (s : List ℕ) (i : ℕ) → AllBytes s → le_at w s i < 256 ^ w
unfolding le_at
le_below zero s i a = omega arith
le_below (suc w) s i a = let p = pow-suc 256 w in let b = byte_small s i a in let r = le_below w s (i + 1) a in omega arith

pub le_within : (w k : ℕ) (s : List ℕ) (i : ℕ) → w ≤ k → AllBytes s → le_at w s i < 256 ^ k
le_within w k s i h a = let p : 256 ^ w ≤ 256 ^ k = pow-le-pow_right (omega arith) h in let r = le_below w s i a in omega arith

pub le_length : (w v : ℕ) → length (le_of w v) ≡ w
unfolding le_of
le_length zero v = refl
le_length (suc w) v = ap suc (le_length w (v / 256))

pub le_back : (w v : ℕ) (s : List ℕ) (i : ℕ) → v < 256 ^ w → Holds s i (le_of w v) → le_at w s i ≡ v
unfolding le_at le_of
le_back zero v s i h f = omega arith
le_back (suc w) v s i h f =
    let b : byte_at s i ≡ v % 256 = holds_first s i (v % 256) (le_of w (v / 256)) f in
    let r : le_at w s (i + 1) ≡ v / 256 =
    le_back w (v / 256) s (i + 1) (omega (arith, pow-suc 256 w)) (holds_right s i (v % 256 ∷ []) (le_of w (v / 256)) f) in
    omega arith

pub le_again : (w : ℕ) (s : List ℕ) (i : ℕ) → AllBytes s → i + w ≤ length s → le_of w (le_at w s i) ≡ take w (drop i s)
unfolding le_at le_of
le_again zero s i a h = refl
le_again (suc w) s i a h =
    let b : byte_at s i < 256 = byte_small s i a in
    let l : (byte_at s i + 256 * le_at w s (i + 1)) % 256 ≡ byte_at s i = omega arith in
    let g : (byte_at s i + 256 * le_at w s (i + 1)) / 256 ≡ le_at w s (i + 1) = omega arith in
    let k : i + 1 ≡ suc i = omega arith in
    ap₂ (λ (x y : ℕ). x ∷ le_of w y) l g
    ∙ ap (λ (t : List ℕ). byte_at s i ∷ t) (le_again w s (i + 1) a (omega arith) ∙ ap (λ (n : ℕ). take w (drop n s)) k)
    ∙ sym (ap (take (suc w)) (drop-cons s i 0 (omega arith)))

-- ---- fields

pub fields_length : (ws vs : List ℕ) → length ws ≡ length vs → length (bytes_of ws vs) ≡ size_of ws
unfolding bytes_of size_of
fields_length [] vs e = refl
fields_length (w ∷ ws) [] e = absurd (omega arith)
fields_length (w ∷ ws) (v ∷ vs) e =
    length-append (le_of w v) (bytes_of ws vs) ∙ ap₂ (λ (x y : ℕ). x + y) (le_length w v) (fields_length ws vs (omega arith))

pub fields_back : (ws vs s : List ℕ) (i : ℕ) → Fits ws vs → Holds s i (bytes_of ws vs) → values_at s i ws ≡ vs
unfolding values_at bytes_of
fields_back [] [] s i h f = refl
fields_back [] (v ∷ vs) s i h f = absurd h
fields_back (w ∷ ws) [] s i h f = absurd h
fields_back (w ∷ ws) (v ∷ vs) s i h f =
    ap₂ (λ (x : ℕ) (xs : List ℕ). x ∷ xs) (le_back w v s i h.0 (holds_left s i (le_of w v) (bytes_of ws vs) f))
    (fields_back ws vs s (i + w) h.1 (rw (le_length w v) at (holds_right s i (le_of w v) (bytes_of ws vs) f)))

pub fields_again : (ws s : List ℕ) (i : ℕ) → AllBytes s → i + size_of ws ≤ length s
    → bytes_of ws (values_at s i ws) ≡ take (size_of ws) (drop i s)
unfolding values_at bytes_of size_of
fields_again [] s i a h = refl
fields_again (w ∷ ws) s i a h =
    ap₂ (λ (t u : List ℕ). t ++ u) (le_again w s i a (omega arith))
    (fields_again ws s (i + w) a (omega arith) ∙ ap (take (size_of ws)) (sym (drop-drop w i s)))
    ∙ sym (take-add w (size_of ws) (drop i s))

-- the fields of a body are bytes
pub bytes_join : (a b : List ℕ) → AllBytes a → AllBytes b → AllBytes (a ++ b)
bytes_join [] b g h = h
bytes_join (x ∷ a) b g h = (g.0, bytes_join a b g.1 h)

pub fields_bytes : (ws vs : List ℕ) → AllBytes (bytes_of ws vs)
unfolding bytes_of
fields_bytes [] vs = tt
fields_bytes (w ∷ ws) [] = tt
fields_bytes (w ∷ ws) (v ∷ vs) = bytes_join (le_of w v) (bytes_of ws vs) (le_bytes w v) (fields_bytes ws vs)
