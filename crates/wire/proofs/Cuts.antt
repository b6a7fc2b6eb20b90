-- What a component's answer rests on: its own bytes, no byte after them, and all of them.
-- Assumes nothing.
use mathlib.Core.Path.{◌≡◌, refl, sym, ap, subst, ◌∙◌}
use mathlib.Core.List.{List}
use Prim.Native.Nat.{ℕ, zero, suc, ◌+◌, ◌-◌, ◌%◌, ◌≤◌, ◌<◌}
use native.Mathlib.Omega.{arith}
use lib.ListN.{take}
use lib.Seq.{get_or-take}
use Rattle.text.proofs.Cases.{yes_lt, no_lt, yes_le, no_le, yes_eq, no_eq, both_lt, both_le, both_eq}
use Rattle.wire.specs.Bytes.{byte_at, big_at}
use Rattle.wire.specs.Heads.{tag_by, tag_after, length_place, filled_of, length_of, head_from, head_of}
use Rattle.wire.proofs.Lengths.{place_past, head_none}
use Rattle.wire.specs.Answers.{Head, element}
use Rattle.std.specs.Prelude.{Ok, Err}

-- s and t have the same bytes below n
abbrev pub Alike : List ℕ → List ℕ → ℕ → Type 0
Alike s t n = (i : ℕ) → i < n → byte_at s i ≡ byte_at t i

pub alike_less : (s t : List ℕ) (m n : ℕ) → m ≤ n → Alike s t n → Alike s t m
alike_less s t m n h f i l = f i (omega arith)

pub alike_take : (s : List ℕ) (n : ℕ) → Alike s (take n s) n
alike_take s n i h = sym (get_or-take n s i 0 h)

-- ---- the tag's place

past : (k : ℕ) (s : List ℕ) (i : ℕ) → i ≤ tag_by k s i
unfolding tag_by
past zero s i = omega arith
past (suc k) s i = both_lt _ _ (λ (x : ℕ). i ≤ x) _ _ (λ _. omega arith) (λ _. let h = past k s (i + 1) in omega arith)

past_one : (k : ℕ) (s : List ℕ) (i : ℕ) → i + 1 ≤ tag_by (suc k) s i
unfolding tag_by
past_one k s i = both_lt _ _ (λ (x : ℕ). i + 1 ≤ x) _ _ (λ _. omega arith) (λ _. past k s (i + 1))

-- found before the bytes end: found again in bytes that are alike so far
tag_again : (k j : ℕ) (s t : List ℕ) (i n r : ℕ) → Alike s t n → r ≡ tag_by k s i → r < i + k → r ≤ n → r ≤ i + j → tag_by j t i ≡ r
unfolding tag_by
tag_again zero j s t i n r a e h g f = absurd (omega arith)
tag_again (suc k) zero s t i n r a e h g f = absurd (let p = past_one k s i in omega arith)
tag_again (suc k) (suc j) s t i n r a e h g f =
    both_lt (byte_at s i) 128 (λ (x : ℕ). r ≡ x → tag_by (suc j) t i ≡ r) (i + 1) (tag_by k s (i + 1))
    (λ l q. let b = a i (omega arith) in sym (yes_lt _ _ _ _ _ (omega arith) q))
    (λ l q. let p = past k s (i + 1) in let b = a i (omega arith) in
    sym (no_lt _ _ _ _ _ (omega arith) (sym (tag_again k j s t (i + 1) n r a q (omega arith) g (omega arith)))))
    e

-- not found before i + j: not found there in bytes that are alike so far
tag_late : (k j : ℕ) (s t : List ℕ) (i : ℕ) → Alike s t (i + j) → j ≤ k → i + j ≤ tag_by k s i → i + j ≤ tag_by j t i
unfolding tag_by
tag_late k zero s t i a h g = omega arith
tag_late zero (suc j) s t i a h g = absurd (omega arith)
tag_late (suc k) (suc j) s t i a h g =
    let b = a i (omega arith) in
    both_lt (byte_at t i) 128 (λ (x : ℕ). i + suc j ≤ x) (i + 1) (tag_by j t (i + 1))
    (λ l. both_lt (byte_at s i) 128 (λ (x : ℕ). i + suc j ≤ x → i + suc j ≤ i + 1) (i + 1) (tag_by k s (i + 1)) (λ _ q. q) (λ m _. absurd (omega arith)) g)
    (λ l. both_lt (byte_at s i) 128 (λ (x : ℕ). i + suc j ≤ x → i + suc j ≤ tag_by j t (i + 1)) (i + 1) (tag_by k s (i + 1))
    (λ m _. absurd (omega arith))
    (λ m q. let w = tag_late k j s t (i + 1) (alike_less s t (i + 1 + j) (i + suc j) (omega arith) a) (omega arith) (omega arith) in omega arith) g)

big_again : (s t : List ℕ) (i k n : ℕ) → Alike s t n → i + k ≤ n → big_at s i k ≡ big_at t i k
unfolding big_at
big_again s t i zero n a h = refl
big_again s t i (suc k) n a h =
    let e = big_again s t i k n a (omega arith) in
    let b = a (i + k) (omega arith) in
    rw (e, b)

-- ---- an element's head, where its bytes are all there

after_again : (s t : List ℕ) (i end last n r : ℕ) → Alike s t n → r ≡ tag_after s i end → r < end → r ≤ n → r ≤ last → tag_after t i last ≡ r
unfolding tag_after
after_again s t i end last n r a e h g f =
    let p = past (end - i) s i in
    tag_again (end - i) (last - i) s t i n r a e (omega arith) g (omega arith)

after_late : (s t : List ℕ) (i end last : ℕ) → Alike s t last → i ≤ last → last ≤ end → last ≤ tag_after s i end → last ≤ tag_after t i last
unfolding tag_after
after_late s t i end last a l h g =
    let z : i + (last - i) ≡ last = omega arith in
    let w = tag_late (end - i) (last - i) s t i (subst (λ (x : ℕ). Alike s t x) (sym z) a) (omega arith) (omega arith) in
    omega arith

-- what place the length has: the tag is of one byte or of several
place_again : (s t : List ℕ) (at end last n place : ℕ) → Alike s t n → place ≡ length_place s at end → at < end → place < end → place < n → place < last → length_place t at last ≡ place
unfolding length_place
place_again s t at end last n place a e o h g f =
    let p = place_past s at end in
    let b = a at (omega arith) in
    both_eq (byte_at s at % 32) 31 (λ (x : ℕ). place ≡ x → length_place t at last ≡ place) (tag_after s (at + 1) end) (at + 1)
    (λ l q. sym (yes_eq _ _ _ _ _ (omega arith) (sym (far q))))
    (λ l q. sym (no_eq _ _ _ _ _ (λ m. l (omega arith)) q))
    e
  where
    far : place ≡ tag_after s (at + 1) end → tag_after t (at + 1) last ≡ place
    far q = after_again s t (at + 1) end last n place a q (omega arith) (omega arith) (omega arith)

abbrev pub Again : List ℕ → ℕ → Head → Type 0
Again s at (Err n) = Unit {0}
Again s at (Ok el) = (t : List ℕ) (end short : ℕ) → Alike s t el.next → el.next ≤ end → head_of t at end short ≡ Ok (element el.tag el.body el.next)

abbrev pub Less : List ℕ → ℕ → Head → Type 0
Less s at (Err n) = Unit {0}
Less s at (Ok el) = (t : List ℕ) (end short : ℕ) → Alike s t end → end < el.next → head_of t at end short ≡ Err short

-- a head by its parts
module _ (t : List ℕ) (at last short place tag first : ℕ) (b : byte_at t at ≡ tag) (z : length_place t at last ≡ place) (c : byte_at t place ≡ first) (o : at < last) where
  by_place : (r : Head) → r ≡ head_from t tag place last short → r ≡ head_of t at last short
  unfolding head_of
  by_place r e = no_le _ _ _ _ _ o (e ∙ ap (λ (x : ℕ). head_from t tag x last short) (sym z) ∙ ap (λ (x : ℕ). head_from t x (length_place t at last) last short) (sym b))

  by_length : (r : Head) → place < last → r ≡ length_of t tag first (place + 1) last short → r ≡ head_of t at last short
  unfolding head_from
  by_length r h e = by_place r (no_le _ _ _ _ _ h (e ∙ ap (λ (x : ℕ). length_of t tag x (place + 1) last short) (sym c)))

  near_open : first < 128 → place + 1 + first ≤ last → Ok (element tag (place + 1) (place + 1 + first)) ≡ head_of t at last short
  unfolding length_of filled_of
  near_open l h = by_length _ (omega arith) (yes_lt _ _ _ _ _ l (no_lt _ _ _ _ _ h refl))

  near_cut : first < 128 → last < place + 1 + first → place < last → Err short ≡ head_of t at last short
  unfolding length_of filled_of
  near_cut l h i = by_length _ i (yes_lt _ _ _ _ _ l (yes_lt _ _ _ _ _ h refl))

  module _ (l : 128 ≤ first) (i : first ≡ 128 → ⊥) (j : first ≡ 255 → ⊥) (n : ℕ) (e : big_at t (place + 1) (first - 128) ≡ n) where
    abbrev body : ℕ
    body = place + 1 + (first - 128)

    far-open : body + n ≤ last → Ok (element tag body (body + n)) ≡ head_of t at last short
    unfolding length_of filled_of
    far-open h =
        by_length _ (omega arith)
        (no_lt _ _ _ _ _ l (no_eq _ _ _ _ _ i (no_eq _ _ _ _ _ j (no_lt _ _ _ _ _ (omega arith) (no_lt _ _ _ _ _ (omega arith) (ap (λ (x : ℕ). Ok (element tag body (body + x))) (sym e)))))))

    far-cut : last < body + n → body ≤ last → Err short ≡ head_of t at last short
    unfolding length_of filled_of
    far-cut h k = by_length _ (omega arith) (no_lt _ _ _ _ _ l (no_eq _ _ _ _ _ i (no_eq _ _ _ _ _ j (no_lt _ _ _ _ _ k (yes_lt _ _ _ _ _ (omega arith) refl)))))

  far_less : 128 ≤ first → (first ≡ 128 → ⊥) → (first ≡ 255 → ⊥) → last < place + 1 + (first - 128) → place < last → Err short ≡ head_of t at last short
  unfolding length_of
  far_less l i j h k = by_length _ k (no_lt _ _ _ _ _ l (no_eq _ _ _ _ _ i (no_eq _ _ _ _ _ j (yes_lt _ _ _ _ _ h refl))))

place_none : (t : List ℕ) (at last short tag : ℕ) → byte_at t at ≡ tag → at < last → last ≤ length_place t at last → Err short ≡ head_of t at last short
unfolding head_of head_from
place_none t at last short tag b o h = no_le _ _ _ _ _ o (yes_le _ _ _ _ _ h refl)

-- where the bytes end before the length does, it is not found
place_late : (s t : List ℕ) (at end last : ℕ) → Alike s t last → at < last → last ≤ end → last ≤ length_place s at end → last ≤ length_place t at last
unfolding length_place
place_late s t at end last a o h g =
    let b = a at o in
    both_eq (byte_at t at % 32) 31 (λ (x : ℕ). last ≤ x) (tag_after t (at + 1) last) (at + 1)
    (λ l. both_eq (byte_at s at % 32) 31 (λ (x : ℕ). last ≤ x → last ≤ tag_after t (at + 1) last) (tag_after s (at + 1) end) (at + 1)
    (λ m q. after_late s t (at + 1) end last a (omega arith) h q) (λ m q. absurd (m (omega arith))) g)
    (λ l. both_eq (byte_at s at % 32) 31 (λ (x : ℕ). last ≤ x → last ≤ at + 1) (tag_after s (at + 1) end) (at + 1)
    (λ m q. absurd (l (omega arith))) (λ m q. q) g)

module _ (s : List ℕ) (at end short : ℕ) (o : at < end) where
  abbrev here : ℕ
  here = length_place s at end

  module _ (h : here < end) (p : at + 1 ≤ here) where
    module _ (t : List ℕ) (last other next : ℕ) where
      same_place : Alike s t next → here < next → next ≤ last → length_place t at last ≡ here
      same_place a g f = place_again s t at end last next here a refl o h g (omega arith)

    near_again : byte_at s here < 128 → Again s at (Ok (element (byte_at s at) (here + 1) (here + 1 + byte_at s here)))
    near_again l t last other a g =
        sym (near_open t at last other here (byte_at s at) (byte_at s here) (sym (a at (omega arith)))
        (same_place t last other (here + 1 + byte_at s here) a (omega arith) g) (sym (a here (omega arith))) (omega arith) l g)

    -- the bytes end somewhere before it does
    cut-place : (t : List ℕ) (last other : ℕ) → Alike s t last → last ≤ end → ((at < last) → (here < last) → length_place t at last ≡ here → Err other ≡ head_of t at last other) → head_of t at last other ≡ Err other
    cut-place t last other a g f =
        both_le last at (λ (_ : ℕ). head_of t at last other ≡ Err other) 0 0
        (λ l. sym (none t last other l))
        (λ l. both_le last here (λ (_ : ℕ). head_of t at last other ≡ Err other) 0 0
        (λ m. sym (place_none t at last other (byte_at t at) refl l (place_late s t at end last a l g m)))
        (λ m. sym (f l m (place_again s t at end last last here a refl o h m m))))
      where
        none : (t : List ℕ) (last other : ℕ) → last ≤ at → Err other ≡ head_of t at last other
        none t last other l = head_none t at last other l

    near-less : byte_at s here < 128 → here + 1 + byte_at s here ≤ end → Less s at (Ok (element (byte_at s at) (here + 1) (here + 1 + byte_at s here)))
    near-less l m t last other a g =
        cut-place t last other a (omega arith)
        (λ i j z. near_cut t at last other here (byte_at s at) (byte_at s here) (sym (a at i)) z (sym (a here j)) i l g j)

    module _ (l : 128 ≤ byte_at s here) (i : byte_at s here ≡ 128 → ⊥) (j : byte_at s here ≡ 255 → ⊥) where
      abbrev after : ℕ
      after = here + 1 + (byte_at s here - 128)

      far-again : Again s at (Ok (element (byte_at s at) after (after + big_at s (here + 1) (byte_at s here - 128))))
      far-again t last other a g =
          let e = big_again s t (here + 1) (byte_at s here - 128) (after + big_at s (here + 1) (byte_at s here - 128)) a (omega arith) in
          sym (far-open t at last other here (byte_at s at) (byte_at s here) (sym (a at (omega arith)))
          (same_place t last other (after + big_at s (here + 1) (byte_at s here - 128)) a (omega arith) g) (sym (a here (omega arith))) (omega arith) l i j _ (sym e) g)

      far-less-again : after + big_at s (here + 1) (byte_at s here - 128) ≤ end → Less s at (Ok (element (byte_at s at) after (after + big_at s (here + 1) (byte_at s here - 128))))
      far-less-again m t last other a g =
          cut-place t last other a (omega arith)
          (λ u w z. both_lt last after (λ (_ : ℕ). Err other ≡ head_of t at last other) 0 0
          (λ x. far_less t at last other here (byte_at s at) (byte_at s here) (sym (a at u)) z (sym (a here w)) u l i j x w)
          (λ x. far-cut t at last other here (byte_at s at) (byte_at s here) (sym (a at u)) z (sym (a here w)) u l i j _
          (sym (big_again s t (here + 1) (byte_at s here - 128) last a x)) g x))

-- ---- any head

filled_by : (P : Head → Type 0) (tag body end len short : ℕ) → P (Err short) → (body + len ≤ end → P (Ok (element tag body (body + len)))) → P (filled_of tag body end len short)
unfolding filled_of
filled_by P tag body end len short f g = both_lt _ _ P _ _ (λ _. f) g

head_all : (P : Head → Type 0) (s : List ℕ) (at end short : ℕ) → P (Err short) → P (Err 12)
    → ((o : at < end) (h : length_place s at end < end) → byte_at s (length_place s at end) < 128 → length_place s at end + 1 + byte_at s (length_place s at end) ≤ end
    → P (Ok (element (byte_at s at) (length_place s at end + 1) (length_place s at end + 1 + byte_at s (length_place s at end)))))
    → ((o : at < end) (h : length_place s at end < end) → 128 ≤ byte_at s (length_place s at end) → (byte_at s (length_place s at end) ≡ 128 → ⊥) → (byte_at s (length_place s at end) ≡ 255 → ⊥)
    → length_place s at end + 1 + (byte_at s (length_place s at end) - 128) + big_at s (length_place s at end + 1) (byte_at s (length_place s at end) - 128) ≤ end
    → P (Ok (element (byte_at s at) (length_place s at end + 1 + (byte_at s (length_place s at end) - 128)) (length_place s at end + 1 + (byte_at s (length_place s at end) - 128) + big_at s (length_place s at end + 1) (byte_at s (length_place s at end) - 128)))))
    → P (head_of s at end short)
unfolding head_of head_from length_of
head_all P s at end short a b near far =
    both_le _ _ P _ _ (λ _. a) λ o.
    both_le _ _ P _ _ (λ _. a) λ h.
    both_lt _ _ P _ _ (λ l. filled_by P _ _ _ _ _ a (λ g. near o h l g)) λ l.
    both_eq _ _ P _ _ (λ _. b) λ i.
    both_eq _ _ P _ _ (λ _. b) λ j.
    both_lt _ _ P _ _ (λ _. a) (λ k. filled_by P _ _ _ _ _ a (λ g. far o h l i j g))

-- where a head's element is all there, it is read the same in any bytes that are alike up to its end
pub head_again : (s : List ℕ) (at end short : ℕ) → Again s at (head_of s at end short)
head_again s at end short =
    head_all (Again s at) s at end short tt tt
    (λ o h l g. near_again s at end short o h (place_past s at end) l)
    (λ o h l i j g. far-again s at end short o h (place_past s at end) l i j)

-- and where they end before it does, it is cut short
pub head_less : (s : List ℕ) (at end short : ℕ) → Less s at (head_of s at end short)
head_less s at end short =
    head_all (Less s at) s at end short tt tt
    (λ o h l g. near-less s at end short o h (place_past s at end) l g)
    (λ o h l i j g. far-less-again s at end short o h (place_past s at end) l i j g)
