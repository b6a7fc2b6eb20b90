-- What is written is read back: bytes that stand at a place, and the steps of the reader over them.
-- Assumes nothing.
use mathlib.Core.Path.{◌≡◌, refl, sym, ap, ◌∙◌}
use mathlib.Core.List.{List, [], ◌∷◌, ◌++◌}
use Prim.Native.Nat.{ℕ, ◌+◌, ◌%◌, ◌≤◌, ◌<◌}
use native.Mathlib.Nat.{add-zero, add_assoc}
use native.Mathlib.Omega.{arith}
use lib.ListN.{length, take, get_or, length-append, get_or-append}
use lib.Seq.{get_or-append-add, get_or-take}
use Rattle.text.specs.Choose.{if_eq, if_so}
use Rattle.text.proofs.Cases.{yes_lt, no_lt, yes_le, yes_eq, both_le}
use Rattle.wire.specs.Bytes.{byte_at}
use Rattle.wire.specs.Heads.{filled_of, length_of, head_of}
use Rattle.wire.specs.Cursors.{absent_of, opened_of, inside_of, may_of, need_of, closed_of, rest_of}
use Rattle.wire.specs.declared.Cursor.{Cursor}
use Rattle.wire.proofs.Lengths.{head_near, from_full}
use Rattle.wire.proofs.Steps.{look_same, size_fits, need_look, may_end, may_here, may_not, rest_none}
use Rattle.wire.specs.Answers.{element}
use Rattle.std.specs.Prelude.{Ok}

-- ---- bytes that stand at a place

-- t stands in s at i
abbrev pub Holds : List ℕ → ℕ → List ℕ → Type 0
Holds s i t = (j : ℕ) → j < length t → byte_at s (i + j) ≡ get_or t j 0

module _ (s : List ℕ) where
  pub holds_left : (i : ℕ) (t u : List ℕ) → Holds s i (t ++ u) → Holds s i t
  holds_left i t u f j h = f j (let e = length-append t u in omega arith) ∙ get_or-append t u 0 j h

  pub holds_right : (i : ℕ) (t u : List ℕ) → Holds s i (t ++ u) → Holds s (i + length t) u
  holds_right i t u f j h =
      ap (byte_at s) (add_assoc i (length t) j) ∙ f (length t + j) (let e = length-append t u in omega arith) ∙ get_or-append-add t u j 0

  pub holds_first : (i x : ℕ) (t : List ℕ) → Holds s i (x ∷ t) → byte_at s i ≡ x
  holds_first i x t f = ap (byte_at s) (sym (add-zero i)) ∙ f 0 (omega arith)

  pub holds_second : (i x y : ℕ) (t : List ℕ) → Holds s i (x ∷ y ∷ t) → byte_at s (i + 1) ≡ y
  holds_second i x y t f = f 1 (omega arith)

  pub holds_after : (i x y : ℕ) (t : List ℕ) → Holds s i (x ∷ y ∷ t) → Holds s (i + 2) t
  holds_after i x y t f = holds_right i (x ∷ y ∷ []) t f

-- in what is left of s where it is cut after t
pub holds_take : (s : List ℕ) (k i : ℕ) (t : List ℕ) → i + length t ≤ k → Holds s i t → Holds (take k s) i t
holds_take s k i t h f j l = get_or-take k s (i + j) 0 (omega arith) ∙ f j l

-- ---- an element of a short length

pub head_here : (s : List ℕ) (p end short tag n : ℕ) (t : List ℕ) → Holds s p (tag ∷ n ∷ t) → (tag % 32 ≡ 31 → ⊥) → n < 128 → p + 2 + n ≤ end
    → Ok (element tag (p + 2) (p + 2 + n)) ≡ head_of s p end short
unfolding length_of filled_of
head_here s p end short tag n t f k h l =
    let b : byte_at s p ≡ tag = holds_first s p tag (n ∷ t) f in
    let e : p + 1 + 1 ≡ p + 2 = omega arith in
    head_near s p end short tag _ (omega arith) (sym b) k
    (from_full s tag (p + 1) end short n n _ (omega arith) (sym (holds_second s p tag n t f)) refl
    (yes_lt _ _ _ _ _ h (no_lt _ _ _ _ _ (omega arith) (rw e))))

-- ---- cursors

-- the cursor goes on at p
pub record Ready (c : Cursor) (p : ℕ) : Type 0 where
  pub zeroed : c.number ≡ 0
  pub place : c.at ≡ p

pub ready_opened : (i n : ℕ) → Ready (opened_of i n) n
unfolding opened_of
ready_opened i n = record { zeroed = refl; place = refl }

pub ready_absent : (p : ℕ) → Ready (absent_of p) p
unfolding absent_of
ready_absent p = record { zeroed = refl; place = refl }

pub ready_move : (c : Cursor) (p q : ℕ) → p ≡ q → Ready c p → Ready c q
ready_move c p q e r = record { zeroed = r.zeroed; place = r.place ∙ e }

pub inside_opened : (i n : ℕ) → inside_of (opened_of i n) ≡ absent_of i
unfolding inside_of opened_of if_eq if_so
inside_opened i n = refl

-- what stands at p, if anything does before `end`, has a tag of k at least
abbrev pub From : List ℕ → ℕ → ℕ → ℕ → Type 0
From s p end k = p < end → k ≤ byte_at s p

module _ (s : List ℕ) (c : Cursor) (p end tag least most : ℕ) (r : Ready c p) where
  pub need_there : (n : ℕ) (t : List ℕ) → Holds s p (tag ∷ n ∷ t) → (tag % 32 ≡ 31 → ⊥) → n < 128 → p + 2 + n ≤ end → least ≤ n → n ≤ most
      → opened_of (p + 2) (p + 2 + n) ≡ need_of s c end tag least most
  need_there n t f k h l a b =
      let e = r.place in
      need_look s c end tag least most _ r.zeroed (Ok (element tag (p + 2) (p + 2 + n))) (omega arith)
      (rw e (head_here s p end 12 tag n t f k h l))
      (rw e (look_same (Ok (element tag (p + 2) (p + 2 + n))) p tag least most _ (element tag (p + 2) (p + 2 + n)) refl refl
      (size_fits p (p + 2) (p + 2 + n) least most n _ (omega arith) a b refl)))

  pub may_there : (n : ℕ) (t : List ℕ) → Holds s p (tag ∷ n ∷ t) → (tag % 32 ≡ 31 → ⊥) → n < 128 → p + 2 + n ≤ end → least ≤ n → n ≤ most
      → opened_of (p + 2) (p + 2 + n) ≡ may_of s c end tag least most
  may_there n t f k h l a b =
      let e = r.place in
      may_here s c end tag least most _ r.zeroed tag (omega arith) (rw e (sym (holds_first s p tag (n ∷ t) f))) refl (need_there n t f k h l a b)

  -- another stands there
  pub may_other : p < end → (byte_at s p ≡ tag → ⊥) → absent_of p ≡ may_of s c end tag least most
  may_other l f = let e = r.place in may_not s c end tag least most _ r.zeroed (byte_at s p) (omega arith) (rw e) f (rw e)

  -- not there: the holder ends, or another stands there
  pub may_from : (k : ℕ) → From s p end k → tag < k → absent_of p ≡ may_of s c end tag least most
  may_from k f h =
      let e = r.place in
      both_le end p (λ (_ : ℕ). absent_of p ≡ may_of s c end tag least most) 0 0
      (λ l. may_end s c end tag least most _ r.zeroed (omega arith) (rw e))
      (λ l. may_not s c end tag least most _ r.zeroed (byte_at s p) (omega arith) (rw e) (λ q. let g = f l in omega arith) (rw e))

pub closed_there : (s : List ℕ) (c : Cursor) (p end : ℕ) → Ready c p → end ≤ p → c ≡ closed_of s c end
unfolding closed_of
closed_there s c p end r h = yes_eq _ _ _ _ _ r.zeroed (yes_le _ _ _ _ _ (let e = r.place in omega arith) refl)

pub rest_there : (s : List ℕ) (c : Cursor) (p end depth known : ℕ) → Ready c p → end ≤ p → absent_of p ≡ rest_of s c end depth known
rest_there s c p end depth known r h = let e = r.place in rest_none s c end depth known _ r.zeroed (omega arith) (rw e)
