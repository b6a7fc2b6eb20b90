-- A written component is read as itself wherever it stands, and a written parameter as the one component that it holds.
-- Assumes nothing.
use mathlib.Core.Path.{◌≡◌, refl, sym, ap, subst, ◌∙◌}
use mathlib.Core.List.{List, [], ◌∷◌, ◌++◌}
use Prim.Native.Nat.{ℕ, ◌+◌, ◌%◌, ◌≤◌, ◌<◌}
use native.Mathlib.Nat.{zero-add}
use native.Mathlib.Omega.{arith}
use lib.ListN.{length, take}
use lib.Seq.{length-take-le}
use Rattle.text.specs.Choose.{if_eq, if_so}
use Rattle.text.proofs.Cases.{no_lt, yes_eq, no_eq, both_eq}
use Rattle.wire.specs.Bytes.{byte_at}
use Rattle.wire.specs.Grammar.{invoke_of, result_of, error_of, reject_of, kind_of, whole_of, component_of}
use Rattle.wire.specs.Parameters.{holds, before, onward, walk_of, framed_of, parameter_of}
use Rattle.wire.specs.Texts.{element_text, parts_text, seq_text, id_text, rejected_text, code_text, invoke_text, held_text, result_text, error_text, reject_text, component_text, parameter_text}
use Rattle.wire.specs.Writable.{argument_ok, result_ok, writable_of}
use Rattle.wire.specs.declared.Component.{Component}
use Rattle.wire.proofs.Pieces.{by_invoke, by_result, by_error, by_reject}
use Rattle.wire.proofs.Back.{Holds, holds_right, holds_after, holds_take, head_here}
use Rattle.wire.proofs.Goods.{Good, Kinds, calls, answers, fails, rejects, Sized, written_good, parts_short}
use Rattle.wire.proofs.Round.{invoke_back, result_back, error_back, reject_named, reject_nameless}
use Rattle.wire.proofs.Walks.{walk_end, walk_on, good_walk}
use Rattle.wire.specs.Answers.{Answer}
use Rattle.std.specs.Prelude.{Ok}

six : (x : ℕ) → length (id_text x ++ (128 ∷ 1 ∷ 0 ∷ [])) ≡ 6
unfolding id_text
six x = refl

module _ (s : List ℕ) (q : ℕ) (c : Component) (g : Good c) where
  -- by its first two bytes
  head_at : (tag : ℕ) (t : List ℕ) → (tag % 32 ≡ 31 → ⊥) → length t < 128 → Holds s q (element_text tag t) → q + length (element_text tag t) ≤ length s
      → component_of s q ≡ kind_of (take (q + 2 + length t) s) q tag (q + 2)
  unfolding component_of whole_of element_text
  head_at tag t k l h r = ap (whole_of s q) (sym (head_here s q (length s) 11 tag (length t) t h k l (omega arith)))

  -- its contents, in its own bytes alone
  inner : (tag : ℕ) (t : List ℕ) → Holds s q (element_text tag t) → Holds (take (q + 2 + length t) s) (q + 2) t
  unfolding element_text
  inner tag t h = holds_take s (q + 2 + length t) (q + 2) t (omega arith) (holds_after s q tag (length t) t h)

  own : (tag : ℕ) (t : List ℕ) → q + length (element_text tag t) ≤ length s → length (take (q + 2 + length t) s) ≡ q + 2 + length t
  unfolding element_text
  own tag t r = length-take-le (q + 2 + length t) s (omega arith)

  sum : (tag : ℕ) (t : List ℕ) → q + 2 + length t ≡ q + length (element_text tag t)
  unfolding element_text
  sum tag t = omega arith

  invoke_length : length (id_text c.id ++ code_text c.item ++ seq_text c) ≡ length (parts_text c) + 14
  unfolding id_text code_text seq_text element_text
  invoke_length = omega arith

  result_length : length (id_text c.id ++ held_text c) ≡ length (parts_text c) + 16
  unfolding id_text held_text code_text seq_text element_text
  result_length = omega arith

  error_length : length (id_text c.id ++ code_text c.item) ≡ 12
  unfolding id_text code_text
  error_length = refl

  module _ (t : List ℕ) where
    abbrev mine : List ℕ
    mine = take (q + 2 + length t) s

    kind_invoke : kind_of mine q 161 (q + 2) ≡ invoke_of mine (q + 2) (length mine)
    unfolding kind_of if_eq if_so
    kind_invoke = refl

    kind_result : kind_of mine q 162 (q + 2) ≡ result_of mine (q + 2) (length mine)
    unfolding kind_of if_eq if_so
    kind_result = refl

    kind_error : kind_of mine q 163 (q + 2) ≡ error_of mine (q + 2) (length mine)
    unfolding kind_of if_eq if_so
    kind_error = refl

    kind_reject : kind_of mine q 164 (q + 2) ≡ reject_of mine (q + 2) (length mine)
    unfolding kind_of if_eq if_so
    kind_reject = refl

  read_to : (i j : ℕ) → i ≡ j → ◌≡◌ {A = Answer} (Ok (c, i)) (Ok (c, j))
  read_to i j e = ap (λ (w : ℕ). Ok (c, w)) e

  as_invoke : c.kind ≡ 1 → c.id < 256 → 1 ≤ c.item → c.item ≤ 3 → argument_ok c.item c.parts ≡ 1 → Holds s q (invoke_text c) → q + length (invoke_text c) ≤ length s
      → component_of s q ≡ Ok (c, q + length (invoke_text c))
  unfolding invoke_text
  as_invoke k u v w e h r =
      let t : List ℕ = id_text c.id ++ code_text c.item ++ seq_text c in
      let z = parts_short c g in
      let y : length t ≡ length (parts_text c) + 14 = invoke_length in
      let l = own 161 t r in
      head_at 161 t (λ e. omega arith) (omega arith) h r ∙ kind_invoke t
      ∙ invoke_back (mine t) c g (q + 2) (length (mine t)) k u v w e (inner 161 t h) (omega arith) (omega arith)
      ∙ read_to (length (mine t)) (q + length (element_text 161 t)) (l ∙ sum 161 t)

  as_result : c.kind ≡ 2 → c.id < 256 → 1 ≤ c.item → c.item ≤ 3 → result_ok c.item c.parts ≡ 1 → Holds s q (result_text c) → q + length (result_text c) ≤ length s
      → component_of s q ≡ Ok (c, q + length (result_text c))
  unfolding result_text
  as_result k u v w e h r =
      let t : List ℕ = id_text c.id ++ held_text c in
      let z = parts_short c g in
      let y : length t ≡ length (parts_text c) + 16 = result_length in
      let l = own 162 t r in
      head_at 162 t (λ e. omega arith) (omega arith) h r ∙ kind_result t
      ∙ result_back (mine t) c g (q + 2) (length (mine t)) k u v w e (inner 162 t h) (omega arith) (omega arith)
      ∙ read_to (length (mine t)) (q + length (element_text 162 t)) (l ∙ sum 162 t)

  as_error : c.kind ≡ 3 → c.id < 256 → 4 ≤ c.item → c.item ≤ 12 → c.parts ≡ 0 → Holds s q (error_text c) → q + length (error_text c) ≤ length s
      → component_of s q ≡ Ok (c, q + length (error_text c))
  unfolding error_text
  as_error k u v w e h r =
      let t : List ℕ = id_text c.id ++ code_text c.item in
      let y : length t ≡ 12 = error_length in
      let l = own 163 t r in
      head_at 163 t (λ e. omega arith) (omega arith) h r ∙ kind_error t
      ∙ error_back (mine t) c g (q + 2) (length (mine t)) k u v w e (inner 163 t h) (omega arith)
      ∙ read_to (length (mine t)) (q + length (element_text 163 t)) (l ∙ sum 163 t)

  as_reject : c.kind ≡ 4 → c.id ≤ 256 → c.item ≡ 0 → c.parts ≡ 0 → Holds s q (reject_text c) → q + length (reject_text c) ≤ length s
      → component_of s q ≡ Ok (c, q + length (reject_text c))
  unfolding reject_text rejected_text
  as_reject k u v e =
      both_eq c.id 256
      (λ (l : List ℕ). Holds s q (element_text 164 (l ++ (128 ∷ 1 ∷ 0 ∷ []))) → q + length (element_text 164 (l ++ (128 ∷ 1 ∷ 0 ∷ []))) ≤ length s
      → component_of s q ≡ Ok (c, q + length (element_text 164 (l ++ (128 ∷ 1 ∷ 0 ∷ [])))))
      (5 ∷ 0 ∷ []) (id_text c.id)
      (λ y h r. let t : List ℕ = 5 ∷ 0 ∷ 128 ∷ 1 ∷ 0 ∷ [] in
      let l = own 164 t r in
      head_at 164 t (λ e. omega arith) (omega arith) h r ∙ kind_reject t
      ∙ reject_nameless (mine t) c g (q + 2) (length (mine t)) k y v e (inner 164 t h) (omega arith)
      ∙ read_to (length (mine t)) (q + length (element_text 164 t)) (l ∙ sum 164 t))
      (λ y h r. let t : List ℕ = id_text c.id ++ (128 ∷ 1 ∷ 0 ∷ []) in
      let z : length t ≡ 6 = six c.id in
      let l = own 164 t r in
      head_at 164 t (λ e. omega arith) (omega arith) h r ∙ kind_reject t
      ∙ reject_named (mine t) c g (q + 2) (length (mine t)) k (below y) v e (inner 164 t h) (omega arith)
      ∙ read_to (length (mine t)) (q + length (element_text 164 t)) (l ∙ sum 164 t))
    where
      below : (c.id ≡ 256 → ⊥) → c.id < 256
      below y = omega arith

  by_kinds : Kinds c.kind c.item c.parts c.id → Holds s q (component_text c) → q + length (component_text c) ≤ length s
      → component_of s q ≡ Ok (c, q + length (component_text c))
  by_kinds (calls k i l h a) =
      subst (λ (t : List ℕ). Holds s q t → q + length t ≤ length s → component_of s q ≡ Ok (c, q + length t)) (by_invoke c (invoke_text c) k refl)
      (as_invoke k i l h a)
  by_kinds (answers k i l h a) =
      subst (λ (t : List ℕ). Holds s q t → q + length t ≤ length s → component_of s q ≡ Ok (c, q + length t)) (by_result c (result_text c) (λ e. omega arith) k refl)
      (as_result k i l h a)
  by_kinds (fails k i l h p) =
      subst (λ (t : List ℕ). Holds s q t → q + length t ≤ length s → component_of s q ≡ Ok (c, q + length t)) (by_error c (error_text c) (λ e. omega arith) (λ e. omega arith) k refl)
      (as_error k i l h p)
  by_kinds (rejects k u n p) =
      subst (λ (t : List ℕ). Holds s q t → q + length t ≤ length s → component_of s q ≡ Ok (c, q + length t))
      (by_reject c (reject_text c) (λ e. omega arith) (λ e. omega arith) (λ e. omega arith) refl) (as_reject k u n p)

-- a written component is read as itself wherever it stands, and the place after it is found
pub read_back : (s : List ℕ) (q : ℕ) (c : Component) → Sized c → writable_of c ≡ 1 → Holds s q (component_text c) → q + length (component_text c) ≤ length s
    → component_of s q ≡ Ok (c, q + length (component_text c))
read_back s q c z e = let w = written_good c z e in by_kinds s q c w.0 w.1

-- ---- a parameter of one

holds_three : (x y z : ℕ) (t : List ℕ) → Holds (x ∷ y ∷ z ∷ t) 3 t
holds_three x y z t = holds_right (x ∷ y ∷ z ∷ t) 0 (x ∷ y ∷ z ∷ []) t (λ j h. ap (byte_at (x ∷ y ∷ z ∷ t)) (zero-add j))

walk_one : (s : List ℕ) (c : Component) (q : ℕ) → q < length s → component_of s q ≡ Ok (c, length s) → walk_of s q ≡ holds (c ∷ [])
unfolding onward before
walk_one s c q h e = walk_on s q h ∙ ap (λ (a : Answer). onward a (walk_of s)) e ∙ ap (before c) (walk_end s (length s) (omega arith))

-- a parameter that is as long as it says, of any components
pub frame_said : (t : List ℕ) (n : ℕ) → n ≡ length t + 1 → framed_of (50 ∷ n ∷ 145 ∷ t) ≡ Ok tt
unfolding framed_of
frame_said t n e =
    sym (no_lt _ _ _ _ _ (omega arith)
    (no_lt _ _ _ _ _ (omega arith)
    (no_lt _ _ _ _ _ (omega arith)
    (no_eq _ _ _ _ _ (λ y. omega arith)
    (yes_eq _ _ _ _ _ refl
    (yes_eq _ _ _ _ _ refl refl))))))

one_in : (c : Component) (t : List ℕ) (n : ℕ) → n ≡ length t + 1 → component_of (50 ∷ n ∷ 145 ∷ t) 3 ≡ Ok (c, 3 + length t) → 1 ≤ length t → parameter_of (50 ∷ n ∷ 145 ∷ t) ≡ holds (c ∷ [])
one_in c t n e f h =
    let z : 3 + length t ≡ length (50 ∷ n ∷ 145 ∷ t) = omega arith in
    good_walk (50 ∷ n ∷ 145 ∷ t) (frame_said t n e) ∙ walk_one (50 ∷ n ∷ 145 ∷ t) c 3 (omega arith) (f ∙ ap (λ (w : ℕ). Ok (c, w)) z)

begins : (c : Component) → 1 ≤ length (component_text c)
unfolding component_text invoke_text result_text error_text reject_text element_text
begins c =
    both_eq _ _ (λ (t : List ℕ). 1 ≤ length t) _ _ (λ _. omega arith) λ _.
    both_eq _ _ (λ (t : List ℕ). 1 ≤ length t) _ _ (λ _. omega arith) λ _.
    both_eq _ _ (λ (t : List ℕ). 1 ≤ length t) _ _ (λ _. omega arith) (λ _. omega arith)

pub parameter_back : (c : Component) → Sized c → writable_of c ≡ 1 → parameter_of (parameter_text c) ≡ holds (c ∷ [])
unfolding parameter_text
parameter_back c z e =
    let s : List ℕ = 50 ∷ (length (component_text c) + 1) ∷ 145 ∷ component_text c in
    one_in c (component_text c) (length (component_text c) + 1) refl (read_back s 3 c z e (holds_three 50 (length (component_text c) + 1) 145 (component_text c)) (omega arith)) (begins c)
