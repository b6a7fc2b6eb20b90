-- The bytes that the writer puts, piece by piece, and their lengths.
-- Assumes nothing.
use mathlib.Core.Path.{◌≡◌, refl, sym, ap, ◌∙◌}
use mathlib.Core.List.{List, [], ◌∷◌, ◌++◌}
use mathlib.Core.Logic.{◌⊎◌, inl, inr}
use Prim.Native.Nat.{ℕ, zero, suc, ◌+◌, ◌-◌, ◌/◌, ◌%◌, ◌^◌, ◌≤◌, ◌<◌}
use native.Mathlib.Nat.{add-zero}
use native.Mathlib.Numerals.{add-one}
use native.Mathlib.Omega.{arith}
use lib.ListN.{length, take, set, length-append}
use lib.Seq.{append_snoc, sets, set_out, set-set}
use Rattle.text.specs.Text.{Put}
use Rattle.text.specs.Page.{Wrote}
use Rattle.wire.specs.Pages.{Opened, Closed}
use Rattle.text.specs.declared.page.Page.{Page}
use Rattle.std.proofs.lemmas.Bool.{cases_lt}
use Rattle.text.proofs.Cases.{yes_eq, no_eq}
use Rattle.text.proofs.Laws.{put_before, put_as, put_past, put_first, set_sets}
use Rattle.text.proofs.Writes.{wrote_after, wrote_put}
use Rattle.wire.specs.Texts.{element_text, pair_byte, octets_of, padded_of, number_text, parts_text, seq_text, id_text, rejected_text, code_text, invoke_text, held_text, result_text, error_text, reject_text, component_text, parameter_text}
use Rattle.wire.specs.declared.Component.{Component}
use Rattle.wire.specs.declared.Number.{Number}

-- ---- lengths

pub octets_length : (m v : ℕ) → length (octets_of m v) ≡ m
unfolding octets_of
octets_length zero v = refl
octets_length (suc m) v = length-append (octets_of m (v / 100)) _ ∙ rw (octets_length m (v / 100), add-one m)

pub number_length : (n : Number) → length (number_text n) ≡ 2 + (n.count % 128 + 1) / 2
unfolding number_text
number_length n = let e = octets_length ((n.count % 128 + 1) / 2) (padded_of n.count n.value) in omega arith

pub rejected_two : (x : ℕ) → x ≡ 256 → 2 ≡ length (rejected_text x)
unfolding rejected_text
rejected_two x h = ap length (yes_eq x 256 (5 ∷ 0 ∷ []) (5 ∷ 0 ∷ []) (id_text x) h refl)

module _ (c : Component) where
  pub by_invoke : (t : List ℕ) → c.kind ≡ 1 → t ≡ invoke_text c → t ≡ component_text c
  unfolding component_text
  by_invoke t h e = yes_eq _ _ _ _ _ h e

  pub by_result : (t : List ℕ) → (c.kind ≡ 1 → ⊥) → c.kind ≡ 2 → t ≡ result_text c → t ≡ component_text c
  unfolding component_text
  by_result t h g e = no_eq _ _ _ _ _ h (yes_eq _ _ _ _ _ g e)

  pub by_error : (t : List ℕ) → (c.kind ≡ 1 → ⊥) → (c.kind ≡ 2 → ⊥) → c.kind ≡ 3 → t ≡ error_text c → t ≡ component_text c
  unfolding component_text
  by_error t h g k e = no_eq _ _ _ _ _ h (no_eq _ _ _ _ _ g (yes_eq _ _ _ _ _ k e))

  pub by_reject : (t : List ℕ) → (c.kind ≡ 1 → ⊥) → (c.kind ≡ 2 → ⊥) → (c.kind ≡ 3 → ⊥) → t ≡ reject_text c → t ≡ component_text c
  unfolding component_text
  by_reject t h g k e = no_eq _ _ _ _ _ h (no_eq _ _ _ _ _ g (no_eq _ _ _ _ _ k e))

  module _ (j : ℕ) (e : j ≡ length (parts_text c)) where
    pub size_invoke : c.kind ≡ 1 → j + 16 ≡ length (component_text c)
    unfolding invoke_text element_text id_text code_text seq_text
    size_invoke h = let z : length (invoke_text c) ≡ length (parts_text c) + 16 = omega arith in rw e (sym z) ∙ ap length (by_invoke _ h refl)

    pub size_result : (c.kind ≡ 1 → ⊥) → c.kind ≡ 2 → j + 18 ≡ length (component_text c)
    unfolding result_text held_text element_text id_text code_text seq_text
    size_result h g = let z : length (result_text c) ≡ length (parts_text c) + 18 = omega arith in rw e (sym z) ∙ ap length (by_result _ h g refl)

  pub size_error : (c.kind ≡ 1 → ⊥) → (c.kind ≡ 2 → ⊥) → c.kind ≡ 3 → 14 ≡ length (component_text c)
  unfolding error_text element_text id_text code_text
  size_error h g k = ap length (by_error (error_text c) h g k refl)

  pub size_reject : (j : ℕ) → j ≡ length (rejected_text c.id) → (c.kind ≡ 1 → ⊥) → (c.kind ≡ 2 → ⊥) → (c.kind ≡ 3 → ⊥) → j + 5 ≡ length (component_text c)
  unfolding reject_text element_text
  size_reject j e h g l =
      let z : length (reject_text c) ≡ length (rejected_text c.id) + 5 = simp length-append (omega arith) in
      rw e (sym z) ∙ ap length (by_reject _ h g l refl)

-- ---- digits, put from the right

pub record Octets (old : List ℕ) (at v m : ℕ) (new : List ℕ) (left rest : ℕ) : Type 0 where
  pub text : List ℕ
  pub put : Put old (at + left) text new (at + m)
  pub all : octets_of left rest ++ text ≡ octets_of m v

module _ {old new : List ℕ} {at v m left rest : ℕ} (i : Octets old at v m new left rest) where
  pub octets_on : {new' : List ℕ} {l d r : ℕ} → left ≡ suc l → d ≡ pair_byte (rest % 100) → Put new (at + l) (d ∷ []) new' r → Octets old at v m new' l (rest / 100)
  unfolding octets_of
  octets_on {l = l} e f q =
      record {
        text = pair_byte (rest % 100) ∷ i.text;
        put = put_before (omega arith) (rw f at q) i.put;
        all = sym (append_snoc (octets_of l (rest / 100)) (pair_byte (rest % 100)) i.text) ∙ ap (λ (x : ℕ). octets_of x rest ++ i.text) (sym e) ∙ i.all;
      }

  pub octets_done : left ≡ 0 → Put old at (octets_of m v) new (at + m)
  unfolding octets_of
  octets_done e = put_as (ap (λ (x : ℕ). octets_of x rest ++ i.text) (sym e) ∙ i.all) (rw (e, add-zero at) at i.put)

-- ---- elements

-- a byte that is set after the bytes behind it
set_late : (l : List ℕ) (i x n : ℕ) (t : List ℕ) → set (sets l i (x ∷ 0 ∷ t)) (i + 1) n ≡ sets l i (x ∷ n ∷ t)
set_late l i x n t =
    ap (λ (j : ℕ). set (sets l i (x ∷ 0 ∷ t)) j n) (add-one i)
    ∙ set_sets (set (set l i x) (suc i) 0) (suc i) (suc (suc i)) n t (omega arith)
    ∙ ap (λ (m : List ℕ). sets m (suc (suc i)) t) (set-set (set l i x) (suc i) 0 n)

-- an element: its tag and room for its length, its contents t, and the length set when these stand
pub element_wrote : (tag : ℕ) {a b c d : Page} {t : List ℕ} {body : ℕ} → length t < 256 → Opened tag a b body → Wrote t b c → Closed body c d → Wrote (element_text tag t) a d
unfolding element_text
element_wrote tag {a} {b} {c} {d} {t} {body} h o q z =
    let p = o.put in
    let w : Wrote (tag ∷ 0 ∷ t) a c = wrote_after q p in
    record {
      same = z.same ∙ w.same;
      bytes = λ k. z.bytes ∙ ap (λ (l : List ℕ). set l (body - 1) ((c.at - body) % 256)) (w.bytes k) ∙ go k (cases_lt 18446744073709551615 (a.at + 2 + length t));
      place = z.place ∙ w.place;
    }
  where
    go : length a.out.now < 2 ^ 63 → (18446744073709551615 < a.at + 2 + length t) ⊎ (a.at + 2 + length t ≤ 18446744073709551615)
        → set (sets a.out.now a.at (tag ∷ 0 ∷ t)) (body - 1) ((c.at - body) % 256) ≡ sets a.out.now a.at (tag ∷ length t ∷ t)
    go k (inl g) =
        let s : sets a.out.now a.at (tag ∷ 0 ∷ t) ≡ a.out.now = sym (put_past a.out.now a.at _ (tag ∷ 0 ∷ t) (omega arith) refl).bytes in
        let r : a.out.now ≡ sets a.out.now a.at (tag ∷ length t ∷ t) = (put_past a.out.now a.at _ (tag ∷ length t ∷ t) (omega arith) refl).bytes in
        ap (λ (l : List ℕ). set l (body - 1) ((c.at - body) % 256)) s ∙ set_out a.out.now (body - 1) ((c.at - body) % 256) (omega (arith, o.place, o.put.place)) ∙ r
    go k (inr g) =
        let i : body - 1 ≡ a.at + 1 = omega (arith, o.place, o.put.place) in
        let n : (c.at - body) % 256 ≡ length t = omega (arith, o.place, o.put.place, q.place) in
        ap (λ (j : ℕ). set (sets a.out.now a.at (tag ∷ 0 ∷ t)) j ((c.at - body) % 256)) i
        ∙ ap (λ (m : ℕ). set (sets a.out.now a.at (tag ∷ 0 ∷ t)) (a.at + 1) m) n ∙ set_late a.out.now a.at tag (length t) t

pub parameter_is : (c : Component) → element_text 50 (145 ∷ component_text c) ≡ parameter_text c
unfolding element_text parameter_text
parameter_is c = ap (λ (n : ℕ). 50 ∷ n ∷ 145 ∷ component_text c) (sym (add-one (length (component_text c))))

-- what was put on a page from its start, all of it, is what the page's buffer x begins with
pub begun : {a b : Page} (t x : List ℕ) → length t ≤ length a.out.now → length a.out.now < 2 ^ 63 → a.at ≡ 0 → Wrote t a b → x ≡ b.out.now → take b.at x ≡ t
begun {a} {b} t x h l z p e =
    let k : a.at + length t < 2 ^ 63 = omega arith in
    let q : Put a.out.now 0 t b.out.now b.at = rw z at (wrote_put l k p) in
    rw e (put_first (omega (arith, p.place)) q)
