-- What is written is read back: the four SEQUENCEs, of an invoke and of a result, of CALLED and of the other operations.
-- Assumes nothing.
use mathlib.Core.Path.{◌≡◌, refl, sym, ap, subst, ◌∙◌}
use mathlib.Core.List.{List, [], ◌∷◌, ◌++◌, append-nil}
use Prim.Native.Nat.{ℕ, zero, suc, ◌+◌, ◌*◌, ◌/◌, ◌%◌, ◌≤◌, ◌<◌}
use native.Mathlib.Nat.{add-zero}
use native.Mathlib.Omega.{arith}
use lib.ListN.{length, length-append}
use Rattle.text.specs.Choose.{if_eq, if_so}
use Rattle.text.proofs.Cases.{yes_eq, no_eq}
use Rattle.wire.specs.Cursors.{absent_of, may_of}
use Rattle.wire.specs.Values.{absent_number}
use Rattle.wire.specs.Grammar.{flag_part, first_part, party_part, last_of, parts_of}
use Rattle.wire.specs.Texts.{element_text, text_if, number_text, flag_text, party_text, duration_text, first_text, parties_text, last_text, parts_text}
use Rattle.wire.specs.declared.Component.{Component}
use Rattle.wire.specs.declared.Cursor.{Cursor}
use Rattle.wire.specs.declared.Number.{Number}
use Rattle.wire.specs.declared.Said.{Said}
use Rattle.wire.proofs.Back.{Holds, holds_left, holds_right, holds_first, Ready, From}
use Rattle.wire.proofs.Digited.{Fine}
use Rattle.wire.proofs.Seats.{flag_seat, party_seat, Lasted, last_none, last_partial, last_duration, seq_back}
use Rattle.wire.proofs.Goods.{Good}

-- ---- what stands from an element on

from_end : (s : List ℕ) (p end k : ℕ) → end ≤ p → From s p end k
from_end s p end k h l = absurd (omega arith)

from_less : (s : List ℕ) (p end j k : ℕ) → j ≤ k → From s p end k → From s p end j
from_less s p end j k h f l = let g = f l in omega arith

from_flag : (s : List ℕ) (p end b tag x : ℕ) → b < 2 → Holds s p (flag_text b tag x) → From s (p + length (flag_text b tag x)) end tag → From s p end tag
unfolding flag_text text_if if_eq if_so
from_flag s p end zero tag x h f r l = (subst (λ (i : ℕ). From s i end tag) (add-zero p) r) l
from_flag s p end (suc zero) tag x h f r l = let e = holds_first s p tag (1 ∷ x ∷ []) f in omega arith
from_flag s p end (suc (suc b)) tag x h f r l = absurd (omega arith)

from_party : (s : List ℕ) (p end b : ℕ) (n : Number) → b < 2 → Holds s p (party_text b n) → From s (p + length (party_text b n)) end 129 → From s p end 129
unfolding party_text text_if element_text if_eq if_so
from_party s p end zero n h f r l = (subst (λ (i : ℕ). From s i end 129) (add-zero p) r) l
from_party s p end (suc zero) n h f r l = let e = holds_first s p 129 (length (number_text n) ∷ number_text n) f in omega arith
from_party s p end (suc (suc b)) n h f r l = absurd (omega arith)

from_duration : (s : List ℕ) (p end b t : ℕ) → b < 2 → Holds s p (duration_text b t) → end ≡ p + length (duration_text b t) → From s p end 130
unfolding duration_text text_if if_eq if_so
from_duration s p end zero t h f e l = absurd (omega arith)
from_duration s p end (suc zero) t h f e l = let e = holds_first s p 130 (3 ∷ t / 3600 % 256 ∷ t / 60 % 60 ∷ t % 60 ∷ []) f in omega arith
from_duration s p end (suc (suc b)) t h f e l = absurd (omega arith)

-- ---- a BOOLEAN, a number and the last, one after the other

module _ (s : List ℕ) (c : Cursor) (p end k x u v w : ℕ) (n : Number) (t : List ℕ) (r : Ready c p) (h : Holds s p (flag_text u 128 v ++ party_text w n ++ t))
    (e : end ≡ p + length (flag_text u 128 v ++ party_text w n ++ t)) (o : end ≤ length s) (i : u < 2) (j : w < 2) (a : w ≡ 1 → Fine n) (b : w ≡ 0 → n ≡ absent_number) where
  abbrev q1 : ℕ
  q1 = p + length (flag_text u 128 v)

  abbrev q2 : ℕ
  q2 = p + length (flag_text u 128 v) + length (party_text w n)

  both : Holds s p (flag_text u 128 v ++ party_text w n)
  both = holds_left s p (flag_text u 128 v ++ party_text w n) t h

  third : Holds s q2 t
  third =
      let l = length-append (flag_text u 128 v) (party_text w n) in
      let z : p + length (flag_text u 128 v ++ party_text w n) ≡ q2 = omega arith in
      subst (λ (m : ℕ). Holds s m t) z (holds_right s p (flag_text u 128 v ++ party_text w n) t h)

  ends : end ≡ q2 + length t
  ends =
      let l = length-append (flag_text u 128 v) (party_text w n) in
      let m = length-append (flag_text u 128 v ++ party_text w n) t in
      omega arith

  pub three_back : (part seconds : ℕ) → From s q2 end 130 → ((g : Cursor) → Ready g q2 → Holds s q2 t → end ≡ q2 + length t → Lasted (last_of s g end k x) end part seconds)
      → parts_of s c end k x ≡ record { cursor = absent_of end; parts = first_part k u v + party_part k x n.count + part; number = n; duration = seconds }
  three_back part seconds f l =
      let z = ends in
      let hn : Holds s q1 (party_text w n) = holds_right s p (flag_text u 128 v) (party_text w n) both in
      let f1 : From s q1 end 129 = from_party s q1 end w n j hn (from_less s q2 end 129 130 (omega arith) f) in
      let A = flag_seat s c p end 128 u v r (λ z. omega arith) i (holds_left s p (flag_text u 128 v) (party_text w n) both) (omega arith) f1 in
      let d : Cursor = may_of s c end 128 1 1 in
      let B = party_seat s d q1 end d.at w n A.ready j a b hn (omega arith) o f in
      seq_back s c end k x u v n q1 q2 part seconds A B (l _ B.ready third z)

-- ---- which parts a BOOLEAN and a number set

flag_one : (u : ℕ) → u < 2 → flag_part u 255 0 1 ≡ u
unfolding flag_part if_eq if_so
flag_one zero h = refl
flag_one (suc zero) h = refl
flag_one (suc (suc u)) h = absurd (omega arith)

flag_accepted : (b q : ℕ) → b < 2 → q ≤ b → flag_part b (q * 255) 2 6 ≡ b * 2 + q * 4
unfolding flag_part if_eq if_so
flag_accepted zero q h g = omega arith
flag_accepted (suc zero) zero h g = omega arith
flag_accepted (suc zero) (suc zero) h g = omega arith
flag_accepted (suc zero) (suc (suc q)) h g = absurd (omega arith)
flag_accepted (suc (suc b)) q h g = absurd (omega arith)

first_invoke : (u : ℕ) → u < 2 → first_part 1 u 255 ≡ u
unfolding first_part if_eq if_so
first_invoke u h = flag_one u h

first_result : (b q : ℕ) → b < 2 → q ≤ b → first_part 2 b (q * 255) ≡ b * 2 + q * 4
unfolding first_part if_eq if_so
first_result b q h g = flag_accepted b q h g

fine_count : (n : Number) → Fine n → n.count ≡ 0 → ⊥
fine_count n f e = let a = f.some in omega arith

-- 16 or 32 where the number is there
party_sets : (k x w m : ℕ) (n : Number) → w < 2 → (w ≡ 1 → Fine n) → (w ≡ 0 → n ≡ absent_number) → if_eq k 1 (if_eq x 3 32 16) (if_eq x 3 16 32) ≡ m → party_part k x n.count ≡ w * m
unfolding party_part
party_sets k x zero m n h a b e =
    let z : n.count ≡ 0 = ap (λ (y : Number). y.count) (b refl) in
    sym (yes_eq n.count 0 _ _ _ z refl) ∙ (omega arith)
party_sets k x (suc zero) m n h a b e = sym (no_eq n.count 0 _ _ _ (fine_count n (a refl)) refl) ∙ e ∙ (omega arith)
party_sets k x (suc (suc w)) m n h a b e = absurd (omega arith)

-- ---- the texts of parts that are not there

flag_empty : (b tag x : ℕ) → b ≡ 0 → flag_text b tag x ≡ []
unfolding flag_text text_if if_eq if_so
flag_empty b tag x e = rw e

party_empty : (b : ℕ) (n : Number) → b ≡ 0 → party_text b n ≡ []
unfolding party_text text_if if_eq if_so
party_empty b n e = rw e

duration_empty : (b t : ℕ) → b ≡ 0 → duration_text b t ≡ []
unfolding duration_text text_if if_eq if_so
duration_empty b t e = rw e

off1 : (p h : ℕ) → p ≡ 2 * h → p % 2 ≡ 0
off1 p h e = omega arith

off2 : (p l h : ℕ) → l < 2 → p ≡ l + 4 * h → p / 2 % 2 ≡ 0
off2 p l h g e = let f : p / 2 ≡ 2 * h = omega arith in omega arith

off8 : (p l h : ℕ) → l < 8 → p ≡ l + 16 * h → p / 8 % 2 ≡ 0
off8 p l h g e = let f : p / 8 ≡ 2 * h = omega arith in omega arith

pub off16 : (p l h : ℕ) → l < 16 → p ≡ l + 32 * h → p / 16 % 2 ≡ 0
off16 p l h g e = let f : p / 16 ≡ 2 * h = omega arith in omega arith

pub off32 : (p l h : ℕ) → l < 32 → p ≡ l + 64 * h → p / 32 % 2 ≡ 0
off32 p l h g e = let f : p / 32 ≡ 2 * h = omega arith in omega arith

off64 : (p : ℕ) → p < 64 → p / 64 % 2 ≡ 0
off64 p h = omega arith

module _ (A B C D E F : List ℕ) where
  six_1 : B ≡ [] → D ≡ [] → E ≡ [] → F ≡ [] → A ++ B ++ (C ++ D) ++ (E ++ F) ≡ A ++ C ++ []
  six_1 b d e f = rw (b, d, e, f) (rw (append-nil A, append-nil C))

  six_2 : B ≡ [] → C ≡ [] → F ≡ [] → A ++ B ++ (C ++ D) ++ (E ++ F) ≡ A ++ D ++ E
  six_2 b c f = rw (b, c, f) (rw (append-nil A, append-nil E))

  six_3 : A ≡ [] → D ≡ [] → E ≡ [] → A ++ B ++ (C ++ D) ++ (E ++ F) ≡ B ++ C ++ F
  six_3 a d e = rw (a, d, e) (rw (append-nil C))

  six_4 : A ≡ [] → C ≡ [] → E ≡ [] → F ≡ [] → A ++ B ++ (C ++ D) ++ (E ++ F) ≡ B ++ D ++ []
  six_4 a c e f = rw (a, c, e, f)

-- ---- the four

-- what a SEQUENCE says of a component that was written into it: all of it
pub record Says (d : Said) (end : ℕ) (c : Component) (n : Number) : Type 0 where
  pub cursor_is : d.cursor ≡ absent_of end
  pub parts_is : d.parts ≡ c.parts
  pub number_is : d.number ≡ n
  pub duration_is : d.duration ≡ c.duration

says_by : (d : Said) (end p t : ℕ) (c : Component) (n : Number) → d ≡ record { cursor = absent_of end; parts = p; number = n; duration = t } → p ≡ c.parts → t ≡ c.duration → Says d end c n
says_by d end p t c n e f g =
    record {
      cursor_is = ap (λ (y : Said). y.cursor) e;
      parts_is = ap (λ (y : Said). y.parts) e ∙ f;
      number_is = ap (λ (y : Said). y.number) e;
      duration_is = ap (λ (y : Said). y.duration) e ∙ g;
    }

module _ (s : List ℕ) (d : Cursor) (p end : ℕ) (c : Component) (g : Good c) (r : Ready d p) (h : Holds s p (parts_text c)) (e : end ≡ p + length (parts_text c)) (o : end ≤ length s) where
  abbrev P : ℕ
  P = c.parts

  -- invoke SETUP and ACTIVE
  pub invoke_other : (x : ℕ) → (x ≡ 3 → ⊥) → P % 2 + P / 16 % 2 * 16 ≡ P → Says (parts_of s d end 1 x) end c c.calling
  unfolding parts_text first_text parties_text last_text
  invoke_other x y q =
      let b2 : P / 2 % 2 ≡ 0 = off2 P (P % 2) (P / 16 % 2 * 4) (omega arith) (omega arith) in
      let b8 : P / 8 % 2 ≡ 0 = off8 P (P % 2) (P / 16 % 2) (omega arith) (omega arith) in
      let b32 : P / 32 % 2 ≡ 0 = off32 P (P % 2 + P / 16 % 2 * 16) 0 (omega arith) (omega arith) in
      let b64 : P / 64 % 2 ≡ 0 = off64 P (omega arith) in
      let z = six_1 (flag_text (P % 2) 128 255) (flag_text (P / 2 % 2) 128 (P / 4 % 2 * 255)) (party_text (P / 16 % 2) c.calling) (party_text (P / 32 % 2) c.called)
      (flag_text (P / 8 % 2) 130 255) (duration_text (P / 64 % 2) c.duration) (flag_empty _ _ _ b2) (party_empty _ _ b32) (flag_empty _ _ _ b8) (duration_empty _ _ b64) in
      let H : Holds s p (flag_text (P % 2) 128 255 ++ party_text (P / 16 % 2) c.calling ++ []) = subst (Holds s p) z h in
      let L : end ≡ p + length (flag_text (P % 2) 128 255 ++ party_text (P / 16 % 2) c.calling ++ []) = e ∙ ap (λ (t : List ℕ). p + length t) z in
      let w = three_back s d p end 1 x (P % 2) 255 (P / 16 % 2) c.calling [] r H L o (omega arith) (omega arith) g.calling_fine g.calling_none 0 0
      (from_end s _ end 130 (let k = ends s d p end 1 x (P % 2) 255 (P / 16 % 2) c.calling [] r H L o (omega arith) (omega arith) g.calling_fine g.calling_none in omega arith))
      (λ m i f l. last_none s m _ end 1 x i y (omega arith)) in
      let a = first_invoke (P % 2) (omega arith) in
      let b = party_sets 1 x (P / 16 % 2) 16 c.calling (omega arith) g.calling_fine g.calling_none (sym (yes_eq 1 1 _ _ _ refl (no_eq x 3 _ _ _ y refl))) in
      says_by (parts_of s d end 1 x) end _ 0 c c.calling w (omega arith) (sym (g.duration_none b64))

  -- invoke CALLED
  pub invoke_called : (x : ℕ) → x ≡ 3 → P % 2 + P / 8 % 2 * 8 + P / 32 % 2 * 32 ≡ P → Says (parts_of s d end 1 x) end c c.called
  unfolding parts_text first_text parties_text last_text
  invoke_called x y q =
      let b2 : P / 2 % 2 ≡ 0 = off2 P (P % 2) (P / 8 % 2 * 2 + P / 32 % 2 * 8) (omega arith) (omega arith) in
      let b16 : P / 16 % 2 ≡ 0 = off16 P (P % 2 + P / 8 % 2 * 8) (P / 32 % 2) (omega arith) (omega arith) in
      let b64 : P / 64 % 2 ≡ 0 = off64 P (omega arith) in
      let z = six_2 (flag_text (P % 2) 128 255) (flag_text (P / 2 % 2) 128 (P / 4 % 2 * 255)) (party_text (P / 16 % 2) c.calling) (party_text (P / 32 % 2) c.called)
      (flag_text (P / 8 % 2) 130 255) (duration_text (P / 64 % 2) c.duration) (flag_empty _ _ _ b2) (party_empty _ _ b16) (duration_empty _ _ b64) in
      let T : List ℕ = flag_text (P / 8 % 2) 130 255 in
      let H : Holds s p (flag_text (P % 2) 128 255 ++ party_text (P / 32 % 2) c.called ++ flag_text (P / 8 % 2) 130 255) = subst (Holds s p) z h in
      let L : end ≡ p + length (flag_text (P % 2) 128 255 ++ party_text (P / 32 % 2) c.called ++ flag_text (P / 8 % 2) 130 255) = e ∙ ap (λ (t : List ℕ). p + length t) z in
      let K = ends s d p end 1 x (P % 2) 255 (P / 32 % 2) c.called T r H L o (omega arith) (omega arith) g.called_fine g.called_none in
      let held = third s d p end 1 x (P % 2) 255 (P / 32 % 2) c.called T r H L o (omega arith) (omega arith) g.called_fine g.called_none in
      let w = three_back s d p end 1 x (P % 2) 255 (P / 32 % 2) c.called T r H L o (omega arith) (omega arith) g.called_fine g.called_none (P / 8 % 2 * 8) 0
      (from_flag s _ end (P / 8 % 2) 130 255 (omega arith) held (from_end s _ end 130 (omega arith)))
      (λ m i f l. last_partial s m _ end 1 x i (P / 8 % 2) y refl (omega arith) f l) in
      let a = first_invoke (P % 2) (omega arith) in
      let b = party_sets 1 x (P / 32 % 2) 32 c.called (omega arith) g.called_fine g.called_none (sym (yes_eq 1 1 _ _ _ refl (yes_eq x 3 _ _ _ y refl))) in
      says_by (parts_of s d end 1 x) end _ 0 c c.called w (omega arith) (sym (g.duration_none b64))

  -- result CALLED
  pub result_called : (x : ℕ) → x ≡ 3 → P / 2 % 2 * 2 + P / 4 % 2 * 4 + P / 16 % 2 * 16 + P / 64 % 2 * 64 ≡ P → P / 4 % 2 ≤ P / 2 % 2 → Says (parts_of s d end 2 x) end c c.calling
  unfolding parts_text first_text parties_text last_text
  result_called x y q i =
      let b1 : P % 2 ≡ 0 = off1 P (P / 2 % 2 + P / 4 % 2 * 2 + P / 16 % 2 * 8 + P / 64 % 2 * 32) (omega arith) in
      let b8 : P / 8 % 2 ≡ 0 = off8 P (P / 2 % 2 * 2 + P / 4 % 2 * 4) (P / 16 % 2 + P / 64 % 2 * 4) (omega arith) (omega arith) in
      let b32 : P / 32 % 2 ≡ 0 = off32 P (P / 2 % 2 * 2 + P / 4 % 2 * 4 + P / 16 % 2 * 16) (P / 64 % 2) (omega arith) (omega arith) in
      let z = six_3 (flag_text (P % 2) 128 255) (flag_text (P / 2 % 2) 128 (P / 4 % 2 * 255)) (party_text (P / 16 % 2) c.calling) (party_text (P / 32 % 2) c.called)
      (flag_text (P / 8 % 2) 130 255) (duration_text (P / 64 % 2) c.duration) (flag_empty _ _ _ b1) (party_empty _ _ b32) (flag_empty _ _ _ b8) in
      let T : List ℕ = duration_text (P / 64 % 2) c.duration in
      let v : ℕ = P / 4 % 2 * 255 in
      let H : Holds s p (flag_text (P / 2 % 2) 128 (P / 4 % 2 * 255) ++ party_text (P / 16 % 2) c.calling ++ duration_text (P / 64 % 2) c.duration) = subst (Holds s p) z h in
      let L : end ≡ p + length (flag_text (P / 2 % 2) 128 (P / 4 % 2 * 255) ++ party_text (P / 16 % 2) c.calling ++ duration_text (P / 64 % 2) c.duration) = e ∙ ap (λ (t : List ℕ). p + length t) z in
      let K = ends s d p end 2 x (P / 2 % 2) v (P / 16 % 2) c.calling T r H L o (omega arith) (omega arith) g.calling_fine g.calling_none in
      let held = third s d p end 2 x (P / 2 % 2) v (P / 16 % 2) c.calling T r H L o (omega arith) (omega arith) g.calling_fine g.calling_none in
      let w = three_back s d p end 2 x (P / 2 % 2) v (P / 16 % 2) c.calling T r H L o (omega arith) (omega arith) g.calling_fine g.calling_none (P / 64 % 2 * 64) c.duration
      (from_duration s _ end (P / 64 % 2) c.duration (omega arith) held K)
      (λ m j f l. last_duration s m _ end 2 x j (P / 64 % 2) c.duration y (λ n. omega arith) (omega arith) g.duration_most g.duration_none f l) in
      let a = first_result (P / 2 % 2) (P / 4 % 2) (omega arith) i in
      let b = party_sets 2 x (P / 16 % 2) 16 c.calling (omega arith) g.calling_fine g.calling_none (sym (no_eq 2 1 _ _ _ (λ n. omega arith) (yes_eq x 3 _ _ _ y refl))) in
      says_by (parts_of s d end 2 x) end _ c.duration c c.calling w (omega arith) refl

  -- result SETUP and ACTIVE
  pub result_other : (x : ℕ) → (x ≡ 3 → ⊥) → P / 2 % 2 * 2 + P / 4 % 2 * 4 + P / 32 % 2 * 32 ≡ P → P / 4 % 2 ≤ P / 2 % 2 → Says (parts_of s d end 2 x) end c c.called
  unfolding parts_text first_text parties_text last_text
  result_other x y q i =
      let b1 : P % 2 ≡ 0 = off1 P (P / 2 % 2 + P / 4 % 2 * 2 + P / 32 % 2 * 16) (omega arith) in
      let b8 : P / 8 % 2 ≡ 0 = off8 P (P / 2 % 2 * 2 + P / 4 % 2 * 4) (P / 32 % 2 * 2) (omega arith) (omega arith) in
      let b16 : P / 16 % 2 ≡ 0 = off16 P (P / 2 % 2 * 2 + P / 4 % 2 * 4) (P / 32 % 2) (omega arith) (omega arith) in
      let b64 : P / 64 % 2 ≡ 0 = off64 P (omega arith) in
      let z = six_4 (flag_text (P % 2) 128 255) (flag_text (P / 2 % 2) 128 (P / 4 % 2 * 255)) (party_text (P / 16 % 2) c.calling) (party_text (P / 32 % 2) c.called)
      (flag_text (P / 8 % 2) 130 255) (duration_text (P / 64 % 2) c.duration) (flag_empty _ _ _ b1) (party_empty _ _ b16) (flag_empty _ _ _ b8) (duration_empty _ _ b64) in
      let v : ℕ = P / 4 % 2 * 255 in
      let H : Holds s p (flag_text (P / 2 % 2) 128 (P / 4 % 2 * 255) ++ party_text (P / 32 % 2) c.called ++ []) = subst (Holds s p) z h in
      let L : end ≡ p + length (flag_text (P / 2 % 2) 128 (P / 4 % 2 * 255) ++ party_text (P / 32 % 2) c.called ++ []) = e ∙ ap (λ (t : List ℕ). p + length t) z in
      let K = ends s d p end 2 x (P / 2 % 2) v (P / 32 % 2) c.called [] r H L o (omega arith) (omega arith) g.called_fine g.called_none in
      let w = three_back s d p end 2 x (P / 2 % 2) v (P / 32 % 2) c.called [] r H L o (omega arith) (omega arith) g.called_fine g.called_none 0 0
      (from_end s _ end 130 (omega arith)) (λ m j f l. last_none s m _ end 2 x j y (omega arith)) in
      let a = first_result (P / 2 % 2) (P / 4 % 2) (omega arith) i in
      let b = party_sets 2 x (P / 32 % 2) 32 c.called (omega arith) g.called_fine g.called_none (sym (no_eq 2 1 _ _ _ (λ n. omega arith) (no_eq x 3 _ _ _ y refl))) in
      says_by (parts_of s d end 2 x) end _ 0 c c.called w (omega arith) (sym (g.duration_none b64))
