-- What the usual form is found to say is what the grammar says.
-- Assumes nothing.
use mathlib.Core.Path.{◌≡◌, refl, sym, ap, subst, ◌∙◌}
use mathlib.Core.List.{List, [], ◌∷◌}
use Prim.Native.Nat.{ℕ, zero, suc, ◌+◌, ◌-◌, ◌%◌, ◌≤◌}
use native.Mathlib.Nat.{add-zero}
use native.Mathlib.Omega.{arith}
use lib.ListN.{length}
use Rattle.text.specs.Choose.{if_eq}
use Rattle.text.proofs.Cases.{yes_lt, no_lt, yes_eq, no_eq, both_lt, both_eq}
use Rattle.wire.specs.Bytes.{byte_at}
use Rattle.wire.specs.Cursors.{absent_of, opened_of, may_of, checked_of}
use Rattle.wire.specs.Values.{absent_number, party_of, there_of, clock_at, seconds_at}
use Rattle.wire.specs.Grammar.{flag_part, first_part, party_part, partial_of, duration_of, last_of, parts_of}
use Rattle.wire.specs.Quick.{begins_of, after_of, number_after, number_at, last_after, last_part, last_seconds, last_ok, number_ok, said_of}
use Rattle.wire.specs.declared.Cursor.{Cursor}
use Rattle.wire.specs.declared.Last.{Last}
use Rattle.wire.specs.declared.Number.{Number}
use Rattle.wire.specs.declared.Said.{Said}
use Rattle.wire.proofs.Back.{Holds, Ready, ready_opened, ready_absent, ready_move, From, may_there, may_from}
use Rattle.wire.proofs.Seats.{Flagged, Numbered, numbered_none, numbered_some, Lasted, lasted_opened, lasted_absent, seq_back}
use Rattle.std.specs.Prelude.{Bool, true}
use Rattle.text.proofs.Cases.{both_so}
use Rattle.std.proofs.lemmas.Bool.Decides.{nat_tests}

-- ---- an element in the usual form

pub record Begins (s : List ℕ) (i tag size : ℕ) : Type 0 where
  pub there : i + (size + 2) ≤ length s
  pub tag_is : byte_at s i ≡ tag
  pub size_is : byte_at s (i + 1) ≡ size

pub begins : (s : List ℕ) (i tag size : ℕ) → begins_of s i tag size ≡ true → Begins s i tag size
unfolding begins_of
begins s i tag size e = record { there = grind (arith, nat_tests); tag_is = grind (arith, nat_tests); size_is = grind (arith, nat_tests) }

-- it stands there, or the place is the same
data Stands (s : List ℕ) (i tag size r : ℕ) : Type 0 where
  here : r ≡ i + (size + 2) → Begins s i tag size → Stands s i tag size r
  other : r ≡ i → Stands s i tag size r

stands : (s : List ℕ) (i tag size r : ℕ) → r ≡ after_of s i tag size → Stands s i tag size r
unfolding after_of
stands s i tag size r =
    both_so (begins_of s i tag size) (λ (z : ℕ). r ≡ z → Stands s i tag size r) _ _ (λ h e. here e (begins s i tag size h)) (λ _ e. other e)

-- its first two bytes
two_bytes : (s : List ℕ) (i a b : ℕ) → byte_at s i ≡ a → byte_at s (i + 1) ≡ b → Holds s i (a ∷ b ∷ [])
two_bytes s i a b e f zero h = ap (byte_at s) (add-zero i) ∙ e
two_bytes s i a b e f (suc zero) h = f
two_bytes s i a b e f (suc (suc j)) h = absurd (omega arith)

pub bytes_of : (s : List ℕ) (i tag size : ℕ) → Begins s i tag size → Holds s i (tag ∷ size ∷ [])
bytes_of s i tag size b = two_bytes s i tag size b.tag_is b.size_is

flag_same : (a c b off on : ℕ) → (a ≡ 0 → ⊥) → (c ≡ 0 → ⊥) → flag_part a b off on ≡ flag_part c b off on
unfolding flag_part
flag_same a c b off on h g = sym (no_eq a 0 _ _ _ h refl) ∙ no_eq c 0 _ _ _ g refl

flag_none : (a b off on : ℕ) → a ≡ 0 → 0 ≡ flag_part a b off on
unfolding flag_part
flag_none a b off on h = yes_eq a 0 _ _ _ h refl

body_opened : (i n : ℕ) → (opened_of i n).body ≡ i
unfolding opened_of
body_opened i n = refl

body_absent : (i : ℕ) → (absent_of i).body ≡ 0
unfolding absent_of
body_absent i = refl

flagged : (s : List ℕ) (c : Cursor) (i end f tag : ℕ) → Ready c i → end ≡ length s → (tag % 32 ≡ 31 → ⊥) → Stands s i tag 1 f → From s f end (suc tag) → Flagged s (may_of s c end tag 1 1) f (f - i) (byte_at s (i + 2))
flagged s c i end f tag r z k (here e b) g =
    let t = b.there in
    let m : i + 2 + 1 ≡ f = omega arith in
    subst (λ (x : Cursor). Flagged s x f (f - i) (byte_at s (i + 2)))
    (may_there s c i end tag 1 1 r 1 [] (bytes_of s i tag 1 b) k (omega arith) (omega arith) (omega arith) (omega arith))
    (record {
      ready = ready_move (opened_of (i + 2) (i + 2 + 1)) (i + 2 + 1) f m (ready_opened (i + 2) (i + 2 + 1));
      says = λ off on. ap (λ (y : ℕ). flag_part y (byte_at s y) off on) (body_opened (i + 2) (i + 2 + 1)) ∙ flag_same (i + 2) (f - i) (byte_at s (i + 2)) off on (λ y. omega arith) (λ y. omega arith);
    })
flagged s c i end f tag r z k (other e) g =
    let h : From s i end (suc tag) = subst (λ (y : ℕ). From s y end (suc tag)) e g in
    subst (λ (x : Cursor). Flagged s x f (f - i) (byte_at s (i + 2))) (may_from s c i end tag 1 1 r (suc tag) h (omega arith))
    (record {
      ready = ready_move (absent_of i) i f (sym e) (ready_absent i);
      says = λ off on. ap (λ (y : ℕ). flag_part y (byte_at s y) off on) (body_absent i) ∙ sym (flag_none 0 (byte_at s 0) off on refl) ∙ flag_none (f - i) (byte_at s (i + 2)) off on (omega arith);
    })

-- ---- a number

data Numbers (s : List ℕ) (f e : ℕ) : Type 0 where
  some : (m : ℕ) → 3 ≤ m → m ≤ 10 → e ≡ f + (m + 2) → Begins s f 129 m → Numbers s f e
  none : e ≡ f → Numbers s f e

after_number : (s : List ℕ) (f e m : ℕ) → 3 ≤ m → m ≤ 10 → Stands s f 129 m e → Numbers s f e
after_number s f e m h g (here q b) = some m h g q b
after_number s f e m h g (other q) = none q

numbers : (s : List ℕ) (f e : ℕ) → e ≡ number_after s f → Numbers s f e
unfolding number_after
numbers s f e =
    both_lt _ _ (λ (z : ℕ). e ≡ z → Numbers s f e) _ _ (λ _ q. none q) λ h.
    both_lt _ _ (λ (z : ℕ). e ≡ z → Numbers s f e) _ _ (λ _ q. none q)
    (λ g q. after_number s f e (byte_at s (f + 1)) h g (stands s f 129 (byte_at s (f + 1)) e q))

number_absent_lem : (s : List ℕ) (f e : ℕ) → e ≡ f → absent_number ≡ number_at s f e
unfolding number_at
number_absent_lem s f e h = yes_lt _ _ _ _ _ (omega arith) refl

number_there_lem : (s : List ℕ) (f e m : ℕ) → 3 ≤ m → e ≡ f + (m + 2) → party_of s (f + 2) e ≡ number_at s f e
unfolding number_at
number_there_lem s f e m h q = no_lt _ _ _ _ _ (omega arith) refl

ok_there : (size : ℕ) (n : Number) → 2 ≤ size → number_ok size n ≡ true → there_of n ≡ true
unfolding number_ok
ok_there size n h e = no_lt _ _ _ _ _ h refl ∙ e

numbered : (s : List ℕ) (c : Cursor) (f end from e : ℕ) → Ready c f → end ≡ length s → Numbers s f e → number_ok (e - f) (number_at s f e) ≡ true → From s e end 130
    → Numbered s from (may_of s c end 129 3 10) e (number_at s f e)
numbered s c f end from e r z (some m h g q b) k w =
    let t = b.there in
    let l : f + 2 + m ≡ e = omega arith in
    let p = number_there_lem s f e m h q in
    subst (λ (x : Cursor). Numbered s from x e (number_at s f e))
    (may_there s c f end 129 3 10 r m [] (bytes_of s f 129 m b) (λ y. omega arith) (omega arith) (omega arith) h g)
    (numbered_some s from (f + 2) (f + 2 + m) e (number_at s f e) (λ y. omega arith) l (ap (party_of s (f + 2)) l ∙ p) (ok_there (e - f) (number_at s f e) (omega arith) k))
numbered s c f end from e r z (none q) k w =
    let h : From s f end 130 = subst (λ (y : ℕ). From s y end 130) q w in
    subst (λ (n : Number). Numbered s from (may_of s c end 129 3 10) e n) (number_absent_lem s f e q)
    (subst (λ (x : Cursor). Numbered s from x e absent_number) (may_from s c f end 129 3 10 r 130 h (omega arith)) (numbered_none s from f e (sym q)))

-- ---- the last

module _ (s : List ℕ) (e end : ℕ) where
  part_partial : (k : ℕ) → k ≡ 1 → flag_part (end - e) (byte_at s (e + 2)) 0 8 ≡ last_part s e end k
  unfolding last_part
  part_partial k h = yes_eq _ _ _ _ _ h refl

  part_none : (k : ℕ) → e ≡ end → 0 ≡ last_part s e end k
  unfolding last_part
  part_none k h = both_eq k 1 (λ (z : ℕ). 0 ≡ z) _ _ (λ _. flag_none (end - e) (byte_at s (e + 2)) 0 8 (omega arith)) (λ _. yes_lt _ _ _ _ _ (omega arith) refl)

  part_duration : (k : ℕ) → (k ≡ 1 → ⊥) → e + 5 ≡ end → 64 ≡ last_part s e end k
  unfolding last_part
  part_duration k h g = no_eq _ _ _ _ _ h (no_lt _ _ _ _ _ (omega arith) refl)

  seconds_none : (k : ℕ) → e ≡ end → 0 ≡ last_seconds s e end k
  unfolding last_seconds
  seconds_none k h = both_eq k 1 (λ (z : ℕ). 0 ≡ z) _ _ (λ _. refl) (λ _. yes_lt _ _ _ _ _ (omega arith) refl)

  seconds_partial : (k : ℕ) → k ≡ 1 → 0 ≡ last_seconds s e end k
  unfolding last_seconds
  seconds_partial k h = yes_eq _ _ _ _ _ h refl

  seconds_duration : (k : ℕ) → (k ≡ 1 → ⊥) → e + 5 ≡ end → seconds_at s (e + 2) ≡ last_seconds s e end k
  unfolding last_seconds
  seconds_duration k h g = no_eq _ _ _ _ _ h (no_lt _ _ _ _ _ (omega arith) refl)

  clock_there : (k : ℕ) → (k ≡ 1 → ⊥) → e + 5 ≡ end → last_ok s e end k ≡ true → clock_at s (e + 2) ≡ true
  unfolding last_ok
  clock_there k h g q = no_eq _ _ _ _ _ h (no_lt _ _ _ _ _ (omega arith) refl) ∙ q

lasted_is : (l : Last) (end p q t u : ℕ) → p ≡ q → t ≡ u → Lasted l end p t → Lasted l end q u
lasted_is l end p q t u e f w = record { ready = w.ready; part_is = w.part_is ∙ e; seconds_is = w.seconds_is ∙ f }

module _ (s : List ℕ) (c : Cursor) (e end k x : ℕ) (r : Ready c e) (z : end ≡ length s) where
  none_last : (x ≡ 3 → ⊥) → e ≡ end → Lasted (last_of s c end k x) end (last_part s e end k) (last_seconds s e end k)
  unfolding last_of
  none_last h g =
      subst (λ (l : Last). Lasted l end (last_part s e end k) (last_seconds s e end k)) (no_eq x 3 _ _ _ h refl)
      (record { ready = ready_move c e end g r; part_is = part_none s e end k g; seconds_is = seconds_none s e end k g })

  partial_last : x ≡ 3 → k ≡ 1 → Stands s e 130 1 end → Lasted (last_of s c end k x) end (last_part s e end k) (last_seconds s e end k)
  unfolding last_of partial_of
  partial_last h g t =
      let w = flagged s c e end end 130 r z (λ y. omega arith) t (λ y. absurd (omega arith)) in
      subst (λ (l : Last). Lasted l end (last_part s e end k) (last_seconds s e end k)) (yes_eq x 3 _ _ _ h (yes_eq k 1 _ _ _ g refl))
      (record { ready = w.ready; part_is = w.says 0 8 ∙ part_partial s e end k g; seconds_is = seconds_partial s e end k g })

  abbrev said_by : Cursor → Last
  said_by y =
      if_eq y.body 0
      (record { cursor = y; part = 0; duration = 0 })
      (record { cursor = checked_of (clock_at s y.body) c.at y; part = 64; duration = seconds_at s y.body })

  duration_by : (k ≡ 1 → ⊥) → last_ok s e end k ≡ true → Stands s e 130 3 end → Lasted (said_by (may_of s c end 130 3 3)) end (last_part s e end k) (last_seconds s e end k)
  duration_by g o (here q b) =
      let t = b.there in
      let m : e + 2 + 3 ≡ end = omega arith in
      let n : e + 5 ≡ end = omega arith in
      lasted_is _ end 64 _ (seconds_at s (e + 2)) _ (part_duration s e end k g n) (seconds_duration s e end k g n)
      (subst (λ (i : ℕ). Lasted (said_by (may_of s c end 130 3 3)) i 64 (seconds_at s (e + 2))) m
      (subst (λ (y : Cursor). Lasted (said_by y) (e + 2 + 3) 64 (seconds_at s (e + 2)))
      (may_there s c e end 130 3 3 r 3 [] (bytes_of s e 130 3 b) (λ y. omega arith) (omega arith) (omega arith) (omega arith) (omega arith))
      (lasted_opened s c.at (e + 2) (e + 2 + 3) (seconds_at s (e + 2)) (λ y. omega arith) (clock_there s e end k g n o) refl)))
  duration_by g o (other q) =
      let h : From s e end 131 = λ y. absurd (omega arith) in
      lasted_is _ end 0 _ 0 _ (part_none s e end k (sym q)) (seconds_none s e end k (sym q))
      (subst (λ (y : Cursor). Lasted (said_by y) end 0 0) (may_from s c e end 130 3 3 r 131 h (omega arith)) (lasted_absent s c.at e end (sym q)))

  duration_last : x ≡ 3 → (k ≡ 1 → ⊥) → last_ok s e end k ≡ true → Stands s e 130 3 end → Lasted (last_of s c end k x) end (last_part s e end k) (last_seconds s e end k)
  unfolding last_of duration_of
  duration_last h g o t =
      subst (λ (l : Last). Lasted l end (last_part s e end k) (last_seconds s e end k)) (yes_eq x 3 _ _ _ h (no_eq k 1 _ _ _ g refl)) (duration_by g o t)

-- by operation and kind
data Thirds (s : List ℕ) (e end k x : ℕ) : Type 0 where
  no_third : (x ≡ 3 → ⊥) → e ≡ end → Thirds s e end k x
  a_flag : x ≡ 3 → k ≡ 1 → Stands s e 130 1 end → Thirds s e end k x
  a_time : x ≡ 3 → (k ≡ 1 → ⊥) → Stands s e 130 3 end → Thirds s e end k x

thirds : (s : List ℕ) (e end k x : ℕ) → end ≡ last_after s e k x → Thirds s e end k x
unfolding last_after
thirds s e end k x =
    both_eq x 3 (λ (z : ℕ). end ≡ z → Thirds s e end k x) _ _
    (λ h. both_eq k 1 (λ (z : ℕ). end ≡ z → Thirds s e end k x) _ _ (λ g q. a_flag h g (stands s e 130 1 end q)) (λ g q. a_time h g (stands s e 130 3 end q)))
    (λ h q. no_third h (sym q))

from_stands : (s : List ℕ) (e end size : ℕ) → Stands s e 130 size end → From s e end 130
from_stands s e end size (here q b) l = let t = b.tag_is in omega arith
from_stands s e end size (other q) l = absurd (omega arith)

from_third : (s : List ℕ) (e end k x : ℕ) → Thirds s e end k x → From s e end 130
from_third s e end k x (no_third h g) l = absurd (omega arith)
from_third s e end k x (a_flag h g t) l = from_stands s e end 1 t l
from_third s e end k x (a_time h g t) l = from_stands s e end 3 t l

from_number : (s : List ℕ) (f e end : ℕ) → Numbers s f e → From s e end 130 → From s f end 129
from_number s f e end (some m h g q b) w l = let t = b.tag_is in omega arith
from_number s f e end (none q) w l = let v = subst (λ (y : ℕ). From s y end 130) q w l in omega arith

lasted_by : (s : List ℕ) (c : Cursor) (e end k x : ℕ) → Ready c e → end ≡ length s → last_ok s e end k ≡ true → Thirds s e end k x → Lasted (last_of s c end k x) end (last_part s e end k) (last_seconds s e end k)
lasted_by s c e end k x r z o (no_third h g) = none_last s c e end k x r z h g
lasted_by s c e end k x r z o (a_flag h g t) = partial_last s c e end k x r z h g t
lasted_by s c e end k x r z o (a_time h g t) = duration_last s c e end k x r z h g o t

-- ---- a SEQUENCE

module _ (s : List ℕ) (i k x f e : ℕ) (n : Number) where
  pub usual_said : (z size : ℕ) (ok ok2 : Bool) (r : Said) → f ≡ after_of s i 128 1 → e ≡ number_after s f → z ≡ last_after s e k x → z ≡ length s → n ≡ number_at s f e → size ≡ e - f → ok ≡ number_ok size n → ok ≡ true
      → ok2 ≡ last_ok s e z k → ok2 ≡ true → r ≡ said_of s i f e n k x → parts_of s (absent_of i) (length s) k x ≡ r
  unfolding said_of
  usual_said z size ok ok2 r ef ee ez zl en es eo o1 e2 o2 er =
      let T = thirds s e (length s) k x (sym zl ∙ ez) in
      let W = from_third s e (length s) k x T in
      let N = numbers s f e ee in
      let G : number_ok (e - f) (number_at s f e) ≡ true = ap (λ (y : ℕ). number_ok y (number_at s f e)) (sym es) ∙ ap (number_ok size) (sym en) ∙ sym eo ∙ o1 in
      let O : last_ok s e (length s) k ≡ true = ap (λ (y : ℕ). last_ok s e y k) (sym zl) ∙ sym e2 ∙ o2 in
      let c : Cursor = absent_of i in
      let A = flagged s c i (length s) f 128 (ready_absent i) refl (λ y. omega arith) (stands s i 128 1 f ef) (from_number s f e (length s) N W) in
      let d : Cursor = may_of s c (length s) 128 1 1 in
      let B = numbered s d f (length s) d.at e A.ready refl N G W in
      let C = lasted_by s _ e (length s) k x B.ready refl O T in
      seq_back s c (length s) k x (f - i) (byte_at s (i + 2)) (number_at s f e) f e (last_part s e (length s) k) (last_seconds s e (length s) k) A B C
      ∙ ap (λ (y : Number). record { cursor = absent_of (length s); parts = first_part k (f - i) (byte_at s (i + 2)) + party_part k x y.count + last_part s e (length s) k; number = y; duration = last_seconds s e (length s) k }) (sym en)
      ∙ sym er

pub usual_cursor : (s : List ℕ) (i k x f e : ℕ) (n : Number) (r : Said) → r ≡ said_of s i f e n k x → r.cursor ≡ absent_of (length s)
unfolding said_of
usual_cursor s i k x f e n r q = ap (λ (y : Said). y.cursor) q
