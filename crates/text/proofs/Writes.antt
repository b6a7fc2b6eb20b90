-- One text after another is the two joined.
use mathlib.Core.Path.{◌≡◌, refl, sym, ap, ◌∙◌}
use mathlib.Core.Bool.{Bool, true, false}
use mathlib.Core.List.{List, [], ◌∷◌, ◌++◌}
use mathlib.Core.Logic.{◌⊎◌, inl, inr}
use Prim.Native.Nat.{ℕ, ◌+◌, ◌^◌, ◌≤◌, ◌<◌}
use native.Mathlib.Omega.{arith}
use lib.ListN.{length, take, length-append}
use lib.Seq.{sets, length-sets}
use Rattle.std.proofs.lemmas.Bool.{cases_lt}
use Rattle.text.specs.Choose.{if_lt, if_eq, if_so}
use Rattle.text.specs.Text.{Put, digit_of, decimal, last_digits}
use Rattle.text.proofs.Cases.{yes_so, no_so, yes_lt, no_lt, yes_eq, no_eq}
use Rattle.text.proofs.Numbers.{by_last, count_is}
use Rattle.text.proofs.Laws.{put_past, put_first, sets_append}
use Rattle.text.specs.Page.{Wrote, moved}
use Rattle.text.specs.declared.page.Page.{Page}

-- past the end it does not matter where
apart : (l : List ℕ) (i j : ℕ) (t : List ℕ) → length l ≤ i → length l ≤ j → sets l i t ≡ sets l j t
apart l i j t g h = sym (put_past l i (i + length t) t g refl).bytes ∙ (put_past l j (j + length t) t h refl).bytes

-- where the place stopped, the text is put as where it goes on
sets_moved : (l : List ℕ) (i n : ℕ) (t : List ℕ) → length l < 2 ^ 63 → sets l (moved i n) t ≡ sets l (i + n) t
sets_moved l i n t h = go (cases_lt 18446744073709551615 (i + n))
  where
    go : (18446744073709551615 < i + n) ⊎ (i + n ≤ 18446744073709551615) → sets l (moved i n) t ≡ sets l (i + n) t
    go (inl p) = apart l (moved i n) (i + n) t (omega arith) (omega arith)
    go (inr p) = let e : moved i n ≡ i + n = omega arith in ap (λ (k : ℕ). sets l k t) e

pub wrote_none : (a : Page) → Wrote [] a a
wrote_none a = record { same = refl; bytes = λ _. refl; place = omega arith }

-- t after s; the last piece first
pub wrote_after : {a b c : Page} {s t : List ℕ} → Wrote t b c → Wrote s a b → Wrote (s ++ t) a c
wrote_after {a} {b} {c} {s} {t} q p =
    record {
      same = q.same ∙ p.same;
      bytes = λ h.
          let e : length (sets a.out.now a.at s) ≡ length a.out.now = length-sets a.out.now a.at s in
          let k : length b.out.now < 2 ^ 63 = rw (p.bytes h, e) h in
          q.bytes k ∙ ap (λ (l : List ℕ). sets l b.at t) (p.bytes h) ∙ ap (λ (n : ℕ). sets (sets a.out.now a.at s) n t) p.place
          ∙ sets_moved (sets a.out.now a.at s) a.at (length s) t (rw e h) ∙ sym (sets_append a.out.now a.at s t);
      place = omega (arith, q.place, p.place, length-append s t);
    }

pub wrote_as : {a b : Page} {s t : List ℕ} → s ≡ t → Wrote s a b → Wrote t a b
wrote_as {a} {b} e p = rw e at p

-- where it does not stop, what `Put` says
pub wrote_put : {a b : Page} {t : List ℕ} → length a.out.now < 2 ^ 63 → a.at + length t < 2 ^ 63 → Wrote t a b → Put a.out.now a.at t b.out.now b.at
wrote_put h g p = record { bytes = p.bytes h; place = omega (arith, p.place) }

-- .. and the other way
pub put_wrote : {a b : Page} {t : List ℕ} → b.out.ghost_name ≡ a.out.ghost_name → b.at ≡ moved a.at (length t)
    → (length a.out.now < 2 ^ 63 → Put a.out.now a.at t b.out.now (a.at + length t)) → Wrote t a b
put_wrote e f p = record { same = e; bytes = λ h. (p h).bytes; place = f }

-- a text that was put at the start of a buffer, all of it, is what the buffer begins with
pub wrote_first : {a b : Page} {t new : List ℕ} {n : ℕ} → new ≡ b.out.now → n ≡ b.at → a.at ≡ 0 → length a.out.now < 2 ^ 63 → n ≤ length new
    → Wrote t a b → take n new ≡ t
wrote_first {a} {b} {t} {new} f k e h l p =
    let g : length new ≡ length a.out.now = ap length (f ∙ p.bytes h) ∙ length-sets a.out.now a.at t in
    put_first (omega (arith, l, g)) (record { bytes = f ∙ p.bytes h ∙ ap (λ (n : ℕ). sets a.out.now n t) e; place = omega (arith, p.place, k, e, l, g, h) })

-- the text of x where x is known
pub wrote_by : {A : Type 0} (f : A → List ℕ) (x y : A) (a b : Page) → x ≡ y → Wrote (f y) a b → Wrote (f x) a b
wrote_by f x y a b e p = wrote_as (ap f (sym e)) p

-- a text that goes by a test
pub wrote_yes : (m n : ℕ) (a b : Page) (s t : List ℕ) → m ≡ n → Wrote s a b → Wrote (if_eq m n s t) a b
wrote_yes m n a b s t e p = wrote_as (yes_eq m n s s t e refl) p

pub wrote_no : (m n : ℕ) (a b : Page) (s t : List ℕ) → (m ≡ n → ⊥) → Wrote t a b → Wrote (if_eq m n s t) a b
wrote_no m n a b s t f p = wrote_as (no_eq m n t s t f refl) p

pub wrote_so : (x : Bool) (a b : Page) (s t : List ℕ) → x ≡ true → Wrote s a b → Wrote (if_so x s t) a b
wrote_so x a b s t e p = wrote_as (yes_so x s s t e refl) p

pub wrote_not : (x : Bool) (a b : Page) (s t : List ℕ) → x ≡ false → Wrote t a b → Wrote (if_so x s t) a b
wrote_not x a b s t e p = wrote_as (no_so x t s t e refl) p

pub wrote_below : (m n : ℕ) (a b : Page) (s t : List ℕ) → m < n → Wrote s a b → Wrote (if_lt m n s t) a b
wrote_below m n a b s t h p = wrote_as (yes_lt m n s s t h refl) p

pub wrote_above : (m n : ℕ) (a b : Page) (s t : List ℕ) → n ≤ m → Wrote t a b → Wrote (if_lt m n s t) a b
wrote_above m n a b s t h p = wrote_as (no_lt m n t s t h refl) p

-- the digits of a number are its last ones, as many as there are
pub all_digits : (n k : ℕ) → k ≡ length (decimal n) → last_digits k n ≡ decimal n
unfolding decimal
all_digits n k e = ap (λ (x : ℕ). last_digits x n) e ∙ sym (by_last 10 n)

pub one_digit : (n d : ℕ) → d ≡ digit_of n → n < 10 → d ∷ [] ≡ decimal n
unfolding last_digits
one_digit n d e h = ap (λ (x : ℕ). x ∷ []) e ∙ all_digits n 1 (count_is 0 n (omega arith))

pub ruleset writes = (wrote_none, wrote_after, wrote_yes, wrote_no)
