-- A SEQUENCE that was read took no fewer bytes than what it says would be written in, and what it says goes together.
-- Assumes nothing.
use mathlib.Core.Path.{◌≡◌, refl, sym, ap, subst, ◌∙◌}
use mathlib.Core.List.{List, ◌++◌}
use Prim.Native.Nat.{ℕ, zero, suc, ◌+◌, ◌-◌, ◌*◌, ◌/◌, ◌%◌, ◌^◌, ◌≤◌, ◌<◌}
use native.Mathlib.Nat.{pow-suc}
use native.Mathlib.Omega.{arith}
use lib.ListN.{length, length-append}
use Rattle.text.specs.Choose.{if_eq, if_so}
use Rattle.text.proofs.Cases.{no_lt, yes_eq, no_eq, both_lt, both_eq}
use Rattle.wire.specs.Bytes.{byte_at}
use Rattle.wire.specs.Cursors.{may_of, checked_of}
use Rattle.wire.specs.Values.{paired_of, pair_on, pairs_at, absent_number, counted_of, natured_of, digited_of, party_by, party_of, there_of, clock_of, clock_at, seconds_at}
use Rattle.wire.specs.Grammar.{flag_part, first_part, party_at, party_part, partial_of, duration_of, last_of, depth_of, known_of, parts_of, number_if, made_of}
use Rattle.wire.specs.Texts.{element_text, text_if, number_text, flag_text, party_text, duration_text, first_text, parties_text, last_text, parts_text}
use Rattle.wire.specs.Writable.{argument_ok, result_ok}
use Rattle.wire.specs.declared.Component.{Component}
use Rattle.wire.specs.declared.Cursor.{Cursor}
use Rattle.wire.specs.declared.Last.{Last}
use Rattle.wire.specs.declared.Number.{Number}
use Rattle.wire.specs.declared.Said.{Said}
use Rattle.wire.proofs.Pieces.{number_length}
use Rattle.wire.proofs.Digited.{hundred, Fine}
use Rattle.wire.proofs.Bounds.{Got, took, none, may_got, checked_live, rest_ends}
use Rattle.wire.specs.Answers.{Digits}
use Rattle.std.specs.Prelude.{Some, None}
use Rattle.std.specs.Prelude.{Bool, true, eqb}
use Rattle.text.proofs.Cases.{yes_so, both_so}
use Rattle.std.proofs.lemmas.Bool.Decides.{nat_tests}
use borrow.Author.Tests.{eq-eqb}

-- of a list all of whose elements are bytes
abbrev pub Bytes : List ℕ → Type 0
Bytes s = (i : ℕ) → byte_at s i < 256

-- ---- a number that was read has as many bytes as it would be written in, and can be

-- digits in m bytes
abbrev Below : ℕ → Digits → Type 0
Below m None = Unit {0}
Below m (Some v) = v < 100 ^ m

paired_below : (m v b : ℕ) → v < 100 ^ m → Below (suc m) (paired_of v b)
unfolding paired_of
paired_below m v b h =
    both_lt _ _ (Below (suc m)) _ _ (λ _. tt) λ g.
    both_lt _ _ (Below (suc m)) _ _ (λ _. tt) (λ k. let p = pow-suc 100 m in omega arith)

pair_below : (m : ℕ) (d : Digits) (b : ℕ) → Below m d → Below (suc m) (pair_on d b)
unfolding pair_on
pair_below m None b h = tt
pair_below m (Some v) b h = paired_below m v b h

pairs_below : (s : List ℕ) (i m : ℕ) → Below m (pairs_at s i m)
unfolding pairs_at
pairs_below s i zero = omega arith
pairs_below s i (suc m) = pair_below m (pairs_at s i m) (byte_at s (i + (2 + m))) (pairs_below s i m)

-- if it is there
abbrev Octets : ℕ → Number → Type 0
Octets m n = (n.count ≡ 0 → ⊥) → ((n.count % 128 + 1) / 2 ≡ m) × Fine n

none_octets : (m : ℕ) → Octets m absent_number
none_octets m h = absurd (h refl)

odd_octets : (m nature v : ℕ) → m ≤ 8 → (m ≡ 0 → ⊥) → nature % 128 ≡ 0 → nature ≤ 128 → v < 100 ^ m
    → Octets m (record { count = nature + (2 * m - 1); value = v / 10 })
odd_octets m nature v h i e l g _ =
    let z : (nature + (2 * m - 1)) % 128 ≡ 2 * m - 1 = omega arith in
    let p = pow-suc 10 (2 * m - 1) in
    let d : suc (2 * m - 1) ≡ m + m = omega arith in
    let q : 10 ^ suc (2 * m - 1) ≡ 10 ^ (m + m) = rw d in
    let r = hundred m in
    let w : v / 10 < 10 ^ (2 * m - 1) = omega arith in
    let f : v / 10 < 10 ^ ((nature + (2 * m - 1)) % 128) = subst (λ (k : ℕ). v / 10 < 10 ^ k) (sym z) w in
    (omega arith, record { byte = omega arith; some = omega arith; most = omega arith; fits = f })

even_octets : (m nature v : ℕ) → m ≤ 8 → (m ≡ 0 → ⊥) → (m ≡ 8 → ⊥) → nature % 128 ≡ 0 → nature ≤ 128 → v < 100 ^ m
    → Octets m (record { count = nature + 2 * m; value = v })
even_octets m nature v h i j e l g _ =
    let z : (nature + 2 * m) % 128 ≡ m + m = omega arith in
    let r = hundred m in
    let w : v < 10 ^ (m + m) = omega arith in
    let f : v < 10 ^ ((nature + 2 * m) % 128) = subst (λ (k : ℕ). v < 10 ^ k) (sym z) w in
    (omega arith, record { byte = omega arith; some = omega arith; most = omega arith; fits = f })

counted_octets : (m : ℕ) (odd : Bool) (nature v : ℕ) → m ≤ 8 → nature % 128 ≡ 0 → nature ≤ 128 → v < 100 ^ m → Octets m (counted_of m odd nature v)
unfolding counted_of
counted_octets m odd nature v h e l g =
    both_eq _ _ (Octets m) _ _ (λ _. none_octets m) λ i.
    both_so odd (Octets m) _ _
    (λ _. both_eq _ _ (Octets m) _ _ (λ _. odd_octets m nature v h i e l g) (λ _. none_octets m))
    (λ _. both_eq _ _ (Octets m) _ _ (λ _. none_octets m) (λ j. even_octets m nature v h i j e l g))

natured_octets : (m first second v : ℕ) → m ≤ 8 → v < 100 ^ m → Octets m (natured_of m first second v)
unfolding natured_of
natured_octets m first second v h g =
    both_eq _ _ (Octets m) _ _
    (λ _. both_eq _ _ (Octets m) _ _ (λ _. counted_octets m (eqb (first / 128) 1) 0 v h refl (omega arith) g)
    (λ _. both_eq _ _ (Octets m) _ _ (λ _. counted_octets m (eqb (first / 128) 1) 128 v h refl (omega arith) g) (λ _. none_octets m)))
    (λ _. none_octets m)

digited_octets : (m first second : ℕ) (d : Digits) → m ≤ 8 → Below m d → Octets m (digited_of m first second d)
unfolding digited_of
digited_octets m first second None h g = none_octets m
digited_octets m first second (Some v) h g = natured_octets m first second v h g

party_octets : (s : List ℕ) (i next : ℕ) → Octets (next - (i + 2)) (party_of s i next)
unfolding party_of party_by
party_octets s i next =
    both_lt _ _ (Octets (next - (i + 2))) _ _ (λ _. none_octets _) λ _.
    both_lt _ _ (Octets (next - (i + 2))) _ _ (λ _. none_octets _) λ _.
    both_lt _ _ (Octets (next - (i + 2))) _ _ (λ _. none_octets _)
    (λ h. digited_octets _ _ _ _ (omega arith) (pairs_below s i (next - (i + 2))))

number_fine : (s : List ℕ) (e : Cursor) → ((party_at s e).count ≡ 0 → ⊥) → Fine (party_at s e)
unfolding party_at
number_fine s e =
    both_eq e.body 0 (λ (n : Number). (n.count ≡ 0 → ⊥) → Fine n) _ _ (λ _ h. absurd (h refl))
    (λ _ h. (party_octets s e.body e.at h).1)

-- ---- the elements of a SEQUENCE: what each sets, and how many bytes it took

-- where a cursor stands after an element that may be there
pub got_far : (c e : Cursor) (end least most : ℕ) → Got c e end least most → (c.number ≡ 0) × (c.at ≤ e.at) × (c.at ≤ end → e.at ≤ end)
got_far c e end least most (took t) = let x = t.begins in let y = t.least_is in (t.from, omega arith, λ _. t.ends)
got_far c e end least most (none z x y) = (z, omega arith, λ h. omega arith)

-- a part that is set, or is not: `there` times its bit; and if it is, in `size` bytes
pub record Part (v unit from to size : ℕ) : Type 0 where
  pub there : ℕ
  pub bit : there < 2
  pub sets : v ≡ there * unit
  pub bytes : from + there * size ≤ to

-- two, of which the second goes with the first
pub record Parts (v from to : ℕ) : Type 0 where
  pub there : ℕ
  pub more : ℕ
  pub bit : there < 2
  pub with : more ≤ there
  pub sets : v ≡ there * 2 + more * 4
  pub bytes : from + there * 3 ≤ to

flag_of : (place b on from to : ℕ) → from ≤ to → ((place ≡ 0 → ⊥) → from + 3 ≤ to) → Part (flag_part place b 0 on) on from to 3
unfolding flag_part
flag_of place b on from to h g =
    both_eq place 0 (λ (v : ℕ). Part v on from to 3) _ _ (λ _. off) (λ i. both_eq b 0 (λ (v : ℕ). Part v on from to 3) _ _ (λ _. off) (λ _. let k = g i in record { there = 1; bit = omega arith; sets = omega arith; bytes = omega arith }))
  where
    off : Part 0 on from to 3
    off = record { there = 0; bit = omega arith; sets = omega arith; bytes = omega arith }

flags_of : (place b from to : ℕ) → from ≤ to → ((place ≡ 0 → ⊥) → from + 3 ≤ to) → Parts (flag_part place b 2 6) from to
unfolding flag_part
flags_of place b from to h g =
    both_eq place 0 (λ (v : ℕ). Parts v from to) _ _
    (λ _. record { there = 0; more = 0; bit = omega arith; with = omega arith; sets = omega arith; bytes = omega arith })
    (λ i. let k = g i in
    both_eq b 0 (λ (v : ℕ). Parts v from to) _ _
    (λ _. record { there = 1; more = 0; bit = omega arith; with = omega arith; sets = omega arith; bytes = omega arith })
    (λ _. record { there = 1; more = 1; bit = omega arith; with = omega arith; sets = omega arith; bytes = omega arith }))

got_three : (c e : Cursor) (end : ℕ) → Got c e end 1 1 → (e.body ≡ 0 → ⊥) → c.at + 3 ≤ e.at
got_three c e end (took t) h = let x = t.begins in let y = t.least_is in omega arith
got_three c e end (none z x y) h = absurd (h x)

-- a number that is there stands in its own bytes and two more
number_bytes : (s : List ℕ) (c e : Cursor) (end : ℕ) → Got c e end 3 10 → ((party_at s e).count ≡ 0 → ⊥) → c.at + (2 + length (number_text (party_at s e))) ≤ e.at
unfolding party_at
number_bytes s c e end (took t) =
    let x = t.begins in
    let y = t.least_is in
    both_eq e.body 0 (λ (n : Number). (n.count ≡ 0 → ⊥) → c.at + (2 + length (number_text n)) ≤ e.at) _ _ (λ z _. absurd (omega arith))
    (λ _ h. let q = (party_octets s e.body e.at h).0 in let l = number_length (party_of s e.body e.at) in omega arith)
number_bytes s c e end (none z x y) =
    both_eq e.body 0 (λ (n : Number). (n.count ≡ 0 → ⊥) → c.at + (2 + length (number_text n)) ≤ e.at) _ _ (λ _ h. absurd (h refl)) (λ g _. absurd (g x))

party_of_lem : (k x n from to size unit : ℕ) → if_eq k 1 (if_eq x 3 32 16) (if_eq x 3 16 32) ≡ unit → from ≤ to → ((n ≡ 0 → ⊥) → from + size ≤ to) → Part (party_part k x n) unit from to size
unfolding party_part
party_of_lem k x n from to size unit e h g =
    both_eq n 0 (λ (v : ℕ). Part v unit from to size) _ _
    (λ _. record { there = 0; bit = omega arith; sets = omega arith; bytes = omega arith })
    (λ i. let l = g i in record { there = 1; bit = omega arith; sets = e ∙ (omega arith); bytes = omega arith })

-- a part that is set comes from a number that is there
party_some : (k x n there unit : ℕ) → party_part k x n ≡ there * unit → 1 ≤ unit → there ≡ 1 → n ≡ 0 → ⊥
unfolding party_part
party_some k x n there unit e h f g =
    let z : party_part k x n ≡ 0 = sym (yes_eq n 0 _ _ _ g refl) in
    let y : there * unit ≡ 1 * unit = ap (λ (u : ℕ). u * unit) f in
    omega arith

-- ---- the last

pub record Third (s : List ℕ) (c : Cursor) (l : Last) (end unit size : ℕ) : Type 0 where
  pub begun : c.number ≡ 0
  pub part_is : Part l.part unit c.at l.cursor.at size
  pub ends : c.at ≤ end → l.cursor.at ≤ end
  pub duration_none : l.part / 64 % 2 ≡ 0 → l.duration ≡ 0
  pub duration_most : Bytes s → l.duration ≤ 921599

partial_third : (s : List ℕ) (c : Cursor) (end : ℕ) → (partial_of s c end).cursor.number ≡ 0 → Third s c (partial_of s c end) end 8 3
unfolding partial_of
partial_third s c end z =
    let g = may_got s c end 130 1 1 z in
    let w = got_far c (may_of s c end 130 1 1) end 1 1 g in
    record {
      begun = w.0;
      part_is = flag_of _ _ 8 _ _ w.1 (got_three c (may_of s c end 130 1 1) end g);
      ends = w.2;
      duration_none = λ _. refl;
      duration_most = λ _. omega arith;
    }

five : (c e : Cursor) (end : ℕ) → Got c e end 3 3 → (e.body ≡ 0 → ⊥) → c.at + 5 ≤ e.at
five c e end (took t) h = let x = t.begins in let y = t.least_is in omega arith
five c e end (none z x y) h = absurd (h x)

clock_inv : (m sec : ℕ) → clock_of m sec ≡ true → (m < 60) × (sec < 60)
unfolding clock_of
clock_inv m sec e = (grind (arith, nat_tests), grind (arith, nat_tests))

seconds_most : (s : List ℕ) (i : ℕ) → Bytes s → clock_at s i ≡ true → seconds_at s i ≤ 921599
unfolding clock_at seconds_at
seconds_most s i b e =
    let w = clock_inv _ _ e in
    let w0 = w.0 in
    let w1 = w.1 in
    let h = b i in
    omega arith

duration_third : (s : List ℕ) (c : Cursor) (end : ℕ) → (duration_of s c end).cursor.number ≡ 0 → Third s c (duration_of s c end) end 64 5
unfolding duration_of
duration_third s c end =
    let e : Cursor = may_of s c end 130 3 3 in
    both_eq (may_of s c end 130 3 3).body 0 (λ (l : Last). l.cursor.number ≡ 0 → Third s c l end 64 5) _ _
    (λ _ z. let g = may_got s c end 130 3 3 z in
    let w = got_far c (may_of s c end 130 3 3) end 3 3 g in
    record {
      begun = w.0;
      part_is = record { there = 0; bit = omega arith; sets = omega arith; bytes = let h = w.1 in omega arith };
      ends = w.2;
      duration_none = λ _. refl;
      duration_most = λ _. omega arith;
    })
    (λ h z. let k = checked_live (clock_at s (may_of s c end 130 3 3).body) c.at (may_of s c end 130 3 3) z in
    let same : (checked_of (clock_at s (may_of s c end 130 3 3).body) c.at (may_of s c end 130 3 3)).at ≡ (may_of s c end 130 3 3).at = ap (λ (y : Cursor). y.at) k.0 in
    let g = may_got s c end 130 3 3 (sym (ap (λ (y : Cursor). y.number) k.0) ∙ z) in
    let w = got_far c (may_of s c end 130 3 3) end 3 3 g in
    let v = five c (may_of s c end 130 3 3) end g h in
    record {
      begun = w.0;
      part_is = record { there = 1; bit = omega arith; sets = omega arith; bytes = omega arith };
      ends = λ o. let y = w.2 o in omega arith;
      duration_none = λ q. absurd (omega arith);
      duration_most = λ b. seconds_most s (may_of s c end 130 3 3).body b (k.1 h);
    })

last_absent : (s : List ℕ) (c : Cursor) (end unit size : ℕ) → c.number ≡ 0
    → Third s c (record { cursor = c; part = 0; duration = 0 }) end unit size
last_absent s c end unit size z =
    record {
      begun = z;
      part_is = record { there = 0; bit = omega arith; sets = omega arith; bytes = omega arith };
      ends = λ o. o;
      duration_none = λ _. refl;
      duration_most = λ _. omega arith;
    }

-- by the operation
last_unit : (s : List ℕ) (c : Cursor) (end x : ℕ) → (last_of s c end 1 x).cursor.number ≡ 0
    → Third s c (last_of s c end 1 x) end (if_eq x 3 8 0) 3
unfolding last_of
last_unit s c end x =
    both_eq x 3 (λ (l : Last). l.cursor.number ≡ 0 → Third s c l end (if_eq x 3 8 0) 3) _ _
    (λ h. both_eq 1 1 (λ (l : Last). l.cursor.number ≡ 0 → Third s c l end (if_eq x 3 8 0) 3) _ _
    (λ _. subst (λ (u : ℕ). (partial_of s c end).cursor.number ≡ 0 → Third s c (partial_of s c end) end u 3)
    (yes_eq x 3 _ _ _ h refl) (partial_third s c end)) (λ n. absurd (n refl)))
    (λ _. last_absent s c end _ _)

last_unit_2 : (s : List ℕ) (c : Cursor) (end x : ℕ) → (last_of s c end 2 x).cursor.number ≡ 0
    → Third s c (last_of s c end 2 x) end (if_eq x 3 64 0) 5
unfolding last_of
last_unit_2 s c end x =
    both_eq x 3 (λ (l : Last). l.cursor.number ≡ 0 → Third s c l end (if_eq x 3 64 0) 5) _ _
    (λ h. both_eq 2 1 (λ (l : Last). l.cursor.number ≡ 0 → Third s c l end (if_eq x 3 64 0) 5) _ _ (λ n. absurd (omega arith))
    (λ _. subst (λ (u : ℕ). (duration_of s c end).cursor.number ≡ 0 → Third s c (duration_of s c end) end u 5)
    (yes_eq x 3 _ _ _ h refl) (duration_third s c end)))
    (λ _. last_absent s c end _ _)

-- ---- the parts of a component by their bits

party_there : (b : ℕ) (n : Number) → b < 2 → length (party_text b n) ≤ b * (2 + length (number_text n))
unfolding party_text text_if element_text if_eq if_so
party_there zero n h = omega arith
party_there (suc zero) n h = omega arith
party_there (suc (suc b)) n h = absurd (omega arith)

flag_bytes : (b tag x : ℕ) → b < 2 → length (flag_text b tag x) ≡ b * 3
unfolding flag_text text_if if_eq if_so
flag_bytes zero tag x h = refl
flag_bytes (suc zero) tag x h = refl
flag_bytes (suc (suc b)) tag x h = absurd (omega arith)

duration_bytes : (b t : ℕ) → b < 2 → length (duration_text b t) ≡ b * 5
unfolding duration_text text_if if_eq if_so
duration_bytes zero t h = refl
duration_bytes (suc zero) t h = refl
duration_bytes (suc (suc b)) t h = absurd (omega arith)

parts_bytes : (c : Component) → length (parts_text c) ≡ c.parts % 2 * 3 + c.parts / 2 % 2 * 3 + length (party_text (c.parts / 16 % 2) c.calling) + length (party_text (c.parts / 32 % 2) c.called)
    + c.parts / 8 % 2 * 3 + c.parts / 64 % 2 * 5
unfolding parts_text first_text parties_text last_text
parts_bytes c =
    let P : ℕ = c.parts in
    let a = flag_bytes (P % 2) 128 255 (omega arith) in
    let b = flag_bytes (P / 2 % 2) 128 (P / 4 % 2 * 255) (omega arith) in
    let d = flag_bytes (P / 8 % 2) 130 255 (omega arith) in
    let e = duration_bytes (P / 64 % 2) c.duration (omega arith) in
    let i = length-append (first_text P) (parties_text c) in
    let j = length-append (first_text P ++ parties_text c) (last_text c) in
    let k = length-append (flag_text (P % 2) 128 255) (flag_text (P / 2 % 2) 128 (P / 4 % 2 * 255)) in
    let l = length-append (party_text (P / 16 % 2) c.calling) (party_text (P / 32 % 2) c.called) in
    let m = length-append (flag_text (P / 8 % 2) 130 255) (duration_text (P / 64 % 2) c.duration) in
    omega arith

-- ---- bits of a sum

bit1 : (p b h : ℕ) → b < 2 → p ≡ b + 2 * h → p % 2 ≡ b
bit1 p b h l e = omega arith

bit2 : (p low b h : ℕ) → low < 2 → b < 2 → p ≡ low + 2 * (b + 2 * h) → p / 2 % 2 ≡ b
bit2 p low b h g l e = let f : p / 2 ≡ b + 2 * h = omega arith in omega arith

bit4 : (p low b h : ℕ) → low < 4 → b < 2 → p ≡ low + 4 * (b + 2 * h) → p / 4 % 2 ≡ b
bit4 p low b h g l e = let f : p / 4 ≡ b + 2 * h = omega arith in omega arith

bit8 : (p low b h : ℕ) → low < 8 → b < 2 → p ≡ low + 8 * (b + 2 * h) → p / 8 % 2 ≡ b
bit8 p low b h g l e = let f : p / 8 ≡ b + 2 * h = omega arith in omega arith

bit16 : (p low b h : ℕ) → low < 16 → b < 2 → p ≡ low + 16 * (b + 2 * h) → p / 16 % 2 ≡ b
bit16 p low b h g l e = let f : p / 16 ≡ b + 2 * h = omega arith in omega arith

bit32 : (p low b h : ℕ) → low < 32 → b < 2 → p ≡ low + 32 * (b + 2 * h) → p / 32 % 2 ≡ b
bit32 p low b h g l e = let f : p / 32 ≡ b + 2 * h = omega arith in omega arith

bit64 : (p low b h : ℕ) → low < 64 → b < 2 → p ≡ low + 64 * (b + 2 * h) → p / 64 % 2 ≡ b
bit64 p low b h g l e = let f : p / 64 ≡ b + 2 * h = omega arith in omega arith

-- the text of a number that stands in one of two places
number_once : (w : ℕ) (n m : Number) → w < 2 → (w ≡ 1 → m ≡ n) → length (party_text w m) ≤ w * (2 + length (number_text n))
number_once zero n m h e = let y = party_there zero m (omega arith) in omega arith
number_once (suc zero) n m h e = subst (λ (y : Number). length (party_text 1 y) ≤ 1 * (2 + length (number_text n))) (sym (e refl)) (party_there 1 n (omega arith))
number_once (suc (suc w)) n m h e = absurd (omega arith)

pub number_is : (b : ℕ) (n : Number) → b ≡ 1 → number_if (eqb b 1) n ≡ n
unfolding number_if
number_is b n e = sym (yes_so (eqb b 1) _ _ _ (eq-eqb b 1 e) refl)

-- which of the parts 1, 2, 4, 8, 16, 32, 64 there are
record Bits (p a b q l w v y : ℕ) : Type 0 where
  bit_1 : p % 2 ≡ a
  bit_2 : p / 2 % 2 ≡ b
  bit_4 : p / 4 % 2 ≡ q
  bit_8 : p / 8 % 2 ≡ l
  bit_16 : p / 16 % 2 ≡ w
  bit_32 : p / 32 % 2 ≡ v
  bit_64 : p / 64 % 2 ≡ y

-- invoke SETUP and ACTIVE: a, w; invoke CALLED: a, w, y; result SETUP and ACTIVE: a, q, w; result CALLED: a, q, w, y
invoke_other : (p a w y : ℕ) → a < 2 → w < 2 → p ≡ a * 1 + w * 16 + y * 0 → Bits p a 0 0 0 w 0 0
invoke_other p a w y h g e =
    record {
      bit_1 = bit1 p a (w * 8) h (omega arith);
      bit_2 = bit2 p a 0 (w * 4) h (omega arith) (omega arith);
      bit_4 = bit4 p a 0 (w * 2) (omega arith) (omega arith) (omega arith);
      bit_8 = bit8 p a 0 w (omega arith) (omega arith) (omega arith);
      bit_16 = bit16 p a w 0 (omega arith) g (omega arith);
      bit_32 = bit32 p (a + w * 16) 0 0 (omega arith) (omega arith) (omega arith);
      bit_64 = bit64 p (a + w * 16) 0 0 (omega arith) (omega arith) (omega arith);
    }

invoke_called : (p a w y : ℕ) → a < 2 → w < 2 → y < 2 → p ≡ a * 1 + w * 32 + y * 8 → Bits p a 0 0 y 0 w 0
invoke_called p a w y h g f e =
    record {
      bit_1 = bit1 p a (w * 16 + y * 4) h (omega arith);
      bit_2 = bit2 p a 0 (w * 8 + y * 2) h (omega arith) (omega arith);
      bit_4 = bit4 p a 0 (w * 4 + y) (omega arith) (omega arith) (omega arith);
      bit_8 = bit8 p a y (w * 2) (omega arith) f (omega arith);
      bit_16 = bit16 p (a + y * 8) 0 w (omega arith) (omega arith) (omega arith);
      bit_32 = bit32 p (a + y * 8) w 0 (omega arith) g (omega arith);
      bit_64 = bit64 p (a + y * 8 + w * 32) 0 0 (omega arith) (omega arith) (omega arith);
    }

result_other : (p a q w y : ℕ) → a < 2 → q ≤ a → w < 2 → p ≡ a * 2 + q * 4 + w * 32 + y * 0 → Bits p 0 a q 0 0 w 0
result_other p a q w y h f g e =
    record {
      bit_1 = bit1 p 0 (a + q * 2 + w * 16) (omega arith) (omega arith);
      bit_2 = bit2 p 0 a (q + w * 8) (omega arith) h (omega arith);
      bit_4 = bit4 p (a * 2) q (w * 4) (omega arith) (omega arith) (omega arith);
      bit_8 = bit8 p (a * 2 + q * 4) 0 (w * 2) (omega arith) (omega arith) (omega arith);
      bit_16 = bit16 p (a * 2 + q * 4) 0 w (omega arith) (omega arith) (omega arith);
      bit_32 = bit32 p (a * 2 + q * 4) w 0 (omega arith) g (omega arith);
      bit_64 = bit64 p (a * 2 + q * 4 + w * 32) 0 0 (omega arith) (omega arith) (omega arith);
    }

result_called : (p a q w y : ℕ) → a < 2 → q ≤ a → w < 2 → y < 2 → p ≡ a * 2 + q * 4 + w * 16 + y * 64 → Bits p 0 a q 0 w 0 y
result_called p a q w y h f g u e =
    record {
      bit_1 = bit1 p 0 (a + q * 2 + w * 8 + y * 32) (omega arith) (omega arith);
      bit_2 = bit2 p 0 a (q + w * 4 + y * 16) (omega arith) h (omega arith);
      bit_4 = bit4 p (a * 2) q (w * 2 + y * 8) (omega arith) (omega arith) (omega arith);
      bit_8 = bit8 p (a * 2 + q * 4) 0 (w + y * 4) (omega arith) (omega arith) (omega arith);
      bit_16 = bit16 p (a * 2 + q * 4) w (y * 2) (omega arith) g (omega arith);
      bit_32 = bit32 p (a * 2 + q * 4 + w * 16) 0 y (omega arith) (omega arith) (omega arith);
      bit_64 = bit64 p (a * 2 + q * 4 + w * 16) y 0 (omega arith) u (omega arith);
    }

-- ---- the parts that a SEQUENCE has a place for

argument_other : (x p a w : ℕ) → (x ≡ 3 → ⊥) → Bits p a 0 0 0 w 0 0 → p ≡ a + w * 16 → argument_ok x p ≡ 1
unfolding argument_ok
argument_other x p a w h b e = let b1 = b.bit_1 in let b16 = b.bit_16 in sym (no_eq x 3 _ _ _ h (yes_eq _ _ _ _ _ (omega arith) refl))

argument_called : (x p a l v : ℕ) → x ≡ 3 → Bits p a 0 0 l 0 v 0 → p ≡ a + v * 32 + l * 8 → argument_ok x p ≡ 1
unfolding argument_ok
argument_called x p a l v h b e =
    let b1 = b.bit_1 in let b8 = b.bit_8 in let b32 = b.bit_32 in sym (yes_eq x 3 _ _ _ h (yes_eq _ _ _ _ _ (omega arith) refl))

answer_other : (x p a q v : ℕ) → (x ≡ 3 → ⊥) → q ≤ a → Bits p 0 a q 0 0 v 0 → p ≡ a * 2 + q * 4 + v * 32 → result_ok x p ≡ 1
unfolding result_ok
answer_other x p a q v h f b e =
    let b2 = b.bit_2 in let b4 = b.bit_4 in let b32 = b.bit_32 in
    sym (no_lt _ _ _ _ _ (omega arith) (no_eq x 3 _ _ _ h (yes_eq _ _ _ _ _ (omega arith) refl)))

answer_called : (x p a q w y : ℕ) → x ≡ 3 → q ≤ a → Bits p 0 a q 0 w 0 y → p ≡ a * 2 + q * 4 + w * 16 + y * 64 → result_ok x p ≡ 1
unfolding result_ok
answer_called x p a q w y h f b e =
    let b2 = b.bit_2 in let b4 = b.bit_4 in let b16 = b.bit_16 in let b64 = b.bit_64 in
    sym (no_lt _ _ _ _ _ (omega arith) (yes_eq x 3 _ _ _ h (yes_eq _ _ _ _ _ (omega arith) refl)))

-- ---- what a SEQUENCE says goes together: its parts are ones that it has a place for, and number and duration go with the parts

pub record Agrees (s : List ℕ) (d : Said) (ok : ℕ) : Type 0 where
  pub allowed : ok ≡ 1
  pub calling_fine : d.parts / 16 % 2 ≡ 1 → Fine d.number
  pub called_fine : d.parts / 32 % 2 ≡ 1 → Fine d.number
  pub duration_none : d.parts / 64 % 2 ≡ 0 → d.duration ≡ 0
  pub duration_most : Bytes s → d.duration ≤ 921599

module _ (d : Said) (a b q l w v y : ℕ) (bits : Bits d.parts a b q l w v y) where
  abbrev P : ℕ
  P = d.parts

  abbrev m : ℕ
  m = 2 + length (number_text d.number)

  party_most : (b u : ℕ) → b < 2 → b ≡ u → length (party_text b (number_if (eqb b 1) d.number)) ≤ u * m
  party_most b u h e =
      subst (λ (z : ℕ). length (party_text b (number_if (eqb b 1) d.number)) ≤ z * m) e
      (number_once b d.number (number_if (eqb b 1) d.number) h (number_is b d.number))

  made_bytes : (k x i : ℕ) → length (parts_text (made_of k x d i)) ≤ a * 3 + b * 3 + w * m + v * m + l * 3 + y * 5
  unfolding made_of
  made_bytes k x i =
      let s = parts_bytes (made_of k x d i) in
      let g = party_most (P / 16 % 2) w (omega arith) bits.bit_16 in
      let h = party_most (P / 32 % 2) v (omega arith) bits.bit_32 in
      let e1 = bits.bit_1 in
      let e2 = bits.bit_2 in
      let e8 = bits.bit_8 in
      let e64 = bits.bit_64 in
      omega arith

  agreed : (s : List ℕ) (ok : ℕ) → ok ≡ 1 → (w ≡ 1 → Fine d.number) → (v ≡ 1 → Fine d.number) → (y ≡ 0 → d.duration ≡ 0)
      → (Bytes s → d.duration ≤ 921599) → Agrees s d ok
  agreed s ok e f g h o =
      record {
        allowed = e;
        calling_fine = λ z. f (sym bits.bit_16 ∙ z);
        called_fine = λ z. g (sym bits.bit_32 ∙ z);
        duration_none = λ z. h (sym bits.bit_64 ∙ z);
        duration_most = o;
      }

sum_of : {a b c p q r : ℕ} → a ≡ p → b ≡ q → c ≡ r → a + b + c ≡ p + q + r
sum_of e f g = λ i. e i + f i + g i

-- ---- the whole SEQUENCE

module _ (s : List ℕ) (c0 : Cursor) (end x i : ℕ) where
  abbrev D : ℕ → Said
  D k = parts_of s c0 end k x

  -- what it says took as many bytes as it would be written in, and goes together
  abbrev Enough : ℕ → ℕ → Type 0
  Enough k ok =
      (c0.number ≡ 0) × (c0.at + length (parts_text (made_of k x (D k) i)) ≤ (D k).cursor.at) × (c0.at ≤ end → (D k).cursor.at ≤ end)
      × Agrees s (D k) ok

  abbrev f : Cursor
  f = may_of s c0 end 128 1 1

  abbrev e : Cursor
  e = may_of s f end 129 3 10

  abbrev n : Number
  n = party_at s e

  abbrev g : Cursor
  g = checked_of (there_of n) f.at e

  abbrev L : ℕ → Last
  L k = last_of s g end k x

  -- up to the last
  record Two (k unit : ℕ) : Type 0 where
    begun : c0.number ≡ 0
    far : c0.at ≤ g.at
    ends : c0.at ≤ end → g.at ≤ end
    flag-far : c0.at ≤ f.at
    flag-three : (f.body ≡ 0 → ⊥) → c0.at + 3 ≤ f.at
    number_is : Part (party_part k x n.count) unit f.at g.at (2 + length (number_text n))
    number-good : number_is.there ≡ 1 → Fine n

  two : (k unit : ℕ) → 1 ≤ unit → if_eq k 1 (if_eq x 3 32 16) (if_eq x 3 16 32) ≡ unit → g.number ≡ 0 → Two k unit
  two k unit o u z =
      let h = checked_live (there_of n) f.at e z in
      let same : g.at ≡ e.at = ap (λ (y : Cursor). y.at) h.0 in
      let E = may_got s f end 129 3 10 (sym (ap (λ (y : Cursor). y.number) h.0) ∙ z) in
      let we = got_far f e end 3 10 E in
      let F = may_got s c0 end 128 1 1 we.0 in
      let wf = got_far c0 f end 1 1 F in
      let a = we.1 in
      let b = wf.1 in
      let N : Part (party_part k x n.count) unit f.at g.at (2 + length (number_text n)) =
      party_of_lem k x n.count f.at g.at (2 + length (number_text n)) unit u (omega arith)
      (λ y. let v = number_bytes s f e end E y in omega arith) in
      record {
        begun = wf.0;
        far = omega arith;
        ends = λ o. let y = we.2 (wf.2 o) in omega arith;
        flag-far = b;
        flag-three = got_three c0 f end F;
        number_is = N;
        number-good = λ y. number_fine s e (party_some k x n.count N.there unit N.sets o y);
      }

  first_one : first_part 1 f.body (byte_at s f.body) ≡ flag_part f.body (byte_at s f.body) 0 1
  unfolding first_part
  first_one = sym (yes_eq 1 1 _ _ _ refl refl)

  first_two : first_part 2 f.body (byte_at s f.body) ≡ flag_part f.body (byte_at s f.body) 2 6
  unfolding first_part
  first_two = sym (no_eq 2 1 _ _ _ (λ z. omega arith) refl)

  pub invoke_enough : (D 1).cursor.number ≡ 0 → Enough 1 (argument_ok x (D 1).parts)
  unfolding parts_of
  invoke_enough z =
      let R = rest_ends s (L 1).cursor end (depth_of 1) (known_of x) z in
      let T = last_unit s g end x R.0 in
      let r1 = R.1 in
      both_eq x 3 (λ (_ : ℕ). Enough 1 (argument_ok x (D 1).parts)) 0 0
      (λ h. let W = two 1 32 (omega arith) (sym (yes_eq 1 1 _ _ _ refl (yes_eq x 3 _ _ _ h refl))) T.begun in
      let A = flag_of f.body (byte_at s f.body) 1 c0.at f.at W.flag-far W.flag-three in
      let B = W.number_is in
      let C = T.part_is in
      let last : (L 1).part ≡ C.there * 8 = C.sets ∙ ap (λ (u : ℕ). C.there * u) (sym (yes_eq x 3 _ _ _ h refl)) in
      let sets : (D 1).parts ≡ A.there * 1 + B.there * 32 + C.there * 8 = sum_of (first_one ∙ A.sets) B.sets last in
      let bits = invoke_called (D 1).parts A.there B.there C.there A.bit B.bit C.bit sets in
      let most = made_bytes (D 1) A.there 0 0 C.there 0 B.there 0 bits 1 x i in
      let bit = C.bit in
      let ok = argument_called x _ A.there C.there B.there h bits (omega arith) in
      let good = agreed (D 1) A.there 0 0 C.there 0 B.there 0 bits s _ ok
      (λ q. absurd (omega arith)) W.number-good (λ _. T.duration_none (omega arith)) T.duration_most in
      let ab = A.bytes in let bb = B.bytes in let cb = C.bytes in
      (W.begun, omega arith, λ o. R.2 (T.ends (W.ends o)), good))
      (λ h. let W = two 1 16 (omega arith) (sym (yes_eq 1 1 _ _ _ refl (no_eq x 3 _ _ _ h refl))) T.begun in
      let A = flag_of f.body (byte_at s f.body) 1 c0.at f.at W.flag-far W.flag-three in
      let B = W.number_is in
      let C = T.part_is in
      let last : (L 1).part ≡ C.there * 0 = C.sets ∙ ap (λ (u : ℕ). C.there * u) (sym (no_eq x 3 _ _ _ h refl)) in
      let sets : (D 1).parts ≡ A.there * 1 + B.there * 16 + C.there * 0 = sum_of (first_one ∙ A.sets) B.sets last in
      let bits = invoke_other (D 1).parts A.there B.there C.there A.bit B.bit sets in
      let most = made_bytes (D 1) A.there 0 0 0 B.there 0 0 bits 1 x i in
      let ok = argument_other x _ A.there B.there h bits (omega arith) in
      let good = agreed (D 1) A.there 0 0 0 B.there 0 0 bits s _ ok
      W.number-good (λ q. absurd (omega arith)) (λ _. T.duration_none (omega arith)) T.duration_most in
      let ab = A.bytes in let bb = B.bytes in let cb = C.bytes in
      (W.begun, omega arith, λ o. R.2 (T.ends (W.ends o)), good))

  pub result_enough : (D 2).cursor.number ≡ 0 → Enough 2 (result_ok x (D 2).parts)
  unfolding parts_of
  result_enough z =
      let R = rest_ends s (L 2).cursor end (depth_of 2) (known_of x) z in
      let T = last_unit_2 s g end x R.0 in
      let r1 = R.1 in
      both_eq x 3 (λ (_ : ℕ). Enough 2 (result_ok x (D 2).parts)) 0 0
      (λ h. let W = two 2 16 (omega arith) (sym (no_eq 2 1 _ _ _ (λ q. omega arith) (yes_eq x 3 _ _ _ h refl))) T.begun in
      let A = flags_of f.body (byte_at s f.body) c0.at f.at W.flag-far W.flag-three in
      let B = W.number_is in
      let C = T.part_is in
      let last : (L 2).part ≡ C.there * 64 = C.sets ∙ ap (λ (u : ℕ). C.there * u) (sym (yes_eq x 3 _ _ _ h refl)) in
      let sets : (D 2).parts ≡ A.there * 2 + A.more * 4 + B.there * 16 + C.there * 64 = sum_of (first_two ∙ A.sets) B.sets last in
      let bits = result_called (D 2).parts A.there A.more B.there C.there A.bit A.with B.bit C.bit sets in
      let most = made_bytes (D 2) 0 A.there A.more 0 B.there 0 C.there bits 2 x i in
      let ok = answer_called x _ A.there A.more B.there C.there h A.with bits sets in
      let good = agreed (D 2) 0 A.there A.more 0 B.there 0 C.there bits s _ ok
      W.number-good (λ q. absurd (omega arith)) (λ q. T.duration_none (omega arith)) T.duration_most in
      let ab = A.bytes in let bb = B.bytes in let cb = C.bytes in
      (W.begun, omega arith, λ o. R.2 (T.ends (W.ends o)), good))
      (λ h. let W = two 2 32 (omega arith) (sym (no_eq 2 1 _ _ _ (λ q. omega arith) (no_eq x 3 _ _ _ h refl))) T.begun in
      let A = flags_of f.body (byte_at s f.body) c0.at f.at W.flag-far W.flag-three in
      let B = W.number_is in
      let C = T.part_is in
      let last : (L 2).part ≡ C.there * 0 = C.sets ∙ ap (λ (u : ℕ). C.there * u) (sym (no_eq x 3 _ _ _ h refl)) in
      let sets : (D 2).parts ≡ A.there * 2 + A.more * 4 + B.there * 32 + C.there * 0 = sum_of (first_two ∙ A.sets) B.sets last in
      let bits = result_other (D 2).parts A.there A.more B.there C.there A.bit A.with B.bit sets in
      let most = made_bytes (D 2) 0 A.there A.more 0 0 B.there 0 bits 2 x i in
      let ok = answer_other x _ A.there A.more B.there h A.with bits (omega arith) in
      let good = agreed (D 2) 0 A.there A.more 0 0 B.there 0 bits s _ ok
      (λ q. absurd (omega arith)) W.number-good (λ _. T.duration_none (omega arith)) T.duration_most in
      let ab = A.bytes in let bb = B.bytes in let cb = C.bytes in
      (W.begun, omega arith, λ o. R.2 (T.ends (W.ends o)), good))
