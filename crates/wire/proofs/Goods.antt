-- What can be written, taken apart and put together; and its lengths, of which none is 128 or more.
-- Assumes nothing.
use mathlib.Core.Path.{◌≡◌, refl, sym, ap, subst, ◌∙◌}
use mathlib.Core.List.{◌++◌}
use Prim.Native.Nat.{ℕ, zero, suc, ◌+◌, ◌*◌, ◌/◌, ◌%◌, ◌≤◌, ◌<◌}
use native.Mathlib.Omega.{arith}
use lib.ListN.{length, length-append}
use Rattle.text.specs.Choose.{if_lt, if_eq, if_so}
use Rattle.text.proofs.Cases.{yes_lt, no_lt, yes_eq, no_eq, both_lt, both_eq}
use Rattle.wire.specs.Values.{absent_number}
use Rattle.wire.specs.Texts.{element_text, text_if, flag_text, party_text, duration_text, first_text, parties_text, last_text, parts_text}
use Rattle.wire.specs.Writable.{range_ok, both_ok, item_ok, argument_ok, result_ok, places_ok, unnamed_ok, untimed_ok, parts_ok, number_ok, duration_ok, id_ok, writable_of}
use Rattle.wire.specs.declared.Component.{Component}
use Rattle.wire.specs.declared.Number.{Number}
use Rattle.wire.proofs.Pieces.{number_length}
use Rattle.wire.proofs.Digited.{Fine, number_eq}
use Rattle.wire.proofs.Fields.{written_tested, tested_written}

-- the values go with the parts
pub record Good (c : Component) : Type 0 where
  pub calling_fine : c.parts / 16 % 2 ≡ 1 → Fine c.calling
  pub calling_none : c.parts / 16 % 2 ≡ 0 → c.calling ≡ absent_number
  pub called_fine : c.parts / 32 % 2 ≡ 1 → Fine c.called
  pub called_none : c.parts / 32 % 2 ≡ 0 → c.called ≡ absent_number
  pub duration_most : c.duration ≤ 921599
  pub duration_none : c.parts / 64 % 2 ≡ 0 → c.duration ≡ 0

-- ---- what can be written, taken apart

most_inv : (m n : ℕ) → ◌≡◌ {A = ℕ} (if_lt m n 0 1) 1 → n ≤ m
most_inv m n = both_lt m n (λ (z : ℕ). z ≡ 1 → n ≤ m) 0 1 (λ _ e. absurd (omega arith)) (λ h _. h)

pub range_inv : (n low high : ℕ) → range_ok n low high ≡ 1 → (low ≤ n) × (n ≤ high)
unfolding range_ok
range_inv n low high =
    both_lt _ _ (λ (z : ℕ). z ≡ 1 → (low ≤ n) × (n ≤ high)) _ _ (λ _ e. absurd (omega arith)) (λ g e. (g, most_inv high n e))

pub mask_inv : (a b : ℕ) → ◌≡◌ {A = ℕ} (if_eq a b 1 0) 1 → a ≡ b
mask_inv a b = both_eq a b (λ (z : ℕ). z ≡ 1 → a ≡ b) 1 0 (λ h _. h) (λ _ e. absurd (omega arith))

pub argument_inv : (Q : Type 0) (x p : ℕ) → argument_ok x p ≡ 1 → (x ≡ 3 → p % 2 + p / 8 % 2 * 8 + p / 32 % 2 * 32 ≡ p → Q) → ((x ≡ 3 → ⊥) → p % 2 + p / 16 % 2 * 16 ≡ p → Q) → Q
unfolding argument_ok
argument_inv Q x p e f g = both_eq x 3 (λ (z : ℕ). z ≡ 1 → Q) _ _ (λ h k. f h (mask_inv _ _ k)) (λ h k. g h (mask_inv _ _ k)) e

pub result_inv : (Q : Type 0) (x p : ℕ) → result_ok x p ≡ 1
    → (x ≡ 3 → p / 2 % 2 * 2 + p / 4 % 2 * 4 + p / 16 % 2 * 16 + p / 64 % 2 * 64 ≡ p → p / 4 % 2 ≤ p / 2 % 2 → Q)
    → ((x ≡ 3 → ⊥) → p / 2 % 2 * 2 + p / 4 % 2 * 4 + p / 32 % 2 * 32 ≡ p → p / 4 % 2 ≤ p / 2 % 2 → Q) → Q
unfolding result_ok
result_inv Q x p e f g =
    both_lt (p / 2 % 2) (p / 4 % 2) (λ (z : ℕ). z ≡ 1 → Q) _ _ (λ _ k. absurd (omega arith))
    (λ o. both_eq x 3 (λ (z : ℕ). z ≡ 1 → Q) _ _ (λ h k. f h (mask_inv _ _ k) o) (λ h k. g h (mask_inv _ _ k) o)) e

both_inv : (a b : ℕ) → both_ok a b ≡ 1 → (a ≡ 1) × (b ≡ 1)
unfolding both_ok
both_inv a b = both_eq a 1 (λ (z : ℕ). z ≡ 1 → (a ≡ 1) × (b ≡ 1)) b 0 (λ h k. (h, k)) (λ _ e. absurd (omega arith))

-- a component of each kind
pub data Kinds (k n p x : ℕ) : Type 0 where
  calls : k ≡ 1 → x < 256 → 1 ≤ n → n ≤ 3 → argument_ok n p ≡ 1 → Kinds k n p x
  answers : k ≡ 2 → x < 256 → 1 ≤ n → n ≤ 3 → result_ok n p ≡ 1 → Kinds k n p x
  fails : k ≡ 3 → x < 256 → 4 ≤ n → n ≤ 12 → p ≡ 0 → Kinds k n p x
  rejects : k ≡ 4 → x ≤ 256 → n ≡ 0 → p ≡ 0 → Kinds k n p x

kinds_inv : (k n p x : ℕ) → range_ok k 1 4 ≡ 1 → item_ok k n ≡ 1 → places_ok k n p ≡ 1 → id_ok k x ≡ 1 → Kinds k n p x
unfolding item_ok places_ok id_ok if_eq if_so
kinds_inv zero n p x a b d e = let h = range_inv 0 1 4 a in absurd (omega arith)
kinds_inv (suc zero) n p x a b d e = let r = range_inv n 1 3 b in let h = most_inv 255 x e in calls refl (omega arith) r.0 r.1 d
kinds_inv (suc (suc zero)) n p x a b d e = let r = range_inv n 1 3 b in let h = most_inv 255 x e in answers refl (omega arith) r.0 r.1 d
kinds_inv (suc (suc (suc zero))) n p x a b d e =
    let r = range_inv n 4 12 b in
    let h = most_inv 255 x e in
    fails refl (omega arith) r.0 r.1 (mask_inv p 0 d)
kinds_inv (suc (suc (suc (suc zero)))) n p x a b d e = let r = range_inv n 0 0 b in rejects refl (most_inv 256 x e) (omega arith) (mask_inv p 0 d)
kinds_inv (suc (suc (suc (suc (suc k))))) n p x a b d e = let h = range_inv (suc (suc (suc (suc (suc k))))) 1 4 a in absurd (omega arith)

number_fine : (n : Number) → n.count < 256 → number_ok n ≡ 1 → Fine n
unfolding number_ok
number_fine n l =
    both_lt _ _ (λ (z : ℕ). z ≡ 1 → Fine n) _ _ (λ _ k. absurd (omega arith))
    (λ g. both_lt _ _ (λ (z : ℕ). z ≡ 1 → Fine n) _ _ (λ _ k. absurd (omega arith))
    (λ o. both_lt _ _ (λ (z : ℕ). z ≡ 1 → Fine n) 1 0 (λ f k. record { byte = l; some = g; most = o; fits = f }) (λ _ k. absurd (omega arith))))

unnamed_none : (b : ℕ) (n : Number) → unnamed_ok b n ≡ 1 → b ≡ 0 → n ≡ absent_number
unfolding unnamed_ok
unnamed_none b n e h =
    both_eq n.count 0 (λ (z : ℕ). z ≡ 1 → n ≡ absent_number) _ _ (λ f k. number_eq n 0 0 f (mask_inv _ _ k)) (λ _ k. absurd (omega arith))
    (no_eq b 1 _ _ _ (λ f. omega arith) refl ∙ e)

untimed_none : (b t : ℕ) → untimed_ok b t ≡ 1 → b ≡ 0 → t ≡ 0
unfolding untimed_ok
untimed_none b t e h = mask_inv t 0 (no_eq b 1 _ _ _ (λ f. omega arith) refl ∙ e)

duration_most : (b t : ℕ) → b < 2 → untimed_ok b t ≡ 1 → (b ≡ 1 → duration_ok t ≡ 1) → t ≤ 921599
unfolding duration_ok
duration_most zero t h u f = let e = untimed_none 0 t u refl in omega arith
duration_most (suc zero) t h u f = most_inv 921599 t (f refl)
duration_most (suc (suc b)) t h u f = absurd (omega arith)

-- the counts are bytes
pub record Sized (c : Component) : Type 0 where
  pub calling_byte : c.calling.count < 256
  pub called_byte : c.called.count < 256

pub written_good : (c : Component) → Sized c → writable_of c ≡ 1 → Good c × Kinds c.kind c.item c.parts c.id
unfolding parts_ok
written_good c z e =
    let r = written_tested c e in
    let p = both_inv _ _ r.parts in
    let a = both_inv _ _ p.1 in
    let b = both_inv _ _ a.1 in (
      record {
        calling_fine = λ h. number_fine _ z.calling_byte (r.calling h);
        calling_none = unnamed_none _ _ a.0;
        called_fine = λ h. number_fine _ z.called_byte (r.called h);
        called_none = unnamed_none _ _ b.0;
        duration_most = duration_most (c.parts / 64 % 2) c.duration (omega arith) b.1 r.duration;
        duration_none = untimed_none _ _ b.1;
      },
      kinds_inv _ _ _ _ r.kind r.item p.0 r.id,
    )

-- ---- and put together

range_ok_lem : (n low high : ℕ) → low ≤ n → n ≤ high → range_ok n low high ≡ 1
unfolding range_ok
range_ok_lem n low high g k = sym (no_lt _ _ _ _ _ g (no_lt _ _ _ _ _ k refl))

both_ok_lem : (a b : ℕ) → a ≡ 1 → b ≡ 1 → both_ok a b ≡ 1
unfolding both_ok
both_ok_lem a b h k = sym (yes_eq a 1 1 b 0 h (sym k))

mask_ok : (a b : ℕ) → a ≡ b → ◌≡◌ {A = ℕ} (if_eq a b 1 0) 1
mask_ok a b h = sym (yes_eq a b 1 1 0 h refl)

most_ok : (m n : ℕ) → n ≤ m → ◌≡◌ {A = ℕ} (if_lt m n 0 1) 1
most_ok m n h = sym (no_lt m n 1 0 1 h refl)

-- the tests of a component of each kind
record Kinded (k n p x : ℕ) : Type 0 where
  kind : range_ok k 1 4 ≡ 1
  item : item_ok k n ≡ 1
  places : places_ok k n p ≡ 1
  id : id_ok k x ≡ 1

kinds_ok : (k n p x : ℕ) → Kinds k n p x → Kinded k n p x
unfolding item_ok places_ok id_ok if_eq if_so
kinds_ok k n p x (calls e h l m a) =
    subst (λ (y : ℕ). Kinded y n p x) (sym e)
    (record { kind = range_ok_lem 1 1 4 (omega arith) (omega arith); item = range_ok_lem n 1 3 l m; places = a; id = most_ok 255 x (omega arith) })
kinds_ok k n p x (answers e h l m a) =
    subst (λ (y : ℕ). Kinded y n p x) (sym e)
    (record { kind = range_ok_lem 2 1 4 (omega arith) (omega arith); item = range_ok_lem n 1 3 l m; places = a; id = most_ok 255 x (omega arith) })
kinds_ok k n p x (fails e h l m a) =
    subst (λ (y : ℕ). Kinded y n p x) (sym e)
    (record { kind = range_ok_lem 3 1 4 (omega arith) (omega arith); item = range_ok_lem n 4 12 l m; places = mask_ok p 0 a; id = most_ok 255 x (omega arith) })
kinds_ok k n p x (rejects e h l a) =
    subst (λ (y : ℕ). Kinded y n p x) (sym e)
    (record {
      kind = range_ok_lem 4 1 4 (omega arith) (omega arith);
      item = range_ok_lem n 0 0 (omega arith) (omega arith);
      places = mask_ok p 0 a;
      id = most_ok 256 x h;
    })

number_ok_lem : (n : Number) → Fine n → number_ok n ≡ 1
unfolding number_ok
number_ok_lem n w = sym (no_lt _ _ _ _ _ w.some (no_lt _ _ _ _ _ w.most (yes_lt _ _ _ _ _ w.fits refl)))

unnamed_ok_lem : (b : ℕ) (n : Number) → b < 2 → (b ≡ 0 → n ≡ absent_number) → unnamed_ok b n ≡ 1
unfolding unnamed_ok
unnamed_ok_lem zero n h g =
    let e = g refl in
    sym (no_eq _ _ _ _ _ (λ z. omega arith)
    (yes_eq _ _ _ _ _ (ap (λ (y : Number). y.count) e) (yes_eq _ _ _ _ _ (ap (λ (y : Number). y.value) e) refl)))
unnamed_ok_lem (suc zero) n h g = sym (yes_eq _ _ _ _ _ refl refl)
unnamed_ok_lem (suc (suc b)) n h g = absurd (omega arith)

untimed_ok_lem : (b t : ℕ) → b < 2 → (b ≡ 0 → t ≡ 0) → untimed_ok b t ≡ 1
unfolding untimed_ok
untimed_ok_lem zero t h g = sym (no_eq _ _ _ _ _ (λ z. omega arith) (yes_eq _ _ _ _ _ (g refl) refl))
untimed_ok_lem (suc zero) t h g = sym (yes_eq _ _ _ _ _ refl refl)
untimed_ok_lem (suc (suc b)) t h g = absurd (omega arith)

pub good_written : (c : Component) → Good c → Kinds c.kind c.item c.parts c.id → writable_of c ≡ 1
unfolding parts_ok duration_ok
good_written c g k =
    let w = kinds_ok _ _ _ _ k in
    tested_written c
    (record {
      kind = w.kind;
      item = w.item;
      parts =
          both_ok_lem _ _ w.places
          (both_ok_lem _ _ (unnamed_ok_lem (c.parts / 16 % 2) c.calling (omega arith) g.calling_none)
          (both_ok_lem _ _ (unnamed_ok_lem (c.parts / 32 % 2) c.called (omega arith) g.called_none)
          (untimed_ok_lem (c.parts / 64 % 2) c.duration (omega arith) g.duration_none)));
      calling = λ h. number_ok_lem _ (g.calling_fine h);
      called = λ h. number_ok_lem _ (g.called_fine h);
      duration = λ _. most_ok 921599 c.duration g.duration_most;
      id = w.id;
    })

-- ---- lengths: none is 128 or more

flag_short : (b tag x : ℕ) → b < 2 → length (flag_text b tag x) ≤ 3
unfolding flag_text text_if if_eq if_so
flag_short zero tag x h = omega arith
flag_short (suc zero) tag x h = omega arith
flag_short (suc (suc b)) tag x h = absurd (omega arith)

party_short : (b : ℕ) (n : Number) → b < 2 → (b ≡ 1 → Fine n) → length (party_text b n) ≤ 12
unfolding party_text text_if element_text if_eq if_so
party_short zero n h f = omega arith
party_short (suc zero) n h f =
    let e = number_length n in
    let g = (f refl).most in
    omega arith
party_short (suc (suc b)) n h f = absurd (omega arith)

duration_short : (b t : ℕ) → b < 2 → length (duration_text b t) ≤ 5
unfolding duration_text text_if if_eq if_so
duration_short zero t h = omega arith
duration_short (suc zero) t h = omega arith
duration_short (suc (suc b)) t h = absurd (omega arith)

pub parts_short : (c : Component) → Good c → length (parts_text c) ≤ 38
unfolding parts_text first_text parties_text last_text
parts_short c g =
    let a = flag_short (c.parts % 2) 128 255 (omega arith) in
    let b = flag_short (c.parts / 2 % 2) 128 (c.parts / 4 % 2 * 255) (omega arith) in
    let d = party_short (c.parts / 16 % 2) c.calling (omega arith) g.calling_fine in
    let e = party_short (c.parts / 32 % 2) c.called (omega arith) g.called_fine in
    let f = flag_short (c.parts / 8 % 2) 130 255 (omega arith) in
    let h = duration_short (c.parts / 64 % 2) c.duration (omega arith) in
    let i = length-append (first_text c.parts) (parties_text c) in
    let j = length-append (first_text c.parts ++ parties_text c) (last_text c) in
    let k = length-append (flag_text (c.parts % 2) 128 255) (flag_text (c.parts / 2 % 2) 128 (c.parts / 4 % 2 * 255)) in
    let l = length-append (party_text (c.parts / 16 % 2) c.calling) (party_text (c.parts / 32 % 2) c.called) in
    let m = length-append (flag_text (c.parts / 8 % 2) 130 255) (duration_text (c.parts / 64 % 2) c.duration) in
    omega arith
