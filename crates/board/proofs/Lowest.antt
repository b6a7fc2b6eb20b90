-- The question for a free slot: the answer is the lowest free slot, it is refused exactly where none is free, and it depends on every slot.
-- Assumes nothing.
use mathlib.Core.Path.{◌≡◌, refl, sym, ap, subst, ◌∙◌}
use mathlib.Core.Bool.{Bool, true, false}
use mathlib.Core.List.{List, [], ◌∷◌}
use mathlib.Core.Logic.{◌↔◌}
use mathlib.Core.Option.{some}
use Prim.Native.Nat.{ℕ, zero, suc, ◌+◌, ◌<◌}
use native.Mathlib.Nat.{not-suc-le-zero, le_of_suc-le-suc, zero-add}
use native.Mathlib.Omega.{arith}
use lib.Dec.{eqb}
use lib.ListN.{length, get_elem?, set, replicate, length-set, length-replicate}
use Rattle.std.specs.Prelude.{Option, Some, None}
use Rattle.rows.specs.Bill.{pick}
use Rattle.rows.specs.Step.{unopened_call, free_of}
use Rattle.rows.specs.Valid.{event_ok}
use Rattle.rows.specs.declared.Call.{Call}
use Rattle.rows.specs.declared.Event.TheVariants.{Opening}
use Rattle.rows.specs.declared.Number.{Number}
use Rattle.rows.specs.declared.Outcome.{Outcome}
use Rattle.rows.proofs.Anew.{free_exactly}
use Rattle.rows.proofs.Truth.{differ}
use Rattle.board.specs.Numbers.{slots}
use Rattle.board.specs.Promises.{FreeAt, LowestAt, NoneFree, Matters, call_in_use, all_in_use, freed_at}
use Rattle.board.specs.Row.{answer_at, free_number, free_from, lowest_free}
use Rattle.board.proofs.Laws.{some_is, none_is_not, answer_is}

-- the slot in front is in use
free_head : {X : Type 0} (c : Call) (cs : List Call) → free_of c ≡ false → FreeAt (c ∷ cs) 0 → X
free_head c cs x f = differ (sym x ∙ ap free_of (some_is f.there) ∙ f.free)

-- ---- Refused exactly where none is free

none_free : (k i : ℕ) (cs : List Call) → free_from k i cs ≡ None → (j : ℕ) → j < k → FreeAt cs j → ⊥
none_free zero i cs e j h f = not-suc-le-zero h
none_free (suc k) i [] e j h f = none_is_not f.there
none_free (suc k) i (c ∷ cs) e j h f = go (free_of c) refl (none_free k (suc i) cs) e j h f
  where
    go : (b : Bool) → free_of c ≡ b → (free_from k (suc i) cs ≡ None → (j : ℕ) → j < k → FreeAt cs j → ⊥) →
        pick b (Some i) (free_from k (suc i) cs) ≡ None → (j : ℕ) → j < suc k → FreeAt (c ∷ cs) j → ⊥
    go true x r e j h f = cc
    go false x r e zero h f = free_head c cs x f
    go false x r e (suc j) h f = r e j (le_of_suc-le-suc h) (record { call = f.call; there = f.there; free = f.free })

number_nowhere : (f : Option ℕ) → free_number f ≡ 21 → f ≡ None
number_nowhere (Some i) e = differ (ap (λ (n : ℕ). eqb n 21) e)
number_nowhere None e = refl

-- ---- The lowest

-- the place m is that of the first free one of k slots, counted from i
pub record First (k i : ℕ) (cs : List Call) (m : ℕ) : Type 0 where
  pub place : ℕ
  pub is : m ≡ i + place
  pub slot : place < k
  pub free : FreeAt cs place
  pub lowest : (j : ℕ) → j < place → FreeAt cs j → ⊥

first_free : (k i : ℕ) (cs : List Call) (m : ℕ) → free_from k i cs ≡ Some m → First k i cs m
first_free zero i cs m e = cc
first_free (suc k) i [] m e = cc
first_free (suc k) i (c ∷ cs) m e = go (free_of c) refl (first_free k (suc i) cs m) e
  where
    before : free_of c ≡ false → (d : ℕ) → ((j : ℕ) → j < d → FreeAt cs j → ⊥) → (j : ℕ) → j < suc d → FreeAt (c ∷ cs) j → ⊥
    before x d r zero h f = free_head c cs x f
    before x d r (suc j) h f = r j (le_of_suc-le-suc h) (record { call = f.call; there = f.there; free = f.free })

    later : free_of c ≡ false → First k (suc i) cs m → First (suc k) i (c ∷ cs) m
    later x r =
        record {
          place = suc r.place;
          is = omega (arith, r.is);
          slot = omega (arith, r.slot);
          free = record { call = r.free.call; there = r.free.there; free = r.free.free };
          lowest = before x r.place r.lowest;
        }

    go : (b : Bool) → free_of c ≡ b → (free_from k (suc i) cs ≡ Some m → First k (suc i) cs m) →
        pick b (Some i) (free_from k (suc i) cs) ≡ Some m → First (suc k) i (c ∷ cs) m
    go true x r e =
        record {
          place = 0;
          is = let h : i ≡ m = cc in omega arith;
          slot = omega arith;
          free = record { call = c; there = refl; free = x };
          lowest = λ j h f. not-suc-le-zero h;
        }
    go false x r e = later x (r e)

pub lowest_at : (cs : List Call) (i : ℕ) → lowest_free cs ≡ Some i → LowestAt cs i
lowest_at cs i e = by (first_free slots 0 cs i e)
  where
    by : First slots 0 cs i → LowestAt cs i
    by r = subst (LowestAt cs) (sym (r.is ∙ zero-add r.place)) (record { slot = r.slot; free = r.free; lowest = r.lowest })

-- ---- Both directions

-- an answer is a slot or none
by_answer : {X : Type 0} (f : Option ℕ) → (f ≡ None → X) → ((m : ℕ) → f ≡ Some m → X) → X
by_answer (Some m) n s = s m refl
by_answer None n s = n refl

pub nowhere_exactly : (cs : List Call) → (free_number (lowest_free cs) ≡ 21) ↔ NoneFree cs
nowhere_exactly cs = (
  λ e. none_free slots 0 cs (number_nowhere (lowest_free cs) e),
  λ h. by_answer (lowest_free cs) (ap free_number) (λ m e. absurd (h m (lowest_at cs m e).slot (lowest_at cs m e).free)),
)

-- of two lowest places each is the other
one_lowest : (cs : List Call) (i m : ℕ) → LowestAt cs i → LowestAt cs m → m ≡ i
one_lowest cs i m a b = omega (arith, not-below, not-above)
  where
    not-below : m < i → ⊥
    not-below h = a.lowest m h b.free

    not-above : i < m → ⊥
    not-above h = b.lowest i h a.free

pub lowest_exactly : (cs : List Call) (i : ℕ) → (lowest_free cs ≡ Some i) ↔ LowestAt cs i
lowest_exactly cs i = (
  lowest_at cs i,
  λ l. by_answer (lowest_free cs) (λ e. absurd (none_free slots 0 cs e i l.slot l.free)) (λ m e. e ∙ ap Some (one_lowest cs i m l (lowest_at cs m e))),
)

-- ---- Every slot is asked

module _ {A : Type 0} where
  pub set_own : (xs : List A) (i : ℕ) (x : A) → i < length xs → get_elem? (set xs i x) i ≡ some x
  set_own [] i x h = absurd (not-suc-le-zero h)
  set_own (y ∷ ys) zero x h = refl
  set_own (y ∷ ys) (suc i) x h = set_own ys i x (le_of_suc-le-suc h)

  pub set_other : (xs : List A) (i j : ℕ) (x : A) → (i ≡ j → ⊥) → get_elem? (set xs i x) j ≡ get_elem? xs j
  set_other [] i j x n = refl
  set_other (y ∷ ys) zero zero x n = absurd (n refl)
  set_other (y ∷ ys) zero (suc j) x n = refl
  set_other (y ∷ ys) (suc i) zero x n = refl
  set_other (y ∷ ys) (suc i) (suc j) x n = set_other ys i j x (λ e. n (ap suc e))

-- where none is free, a slot that is freed is the one found
pub freed_found : (cs : List Call) (i : ℕ) (c : Call) → lowest_free cs ≡ None → i < slots → i < length cs → free_of c ≡ true →
    lowest_free (set cs i c) ≡ Some i
freed_found cs i c e s l f =
    (lowest_exactly (set cs i c) i).1
    (record {
      slot = s;
      free = record { call = c; there = set_own cs i c l; free = f };
      lowest = λ j h g.
          none_free slots 0 cs e j (below j h) (record { call = g.call; there = sym (set_other cs i j c (apart j h)) ∙ g.there; free = g.free });
    })
  where
    below : (j : ℕ) → j < i → j < slots
    below j h = omega (arith, h, s)

    apart : (j : ℕ) → j < i → i ≡ j → ⊥
    apart j h k = omega (arith, h, k)

none_of_these : (k i n : ℕ) (c : Call) → free_of c ≡ false → free_from k i (replicate n c) ≡ None
none_of_these zero i n c x = refl
none_of_these (suc k) i zero c x = refl
none_of_these (suc k) i (suc n) c x =
    ap (λ (b : Bool). pick b (Some i) (free_from k (suc i) (replicate n c))) x ∙ none_of_these k (suc i) n c x

all_in_use_lem : lowest_free all_in_use ≡ None
unfolding all_in_use
all_in_use_lem = none_of_these slots 0 slots call_in_use refl

in_use_length : length all_in_use ≡ slots
unfolding all_in_use
in_use_length = length-replicate slots call_in_use

freed_at_lem : (i : ℕ) → i < slots → lowest_free (freed_at i) ≡ Some i
freed_at_lem i s = freed_found all_in_use i unopened_call all_in_use_lem s (omega (arith, s, in_use_length)) refl

pub every_slot_asked : (i : ℕ) → i < slots → (lowest_free all_in_use ≡ None) × (lowest_free (freed_at i) ≡ Some i) × Matters i (freed_at i) all_in_use
every_slot_asked i s = (all_in_use_lem, freed_at_lem i s, differs)
  where
    differs : Matters i (freed_at i) all_in_use
    differs =
        record {
          long = (length-set all_in_use i unopened_call ∙ in_use_length, in_use_length);
          alike = λ j n. set_other all_in_use i j unopened_call n;
          unlike = λ e. let h : Some i ≡ None = sym (freed_at_lem i s) ∙ e ∙ all_in_use_lem in cc;
        }

-- the slot found is one that an opening takes
pub lowest_takes_opening : (cs : List Call) (i r f : ℕ) (n : Number) → lowest_free cs ≡ Some i → event_ok (Opening r f n) ≡ true →
    (answer_at cs i (Opening r f n)).number ≡ 0
lowest_takes_opening cs i r f n h k =
    let l = (lowest_exactly cs i).0 h in
    let free = l.free in
    ap (λ (o : Outcome). o.number) (answer_is cs i (Opening r f n) free.call l.slot free.there) ∙ (free_exactly free.call r f n k).0 free.free
