-- What the meters promise to the rows above them: where somebody pays, seconds go to that payer's meter and to no other, none is lost and
-- none is made, and no sum passes the limit; the total grows with the time that passes and with nothing else, and does not pass the limit
-- either. Where nobody pays, meters and total are as they were; and a call that begins anew has no seconds. Demand 3 rests on these and on
-- nothing else of this crate.
-- Assumes nothing.
use mathlib.Core.Path.{◌≡◌, refl, sym, ap, subst, ◌∙◌}
use mathlib.Core.Bool.{Bool, true, false, ◌&&◌, not}
use mathlib.Core.List.{[], ◌∷◌}
use Prim.Native.Nat.{ℕ, ◌+◌, ◌≤◌}
use native.Mathlib.Omega.{arith}
use lib.Dec.{leb, eqb}
use lib.ListN.{get_or}
use borrow.Author.Tests.{leb-true, le-leb, eqb-true}
use Rattle.std.specs.Prelude.{Option, Some, None}
use Rattle.meters.specs.declared.Payer.{Payer}
use Rattle.meters.specs.declared.Payer.TheVariants.{Nobody, Caller, Called, Far}
use Rattle.meters.specs.declared.Meters.{Meters}
use Rattle.meters.specs.declared.Change.{Change}
use Rattle.meters.specs.declared.Change.TheVariants.{Keep, Begin, CallerPays, CalledPays, FarPays, NobodyPays, EntireToCalled}
use Rattle.meters.specs.declared.Change.TheVariants.{EntireToFar, TimePasses, DurationReceived}
use Rattle.meters.specs.Meters.{limit, new_of, sum_of, paid_by_of, unless_past, adds_of, gives_to, give_of, entire_of, received_of}
use Rattle.meters.specs.Meters.{change_of}

-- s where the two payers are one, and somebody; else nothing
abbrev pub share : Payer → Payer → ℕ → ℕ
share Nobody Nobody s = 0
share Nobody Caller s = 0
share Nobody Called s = 0
share Nobody Far s = 0
share Caller Nobody s = 0
share Caller Caller s = s
share Caller Called s = 0
share Caller Far s = 0
share Called Nobody s = 0
share Called Caller s = 0
share Called Called s = s
share Called Far s = 0
share Far Nobody s = 0
share Far Caller s = 0
share Far Called s = 0
share Far Far s = s

-- the meters n follow the meters m when p's meter took s seconds and the call lasted l seconds more
pub record Gave (m n : Meters) (p : Payer) (s l : ℕ) : Type 0 where
  pub caller : n.caller ≡ m.caller + share Caller p s
  pub called : n.called ≡ m.called + share Called p s
  pub far : n.far ≡ m.far + share Far p s
  pub payer : n.payer ≡ m.payer
  pub sum : sum_of n ≡ sum_of m + s
  pub bound : sum_of n ≤ limit
  pub total : n.total ≡ m.total + l
  pub within : n.total ≤ limit

-- both tests held, and the meters are those that they let through
passed : (a b : Bool) (x n : Meters) → unless_past (a && b) x ≡ Some n → (a ≡ true) × (b ≡ true) × (x ≡ n)
passed true true x n h = (refl, refl, cc)
passed true false x n h = (refl, cc, cc)
passed false b x n h = (cc, cc, cc)

over : (b : Bool) (x : Meters) → unless_past b x ≡ None → b ≡ false
over true x h = cc
over false x h = refl

-- p's meter took all of it
added : (m n : Meters) (a b f l : ℕ) → adds_of m a b f l ≡ Some n → (p : Payer) (s : ℕ) →
    a ≡ share Caller p s → b ≡ share Called p s → f ≡ share Far p s → a + b + f ≡ s → Gave m n p s l
added m n a b f l h p s ea eb ef es =
    let e = passed (leb (sum_of m + (a + b + f)) limit) (leb (m.total + l) limit) _ n h in
    let sums : sum_of m + (a + b + f) ≤ limit = leb-true _ _ e.0 in
    let lasts : m.total + l ≤ limit = leb-true _ _ e.1 in
    let caller : n.caller ≡ m.caller + a = omega (arith, ap (λ (x : Meters). x.caller) e.2) in
    let called : n.called ≡ m.called + b = omega (arith, ap (λ (x : Meters). x.called) e.2) in
    let far : n.far ≡ m.far + f = omega (arith, ap (λ (x : Meters). x.far) e.2) in
    let payer : n.payer ≡ m.payer = sym (ap (λ (x : Meters). x.payer) e.2) in
    let total : n.total ≡ m.total + l = omega (arith, ap (λ (x : Meters). x.total) e.2) in
    record {
      caller = omega (arith, caller, ea);
      called = omega (arith, called, eb);
      far = omega (arith, far, ef);
      payer = payer;
      sum = omega (arith, caller, called, far, es);
      bound = omega (arith, caller, called, far, sums);
      total = total;
      within = omega (arith, total, lasts);
    }

-- ---- A tick

gave_to : (p : Payer) (m n : Meters) (s : ℕ) → (p ≡ Nobody → ⊥) → gives_to p m s ≡ Some n → Gave m n p s s
gave_to Nobody m n s i h = absurd (i refl)
gave_to Caller m n s i h = added m n s 0 0 s h Caller s refl refl refl (omega arith)
gave_to Called m n s i h = added m n 0 s 0 s h Called s refl refl refl (omega arith)
gave_to Far m n s i h = added m n 0 0 s s h Far s refl refl refl (omega arith)

-- Where somebody pays: the payer's meter takes all of it, the others none, and the sum and the total grow by just that, within the limit.
pub gave : (m n : Meters) (s : ℕ) → (m.payer ≡ Nobody → ⊥) → give_of m s ≡ Some n → Gave m n m.payer s s
gave m n s i h = gave_to m.payer m n s i h

-- Where nobody pays, the meters are as they were.
pub nobody_charged : (m : Meters) (s : ℕ) → m.payer ≡ Nobody → give_of m s ≡ Some m
nobody_charged m s h = ap (λ (p : Payer). gives_to p m s) h

-- s seconds more keep the sum and the total within the limit
abbrev pub fits : Meters → ℕ → Bool
fits m s = leb (sum_of m + s) limit && leb (m.total + s) limit

past : (m : Meters) (a b f s : ℕ) → a + b + f ≡ s → adds_of m a b f s ≡ None → fits m s ≡ false
past m a b f s e h = sym (ap (λ (t : ℕ). leb (sum_of m + t) limit && leb (m.total + s) limit) e) ∙ over _ _ h

past_to : (p : Payer) (m : Meters) (s : ℕ) → gives_to p m s ≡ None → fits m s ≡ false
past_to Nobody m s h = cc
past_to Caller m s h = past m s 0 0 s (omega arith) h
past_to Called m s h = past m 0 s 0 s (omega arith) h
past_to Far m s h = past m 0 0 s s (omega arith) h

-- A tick is too much only where the sum or the total would pass the limit ..
pub too_much : (m : Meters) (s : ℕ) → give_of m s ≡ None → fits m s ≡ false
too_much m s h = past_to m.payer m s h

-- .. and is done, where somebody pays, only where neither does.
pub gave_fits : (m n : Meters) (s : ℕ) → (m.payer ≡ Nobody → ⊥) → give_of m s ≡ Some n → fits m s ≡ true
gave_fits m n s i h =
    let g = gave m n s i h in
    let in_sum : sum_of m + s ≤ limit = omega (arith, g.sum, g.bound) in
    let in-total : m.total + s ≤ limit = omega (arith, g.total, g.within) in
    ap (λ (b : Bool). b && leb (m.total + s) limit) (le-leb _ _ in_sum) ∙ le-leb _ _ in-total

-- ---- What moves no time

-- a change of payer, its start and its end move no second: each meter and the total are what they were
pub paid_by_keeps : (m : Meters) (p : Payer) →
    ((paid_by_of m p).caller ≡ m.caller) × ((paid_by_of m p).called ≡ m.called) × ((paid_by_of m p).far ≡ m.far) × ((paid_by_of m p).total ≡ m.total)
paid_by_keeps m p = (refl, refl, refl, refl)

-- case C: the caller's seconds, all of them, are the payer's, and the sum and the total are what they were
pub record Moved (m n : Meters) (p : Payer) : Type 0 where
  pub caller : n.caller ≡ 0
  pub called : n.called ≡ m.called + share Called p m.caller
  pub far : n.far ≡ m.far + share Far p m.caller
  pub payer : n.payer ≡ p
  pub sum : sum_of n ≡ sum_of m
  pub total : n.total ≡ m.total

moved : (m n : Meters) (p : Payer) (b f : ℕ) → 0 ≡ share Caller p m.caller → b ≡ share Called p m.caller → f ≡ share Far p m.caller →
    b + f ≡ m.caller → entire_of m p b f ≡ Some n → Moved m n p
moved m n p b f ea eb ef es h =
    let g : Gave (record { caller = 0; called = m.called; far = m.far; payer = p; total = m.total }) n p m.caller 0 =
    added _ n 0 b f 0 h p m.caller ea eb ef (omega (arith, es)) in
    record {
      caller = omega (arith, g.caller, ea);
      called = g.called;
      far = g.far;
      payer = g.payer;
      sum = omega (arith, g.sum);
      total = omega (arith, g.total);
    }

pub moved_to_called : (m n : Meters) (s : ℕ) → change_of EntireToCalled m s ≡ Some n → Moved m n Called
moved_to_called m n s h = moved m n Called m.caller 0 refl refl refl (omega arith) h

pub moved_to_far : (m n : Meters) (s : ℕ) → change_of EntireToFar m s ≡ Some n → Moved m n Far
moved_to_far m n s h = moved m n Far 0 m.caller refl refl refl (omega arith) h

-- case C at the destination: the Duration is all that the called user has used, and the total is what it was
pub record Received (m n : Meters) (s : ℕ) : Type 0 where
  pub caller : n.caller ≡ m.caller
  pub called : n.called ≡ s
  pub far : n.far ≡ 0
  pub payer : n.payer ≡ Called
  pub bound : sum_of n ≤ limit
  pub total : n.total ≡ m.total

pub received : (m n : Meters) (s : ℕ) → change_of DurationReceived m s ≡ Some n → Received m n s
received m n s h =
    let g : Gave (record { caller = m.caller; called = 0; far = 0; payer = Called; total = m.total }) n Called s 0 =
    added _ n 0 s 0 0 h Called s refl refl refl (omega arith) in
    record {
      caller = omega (arith, g.caller);
      called = omega (arith, g.called);
      far = omega (arith, g.far);
      payer = g.payer;
      bound = g.bound;
      total = omega (arith, g.total);
    }

-- ---- What the total counts, of every change

-- changes by their number, so that one is told from the others
abbrev number_of : Change → ℕ
number_of Keep = 0
number_of Begin = 1
number_of CallerPays = 2
number_of CalledPays = 3
number_of FarPays = 4
number_of NobodyPays = 5
number_of EntireToCalled = 6
number_of EntireToFar = 7
number_of TimePasses = 8
number_of DurationReceived = 9

abbrev change_at : ℕ → Change
change_at n =
    get_or
    (Keep ∷ Begin ∷ CallerPays ∷ CalledPays ∷ FarPays ∷ NobodyPays ∷ EntireToCalled ∷ EntireToFar ∷ TimePasses ∷ DurationReceived ∷ []) n Keep

back : (x : Change) → change_at (number_of x) ≡ x
back Keep = refl
back Begin = refl
back CallerPays = refl
back CalledPays = refl
back FarPays = refl
back NobodyPays = refl
back EntireToCalled = refl
back EntireToFar = refl
back TimePasses = refl
back DurationReceived = refl

abbrev pub is : Change → Change → Bool
is x y = eqb (number_of x) (number_of y)

pub is_that : (x y : Change) → is x y ≡ true → x ≡ y
is_that x y h = sym (back x) ∙ ap change_at (eqb-true (number_of x) (number_of y) h) ∙ back y

-- the change by which time passes, and the one by which a call begins anew
abbrev pub timed : Change → Bool
timed x = is TimePasses x

abbrev pub begins : Change → Bool
begins x = is Begin x

abbrev pub only_if : Bool → ℕ → ℕ
only_if true s = s
only_if false s = 0

-- Where somebody pays for the time that passes (else: `nobody_charged`), the total grows by the seconds; where a call begins anew it is 0;
-- no other change touches it: no change of payer, no move of case C, no Duration.
pub total_grows : (x : Change) (m n : Meters) (s : ℕ) → (timed x ≡ true → m.payer ≡ Nobody → ⊥) → change_of x m s ≡ Some n →
    n.total ≡ only_if (not (begins x)) m.total + only_if (timed x) s
total_grows Keep m n s i h = let e : m ≡ n = cc in omega (arith, ap (λ (k : Meters). k.total) e)
total_grows Begin m n s i h = let e : new_of ≡ n = cc in omega (arith, ap (λ (k : Meters). k.total) e)
total_grows CallerPays m n s i h = let e : paid_by_of m Caller ≡ n = cc in omega (arith, ap (λ (k : Meters). k.total) e)
total_grows CalledPays m n s i h = let e : paid_by_of m Called ≡ n = cc in omega (arith, ap (λ (k : Meters). k.total) e)
total_grows FarPays m n s i h = let e : paid_by_of m Far ≡ n = cc in omega (arith, ap (λ (k : Meters). k.total) e)
total_grows NobodyPays m n s i h = let e : paid_by_of m Nobody ≡ n = cc in omega (arith, ap (λ (k : Meters). k.total) e)
total_grows EntireToCalled m n s i h = let g = moved_to_called m n s h in omega (arith, g.total)
total_grows EntireToFar m n s i h = let g = moved_to_far m n s h in omega (arith, g.total)
total_grows TimePasses m n s i h = let g = gave m n s (i refl) h in g.total
total_grows DurationReceived m n s i h = let g = received m n s h in omega (arith, g.total)

-- A call that begins anew has new meters, whatever they were.
pub begun : (x : Change) (m n : Meters) (s : ℕ) → begins x ≡ true → change_of x m s ≡ Some n → new_of ≡ n
begun x m n s b h = let e : Some new_of ≡ Some n = ap (λ (y : Change). change_of y m s) (is_that Begin x b) ∙ h in cc

-- ---- What is not refused: what holds of all meters that were done holds of a change that fits

done_if : (P : Option Meters → Type 0) (a b : Bool) (x : Meters) → a ≡ true → b ≡ true → P (Some x) → P (unless_past (a && b) x)
done_if P a b x h i d =
    subst (λ (t : Bool). P (unless_past (t && b) x)) (sym h) (subst (λ (t : Bool). P (unless_past t x)) (sym i) d)

adds_fit : (P : Option Meters → Type 0) (m : Meters) (b f : ℕ) → sum_of m + (b + f) ≤ limit → m.total ≤ limit → ((n : Meters) → P (Some n)) →
    P (adds_of m 0 b f 0)
adds_fit P m b f h i d =
    let sums : sum_of m + (0 + b + f) ≤ limit = omega (arith, h) in
    let lasts : m.total + 0 ≤ limit = omega (arith, i) in
    done_if P (leb (sum_of m + (0 + b + f)) limit) (leb (m.total + 0) limit) _ (le-leb _ _ sums) (le-leb _ _ lasts) (d _)

-- case C moves what was within the limit
pub entire_fits : (P : Option Meters → Type 0) (m : Meters) (p : Payer) (b f : ℕ) → b + f ≡ m.caller → sum_of m ≤ limit → m.total ≤ limit →
    ((n : Meters) → P (Some n)) → P (entire_of m p b f)
entire_fits P m p b f e h i d = adds_fit P _ b f (omega (arith, e, h)) i d

-- a Duration within the limit is taken
pub duration_fits : (P : Option Meters → Type 0) (m : Meters) (s : ℕ) → m.caller + s ≤ limit → m.total ≤ limit → ((n : Meters) → P (Some n)) →
    P (received_of m s)
duration_fits P m s h i d = adds_fit P _ s 0 (omega (arith, h)) i d
