-- A CALL STAYS A CALL: what step gives back is a call that step takes, so no history from the opening meets number 9.
-- Of the meters it uses what their crate promises, Rattle.meters.proofs.Laws.
-- Assumes nothing.
use mathlib.Core.Path.{◌≡◌, refl, sym, ◌∙◌, ap, subst}
use mathlib.Core.Bool.{Bool, true, false, ◌&&◌, not}
use mathlib.Core.List.{List, [], ◌∷◌}
use Prim.Native.Nat.{ℕ, ◌≤◌}
use native.Mathlib.Omega.{arith}
use lib.Dec.{eqb, leb}
use borrow.Author.Tests.{eqb-true, eq-eqb, le-leb, leb-true}
use Rattle.std.specs.Prelude.{Some}
use Rattle.meters.proofs.Laws
use Rattle.meters.proofs.Laws.{Gave, gave, Moved, moved_to_called, moved_to_far, received, begins, begun}
use Rattle.meters.specs.Meters.{limit, new_of, sum_of, within_of, paid_by_of, give_of, received_of, change_of}
use Rattle.meters.specs.declared.Change.{Change}
use Rattle.meters.specs.declared.Change.TheVariants.{Keep, Begin, CallerPays, CalledPays, FarPays, NobodyPays, EntireToCalled}
use Rattle.meters.specs.declared.Change.TheVariants.{EntireToFar, TimePasses, DurationReceived}
use Rattle.meters.specs.declared.Meters.{Meters}
use Rattle.meters.specs.declared.Payer.{Payer}
use Rattle.meters.specs.declared.Payer.TheVariants.{Nobody, Caller, Called, Far}
use Rattle.rows.specs.History.{run, history}
use Rattle.rows.specs.Perform.{stand_of, or_held, role_by, side_of}
use Rattle.rows.specs.Promises.{none_is, place_in}
use Rattle.rows.specs.Read.{bit, read_of}
use Rattle.rows.specs.Telephone.{national}
use Rattle.rows.specs.Step.{unopened_call, step_of}
use Rattle.rows.specs.Valid.{placed_of, in_range, unmetered, payer_nobody, payer_there, tallied, metered_of, paying_there, paying_of}
use Rattle.rows.specs.Valid.{numbers_held, valid_of, number_there, number_if, event_ok}
use Rattle.rows.specs.declared.Call.{Call}
use Rattle.rows.specs.declared.Event.{Event}
use Rattle.rows.specs.declared.Event.TheVariants.{Opening, Ask, Received, FromAccess, Expiry, Time}
use Rattle.rows.specs.declared.Number.{Number}
use Rattle.rows.specs.declared.Outcome.{Outcome}
use Rattle.rows.specs.declared.Phase.{Phase}
use Rattle.rows.specs.declared.Phase.TheVariants.{Unopened, Null, Setup, Answered, Cleared}
use Rattle.rows.specs.declared.Reading.{Reading}
use Rattle.rows.specs.declared.Register.{Register}
use Rattle.rows.specs.declared.Register.TheVariants.{AsHeld, FromOpening, CalledNumber, CallingNumber}
use Rattle.rows.specs.declared.RevState.{RevState}
use Rattle.rows.specs.declared.Role.{Role}
use Rattle.rows.specs.declared.Role.TheVariants.{Originating, Destination}
use Rattle.rows.specs.declared.Side.{Side}
use Rattle.rows.specs.declared.Stand.{Stand}
use Rattle.rows.proofs.Found.{implies, so, Test, holds, stepped}
use Rattle.rows.proofs.Answers.{plan_for}
use Rattle.rows.proofs.Ranges.{message_in_range}
use Rattle.rows.proofs.Truth.{and_true, both, differ, left, or_none_lem, right}

-- ---- Numbers: those that an event in range carries are in range

number : (b : Bool) (n : Number) → number_if b n ≡ true → in_range n ≡ true
number true n h = left (in_range n) _ (or_none_lem _ h)
number false n h =
    let p : n.count ≡ 0 = eqb-true _ _ (left (eqb n.count 0) _ h) in
    let q : n.value ≡ 0 = eqb-true _ _ (left (eqb n.value 0) _ (right (eqb n.count 0) _ h)) in
    let w : national n.nature ≡ true = right (eqb n.value 0) _ (right (eqb n.count 0) _ h) in
    rw (p, q, w)

pub record Carries (r : Reading) : Type 0 where
  pub own : in_range r.own ≡ true
  pub calling : in_range r.calling ≡ true
  pub called : in_range r.called ≡ true

carries : (e : Event) → event_ok e ≡ true → Carries (read_of e)
carries (Opening r f n) h =
    record { own = left (in_range n) _ (left (number_there n) _ (right (leb f 31) _ (right (leb r 1) _ h))); calling = refl; called = refl }
carries (Ask q n) h = record { own = refl; calling = refl; called = number (leb q 1) n (left (number_if (leb q 1) n) _ (right (leb q 3) _ h)) }
carries (Received m) h =
    let o = message_in_range m h in
    record {
      own = refl;
      calling = number (bit 16 m.parts) m.calling o.calling;
      called = number (bit 32 m.parts) m.called o.called;
    }
carries (FromAccess a n) h = record { own = refl; calling = refl; called = refl }
carries Expiry h = record { own = refl; calling = refl; called = refl }
carries (Time s) h = record { own = refl; calling = refl; called = refl }

either : (b : Bool) (n held : Number) → in_range n ≡ true → in_range held ≡ true → in_range (or_held b n held) ≡ true
either true n held p q = p
either false n held p q = q

-- so those that a call holds stay in range
registers : (x : Register) (s : Side) {r : Reading} → Carries r → numbers_held s ≡ true → numbers_held (side_of x s r) ≡ true
registers AsHeld s c h = h
registers FromOpening s c h = both c.own refl
registers CalledNumber s {r} c h =
    let n = right (in_range s.own) _ h in
    both (left (in_range s.own) _ h)
    (both (left (in_range s.calling) _ n)
    (either (leb 1 r.called.count) r.called s.called c.called (right (in_range s.calling) _ n)))
registers CallingNumber s {r} c h =
    let n = right (in_range s.own) _ h in
    both (left (in_range s.own) _ h)
    (both (either (leb 1 r.calling.count) r.calling s.calling c.calling (left (in_range s.calling) _ n))
    (right (in_range s.calling) _ n))

-- ---- Meters: what 9 asks of them, before the answer, while they talk and after

pub data Age : Type 0 where
  before : Age
  talking : Age
  over : Age

abbrev age_of : Phase → Age
age_of Unopened = before
age_of Null = before
age_of Setup = before
age_of Answered = talking
age_of Cleared = over

abbrev metered_in : Role → Age → Meters → Bool
metered_in r before m = unmetered m
metered_in r talking m = tallied r m
metered_in r over m = tallied r m

abbrev paying_in : Role → Age → Payer → Bool
paying_in r before p = payer_nobody p
paying_in r talking p = paying_there r p
paying_in r over p = payer_nobody p

metered : (r : Role) (p : Phase) (m : Meters) → metered_of r p m ≡ metered_in r (age_of p) m
metered r Unopened m = refl
metered r Null m = refl
metered r Setup m = refl
metered r Answered m = refl
metered r Cleared m = refl

paying : (r : Role) (p : Phase) (x : Payer) → paying_of r p x ≡ paying_in r (age_of p) x
paying r Unopened x = refl
paying r Null x = refl
paying r Setup x = refl
paying r Answered x = refl
paying r Cleared x = refl

pub record Sound (r : Role) (t : Age) (m : Meters) : Type 0 where
  pub metered : metered_in r t m ≡ true
  pub within : within_of m ≡ true
  pub paying : paying_in r t m.payer ≡ true

-- before the answer: nothing is counted, so all is in order for either role
record Empty (m : Meters) : Type 0 where
  caller : m.caller ≡ 0
  called : m.called ≡ 0
  far : m.far ≡ 0
  total : m.total ≡ 0

empty : (m : Meters) → unmetered m ≡ true → Empty m
empty m h =
    let three = left (eqb m.caller 0 && eqb m.called 0 && eqb m.far 0) _ h in
    let two = left (eqb m.caller 0 && eqb m.called 0) _ three in
    record {
      caller = eqb-true _ _ (left (eqb m.caller 0) _ two);
      called = eqb-true _ _ (right (eqb m.caller 0) _ two);
      far = eqb-true _ _ (right (eqb m.caller 0 && eqb m.called 0) _ three);
      total = eqb-true _ _ (right (eqb m.caller 0 && eqb m.called 0 && eqb m.far 0) _ h);
    }

-- at the originating exchange the total is the meters' sum; a destination has no caller's seconds, and its total the limit
adds_up : (m : Meters) → sum_of m ≡ m.total → tallied Originating m ≡ true
adds_up m e = eq-eqb _ _ e

no_caller : (m : Meters) → m.caller ≡ 0 → m.total ≤ limit → tallied Destination m ≡ true
no_caller m e l = both (eq-eqb _ _ e) (le-leb _ _ l)

caller_none : (m : Meters) → tallied Destination m ≡ true → m.caller ≡ 0
caller_none m h = eqb-true _ _ (left (eqb m.caller 0) _ h)

total_held : (m : Meters) → tallied Destination m ≡ true → m.total ≤ limit
total_held m h = leb-true _ _ (right (eqb m.caller 0) _ h)

in_order : (r : Role) (t : Age) (m : Meters) → metered_in r t m ≡ true → tallied r m ≡ true
in_order Originating before m h = let z = empty m h in adds_up m (omega (arith, z.caller, z.called, z.far, z.total))
in_order Destination before m h = let z = empty m h in no_caller m z.caller (omega (arith, z.total))
in_order r talking m h = h
in_order r over m h = h

-- which stays where neither sum nor total changes, and the caller's meter is then 0
same_tally : (r : Role) (m n : Meters) → n.caller ≡ 0 → sum_of n ≡ sum_of m → n.total ≡ m.total → tallied r m ≡ true → tallied r n ≡ true
same_tally Originating m n c s t h = let e : sum_of m ≡ m.total = eqb-true _ _ h in adds_up n (omega (arith, s, t, e))
same_tally Destination m n c s t h = no_caller n c (omega (arith, t, total_held m h))

-- which changes of the meters keep that
abbrev is_before : Age → Bool
is_before before = true
is_before talking = false
is_before over = false

abbrev is_talking : Age → Bool
is_talking before = false
is_talking talking = true
is_talking over = false

abbrev is_over : Age → Bool
is_over before = false
is_over talking = false
is_over over = true

abbrev same_age : Age → Age → Bool
same_age before t = is_before t
same_age talking t = is_talking t
same_age over t = is_over t

abbrev is_originating : Role → Bool
is_originating Originating = true
is_originating Destination = false

abbrev pub is_destination : Role → Bool
is_destination Originating = false
is_destination Destination = true

abbrev turns : Role → Age → Age → Change → Bool
turns r t u Keep = same_age t u
turns r t u Begin = is_before u
turns r t u CallerPays = is_originating r && is_talking u
turns r t u CalledPays = is_talking u
turns r t u FarPays = is_talking u
turns r t u NobodyPays = is_over u
turns r t u EntireToCalled = is_talking u
turns r t u EntireToFar = is_talking u
turns r t u TimePasses = is_talking t && is_talking u
turns r t u DurationReceived = is_destination r && is_talking u

is_before_lem : (t : Age) → is_before t ≡ true → t ≡ before
is_before_lem before h = refl
is_before_lem talking h = cc
is_before_lem over h = cc

is_talking_lem : (t : Age) → is_talking t ≡ true → t ≡ talking
is_talking_lem before h = cc
is_talking_lem talking h = refl
is_talking_lem over h = cc

is_over_lem : (t : Age) → is_over t ≡ true → t ≡ over
is_over_lem before h = cc
is_over_lem talking h = cc
is_over_lem over h = refl

same_age_lem : (t u : Age) → same_age t u ≡ true → u ≡ t
same_age_lem before u h = is_before_lem u h
same_age_lem talking u h = is_talking_lem u h
same_age_lem over u h = is_over_lem u h

-- the payer of an ANSWERED call is somebody
pub somebody : (r : Role) (p : Payer) → paying_there r p ≡ true → p ≡ Nobody → ⊥
somebody r p h e = differ (sym (ap (paying_there r) e ∙ nobodys r) ∙ h)
  where
    nobodys : (r : Role) → paying_there r Nobody ≡ false
    nobodys Originating = refl
    nobodys Destination = refl

-- a tick at a destination is not the caller's
pub not_callers : (p : Payer) (s : ℕ) → payer_there p ≡ true → Laws.share Caller p s ≡ 0
not_callers Nobody s h = refl
not_callers Caller s h = cc
not_callers Called s h = refl
not_callers Far s h = refl

ticked : (r : Role) {m n : Meters} {s : ℕ} → Sound r talking m → Gave m n m.payer s s → tallied r n ≡ true
ticked Originating {m} {n} {s} z g =
    let e : sum_of m ≡ m.total = eqb-true _ _ z.metered in
    adds_up n (omega (arith, g.sum, g.total, e))
ticked Destination {m} {n} {s} z g =
    let p = not_callers m.payer s z.paying in
    let q = caller_none m z.metered in
    no_caller n (omega arith) g.within

-- what a change leaves: a payer, meters in order, a sum within the limit
record Left (r : Role) (p : Payer) (n : Meters) : Type 0 where
  tally : tallied r n ≡ true
  within : within_of n ≡ true
  payer : n.payer ≡ p

paid_tally : (r : Role) (m : Meters) (p : Payer) → tallied r m ≡ true → tallied r (paid_by_of m p) ≡ true
paid_tally Originating m p h = h
paid_tally Destination m p h = h

pays : (r : Role) (t : Age) (p : Payer) (m n : Meters) → Sound r t m → Some (paid_by_of m p) ≡ Some n → Left r p n
pays r t p m n z h =
    let e : paid_by_of m p ≡ n = cc in
    subst (λ (k : Meters). Left r p k) e
    (record { tally = paid_tally r m p (in_order r t m z.metered); within = z.within; payer = refl })

moves : (r : Role) (t : Age) (p : Payer) (m n : Meters) → Sound r t m → Moved m n p → Left r p n
moves r t p m n z g =
    record {
      tally = same_tally r m n g.caller g.sum g.total (in_order r t m z.metered);
      within = ap (λ (x : ℕ). leb x limit) g.sum ∙ z.within;
      payer = g.payer;
    }

ticks : (r : Role) (m n : Meters) (s : ℕ) → Sound r talking m → give_of m s ≡ Some n → Left r m.payer n
ticks r m n s z h =
    let g = gave m n s (somebody r m.payer z.paying) h in
    record { tally = ticked r z g; within = le-leb _ _ g.bound; payer = g.payer }

-- a Duration is a destination's: it sets the meters and not the total, so the originating exchange's would no longer add up
receives : (r : Role) (t : Age) (m n : Meters) (s : ℕ) → is_destination r ≡ true → Sound r t m → received_of m s ≡ Some n → Left r Called n
receives Originating t m n s i z h = differ i
receives Destination t m n s i z h =
    let g = received m n s h in
    let y = in_order Destination t m z.metered in
    record {
      tally = no_caller n (g.caller ∙ caller_none m y) (omega (arith, g.total, total_held m y));
      within = le-leb _ _ g.bound;
      payer = g.payer;
    }

there : (r : Role) (p : Payer) → payer_there p ≡ true → paying_there r p ≡ true
there Originating Nobody h = h
there Originating Caller h = refl
there Originating Called h = refl
there Originating Far h = refl
there Destination p h = h

caller_there : (r : Role) → is_originating r ≡ true → paying_there r Caller ≡ true
caller_there Originating h = refl
caller_there Destination h = h

talks : (r : Role) (p : Payer) (n : Meters) (u : Age) → is_talking u ≡ true → paying_there r p ≡ true → Left r p n → Sound r u n
talks r p n before i h l = differ i
talks r p n talking i h l = record { metered = l.tally; within = l.within; paying = ap (paying_there r) l.payer ∙ h }
talks r p n over i h l = differ i

ends : (r : Role) (n : Meters) (u : Age) → is_over u ≡ true → Left r Nobody n → Sound r u n
ends r n before i l = differ i
ends r n talking i l = differ i
ends r n over i l = record { metered = l.tally; within = l.within; paying = ap payer_nobody l.payer }

-- new meters are those of a call before its answer, in either role
anew : (r : Role) (u : Age) (n : Meters) → is_before u ≡ true → new_of ≡ n → Sound r u n
anew r before n i e = subst (λ (k : Meters). Sound r before k) e (record { metered = refl; within = refl; paying = refl })
anew r talking n i e = differ i
anew r over n i e = differ i

keeps : (r : Role) (t u : Age) {m : Meters} → same_age t u ≡ true → Sound r t m → Sound r u m
keeps r t u {m} i z = subst (λ (v : Age). Sound r v m) (sym (same_age_lem t u i)) z

changes : (r : Role) (t u : Age) (x : Change) (m n : Meters) (s : ℕ) → turns r t u x ≡ true → Sound r t m → change_of x m s ≡ Some n →
    Sound r u n
changes r t u Keep m n s i z h = let e : m ≡ n = cc in subst (λ (k : Meters). Sound r u k) e (keeps r t u i z)
changes r t u Begin m n s i z h = anew r u n i (begun Begin m n s refl h)
changes r t u CallerPays m n s i z h =
    talks r Caller n u (right (is_originating r) _ i) (caller_there r (left (is_originating r) _ i)) (pays r t Caller m n z h)
changes r t u CalledPays m n s i z h = talks r Called n u i (there r Called refl) (pays r t Called m n z h)
changes r t u FarPays m n s i z h = talks r Far n u i (there r Far refl) (pays r t Far m n z h)
changes r t u NobodyPays m n s i z h = ends r n u i (pays r t Nobody m n z h)
changes r t u EntireToCalled m n s i z h = talks r Called n u i (there r Called refl) (moves r t Called m n z (moved_to_called m n s h))
changes r t u EntireToFar m n s i z h = talks r Far n u i (there r Far refl) (moves r t Far m n z (moved_to_far m n s h))
changes r t u TimePasses m n s i z h =
    let z' = subst (λ (v : Age). Sound r v m) (is_talking_lem t (left (is_talking t) _ i)) z in
    talks r m.payer n u (right (is_talking t) _ i) z'.paying (ticks r m n s z' h)
changes r t u DurationReceived m n s i z h =
    talks r Called n u (right (is_destination r) _ i) (there r Called refl) (receives r t m n s (left (is_destination r) _ i) z h)

-- ---- Every row keeps a call a call

-- an opening may change the role, so what follows has to be a call in either: it begins anew
abbrev fits : Role → Stand → Stand → Change → Register → Bool
fits r now to x AsHeld = placed_of r to.phase to.rev && turns r (age_of now.phase) (age_of to.phase) x
fits r now to x FromOpening =
    (placed_of Originating to.phase to.rev && placed_of Destination to.phase to.rev)
    && (is_before (age_of to.phase) && begins x)
fits r now to x CalledNumber = placed_of r to.phase to.rev && turns r (age_of now.phase) (age_of to.phase) x
fits r now to x CallingNumber = placed_of r to.phase to.rev && turns r (age_of now.phase) (age_of to.phase) x

abbrev fitting : Test
fitting r now k p = implies (eqb p.number 0) (fits r now (stand_of p.next now) p.change p.register)

in_either : (p : Phase) (s : RevState) (b : Bool) → (placed_of Originating p s && placed_of Destination p s) ≡ true →
    placed_of (role_by b) p s ≡ true
in_either p s true h = right (placed_of Originating p s) _ h
in_either p s false h = left (placed_of Originating p s) _ h

-- valid_of, taken apart and put together
pub record Good (s : Side) (at : Stand) (m : Meters) : Type 0 where
  pub placed : placed_of s.role at.phase at.rev ≡ true
  pub sound : Sound s.role (age_of at.phase) m
  pub held : numbers_held s ≡ true

pub good : (c : Call) → valid_of c ≡ true → Good c.side c.stand c.meters
good c h =
    let k = right (placed_of c.side.role c.stand.phase c.stand.rev) _ h in
    let l = right (metered_of c.side.role c.stand.phase c.meters) _ k in
    let n = right (within_of c.meters) _ l in
    record {
      placed = left (placed_of c.side.role c.stand.phase c.stand.rev) _ h;
      sound =
          record {
            metered =
                sym (metered c.side.role c.stand.phase c.meters)
                ∙ left (metered_of c.side.role c.stand.phase c.meters) _ k;
            within = left (within_of c.meters) _ l;
            paying =
                sym (paying c.side.role c.stand.phase c.meters.payer)
                ∙ left (paying_of c.side.role c.stand.phase c.meters.payer) _ n;
          };
      held = right (paying_of c.side.role c.stand.phase c.meters.payer) _ n;
    }

made : (s : Side) (at : Stand) (m : Meters) → Good s at m → valid_of (record { side = s; stand = at; meters = m }) ≡ true
made s at m g =
    both g.placed
    (both (metered s.role at.phase m ∙ g.sound.metered)
    (both g.sound.within (both (paying s.role at.phase m.payer ∙ g.sound.paying) g.held)))

module _ (s : Side) (now to : Stand) (m n : Meters) (x : Change) (e : Event) (ok : event_ok e ≡ true) (g : Good s now m)
    (h : change_of x m (read_of e).seconds ≡ Some n) where
  -- the role stays
  stays : (y : Register) → (side_of y s (read_of e)).role ≡ s.role →
      (placed_of s.role to.phase to.rev && turns s.role (age_of now.phase) (age_of to.phase) x) ≡ true →
      Good (side_of y s (read_of e)) to n
  stays y q f =
      record {
        placed =
            subst (λ (r : Role). placed_of r to.phase to.rev ≡ true) (sym q) (left (placed_of s.role to.phase to.rev) _ f);
        sound =
            subst (λ (r : Role). Sound r (age_of to.phase) n) (sym q)
            (changes s.role (age_of now.phase) (age_of to.phase) x m n (read_of e).seconds
            (right (placed_of s.role to.phase to.rev) _ f) g.sound h);
        held = registers y s (carries e ok) g.held;
      }

  follows : (y : Register) → fits s.role now to x y ≡ true → Good (side_of y s (read_of e)) to n
  follows AsHeld f = stays AsHeld refl f
  follows FromOpening f =
      let k = right (placed_of Originating to.phase to.rev && placed_of Destination to.phase to.rev) _ f in
      record {
        placed =
            in_either to.phase to.rev (eqb (read_of e).item 1)
            (left (placed_of Originating to.phase to.rev && placed_of Destination to.phase to.rev) _ f);
        sound =
            anew (role_by (eqb (read_of e).item 1)) (age_of to.phase) n (left (is_before (age_of to.phase)) _ k)
            (begun x m n (read_of e).seconds (right (is_before (age_of to.phase)) _ k) h);
        held = registers FromOpening s (carries e ok) g.held;
      }
  follows CalledNumber f = stays CalledNumber refl f
  follows CallingNumber f = stays CallingNumber refl f

-- ---- What 9 leaves of the meters

before_answer : (p : Phase) → is_before (age_of p) ≡ leb (place_in p) 2
before_answer Unopened = refl
before_answer Null = refl
before_answer Setup = refl
before_answer Answered = refl
before_answer Cleared = refl

pub nobody : (p : Payer) → payer_nobody p ≡ true → p ≡ Nobody
nobody Nobody h = refl
nobody Caller h = differ h
nobody Called h = differ h
nobody Far h = differ h

-- before ANSWERED nothing is counted, and nobody pays
new_meters : {r : Role} {m : Meters} (t : Age) → is_before t ≡ true → Sound r t m → m ≡ new_of
new_meters {r} {m} before h z =
    let e = empty m z.metered in
    let p = nobody m.payer z.paying in
    λ i. record { caller = e.caller i; called = e.called i; far = e.far i; payer = p i; total = e.total i }
new_meters talking i z = differ i
new_meters over i z = differ i

-- and always the sum and the total are within the limit
totals_within : (r : Role) (t : Age) (m : Meters) → Sound r t m → m.total ≤ limit
totals_within Originating t m z =
    let e : sum_of m ≡ m.total = eqb-true _ _ (in_order Originating t m z.metered) in
    let l : sum_of m ≤ limit = leb-true _ _ z.within in
    omega (arith, e, l)
totals_within Destination t m z = total_held m (in_order Destination t m z.metered)

pub valid_metered : (c : Call) → valid_of c ≡ true → metered_of c.side.role c.stand.phase c.meters ≡ true
valid_metered c v = metered c.side.role c.stand.phase c.meters ∙ (good c v).sound.metered

pub valid_paying : (c : Call) → valid_of c ≡ true → paying_of c.side.role c.stand.phase c.meters.payer ≡ true
valid_paying c v = paying c.side.role c.stand.phase c.meters.payer ∙ (good c v).sound.paying

-- where a call stands in its place, with a sum within the limit and numbers in range, its meters and its payer decide
pub by_meters : (s : Side) (at : Stand) (m : Meters) → placed_of s.role at.phase at.rev ≡ true → within_of m ≡ true → numbers_held s ≡ true →
    valid_of (record { side = s; stand = at; meters = m }) ≡ (metered_of s.role at.phase m && paying_of s.role at.phase m.payer)
by_meters s at m i j k =
    rw (i, j, k) (ap (λ (b : Bool). metered_of s.role at.phase m && b) (and_true (paying_of s.role at.phase m.payer)))

-- ---- THE THEOREMS

-- A call that step takes is followed by one that step takes, whatever the event.
pub call_stays : (c : Call) (e : Event) → valid_of c ≡ true → valid_of (step_of c e).call ≡ true
call_stays c e v =
    stepped (λ (o : Outcome). valid_of o.call ≡ true) c e (λ w. v) (λ n k w p q. v)
    (λ n d.
    made _ _ n
    (follows c.side c.stand (stand_of (plan_for c e).next c.stand) c.meters n (plan_for c e).change e d.ranged (good c v)
    d.meters
    (plan_for c e).register (so _ _ (holds fitting (λ e' t a b. refl) c e) d.row)))

-- So is every call that a list of events leads to.
pub calls_stay : (c : Call) (es : List Event) → valid_of c ≡ true → valid_of (run c es) ≡ true
calls_stay c [] v = v
calls_stay c (e ∷ es) v = calls_stay (step_of c e).call es (call_stays c e v)

-- The call before its opening is one that step takes.
pub unopened_valid : valid_of unopened_call ≡ true
unopened_valid = refl

-- The number 9 is given exactly where the call is not one that step takes.
pub nine_exactly : (c : Call) (e : Event) → eqb (step_of c e).number 9 ≡ not (valid_of c)
nine_exactly c e =
    stepped (λ (o : Outcome). eqb o.number 9 ≡ not (valid_of c)) c e
    (λ v. sym (ap not v)) (λ n k v p q. q ∙ sym (ap not v)) (λ n d. sym (ap not d.valid))

-- No step of any history from a call that step takes has the number 9.
pub never_nine : (c : Call) (es : List Event) → valid_of c ≡ true → none_is 9 (history c es) ≡ true
never_nine c [] v = refl
never_nine c (e ∷ es) v = both (ap not (nine_exactly c e ∙ ap not v)) (never_nine (step_of c e).call es (call_stays c e v))

-- The meters of a call: new before ANSWERED, and always within the limit, the sum of them and the total.
pub new_before_answer : (c : Call) → valid_of c ≡ true → leb (place_in c.stand.phase) 2 ≡ true → c.meters ≡ new_of
new_before_answer c v h = new_meters (age_of c.stand.phase) (before_answer c.stand.phase ∙ h) (good c v).sound

pub within_limit : (c : Call) → valid_of c ≡ true → (sum_of c.meters ≤ limit) × (c.meters.total ≤ limit)
within_limit c v = let z = (good c v).sound in (leb-true _ _ z.within, totals_within c.side.role (age_of c.stand.phase) c.meters z)
