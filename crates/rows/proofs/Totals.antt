-- THE ANSWERED TOTAL (02 #104): it grows with the accepted time events of an answered call and with nothing else, and an accepted opening
-- sets it to 0, so after any history it is the answered seconds that the bill counts from the latest opening; and which totals are no
-- call's.
-- Of the meters it uses what their crate promises, Rattle.meters.proofs.Laws; of the rows, that time is counted in ANSWERED, by one test.
-- Assumes nothing.
use mathlib.Core.Path.{◌≡◌, refl, sym, ◌∙◌, ap}
use mathlib.Core.Bool.{Bool, true, false, ◌&&◌, not}
use mathlib.Core.List.{List, [], ◌∷◌}
use Prim.Native.Nat.{ℕ, ◌+◌}
use native.Mathlib.Omega.{arith}
use lib.Dec.{eqb, leb}
use Rattle.meters.proofs.Laws.{timed, begins, only_if, total_grows}
use Rattle.meters.specs.Meters.{limit, sum_of}
use Rattle.meters.specs.declared.Meters.{Meters}
use Rattle.meters.specs.declared.Payer.TheVariants.{Nobody}
use Rattle.rows.specs.Bill.{pick, Step, counted, is_time, seconds_in, is_answered, times, sum, answered, an_opening, opens, none_opens}
use Rattle.rows.specs.History.{run, written, history, opening}
use Rattle.rows.specs.Promises.{lasted_in, retotalled, with_total, total_fits, opening_there}
use Rattle.rows.specs.Read.{read_of}
use Rattle.rows.specs.Step.{unopened_call, total_of, if_in_range, step_of}
use Rattle.rows.specs.Valid.{unmetered, tallied, metered_of, valid_of, event_ok}
use Rattle.rows.specs.declared.Call.{Call}
use Rattle.rows.specs.declared.Event.{Event}
use Rattle.rows.specs.declared.Event.TheVariants.{Opening, Ask, Received, FromAccess, Expiry, Time}
use Rattle.rows.specs.declared.Kind.{Kind}
use Rattle.rows.specs.declared.Kind.TheVariants.{Passes}
use Rattle.rows.specs.declared.Number.{Number}
use Rattle.rows.specs.declared.Outcome.{Outcome}
use Rattle.rows.specs.declared.Phase.{Phase}
use Rattle.rows.specs.declared.Phase.TheVariants.{Unopened, Null, Setup, Answered, Cleared}
use Rattle.rows.specs.declared.Role.{Role}
use Rattle.rows.specs.declared.Role.TheVariants.{Originating, Destination}
use Rattle.rows.proofs.Answers.{plan_for}
use Rattle.rows.proofs.Found.{implies, so, Test, holds, stepped, is_kind}
use Rattle.rows.proofs.Payers.{answered_paid}
use Rattle.rows.proofs.Phases
use Rattle.rows.proofs.Phases.{is_opens}
use Rattle.rows.proofs.Stays
use Rattle.rows.proofs.Truth.{alike, and_true, are_alike, left, right}
use Rattle.rows.proofs.Whole
use Rattle.rows.proofs.Whole.{by_kind, first_unopening, rest_unopening}

-- ---- Every row: time is counted where time passes in ANSWERED, and nowhere else; an opening begins anew, and nothing else does

abbrev is_passing : Kind → Bool
is_passing k = is_kind Passes k

abbrev counting : Test
counting r now k p =
    implies (eqb p.number 0)
    (alike (timed p.change) (is_passing k && is_answered now.phase) && alike (begins p.change) (is_opens k))

-- the reading's kind says whether the event is a time
passing : (e : Event) → is_passing (read_of e).kind ≡ is_time e
passing (Opening r f n) = refl
passing (Ask q n) = refl
passing (Received m) = by_kind m (λ (k : Kind). is_passing k ≡ false) refl refl refl refl
passing (FromAccess a n) = refl
passing Expiry = refl
passing (Time s) = refl

-- the total before, and the seconds that pass
seconds_count : (e : Event) (b : Bool) (t : ℕ) →
    only_if (not (an_opening e)) t + only_if (is_time e && b) (read_of e).seconds
    ≡ pick (an_opening e) 0 (t + pick (is_time e && b) (seconds_in e) 0)
seconds_count (Opening r f n) b t = refl
seconds_count (Ask q n) b t = refl
seconds_count (Received m) b t = refl
seconds_count (FromAccess a n) b t = refl
seconds_count Expiry b t = refl
seconds_count (Time s) true t = refl
seconds_count (Time s) false t = refl

-- ---- THE LAW, of one step and of any history

pub total_counts : (c : Call) (e : Event) →
    total_of (step_of c e).call ≡ pick (opens (written c e (step_of c e))) 0 (total_of c + lasted_in (written c e (step_of c e)))
total_counts c e =
    stepped (λ (o : Outcome). total_of o.call ≡ pick (opens (written c e o)) 0 (total_of c + lasted_in (written c e o))) c e
    (λ v. omega arith)
    (λ n k v z q. refused n z)
    (λ n d. grown n (total_grows (plan_for c e).change c.meters n (read_of e).seconds (paid d.valid d.row) d.meters) d.row)
  where
    -- time is counted in ANSWERED alone, where somebody pays
    paid : valid_of c ≡ true → eqb (plan_for c e).number 0 ≡ true → timed (plan_for c e).change ≡ true → c.meters.payer ≡ Nobody → ⊥
    paid v r t =
        let w = left _ _ (so _ _ (holds counting (λ e' t a b. refl) c e) r) in
        answered_paid c v (right (is_passing (read_of e).kind) _ (sym (are_alike _ _ w) ∙ t))

    refused : (n : ℕ) → eqb n 0 ≡ false →
        total_of c ≡ pick (eqb n 0 && an_opening e) 0 (total_of c + pick (eqb n 0 && (is_time e && is_answered c.stand.phase)) (seconds_in e) 0)
    refused n z = rw z (omega arith)

    grown : (n : Meters) →
        n.total ≡ only_if (not (begins (plan_for c e).change)) c.meters.total + only_if (timed (plan_for c e).change) (read_of e).seconds →
        eqb (plan_for c e).number 0 ≡ true →
        n.total ≡ pick (an_opening e) 0 (total_of c + pick (is_time e && is_answered c.stand.phase) (seconds_in e) 0)
    grown n g r =
        let w = so _ _ (holds counting (λ e' t a b. refl) c e) r in
        let t : timed (plan_for c e).change ≡ (is_passing (read_of e).kind && is_answered c.stand.phase) = are_alike _ _ (left _ _ w) in
        let k : timed (plan_for c e).change ≡ (is_time e && is_answered c.stand.phase) =
        t ∙ ap (λ (b : Bool). b && is_answered c.stand.phase) (passing e) in
        let u : begins (plan_for c e).change ≡ is_opens (read_of e).kind =
        are_alike _ _ (right (alike (timed (plan_for c e).change) (is_passing (read_of e).kind && is_answered c.stand.phase)) _ w) in
        let i : begins (plan_for c e).change ≡ an_opening e = u ∙ Phases.opens e in
        g ∙ ap (λ (b : Bool). only_if (not b) c.meters.total + only_if (timed (plan_for c e).change) (read_of e).seconds) i
        ∙ ap (λ (b : Bool). only_if (not (an_opening e)) c.meters.total + only_if b (read_of e).seconds) k
        ∙ seconds_count e (is_answered c.stand.phase) c.meters.total

first_lasted : (s : Step) (h : List Step) (b : Bool) → sum (pick b (seconds_in s.event ∷ times h) (times h)) ≡ pick b (seconds_in s.event) 0 + sum (times h)
first_lasted s h true = refl
first_lasted s h false = omega arith

pub total_after : (c : Call) (es : List Event) → none_opens (history c es) ≡ true → total_of (run c es) ≡ total_of c + answered (history c es)
total_after c [] u = omega arith
total_after c (e ∷ es) u =
    let n = step_of c e in
    let s = written c e n in
    let l : total_of n.call ≡ total_of c + lasted_in s =
    total_counts c e ∙ ap (λ (b : Bool). pick b 0 (total_of c + lasted_in s)) (first_unopening s (history n.call es) u) in
    let r = total_after n.call es (rest_unopening s (history n.call es) u) in
    let k = first_lasted s (history n.call es) (counted s) in
    omega (arith, l, r, k)

-- ---- From an opening

opens_at_0 : (r f : ℕ) (own : Number) → total_of (step_of unopened_call (Opening r f own)).call ≡ 0
opens_at_0 r f own = in-range-or-not (event_ok (Opening r f own))
  where
    in-range-or-not : (b : Bool) → total_of (if_in_range b unopened_call (Opening r f own)).call ≡ 0
    in-range-or-not true = refl
    in-range-or-not false = refl

from_opening : (r f : ℕ) (own : Number) → (es : List Event) → none_opens (history (step_of unopened_call (Opening r f own)).call es) ≡ true →
    total_of (run (step_of unopened_call (Opening r f own)).call es) ≡ answered (history (step_of unopened_call (Opening r f own)).call es)
from_opening r f own es u =
    let z = opens_at_0 r f own in
    let t = total_after (step_of unopened_call (Opening r f own)).call es u in
    omega (arith, z, t)

pub total_answered : (f : ℕ) (own : Number) → (es : List Event) → none_opens (history (opening f own).call es) ≡ true →
    total_of (run (opening f own).call es) ≡ answered (history (opening f own).call es)
total_answered = from_opening 0

pub total_there : (f : ℕ) (own : Number) → (es : List Event) → none_opens (history (opening_there f own).call es) ≡ true →
    total_of (run (opening_there f own).call es) ≡ answered (history (opening_there f own).call es)
total_there = from_opening 1

pub total_is_sum : (f : ℕ) (own : Number) → (opening f own).number ≡ 0 → (es : List Event) →
    none_opens (history (opening f own).call es) ≡ true → total_of (run (opening f own).call es) ≡ sum_of (run (opening f own).call es).meters
total_is_sum f own e es u = total_answered f own es u ∙ sym (Whole.billed f own e es u).all

-- ---- 9: which totals are a call's

-- of meters that are in order, with another total
none_before : (m : Meters) (t : ℕ) → unmetered m ≡ true → unmetered (retotalled t m) ≡ eqb t 0
none_before m t h = ap (λ (b : Bool). b && eqb t 0) (left (eqb m.caller 0 && eqb m.called 0 && eqb m.far 0) _ h)

limit_there : (m : Meters) (t : ℕ) → tallied Destination m ≡ true → tallied Destination (retotalled t m) ≡ leb t limit
limit_there m t h = ap (λ (b : Bool). b && leb t limit) (left (eqb m.caller 0) _ h)

in_place : (r : Role) (ph : Phase) (m : Meters) (t : ℕ) → metered_of r ph m ≡ true → metered_of r ph (retotalled t m) ≡ total_fits r ph (sum_of m) t
in_place r Unopened m t h = none_before m t h
in_place r Null m t h = none_before m t h
in_place r Setup m t h = none_before m t h
in_place Originating Answered m t h = refl
in_place Destination Answered m t h = limit_there m t h
in_place Originating Cleared m t h = refl
in_place Destination Cleared m t h = limit_there m t h

valid_with : (c : Call) (t : ℕ) → valid_of c ≡ true → valid_of (with_total t c) ≡ total_fits c.side.role c.stand.phase (sum_of c.meters) t
valid_with c t v =
    let g = Stays.good c v in
    let m = retotalled t c.meters in
    Stays.by_meters c.side c.stand m g.placed g.sound.within g.held
    ∙ ap (λ (b : Bool). metered_of c.side.role c.stand.phase m && b) (Stays.valid_paying c v)
    ∙ and_true (metered_of c.side.role c.stand.phase m)
    ∙ in_place c.side.role c.stand.phase c.meters t (Stays.valid_metered c v)

pub nine_by_total : (c : Call) (t : ℕ) (e : Event) → valid_of c ≡ true →
    eqb (step_of (with_total t c) e).number 9 ≡ not (total_fits c.side.role c.stand.phase (sum_of c.meters) t)
nine_by_total c t e v = Stays.nine_exactly (with_total t c) e ∙ ap not (valid_with c t v)
