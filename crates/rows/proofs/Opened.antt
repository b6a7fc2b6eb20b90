-- Demand 3 from before any opening (02 #107: "from its latest accepted opening"): events that find no call are refused first, an accepted
-- opening makes a call whatever was there before, and the latest one is the one that the bill speaks of.
-- Assumes nothing.
use mathlib.Core.Path.{◌≡◌, refl, sym, ◌∙◌, ap, subst}
use mathlib.Core.Bool.{Bool, true, false, ◌&&◌, ◌||◌, not}
use mathlib.Core.List.{List, [], ◌∷◌}
use Prim.Native.Nat.{ℕ}
use native.Mathlib.Omega.{arith}
use lib.Dec.{eqb}
use borrow.Author.Tests.{eqb-true, eqb-false, leb-true}
use Rattle.rows.specs.Bill.{pick, Step, accepted, Line, unopened, originating, destination, strange, opens, none_opens, opened_by}
use Rattle.rows.specs.Bill.{later_of, line}
use Rattle.rows.specs.History.{run, written, history}
use Rattle.rows.specs.Step.{unopened_call, if_in_range, step_of}
use Rattle.rows.specs.Valid.{event_ok}
use Rattle.rows.specs.declared.Call.{Call}
use Rattle.rows.specs.declared.Event.{Event}
use Rattle.rows.specs.declared.Event.TheVariants.{Opening, Ask, Received, FromAccess, Expiry, Time}
use Rattle.rows.specs.declared.Number.{Number}
use Rattle.rows.specs.declared.Outcome.{Outcome}
use Rattle.rows.proofs.Anew.{starts_anew, accepted_looked, accepted_free}
use Rattle.rows.proofs.Destination.{ShowsThere, shown_there}
use Rattle.rows.proofs.Truth.{both, differ, left, right}
use Rattle.rows.proofs.Whole.{Shows, Unopening, first_unopening, rest_unopening, billed}

-- ---- The latest call of a history

-- The call c is the one that an accepted opening of this role (r; 0 originating, 1 destination) with these flags (f) made of a call that was
-- never opened, after the events since: h are their steps, and no opening was accepted among them.
pub record Since (r : ℕ) (c : Call) (f : ℕ) (h : List Step) : Type 0 where
  pub own : Number
  pub events : List Event
  pub taken : (step_of unopened_call (Opening r f own)).number ≡ 0
  pub call : c ≡ run (step_of unopened_call (Opening r f own)).call events
  pub steps : h ≡ history (step_of unopened_call (Opening r f own)).call events
  pub none : none_opens h ≡ true

-- what the latest opening of a history from the call c is
abbrev Traced : Call → List Event → Line → Type 0
Traced c es unopened = none_opens (history c es) ≡ true
Traced c es (originating f h) = Since 0 (run c es) f h
Traced c es (destination f h) = Since 1 (run c es) f h
Traced c es strange = ⊥

-- what was opened later is the latest still
later : (c : Call) (e : Event) (es : List Event) (l x : Line) → Traced (step_of c e).call es l →
    (none_opens (history (step_of c e).call es) ≡ true → Traced c (e ∷ es) x) → Traced c (e ∷ es) (later_of l x)
later c e es unopened x t g = g t
later c e es (originating f h) x t g = t
later c e es (destination f h) x t g = t
later c e es strange x t g = t

module _ (c : Call) (k f : ℕ) (own : Number) (es : List Event) (i : (step_of c (Opening k f own)).number ≡ 0)
    (n : none_opens (history (step_of c (Opening k f own)).call es) ≡ true) where
  -- nothing of the call before an accepted opening is left
  begun : (r : ℕ) → k ≡ r → Since r (run (step_of c (Opening k f own)).call es) f (history (step_of c (Opening k f own)).call es)
  begun r p =
      let e : step_of c (Opening k f own) ≡ step_of unopened_call (Opening r f own) =
      (starts_anew c k f own (accepted_free c k f own i)).whole i ∙ ap (λ (j : ℕ). step_of unopened_call (Opening j f own)) p in
      record {
        own = own;
        events = es;
        taken = sym (ap (λ (a : Outcome). a.number) e) ∙ i;
        call = ap (λ (a : Outcome). run a.call es) e;
        steps = ap (λ (a : Outcome). history a.call es) e;
        none = n;
      }

  -- and it is of role 0 or of role 1
  by_role : (z o : Bool) → eqb k 0 ≡ z → eqb k 1 ≡ o →
      Traced c (Opening k f own ∷ es)
      (pick z (originating f (history (step_of c (Opening k f own)).call es))
      (pick o (destination f (history (step_of c (Opening k f own)).call es)) strange))
  by_role true o p q = begun 0 (eqb-true k 0 p)
  by_role false true p q = begun 1 (eqb-true k 1 q)
  by_role false false p q =
      omega (arith, eqb-false k 0 p, eqb-false k 1 q, leb-true k 1 (left _ _ (accepted_looked c k f own i).ranged))

-- where nothing was opened later, a step is the latest opening, or it is none
this_one : (c : Call) (e : Event) (es : List Event) → none_opens (history (step_of c e).call es) ≡ true → (b : Bool) →
    opens (written c e (step_of c e)) ≡ b → Traced c (e ∷ es) (pick b (opened_by e (history (step_of c e).call es)) unopened)
this_one c e es n false h = both (ap not h) n
this_one c (Opening k f own) es n true h =
    by_role c k f own es (eqb-true (step_of c (Opening k f own)).number 0 (left (eqb (step_of c (Opening k f own)).number 0) _ h)) n
    (eqb k 0) (eqb k 1) refl refl
this_one c (Ask q m) es n true h = differ (right (eqb (step_of c (Ask q m)).number 0) _ h)
this_one c (Received m) es n true h = differ (right (eqb (step_of c (Received m)).number 0) _ h)
this_one c (FromAccess a m) es n true h = differ (right (eqb (step_of c (FromAccess a m)).number 0) _ h)
this_one c Expiry es n true h = differ (right (eqb (step_of c Expiry).number 0) _ h)
this_one c (Time s) es n true h = differ (right (eqb (step_of c (Time s)).number 0) _ h)

traced : (c : Call) (es : List Event) → Traced c es (line (history c es))
traced c [] = refl
traced c (e ∷ es) =
    later c e es (line (history (step_of c e).call es)) _ (traced (step_of c e).call es)
    (λ n. this_one c e es n (opens (written c e (step_of c e))) refl)

-- A history is cut at its latest accepted opening, whatever call it began with.
pub latest_call : (c : Call) (es : List Event) (f : ℕ) (h : List Step) → line (history c es) ≡ originating f h → Since 0 (run c es) f h
latest_call c es f h e = subst (Traced c es) e (traced c es)

pub latest_call_there : (c : Call) (es : List Event) (f : ℕ) (h : List Step) → line (history c es) ≡ destination f h → Since 1 (run c es) f h
latest_call_there c es f h e = subst (Traced c es) e (traced c es)

-- ---- Demand 3

-- What is known of the call after a history that began before any opening: nothing has happened; or the latest accepted opening was an
-- originating one, the call is so, and its meters show the bill of the steps after it; or that opening was a destination's, the call is so,
-- and its meters show the seconds that those steps say. An accepted opening of another role does not occur.
abbrev pub Told : Call → Line → Type 0
Told c unopened = c ≡ unopened_call
Told c (originating f h) = Shows c f h
Told c (destination f h) = ShowsThere c f h
Told c strange = ⊥

-- without an accepted opening nothing has happened
refused_first : (e : Event) → Unopening e (step_of unopened_call e) → (step_of unopened_call e).call ≡ unopened_call
refused_first (Opening k f own) = in-range-or-not (event_ok (Opening k f own))
  where
    in-range-or-not : (b : Bool) → Unopening (Opening k f own) (if_in_range b unopened_call (Opening k f own)) →
        (if_in_range b unopened_call (Opening k f own)).call ≡ unopened_call
    in-range-or-not true u = differ (sym u)
    in-range-or-not false u = refl
refused_first (Ask q n) = λ u. refl
refused_first (Received m) = λ u. refl
refused_first (FromAccess k n) = λ u. refl
refused_first Expiry = λ u. refl
refused_first (Time s) = λ u. refl

nothing_yet : (es : List Event) → none_opens (history unopened_call es) ≡ true → run unopened_call es ≡ unopened_call
nothing_yet [] n = refl
nothing_yet (e ∷ es) n =
    let s = written unopened_call e (step_of unopened_call e) in
    let c = (step_of unopened_call e).call in
    let z = refused_first e (first_unopening s (history c es) n) in
    ap (λ (x : Call). run x es) z
    ∙ nothing_yet es (subst (λ (x : Call). none_opens (history x es) ≡ true) z (rest_unopening s (history c es) n))

-- what is shown of the events after an accepted opening of a role is shown of the latest call
since_shows : (r : ℕ) (Shown : Call → ℕ → List Step → Type 0) →
    ((f : ℕ) (own : Number) → (step_of unopened_call (Opening r f own)).number ≡ 0 → (es : List Event) →
    none_opens (history (step_of unopened_call (Opening r f own)).call es) ≡ true →
    Shown (run (step_of unopened_call (Opening r f own)).call es) f (history (step_of unopened_call (Opening r f own)).call es)) →
    {c : Call} {f : ℕ} {h : List Step} → Since r c f h → Shown c f h
since_shows r Shown law {c} {f} {h} s =
    subst (λ (x : Call). Shown x f h) (sym s.call)
    (subst (λ (l : List Step). Shown (run (step_of unopened_call (Opening r f s.own)).call s.events) f l) (sym s.steps)
    (law f s.own s.taken s.events (subst (λ (l : List Step). none_opens l ≡ true) s.steps s.none)))

told : (es : List Event) (l : Line) → Traced unopened_call es l → Told (run unopened_call es) l
told es unopened t = nothing_yet es t
told es (originating f h) t = since_shows 0 Shows billed t
told es (destination f h) t = since_shows 1 ShowsThere shown_there t
told es strange t = t

pub line_billed : (es : List Event) → Told (run unopened_call es) (line (history unopened_call es))
line_billed es = told es (line (history unopened_call es)) (traced unopened_call es)

-- ---- Until the first accepted opening every event is refused with 17, and an opening with 3

-- the numbers answered before the first accepted step
abbrev pub early : List Step → List ℕ
early [] = []
early (s ∷ h) = pick (accepted s) [] (s.number ∷ early h)

abbrev pub untimely_or_three : List ℕ → Bool
untimely_or_three [] = true
untimely_or_three (n ∷ ns) = (eqb n 17 || eqb n 3) && untimely_or_three ns

abbrev Early : List Event → Outcome → Type 0
Early es a = untimely_or_three (pick (eqb a.number 0) [] (a.number ∷ early (history a.call es))) ≡ true

early_opening : (es : List Event) → untimely_or_three (early (history unopened_call es)) ≡ true → (k f : ℕ) (own : Number) (b : Bool) →
    Early es (if_in_range b unopened_call (Opening k f own))
early_opening es i k f own true = refl
early_opening es i k f own false = i

early_first : (es : List Event) → untimely_or_three (early (history unopened_call es)) ≡ true → (e : Event) → Early es (step_of unopened_call e)
early_first es i (Opening k f own) = early_opening es i k f own (event_ok (Opening k f own))
early_first es i (Ask q n) = i
early_first es i (Received m) = i
early_first es i (FromAccess k n) = i
early_first es i Expiry = i
early_first es i (Time s) = i

pub early_refused : (es : List Event) → untimely_or_three (early (history unopened_call es)) ≡ true
early_refused [] = refl
early_refused (e ∷ es) = early_first es (early_refused es) e
