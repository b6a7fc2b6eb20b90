-- PHASES GO FORWARD: for every call, whatever a host hands in, and every event.
-- Assumes nothing.
use mathlib.Core.Path.{◌≡◌, refl, sym, ◌∙◌, ap, subst}
use mathlib.Core.Bool.{Bool, true, false, ◌&&◌, ◌||◌, not}
use Prim.Native.Nat.{ℕ, ◌≤◌}
use native.Mathlib.Omega.{arith}
use lib.Dec.{eqb, leb}
use borrow.Author.Tests.{leb-true}
use Rattle.std.specs.Prelude.{Option, Some}
use Rattle.rows.specs.Bill.{is_answered, is_rev, result_to}
use Rattle.rows.specs.Find.{when, originating_setup_of, destination_setup_of, row_for_of}
use Rattle.rows.specs.Perform.{stand_of}
use Rattle.rows.specs.Promises.{place_in, is_word, bare, answer_with, answers_at, Answering, runs, is_told_here, is_message, awaited_there}
use Rattle.rows.specs.declared.Component.{Component}
use Rattle.rows.specs.declared.Component.TheVariants.{Absent, Invoke, Result, Error, Reject, Unknown}
use Rattle.rows.specs.declared.Cue.{Cue}
use Rattle.rows.specs.declared.Message.{Message}
use Rattle.rows.specs.Read.{kind_by, heard_of, read_of, cue_of, terms_of}
use Rattle.rows.specs.Rows
use Rattle.rows.specs.Rows.{plan_of}
use Rattle.rows.specs.Step.{planned, is_opening, step_of}
use Rattle.rows.specs.declared.Call.{Call}
use Rattle.rows.specs.declared.Correctness.{Correctness}
use Rattle.rows.specs.declared.Correctness.TheVariants.{Correct, Incorrect}
use Rattle.rows.specs.declared.Event.{Event}
use Rattle.rows.specs.declared.Event.TheVariants.{Opening, Ask, Received, FromAccess, Expiry, Time}
use Rattle.rows.specs.declared.Kind.{Kind}
use Rattle.rows.specs.declared.Kind.TheVariants.{Opens, Asks, Iam, Answer, Rel, Fac, Tells, Expires, Passes}
use Rattle.rows.specs.declared.Outcome.{Outcome}
use Rattle.rows.specs.declared.Phase.{Phase}
use Rattle.rows.specs.declared.Phase.TheVariants.{Unopened, Null, Setup, Answered, Cleared}
use Rattle.rows.specs.declared.Plan.{Plan}
use Rattle.rows.specs.declared.RevState.{RevState}
use Rattle.rows.specs.declared.RevState.TheVariants.{Idle, WaitSetup, WaitActive, WaitAnswer, Active, WaitSetupConf, WaitActiveConf}
use Rattle.rows.specs.declared.RevState.TheVariants.{WaitCalled}
use Rattle.rows.specs.declared.Role.{Role}
use Rattle.rows.specs.declared.Role.TheVariants.{Originating, Destination}
use Rattle.rows.specs.declared.Row.{Row}
use Rattle.rows.specs.declared.Stand.{Stand}
use Rattle.rows.specs.declared.Terms.{Terms}
use Rattle.rows.proofs.Found.{implies, so, Test, holds, stepped, is_kind}
use Rattle.rows.proofs.Truth.{both, differ, either, left, or_true, right}

-- ---- Kinds of events, and the tests of the promises

abbrev pub is_opens : Kind → Bool
is_opens k = is_kind Opens k

abbrev is_answer : Kind → Bool
is_answer k = is_kind Answer k

abbrev is_tells : Kind → Bool
is_tells k = is_kind Tells k

-- no message is an opening or a word of the own access, and an ANM or CON alone is an answer
no_message : (i a r : Bool) → is_opens (kind_by i a r) ≡ false
no_message true a r = refl
no_message false true r = refl
no_message false false true = refl
no_message false false false = refl

no_word : (i a r : Bool) → is_tells (kind_by i a r) ≡ false
no_word true a r = refl
no_word false true r = refl
no_word false false true = refl
no_word false false false = refl

anm_or_con : (i a r : Bool) → is_answer (kind_by i a r) ≡ true → a ≡ true
anm_or_con true a r h = cc
anm_or_con false true r h = refl
anm_or_con false false true h = cc
anm_or_con false false false h = cc

pub opens : (e : Event) → is_opens (read_of e).kind ≡ is_opening e
opens (Opening r f n) = refl
opens (Ask q n) = refl
opens (Received m) = no_message (eqb m.kind 1) (eqb m.kind 2 || eqb m.kind 3) (eqb m.kind 4)
opens (FromAccess a n) = refl
opens Expiry = refl
opens (Time s) = refl

-- an answer's kind
is_answer_lem : (k : Kind) → is_answer k ≡ true → k ≡ Answer
is_answer_lem Opens h = cc
is_answer_lem Asks h = cc
is_answer_lem Iam h = cc
is_answer_lem Answer h = refl
is_answer_lem Rel h = cc
is_answer_lem Fac h = cc
is_answer_lem Tells h = cc
is_answer_lem Expires h = cc
is_answer_lem Passes h = cc

-- what a component says
alone_bare : (x : Component) → (heard_of x).alone ≡ true → bare x ≡ true
alone_bare (Absent n) h = refl
alone_bare (Invoke n) h = h
alone_bare (Result n) h = h
alone_bare (Error n) h = h
alone_bare (Reject n) h = h
alone_bare (Unknown c n) h = h

result_setup : (x : Component) → (heard_of x).resultsetup ≡ true → result_to 1 x ≡ true
result_setup (Absent n) h = h
result_setup (Invoke n) h = h
result_setup (Result n) h = h
result_setup (Error n) h = h
result_setup (Reject n) h = h
result_setup (Unknown c n) h = h

-- ---- NONE, NULL, SETUP, ANSWERED, CLEARED

abbrev after : Stand → Plan → Phase
after now p = (stand_of p.next now).phase

abbrev forward : Test
forward r now k p = implies (eqb p.number 0) (implies (not (is_opens k)) (leb (place_in now.phase) (place_in (after now p))))

-- No event but an opening leads to an earlier phase.
pub never_falls : (c : Call) (e : Event) → is_opening e ≡ false → place_in c.stand.phase ≤ place_in (step_of c e).call.stand.phase
never_falls c e h =
    stepped (λ (o : Outcome). place_in c.stand.phase ≤ place_in o.call.stand.phase) c e
    (λ v. omega arith) (λ n k v p q. omega arith)
    (λ n d. leb-true _ _ (so _ _ (so _ _ (holds forward (λ e t a b. refl) c e) d.row) (ap not (opens e ∙ h))))

top : (p : Phase) → 4 ≤ place_in p → p ≡ Cleared
top Unopened h = absurd (omega arith)
top Null h = absurd (omega arith)
top Setup h = absurd (omega arith)
top Answered h = absurd (omega arith)
top Cleared h = refl

-- CLEARED is left by no event but an opening.
pub cleared_stays : (c : Call) (e : Event) → is_opening e ≡ false → c.stand.phase ≡ Cleared → (step_of c e).call.stand.phase ≡ Cleared
cleared_stays c e h p = top _ (subst (λ (x : Phase). place_in x ≤ place_in (step_of c e).call.stand.phase) p (never_falls c e h))

-- ---- ANSWERED is left to CLEARED

abbrev lasting : Test
lasting r now k p = implies (eqb p.number 0) (implies (is_answered now.phase) (leb 3 (place_in (after now p))))

past_answered : (p : Phase) → 3 ≤ place_in p → is_answered p ≡ false → p ≡ Cleared
past_answered Unopened h n = absurd (omega arith)
past_answered Null h n = absurd (omega arith)
past_answered Setup h n = absurd (omega arith)
past_answered Answered h n = cc
past_answered Cleared h n = refl

-- A step by any event that leaves ANSWERED leads to CLEARED.
pub answered_left : (c : Call) (e : Event) → is_answered c.stand.phase ≡ true → is_answered (step_of c e).call.stand.phase ≡ false →
    (step_of c e).call.stand.phase ≡ Cleared
answered_left c e h =
    stepped (λ (o : Outcome). is_answered o.call.stand.phase ≡ false → o.call.stand.phase ≡ Cleared) c e
    (λ v i. cc) (λ n k v p q i. cc)
    (λ n d. past_answered _ (leb-true _ _ (so _ _ (so _ _ (holds lasting (λ e t a b. refl) c e) d.row) h)))

-- ---- ANSWERED is entered by an answer

-- by a kind of event: the places where an answer is awaited
abbrev awaited : Role → RevState → Kind → Bool
awaited Originating Idle k = is_answer k
awaited Originating WaitSetup k = is_answer k
awaited Originating WaitActive k = false
awaited Originating WaitAnswer k = is_answer k
awaited Originating Active k = false
awaited Originating WaitSetupConf k = false
awaited Originating WaitActiveConf k = false
awaited Originating WaitCalled k = false
awaited Destination Idle k = is_tells k
awaited Destination WaitSetup k = false
awaited Destination WaitActive k = false
awaited Destination WaitAnswer k = is_tells k
awaited Destination Active k = false
awaited Destination WaitSetupConf k = is_tells k
awaited Destination WaitActiveConf k = false
awaited Destination WaitCalled k = false

abbrev is_setup : Phase → Bool
is_setup p = eqb (place_in p) 2

abbrev entering : Test
entering r now k p =
    implies (eqb p.number 0)
    (implies (not (is_answered now.phase)) (implies (is_answered (after now p)) (is_setup now.phase && awaited r now.rev k)))

-- where a table's first test alone leads to g, it passed
only : (g : Option Row → Bool) (b : Bool) (x : Row) (y : Option Row) → g y ≡ false → g (when b x y) ≡ true → b ≡ true
only g true x y h e = refl
only g false x y h e = sym h ∙ e

neither : (g : Option Row → Bool) (b : Bool) (x : Row) (y : Option Row) → g (Some x) ≡ false → g y ≡ false → g (when b x y) ≡ false
neither g true x y p q = p
neither g false x y p q = q

module _ (t : Terms) (a b : Bool) where
  -- the row leads from SETUP to ANSWERED
  abbrev leads : RevState → Option Row → Bool
  leads s x = is_answered (after (record { phase = Setup; rev = s; agreed = a; rest = b }) (planned x t))

  -- the own access's word k, where no other event leads there
  by_word : (k : ℕ) (s : RevState) →
      ((w n : ℕ) → leads s (destination_setup_of s (cue_of (read_of (FromAccess w n)))) ≡ true → eqb w k ≡ true) →
      (e : Event) → is_tells (read_of e).kind ≡ true → leads s (destination_setup_of s (cue_of (read_of e))) ≡ true → is_word k e ≡ true
  by_word k s f (Opening r g n) h l = h
  by_word k s f (Ask q n) h l = h
  by_word k s f (Received m) h l =
      sym (no_word (eqb m.kind 1) (eqb m.kind 2 || eqb m.kind 3) (eqb m.kind 4)) ∙ h
  by_word k s f (FromAccess w n) h l = f w n l
  by_word k s f Expiry h l = h
  by_word k s f (Time x) h l = h

  -- a refusal leads elsewhere, whatever its error
  refused : (k : Correctness) (x y : ℕ) →
      is_answered (after (record { phase = Setup; rev = WaitSetupConf; agreed = a; rest = b }) (Rows.setup_refused k x y)) ≡ false
  refused Correct x y = refl
  refused Incorrect x y = refl

  -- a message as the tables see it, with another kind
  abbrev as_kind : Message → Kind → Cue
  as_kind m k =
      record {
        kind = k;
        asked = (cue_of (read_of (Received m))).asked;
        heard = heard_of m.component;
        told = (cue_of (read_of (Received m))).told;
      }

  -- an ANM or CON with such a component, where no other event leads there
  by_anm : (f : Component → Bool) (s : RevState) →
      ((m : Message) → leads s (originating_setup_of s (as_kind m Answer)) ≡ true → f m.component ≡ true) →
      (e : Event) → is_answer (read_of e).kind ≡ true → leads s (originating_setup_of s (cue_of (read_of e))) ≡ true → answer_with f e ≡ true
  by_anm f s g (Opening r x n) h l = h
  by_anm f s g (Ask q n) h l = h
  by_anm f s g (Received m) h l =
      both (anm_or_con (eqb m.kind 1) (eqb m.kind 2 || eqb m.kind 3) (eqb m.kind 4) h)
      (g m (subst (λ (k : Kind). leads s (originating_setup_of s (as_kind m k)) ≡ true) (is_answer_lem _ h) l))
  by_anm f s g (FromAccess a n) h l = h
  by_anm f s g Expiry h l = h
  by_anm f s g (Time x) h l = h

  by_answer : (r : Role) (s : RevState) (e : Event) → awaited r s (read_of e).kind ≡ true →
      leads s (row_for_of r Setup s (cue_of (read_of e))) ≡ true → answers_at r s e ≡ true
  by_answer Originating Idle e h l = by_anm bare Idle (λ m k. alone_bare m.component (only (leads Idle) _ _ _ refl k)) e h l
  by_answer Originating WaitSetup e h l =
      by_anm (result_to 1) WaitSetup
      (λ m k. result_setup m.component (only (leads WaitSetup) _ _ _ (neither (leads WaitSetup) (heard_of m.component).alone _ _ refl refl) k)) e h l
  by_answer Originating WaitActive e h l = h
  by_answer Originating WaitAnswer e h l = by_anm bare WaitAnswer (λ m k. alone_bare m.component (only (leads WaitAnswer) _ _ _ refl k)) e h l
  by_answer Originating Active e h l = h
  by_answer Originating WaitSetupConf e h l = h
  by_answer Originating WaitActiveConf e h l = h
  by_answer Originating WaitCalled e h l = h
  by_answer Destination Idle e h l =
      by_word 5 Idle (λ w n. only (leads Idle) (eqb w 5) _ _ (neither (leads Idle) (eqb w 4) _ _ refl refl)) e h l
  by_answer Destination WaitSetup e h l = h
  by_answer Destination WaitActive e h l = h
  by_answer Destination WaitAnswer e h l =
      by_word 5 WaitAnswer (λ w n. only (leads WaitAnswer) (eqb w 5) _ _ (neither (leads WaitAnswer) (eqb w 4) _ _ refl refl)) e h l
  by_answer Destination Active e h l = h
  by_answer Destination WaitSetupConf e h l =
      by_word 1 WaitSetupConf
      (λ w n. only (leads WaitSetupConf) (eqb w 1) _ _
      (neither (leads WaitSetupConf) (eqb w 2) _ _ (refused t.correct t.error t.cause)
      (neither (leads WaitSetupConf) (eqb w 3) _ _ refl
      (neither (leads WaitSetupConf) (eqb w 4) _ _ refl (neither (leads WaitSetupConf) (eqb w 5) _ _ refl refl)))))
      e h l
  by_answer Destination WaitActiveConf e h l = h
  by_answer Destination WaitCalled e h l = h

in_setup : (p : Phase) → is_setup p ≡ true → p ≡ Setup
in_setup Unopened h = cc
in_setup Null h = cc
in_setup Setup h = refl
in_setup Answered h = cc
in_setup Cleared h = cc

-- A step that leads to ANSWERED from another phase is an accepted answer to a call in SETUP.
pub answered_entered : (c : Call) (e : Event) → is_answered c.stand.phase ≡ false → is_answered (step_of c e).call.stand.phase ≡ true →
    Answering c e (step_of c e)
answered_entered c e h =
    stepped (λ (o : Outcome). is_answered o.call.stand.phase ≡ true → Answering c e o) c e
    (λ v l. differ (sym h ∙ l)) (λ n k v p q l. differ (sym h ∙ l))
    (λ n d l.
    let k = so _ _ (so _ _ (so _ _ (holds entering (λ e t a b. refl) c e) d.row) (ap not h)) l in
    let p = in_setup c.stand.phase (left (is_setup c.stand.phase) _ k) in
    record {
      number = refl;
      phase = p;
      event =
          by_answer (terms_of c.side.flags c.stand (read_of e)) c.stand.agreed c.stand.rest c.side.role c.stand.rev e
          (right (is_setup c.stand.phase) _ k)
          (subst
          (λ (x : Phase). is_answered (after (record { phase = x; rev = c.stand.rev; agreed = c.stand.agreed; rest = c.stand.rest })
          (planned (row_for_of c.side.role x c.stand.rev (cue_of (read_of e))) (terms_of c.side.flags c.stand (read_of e)))) ≡ true)
          p l);
    })

-- ---- ACTIVE is left by clearing alone

abbrev runs_on : Test
runs_on r now k p =
    implies (eqb p.number 0) (implies (runs now) (implies (is_answered (after now p)) (is_rev Active (stand_of p.next now).rev)))

pub active_stays : (c : Call) (e : Event) → runs c.stand ≡ true → is_answered (step_of c e).call.stand.phase ≡ true →
    is_rev Active (step_of c e).call.stand.rev ≡ true
active_stays c e h =
    stepped (λ (o : Outcome). is_answered o.call.stand.phase ≡ true → is_rev Active o.call.stand.rev ≡ true) c e
    (λ v l. right (is_answered c.stand.phase) _ h) (λ n k v p q l. right (is_answered c.stand.phase) _ h)
    (λ n d l. so _ _ (so _ _ (so _ _ (holds runs_on (λ e t a b. refl) c e) d.row) h) l)

-- ---- ACTIVE is entered at a destination by what it waits for

abbrev is_fac : Kind → Bool
is_fac k = is_kind Fac k

-- the same by the kind of the event
abbrev ends_wait : Role → Phase → RevState → Kind → Bool
ends_wait Originating p s k = true
ends_wait Destination Unopened s k = false
ends_wait Destination Null s k = false
ends_wait Destination Setup s k = (is_rev WaitSetupConf s || is_rev WaitAnswer s) && is_tells k
ends_wait Destination Answered s k = (is_rev WaitActiveConf s && is_tells k) || (is_rev WaitCalled s && is_fac k)
ends_wait Destination Cleared s k = false

abbrev activating : Test
activating r now k p =
    implies (eqb p.number 0)
    (implies (not (is_rev Active now.rev)) (implies (is_rev Active (stand_of p.next now).rev) (ends_wait r now.phase now.rev k)))

told_here : (e : Event) → is_tells (read_of e).kind ≡ is_told_here e
told_here (Opening r f n) = refl
told_here (Ask q n) = refl
told_here (Received m) = no_word (eqb m.kind 1) (eqb m.kind 2 || eqb m.kind 3) (eqb m.kind 4)
told_here (FromAccess a n) = refl
told_here Expiry = refl
told_here (Time s) = refl

by_message : (e : Event) → is_fac (read_of e).kind ≡ true → is_message e ≡ true
by_message (Opening r f n) h = h
by_message (Ask q n) h = h
by_message (Received m) h = refl
by_message (FromAccess a n) h = h
by_message Expiry h = h
by_message (Time s) h = h

waited : (p : Phase) (s : RevState) (e : Event) → ends_wait Destination p s (read_of e).kind ≡ true → awaited_there p s e ≡ true
waited Unopened s e h = h
waited Null s e h = h
waited Setup s e h = ap (λ (b : Bool). (is_rev WaitSetupConf s || is_rev WaitAnswer s) && b) (sym (told_here e)) ∙ h
waited Answered s e h =
    either (is_rev WaitActiveConf s && is_tells (read_of e).kind) (is_rev WaitCalled s && is_fac (read_of e).kind) h
    (λ i. ap (λ (b : Bool). b || (is_rev WaitCalled s && is_message e)) (ap (λ (b : Bool). is_rev WaitActiveConf s && b) (sym (told_here e)) ∙ i))
    (λ i. or_true (is_rev WaitActiveConf s && is_told_here e) _ (both (left (is_rev WaitCalled s) _ i) (by_message e (right (is_rev WaitCalled s) _ i))))
waited Cleared s e h = h

pub active_entered_there : (c : Call) (e : Event) → c.side.role ≡ Destination → is_rev Active c.stand.rev ≡ false →
    is_rev Active (step_of c e).call.stand.rev ≡ true → awaited_there c.stand.phase c.stand.rev e ≡ true
active_entered_there c e r n =
    stepped (λ (o : Outcome). is_rev Active o.call.stand.rev ≡ true → awaited_there c.stand.phase c.stand.rev e ≡ true) c e
    (λ v a. differ (sym n ∙ a)) (λ k x v p q a. differ (sym n ∙ a))
    (λ m d a. waited c.stand.phase c.stand.rev e
    (ap (λ (x : Role). ends_wait x c.stand.phase c.stand.rev (read_of e).kind) (sym r)
    ∙ so _ _ (so _ _ (so _ _ (holds activating (λ e' t x y. refl) c e) d.row) (ap not n)) a))
