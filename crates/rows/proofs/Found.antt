-- A property of every step by one test that antt computes: the test is tried on every row that a place of the tables may find
-- (Find.antt) and on every plan that a row may make (Rows.antt), at every role, phase and REV state.
-- A test that holds there holds of the plan for any event and any terms.
-- Assumes nothing.
use mathlib.Core.Path.{◌≡◌, refl}
use mathlib.Core.Bool.{Bool, true, false, ◌&&◌, ◌||◌, not}
use Prim.Native.Nat.{ℕ}
use lib.Dec.{eqb}
use borrow.Author.Tests.{not-true}
use Rattle.std.specs.Prelude.{Option, Some, None}
use Rattle.meters.specs.Meters.{change_of}
use Rattle.meters.specs.declared.Meters.{Meters}
use Rattle.rows.specs.Find.{when, vacant_of, originating_null_of, originating_setup_idle_of, wait_setup_of, originating_wait_answer_of}
use Rattle.rows.specs.Find.{originating_answered_idle_of, wait_active_of, active_of, destination_null_of, destination_setup_idle_of}
use Rattle.rows.specs.Find.{wait_setup_conf_of, setup_wait_called_of, destination_wait_answer_of, destination_answered_idle_of, wait_active_conf_of}
use Rattle.rows.specs.Find.{answered_wait_called_of, row_for_of}
use Rattle.rows.specs.Perform.{refused_at, refused_of, follows_of, perform_if}
use Rattle.rows.specs.Read.{read_of, cue_of, terms_of}
use Rattle.rows.specs.Rows
use Rattle.rows.specs.Rows.{plan_of}
use Rattle.rows.specs.Step.{planned, is_opening, if_call, step_of}
use Rattle.rows.specs.Valid.{placed_of, valid_of, event_ok}
use Rattle.rows.specs.Why.{is_row}
use Rattle.rows.specs.declared.Call.{Call}
use Rattle.rows.specs.declared.Correctness.{Correctness}
use Rattle.rows.specs.declared.Correctness.TheVariants.{Correct, Incorrect}
use Rattle.rows.specs.declared.Cue.{Cue}
use Rattle.rows.specs.declared.Event.{Event}
use Rattle.rows.specs.declared.Extent.{Extent}
use Rattle.rows.specs.declared.Extent.TheVariants.{Rest, Entire}
use Rattle.rows.specs.declared.Interaction.{Interaction}
use Rattle.rows.specs.declared.Interaction.TheVariants.{Allowed, NotAllowed}
use Rattle.rows.specs.declared.Judged.{Judged}
use Rattle.rows.specs.declared.Judged.TheVariants.{Passed, NotSubscribed, InteractionNotAllowed}
use Rattle.rows.specs.declared.Kind.{Kind}
use Rattle.rows.specs.declared.Kind.TheVariants.{Opens, Asks, Iam, Answer, Rel, Fac, Tells, Expires, Passes}
use Rattle.rows.specs.declared.Mode.{Mode}
use Rattle.rows.specs.declared.Mode.TheVariants.{NoTransfer, Transfer}
use Rattle.rows.specs.declared.Outcome.{Outcome}
use Rattle.rows.specs.declared.Phase.{Phase}
use Rattle.rows.specs.declared.Phase.TheVariants.{Unopened, Null, Setup, Answered, Cleared}
use Rattle.rows.specs.declared.Plan.{Plan}
use Rattle.rows.specs.declared.RevState.{RevState}
use Rattle.rows.specs.declared.RevState.TheVariants.{Idle, WaitSetup, WaitActive, WaitAnswer, Active, WaitSetupConf, WaitActiveConf}
use Rattle.rows.specs.declared.RevState.TheVariants.{WaitCalled}
use Rattle.rows.specs.declared.Role.{Role}
use Rattle.rows.specs.declared.Role.TheVariants.{Originating, Destination}
use Rattle.rows.specs.declared.Row.{Row}
use Rattle.rows.specs.declared.Row.TheVariants.{Opened, TimeInSetup, TimeCounts, ClearedHere, Released, RunningHere}
use Rattle.rows.specs.declared.Row.TheVariants.{RunningThere, BasicRequest, AskSetup, BasicAnswer, UnconditionalAsked, SetupAccepted}
use Rattle.rows.specs.declared.Row.TheVariants.{SetupError, SetupReleased, SetupFailed, UnconditionalAnswered, AskActive}
use Rattle.rows.specs.declared.Row.TheVariants.{CalledAsked, ActiveAccepted, WaitError, WaitFailed, WaitReleased, PlainIam}
use Rattle.rows.specs.declared.Row.TheVariants.{SetupAsked, AnsweredHere, SetupConfirmed, SetupRefused, SetupRejected, SetupIgnored}
use Rattle.rows.specs.declared.Row.TheVariants.{SetupExpired, UnconditionalAccepted, UnconditionalFailed, UnconditionalConnected}
use Rattle.rows.specs.declared.Row.TheVariants.{ActiveAsked, AskPartial, AskEntire, ActiveConfirmed, ActiveRefused, ActiveRejected}
use Rattle.rows.specs.declared.Row.TheVariants.{ActiveIgnored, ActiveCleared, CalledAccepted}
use Rattle.rows.specs.declared.Service.{Service}
use Rattle.rows.specs.declared.Service.TheVariants.{OnRequest, Unconditional}
use Rattle.rows.specs.declared.Stand.{Stand}
use Rattle.rows.specs.declared.Terms.{Terms}
use Rattle.rows.proofs.Answers.{plan_for, performed, settled, Refusing, if_timely_lem}
use Rattle.rows.proofs.Truth.{left, right}

-- if a, then b
abbrev pub implies : Bool → Bool → Bool
implies true b = b
implies false b = true

pub so : (a b : Bool) → implies a b ≡ true → a ≡ true → b ≡ true
so true b h e = h
so false b h e = cc

-- a row that a test of the tables chooses; with the test in what is said of it
pub split : (P : Option Row → Type 0) (b : Bool) (x : Row) (y : Option Row) → P (Some x) → P y → P (when b x y)
split P true x y p q = p
split P false x y p q = q

pub fork : (P : Bool → Option Row → Type 0) (b : Bool) (x : Row) (y : Option Row) → P true (Some x) → P false y → P b (when b x y)
fork P true x y p q = p
fork P false x y p q = q

-- ---- A test tried on all values of which x is one

pub record Tried {A : Type 0} (g : A → Bool) (x : A) : Type 0 where
  pub test : Bool
  pub law : test ≡ true → g x ≡ true

abbrev one : {A : Type 0} {g : A → Bool} {x : A} → Tried g x
one {A} {g} {x} = record { test = g x; law = λ h. h }

pub branch : (g : Option Row → Bool) (b : Bool) (x : Row) (y : Option Row) (v w : Bool) → (v ≡ true → g (Some x) ≡ true) → (w ≡ true → g y ≡ true) →
    (v && w) ≡ true → g (when b x y) ≡ true
branch g b x y v w p q h = split (λ (z : Option Row). g z ≡ true) b x y (p (left v w h)) (q (right v w h))

abbrev either : {g : Option Row → Bool} {x : Row} {y : Option Row} (b : Bool) → Tried g (Some x) → Tried g y → Tried g (when b x y)
either {g} {x} {y} b p q = record { test = p.test && q.test; law = branch g b x y p.test q.test p.law q.law }

-- a word with few values, and a test tried on all of them
pub record Words (W : Type 0) : Type 0 where
  pub every : (W → Bool) → Bool
  pub sure : (h : W → Bool) → every h ≡ true → (w : W) → h w ≡ true

pub sure_booleans : (h : Bool → Bool) → (h true && h false) ≡ true → (w : Bool) → h w ≡ true
sure_booleans h e true = left (h true) (h false) e
sure_booleans h e false = right (h true) (h false) e

abbrev booleans : Words Bool
booleans = record { every = λ h. h true && h false; sure = sure_booleans }

pub sure_interactions : (h : Interaction → Bool) → (h Allowed && h NotAllowed) ≡ true → (w : Interaction) → h w ≡ true
sure_interactions h e Allowed = left (h Allowed) (h NotAllowed) e
sure_interactions h e NotAllowed = right (h Allowed) (h NotAllowed) e

abbrev interactions : Words Interaction
interactions = record { every = λ h. h Allowed && h NotAllowed; sure = sure_interactions }

pub sure_judgements : (h : Judged → Bool) → (h Passed && (h NotSubscribed && h InteractionNotAllowed)) ≡ true → (w : Judged) → h w ≡ true
sure_judgements h e Passed = left (h Passed) _ e
sure_judgements h e NotSubscribed = left (h NotSubscribed) _ (right (h Passed) _ e)
sure_judgements h e InteractionNotAllowed = right (h NotSubscribed) _ (right (h Passed) _ e)

abbrev judgements : Words Judged
judgements = record { every = λ h. h Passed && (h NotSubscribed && h InteractionNotAllowed); sure = sure_judgements }

pub sure_modes : (h : Mode → Bool) → (h NoTransfer && h Transfer) ≡ true → (w : Mode) → h w ≡ true
sure_modes h e NoTransfer = left (h NoTransfer) (h Transfer) e
sure_modes h e Transfer = right (h NoTransfer) (h Transfer) e

abbrev modes : Words Mode
modes = record { every = λ h. h NoTransfer && h Transfer; sure = sure_modes }

pub sure_extents : (h : Extent → Bool) → (h Rest && h Entire) ≡ true → (w : Extent) → h w ≡ true
sure_extents h e Rest = left (h Rest) (h Entire) e
sure_extents h e Entire = right (h Rest) (h Entire) e

abbrev extents : Words Extent
extents = record { every = λ h. h Rest && h Entire; sure = sure_extents }

pub sure_services : (h : Service → Bool) → (h OnRequest && h Unconditional) ≡ true → (w : Service) → h w ≡ true
sure_services h e OnRequest = left (h OnRequest) (h Unconditional) e
sure_services h e Unconditional = right (h OnRequest) (h Unconditional) e

abbrev services : Words Service
services = record { every = λ h. h OnRequest && h Unconditional; sure = sure_services }

pub sure_corrections : (h : Correctness → Bool) → (h Correct && h Incorrect) ≡ true → (w : Correctness) → h w ≡ true
sure_corrections h e Correct = left (h Correct) (h Incorrect) e
sure_corrections h e Incorrect = right (h Correct) (h Incorrect) e

abbrev corrections : Words Correctness
corrections = record { every = λ h. h Correct && h Incorrect; sure = sure_corrections }

-- a plan that turns on a word, and perhaps on others behind it
abbrev by : {W : Type 0} {g : Plan → Bool} (ws : Words W) (p : W → Plan) → ((w : W) → Tried g (p w)) → (w : W) → Tried g (p w)
by ws p t w = record { test = ws.every (λ x. (t x).test); law = λ h. (t w).law (ws.sure (λ x. (t x).test) h w) }

abbrev by_1 : {A : Type 0} {g : Plan → Bool} (as-a : Words A) (p : A → Plan) (a : A) → Tried g (p a)
by_1 as-a p a = by as-a p (λ x. one) a

abbrev by_2 : {A B : Type 0} {g : Plan → Bool} (as-a : Words A) (as-b : Words B) (p : A → B → Plan) (a : A) (b : B) → Tried g (p a b)
by_2 as-a as-b p a b = by as-a (λ x. p x b) (λ x. by_1 as-b (p x) b) a

abbrev by_3 : {A B C : Type 0} {g : Plan → Bool} (as-a : Words A) (as-b : Words B) (as-c : Words C) (p : A → B → C → Plan)
    (a : A) (b : B) (c : C) → Tried g (p a b c)
by_3 as-a as-b as-c p a b c = by as-a (λ x. p x b c) (λ x. by_2 as-b as-c (p x) b c) a

abbrev by_4 : {A B C D : Type 0} {g : Plan → Bool} (as-a : Words A) (as-b : Words B) (as-c : Words C) (as-d : Words D) (p : A → B → C → D → Plan)
    (a : A) (b : B) (c : C) (d : D) → Tried g (p a b c d)
by_4 as-a as-b as-c as-d p a b c d = by as-a (λ x. p x b c d) (λ x. by_3 as-b as-c as-d (p x) b c d) a

-- ---- Every plan of a row

abbrev pub plans : (g : Plan → Bool) (t : Terms) (x : Row) → Tried g (plan_of x t)
plans g t Opened = one
plans g t TimeInSetup = one
plans g t TimeCounts = one
plans g t ClearedHere = one
plans g t Released = one
plans g t RunningHere = one
plans g t RunningThere = one
plans g t BasicRequest = one
plans g t AskSetup = by_2 interactions modes Rows.ask_setup t.interaction t.mode
plans g t BasicAnswer = one
plans g t UnconditionalAsked = by_3 interactions modes booleans Rows.unconditional_asked t.interaction t.taken t.called
plans g t SetupAccepted = by_1 modes Rows.accepted_at_answer t.accepted
plans g t SetupError = by_1 corrections (λ k. Rows.setup_error k t.error t.cause) t.correct
plans g t SetupReleased = one
plans g t SetupFailed = one
plans g t UnconditionalAnswered = by_1 modes Rows.accepted_at_answer t.agreed
plans g t AskActive = by_2 interactions modes Rows.ask_active t.interaction t.mode
plans g t CalledAsked = by_4 interactions extents modes booleans Rows.called_asked t.interaction t.extent t.taken t.called
plans g t ActiveAccepted = by_1 modes Rows.accepted_in_call t.accepted
plans g t WaitError = by_1 corrections (λ k. Rows.wait_error k t.error) t.correct
plans g t WaitFailed = one
plans g t WaitReleased = one
plans g t PlainIam = by_3 services interactions modes Rows.plain_iam t.service t.interaction t.mode
plans g t SetupAsked = by_3 judgements modes booleans Rows.setup_asked t.judged t.taken t.calling
plans g t AnsweredHere = one
plans g t SetupConfirmed = by_1 modes Rows.setup_confirmed t.agreed
plans g t SetupRefused = by_1 corrections (λ k. Rows.setup_refused k t.error t.cause) t.correct
plans g t SetupRejected = one
plans g t SetupIgnored = one
plans g t SetupExpired = one
plans g t UnconditionalAccepted = by_2 modes booleans Rows.unconditional_accepted t.accepted t.calling
plans g t UnconditionalFailed = one
plans g t UnconditionalConnected = by_1 modes Rows.unconditional_connected t.agreed
plans g t ActiveAsked = by_3 judgements modes booleans Rows.active_asked t.judged t.taken t.calling
plans g t AskPartial = by_2 judgements modes (λ j. Rows.ask_called j Rest) t.judged t.mode
plans g t AskEntire = by_2 judgements modes (λ j. Rows.ask_called j Entire) t.judged t.mode
plans g t ActiveConfirmed = by_1 modes Rows.active_confirmed t.agreed
plans g t ActiveRefused = by_1 corrections (λ k. Rows.active_refused k t.error) t.correct
plans g t ActiveRejected = one
plans g t ActiveIgnored = one
plans g t ActiveCleared = one
plans g t CalledAccepted = by_4 extents modes booleans booleans Rows.called_accepted t.asked t.accepted t.calling t.duration

-- and where there may be no row
abbrev pub found_plans : (g : Plan → Bool) (t : Terms) (x : Option Row) → Tried g (planned x t)
found_plans g t (Some row) = plans g t row
found_plans g t None = one

-- ---- Every row of a place

pub record Place (g : Kind → Option Row → Bool) (t : Kind → Option Row) : Type 0 where
  pub test : Bool
  pub law : test ≡ true → (k : Kind) → g k (t k) ≡ true

pub kinds : (h : Kind → Bool) →
    (h Opens && (h Asks && (h Iam && (h Answer && (h Rel && (h Fac && (h Tells && (h Expires && h Passes)))))))) ≡ true →
    (k : Kind) → h k ≡ true
kinds h e Opens = left (h Opens) _ e
kinds h e Asks = left (h Asks) _ (right (h Opens) _ e)
kinds h e Iam = left (h Iam) _ (right (h Asks) _ (right (h Opens) _ e))
kinds h e Answer = left (h Answer) _ (right (h Iam) _ (right (h Asks) _ (right (h Opens) _ e)))
kinds h e Rel = left (h Rel) _ (right (h Answer) _ (right (h Iam) _ (right (h Asks) _ (right (h Opens) _ e))))
kinds h e Fac = left (h Fac) _ (right (h Rel) _ (right (h Answer) _ (right (h Iam) _ (right (h Asks) _ (right (h Opens) _ e)))))
kinds h e Tells = left (h Tells) _ (right (h Fac) _ (right (h Rel) _ (right (h Answer) _ (right (h Iam) _
    (right (h Asks) _ (right (h Opens) _ e))))))
kinds h e Expires = left (h Expires) _ (right (h Tells) _ (right (h Fac) _ (right (h Rel) _ (right (h Answer) _
    (right (h Iam) _ (right (h Asks) _ (right (h Opens) _ e)))))))
kinds h e Passes = right (h Expires) _ (right (h Tells) _ (right (h Fac) _ (right (h Rel) _ (right (h Answer) _
    (right (h Iam) _ (right (h Asks) _ (right (h Opens) _ e)))))))

module _ (g : Kind → Option Row → Bool) (t : Kind → Option Row) (o : Tried (g Opens) (t Opens)) (a : Tried (g Asks) (t Asks)) (i : Tried (g Iam) (t Iam))
    (w : Tried (g Answer) (t Answer)) (r : Tried (g Rel) (t Rel)) (f : Tried (g Fac) (t Fac)) (d : Tried (g Tells) (t Tells))
    (x : Tried (g Expires) (t Expires)) (p : Tried (g Passes) (t Passes)) where
  -- by the kind of an event
  abbrev cell : (k : Kind) → Tried (g k) (t k)
  cell Opens = o
  cell Asks = a
  cell Iam = i
  cell Answer = w
  cell Rel = r
  cell Fac = f
  cell Tells = d
  cell Expires = x
  cell Passes = p

  abbrev table : Place g t
  table =
      record {
        test =
            o.test && (a.test && (i.test && (w.test && (r.test && (f.test && (d.test && (x.test && p.test)))))));
        law = λ h k. (cell k).law (kinds (λ k'. (cell k').test) h k);
      }

module _ (g : Kind → Option Row → Bool) (e : Cue) where
  abbrev vacant : Place g (λ (k : Kind). vacant_of k e)
  vacant =
      table g (λ k. vacant_of k e) one one one one one one one one one

  abbrev originating_null : Place g (λ (k : Kind). originating_null_of k e)
  originating_null =
      table g (λ k. originating_null_of k e) one (either e.asked.basic one (either e.asked.casea one one)) one one one one one one
      one

  abbrev originating_setup_idle : Place g (λ (k : Kind). originating_setup_idle_of k e)
  originating_setup_idle =
      table g (λ k. originating_setup_idle_of k e) one one one (either e.heard.alone one one) one
      (either e.heard.invokecalled one one) (either e.told.clears one one) one one

  abbrev wait_setup : Place g (λ (k : Kind). wait_setup_of k e)
  wait_setup =
      table g (λ k. wait_setup_of k e) one one one (either e.heard.resultsetup one (either e.heard.alone one one))
      (either e.heard.failure one (either e.heard.rejection one (either e.heard.alone one one))) one
      (either e.told.clears one one) one one

  abbrev originating_wait_answer : Place g (λ (k : Kind). originating_wait_answer_of k e)
  originating_wait_answer =
      table g (λ k. originating_wait_answer_of k e) one one one (either e.heard.alone one one) one one (either e.told.clears one one)
      one one

  abbrev originating_answered_idle : Place g (λ (k : Kind). originating_answered_idle_of k e)
  originating_answered_idle =
      table g (λ k. originating_answered_idle_of k e) one (either e.asked.caseb one one) one one one
      (either e.heard.invokecalled one one) (either e.told.clears one one) one one

  abbrev wait_active : Place g (λ (k : Kind). wait_active_of k e)
  wait_active =
      table g (λ k. wait_active_of k e) one (either e.asked.reversal one one) one one one
      (either e.heard.invoke one (either e.heard.resultactive one (either e.heard.failure one
      (either e.heard.rejection one (either e.heard.alone one one))))) (either e.told.clears one one) one one

  abbrev active : Place g (λ (k : Kind). active_of k e)
  active =
      table g (λ k. active_of k e) one (either e.asked.reversal one one) one one one (either e.heard.invoke one one)
      (either e.told.clears one one) one one

  abbrev destination_null : Place g (λ (k : Kind). destination_null_of k e)
  destination_null =
      table g (λ k. destination_null_of k e) one one (either e.heard.alone one (either e.heard.invokesetup one one)) one one one one
      one one

  abbrev destination_setup_idle : Place g (λ (k : Kind). destination_setup_idle_of k e)
  destination_setup_idle =
      table g (λ k. destination_setup_idle_of k e) one one one one one one (either e.told.answers one (either e.told.clears one one))
      one one

  abbrev wait_setup_conf : Place g (λ (k : Kind). wait_setup_conf_of k e)
  wait_setup_conf =
      table g (λ k. wait_setup_conf_of k e) one one one one one one
      (either e.told.accepts one (either e.told.refuses one (either e.told.rejects one (either e.told.clears one
      (either e.told.answers one one))))) one one

  abbrev setup_wait_called : Place g (λ (k : Kind). setup_wait_called_of k e)
  setup_wait_called =
      table g (λ k. setup_wait_called_of k e) one (either e.asked.reversal one one) one one one
      (either e.heard.invoke one (either e.heard.resultcalled one (either e.heard.failure one
      (either e.heard.rejection one one)))) (either e.told.clears one one) one one

  abbrev destination_wait_answer : Place g (λ (k : Kind). destination_wait_answer_of k e)
  destination_wait_answer =
      table g (λ k. destination_wait_answer_of k e) one one one one one one
      (either e.told.answers one (either e.told.clears one one)) one one

  abbrev destination_answered_idle : Place g (λ (k : Kind). destination_answered_idle_of k e)
  destination_answered_idle =
      table g (λ k. destination_answered_idle_of k e) one (either e.asked.caseb one (either e.asked.casec one one)) one one one
      (either e.heard.invokeactive one one) (either e.told.clears one one) one one

  abbrev wait_active_conf : Place g (λ (k : Kind). wait_active_conf_of k e)
  wait_active_conf =
      table g (λ k. wait_active_conf_of k e) one (either e.asked.reversal one one) one one one (either e.heard.invoke one one)
      (either e.told.accepts one (either e.told.refuses one (either e.told.rejects one (either e.told.clears one one))))
      one one

  abbrev answered_wait_called : Place g (λ (k : Kind). answered_wait_called_of k e)
  answered_wait_called =
      table g (λ k. answered_wait_called_of k e) one (either e.asked.reversal one one) one one one
      (either e.heard.invoke one (either e.heard.resultcalled one (either e.heard.failure one
      (either e.heard.rejection one one)))) (either e.told.clears one one) one one

  abbrev here : {t : Kind → Option Row} → Place g t → Tried (g e.kind) (t e.kind)
  here p = record { test = p.test; law = λ h. p.law h e.kind }

  abbrev walk : (r : Role) (p : Phase) (s : RevState) → Tried (g e.kind) (row_for_of r p s e)
  walk Originating Unopened s = here vacant
  walk Originating Null s = here originating_null
  walk Originating Setup Idle = here originating_setup_idle
  walk Originating Setup WaitSetup = here wait_setup
  walk Originating Setup WaitActive = one
  walk Originating Setup WaitAnswer = here originating_wait_answer
  walk Originating Setup Active = one
  walk Originating Setup WaitSetupConf = one
  walk Originating Setup WaitActiveConf = one
  walk Originating Setup WaitCalled = one
  walk Originating Answered Idle = here originating_answered_idle
  walk Originating Answered WaitSetup = one
  walk Originating Answered WaitActive = here wait_active
  walk Originating Answered WaitAnswer = one
  walk Originating Answered Active = here active
  walk Originating Answered WaitSetupConf = one
  walk Originating Answered WaitActiveConf = one
  walk Originating Answered WaitCalled = one
  walk Originating Cleared s = here vacant
  walk Destination Unopened s = here vacant
  walk Destination Null s = here destination_null
  walk Destination Setup Idle = here destination_setup_idle
  walk Destination Setup WaitSetup = one
  walk Destination Setup WaitActive = one
  walk Destination Setup WaitAnswer = here destination_wait_answer
  walk Destination Setup Active = one
  walk Destination Setup WaitSetupConf = here wait_setup_conf
  walk Destination Setup WaitActiveConf = one
  walk Destination Setup WaitCalled = here setup_wait_called
  walk Destination Answered Idle = here destination_answered_idle
  walk Destination Answered WaitSetup = one
  walk Destination Answered WaitActive = one
  walk Destination Answered WaitAnswer = one
  walk Destination Answered Active = here active
  walk Destination Answered WaitSetupConf = one
  walk Destination Answered WaitActiveConf = here wait_active_conf
  walk Destination Answered WaitCalled = here answered_wait_called
  walk Destination Cleared s = here vacant

-- ---- Every role, phase and REV state

abbrev every_role : (Role → Bool) → Bool
every_role h = h Originating && h Destination

abbrev every_phase : (Phase → Bool) → Bool
every_phase h = h Unopened && (h Null && (h Setup && (h Answered && h Cleared)))

abbrev every_rev : (RevState → Bool) → Bool
every_rev h =
    h Idle && (h WaitSetup && (h WaitActive && (h WaitAnswer && (h Active && (h WaitSetupConf && (h WaitActiveConf && h WaitCalled))))))

role : (h : Role → Bool) → every_role h ≡ true → (r : Role) → h r ≡ true
role h e Originating = left (h Originating) _ e
role h e Destination = right (h Originating) _ e

phase : (h : Phase → Bool) → every_phase h ≡ true → (p : Phase) → h p ≡ true
phase h e Unopened = left (h Unopened) _ e
phase h e Null = left (h Null) _ (right (h Unopened) _ e)
phase h e Setup = left (h Setup) _ (right (h Null) _ (right (h Unopened) _ e))
phase h e Answered = left (h Answered) _ (right (h Setup) _ (right (h Null) _ (right (h Unopened) _ e)))
phase h e Cleared = right (h Answered) _ (right (h Setup) _ (right (h Null) _ (right (h Unopened) _ e)))

rev : (h : RevState → Bool) → every_rev h ≡ true → (s : RevState) → h s ≡ true
rev h e Idle = left (h Idle) _ e
rev h e WaitSetup = left (h WaitSetup) _ (right (h Idle) _ e)
rev h e WaitActive = left (h WaitActive) _ (right (h WaitSetup) _ (right (h Idle) _ e))
rev h e WaitAnswer = left (h WaitAnswer) _ (right (h WaitActive) _ (right (h WaitSetup) _ (right (h Idle) _ e)))
rev h e Active = left (h Active) _ (right (h WaitAnswer) _ (right (h WaitActive) _ (right (h WaitSetup) _ (right (h Idle) _ e))))
rev h e WaitSetupConf = left (h WaitSetupConf) _ (right (h Active) _ (right (h WaitAnswer) _
    (right (h WaitActive) _ (right (h WaitSetup) _ (right (h Idle) _ e)))))
rev h e WaitActiveConf = left (h WaitActiveConf) _ (right (h WaitSetupConf) _ (right (h Active) _
    (right (h WaitAnswer) _ (right (h WaitActive) _ (right (h WaitSetup) _ (right (h Idle) _ e))))))
rev h e WaitCalled = right (h WaitActiveConf) _ (right (h WaitSetupConf) _ (right (h Active) _
    (right (h WaitAnswer) _ (right (h WaitActive) _ (right (h WaitSetup) _ (right (h Idle) _ e))))))

-- ---- THE LAW

-- kinds by their number, so that one is told from the others
abbrev kind_number : Kind → ℕ
kind_number Opens = 0
kind_number Asks = 1
kind_number Iam = 2
kind_number Answer = 3
kind_number Rel = 4
kind_number Fac = 5
kind_number Tells = 6
kind_number Expires = 7
kind_number Passes = 8

abbrev pub is_kind : Kind → Kind → Bool
is_kind j k = eqb (kind_number j) (kind_number k)

-- a test of a plan: at a role and a stand, for a kind of event
abbrev pub Test : Type 0
Test = Role → Stand → Kind → Plan → Bool

abbrev at : Phase → RevState → Bool → Bool → Stand
at p s a b = record { phase = p; rev = s; agreed = a; rest = b }

abbrev row_test : Test → Terms → Role → Stand → Kind → Option Row → Bool
row_test f t r now k x = (found_plans (f r now k) t x).test

abbrev pub everywhere : Test → Cue → Terms → Bool → Bool → Bool
everywhere f e t a b = every_role (λ r. every_phase (λ p. every_rev (λ s. (walk (row_test f t r (at p s a b)) e r p s).test)))

-- a test that holds everywhere holds of the plan that any event finds
pub found : (f : Test) → ((e : Cue) (t : Terms) (a b : Bool) → everywhere f e t a b ≡ true) →
    (r : Role) (now : Stand) (e : Cue) (t : Terms) →
    f r now e.kind (planned (row_for_of r now.phase now.rev e) t) ≡ true
found f h r now e t =
    let k = rev (λ s. (walk (row_test f t r (at now.phase s now.agreed now.rest)) e r now.phase s).test)
    (phase (λ p. every_rev (λ s. (walk (row_test f t r (at p s now.agreed now.rest)) e r p s).test))
    (role (λ r'. every_phase (λ p. every_rev (λ s. (walk (row_test f t r' (at p s now.agreed now.rest)) e r' p s).test)))
    (h e t now.agreed now.rest) r) now.phase) now.rev in
    (found_plans (f r now e.kind) t (row_for_of r now.phase now.rev e)).law
    ((walk (row_test f t r now) e r now.phase now.rev).law k)

-- a row's plan applies, or it lacks a part: 0 or 4
abbrev of_rows : Terms → Option Row → Bool
of_rows t x = implies (is_row x) (found_plans (λ p. eqb p.number 0 || eqb p.number 4) t x).test

pub row_plans : (r : Role) (p : Phase) (s : RevState) (e : Cue) (t : Terms) → is_row (row_for_of r p s e) ≡ true →
    (eqb (planned (row_for_of r p s e) t).number 0 || eqb (planned (row_for_of r p s e) t).number 4) ≡ true
row_plans r p s e t h =
    let k = rev (λ s'. (walk (λ k. of_rows t) e r p s').test)
    (phase (λ p'. every_rev (λ s'. (walk (λ k. of_rows t) e r p' s').test))
    (role (λ r'. every_phase (λ p'. every_rev (λ s'. (walk (λ k. of_rows t) e r' p' s').test))) refl r) p) s in
    (found_plans (λ x. eqb x.number 0 || eqb x.number 4) t (row_for_of r p s e)).law (so _ _ ((walk (λ k. of_rows t) e r p s).law k) h)

-- a test of the plan that one event finds, at every place that 01 allows
abbrev pub wherever : (Role → Phase → RevState → Plan → Bool) → Cue → Terms → Bool
wherever g e t =
    every_role (λ r. every_phase (λ p. every_rev (λ s. implies (placed_of r p s) (found_plans (g r p s) t (row_for_of r p s e)).test)))

pub at_place : (g : Role → Phase → RevState → Plan → Bool) (e : Cue) (t : Terms) → wherever g e t ≡ true →
    (r : Role) (p : Phase) (s : RevState) → placed_of r p s ≡ true → g r p s (planned (row_for_of r p s e) t) ≡ true
at_place g e t h r p s i =
    (found_plans (g r p s) t (row_for_of r p s e)).law
    (so (placed_of r p s) _
    (rev (λ s'. implies (placed_of r p s') (found_plans (g r p s') t (row_for_of r p s' e)).test)
    (phase (λ p'. every_rev (λ s'. implies (placed_of r p' s') (found_plans (g r p' s') t (row_for_of r p' s' e)).test))
    (role (λ r'. every_phase (λ p'. every_rev (λ s'. implies (placed_of r' p' s') (found_plans (g r' p' s') t (row_for_of r' p' s' e)).test))) h r) p) s) i)

-- ---- A step is a refusal, or the plan carried out

pub holds : (f : Test) → ((e : Cue) (t : Terms) (a b : Bool) → everywhere f e t a b ≡ true) → (c : Call) (e : Event) →
    f c.side.role c.stand (read_of e).kind (plan_for c e) ≡ true
holds f h c e = found f h c.side.role c.stand (cue_of (read_of e)) (terms_of c.side.flags c.stand (read_of e))

-- what is known where a row applied, and the meters n follow
pub record Applied (c : Call) (e : Event) (n : Meters) : Type 0 where
  pub valid : valid_of c ≡ true
  pub ranged : event_ok e ≡ true
  pub row : eqb (plan_for c e).number 0 ≡ true
  pub meters : change_of (plan_for c e).change c.meters (read_of e).seconds ≡ Some n

-- no plan has the number 9
abbrev unlike_nine : Test
unlike_nine r now k p = not (eqb p.number 9)

-- what is judged before the plan is refused; else the plan is carried out
module _ (P : Outcome → Type 0) (c : Call) (e : Event) (nine : valid_of c ≡ false → P (refused_of 9 c)) (refusing : valid_of c ≡ true → Refusing P c)
    (performs : valid_of c ≡ true → event_ok e ≡ true → P (performed c e)) where
  is_call : (b : Bool) → valid_of c ≡ b → P (if_call b c e)
  is_call true v = if_timely_lem P c e (refusing v) c.stand.phase (is_opening e) (performs v)
  is_call false v = nine v

  pub guarded : P (step_of c e)
  guarded = is_call (valid_of c) refl

module _ (P : Outcome → Type 0) (c : Call) (e : Event) (nine : valid_of c ≡ false → P (refused_of 9 c))
    (refuses : (n k : ℕ) → valid_of c ≡ true → eqb n 0 ≡ false → eqb n 9 ≡ false → P (refused_at n k c))
    (follows : (n : Meters) → Applied c e n → P (follows_of c (plan_for c e) (read_of e) n)) where
  performs : valid_of c ≡ true → event_ok e ≡ true → (b : Bool) → eqb (plan_for c e).number 0 ≡ b → P (perform_if b c (plan_for c e) (read_of e))
  performs v o true r =
      settled P (change_of (plan_for c e).change c.meters (read_of e).seconds) c (plan_for c e) (read_of e)
      (λ n h. follows n (record { valid = v; ranged = o; row = r; meters = h })) (refuses 2 0 v refl refl)
  performs v o false r = refuses (plan_for c e).number 0 v r (not-true _ (holds unlike_nine (λ e t a b. refl) c e))

  pub stepped : P (step_of c e)
  stepped =
      guarded P c e nine
      (λ v. record {
        one = refuses 1 0 v refl refl;
        three = λ k. refuses 3 k v refl refl;
        fifteen = refuses 15 0 v refl refl;
        sixteen = refuses 16 0 v refl refl;
        seventeen = refuses 17 0 v refl refl;
        twenty = refuses 20 0 v refl refl;
      })
      (λ v o. performs v o (eqb (plan_for c e).number 0) refl)
