-- REV IS ALREADY RUNNING: in every place with WAIT-ACTIVE, WAIT-ACTIVE-CONF, WAIT-CALLED or ACTIVE a further request is told so, and nothing
-- changes.
-- Assumes nothing.
use mathlib.Core.Path.{◌≡◌, refl, sym, ◌∙◌, subst}
use mathlib.Core.Bool.{true, false, ◌&&◌}
use Prim.Native.Nat.{ℕ}
use lib.Dec.{eqb}
use borrow.Author.Tests.{eqb-true}
use Rattle.std.specs.Prelude.{Option}
use Rattle.rows.specs.Find.{wait_active_of, active_of, wait_active_conf_of, setup_wait_called_of, answered_wait_called_of, row_for_of}
use Rattle.rows.specs.Promises.{is_facility, tells_running, asks_reversal, is_invoke, told_running, sent_running}
use Rattle.rows.specs.Read.{read_of, cue_of}
use Rattle.rows.specs.Step.{taken_by, takes_of, step_of}
use Rattle.rows.specs.Valid.{idle_only, placed_of, valid_of, event_ok}
use Rattle.rows.specs.declared.Call.{Call}
use Rattle.rows.specs.declared.Component.{Component}
use Rattle.rows.specs.declared.Component.TheVariants.{Absent, Invoke, Result, Error, Reject, Unknown}
use Rattle.rows.specs.declared.Cue.{Cue}
use Rattle.rows.specs.declared.Event.{Event}
use Rattle.rows.specs.declared.Event.TheVariants.{Ask, Received}
use Rattle.rows.specs.declared.Kind.{Kind}
use Rattle.rows.specs.declared.Message.{Message}
use Rattle.rows.specs.declared.Number.{Number}
use Rattle.rows.specs.declared.Outcome.{Outcome}
use Rattle.rows.specs.declared.Phase.{Phase}
use Rattle.rows.specs.declared.RevState.{RevState}
use Rattle.rows.specs.declared.RevState.TheVariants.{Idle, WaitSetup, WaitActive, WaitAnswer, Active, WaitSetupConf, WaitActiveConf}
use Rattle.rows.specs.declared.RevState.TheVariants.{WaitCalled}
use Rattle.rows.specs.declared.Role.{Role}
use Rattle.rows.specs.declared.Row.{Row}
use Rattle.rows.proofs.Answers.{row_decides, opened_then, is_unopened}
use Rattle.rows.proofs.Placed.{placed}
use Rattle.rows.proofs.Progress.{valid_place, with_these, a_facility}
use Rattle.rows.proofs.Truth.{both, differ, either}

-- ---- What holds of the five tables holds wherever it is running

module _ (P : Option Row → Type 0) (e : Cue) (wait-active : P (wait_active_of e.kind e)) (active : P (active_of e.kind e))
    (wait-active-conf : P (wait_active_conf_of e.kind e)) (setup-wait-called : P (setup_wait_called_of e.kind e))
    (answered-wait-called : P (answered_wait_called_of e.kind e)) where
  where_running : (r : Role) (ph : Phase) (rv : RevState) → placed_of r ph rv ≡ true → tells_running rv ≡ true → P (row_for_of r ph rv e)
  where_running =
      placed (λ (r : Role) (ph : Phase) (rv : RevState). tells_running rv ≡ true → P (row_for_of r ph rv e))
      (λ r i. differ i) (λ r i. differ i) (λ r i. differ i)
      differ differ differ differ (λ i. wait-active) (λ i. active)
      differ differ (λ i. setup-wait-called) differ differ (λ i. wait-active-conf) (λ i. answered-wait-called) (λ i. active)

-- ---- What such an event is, by its tests

a_request : (P : ℕ → Type 0) (q : ℕ) → asks_reversal q ≡ true → P 1 → P 2 → P 3 → P q
a_request P q h x y z =
    either (eqb q 1) _ h (λ i. subst P (sym (eqb-true q 1 i)) x)
    (λ j. either (eqb q 2) (eqb q 3) j (λ i. subst P (sym (eqb-true q 2 i)) y) (λ i. subst P (sym (eqb-true q 3 i)) z))

pub any_invoke : (P : Component → Type 0) (x : Component) → is_invoke x ≡ true → ((n : ℕ) → P (Invoke n)) → P x
any_invoke P (Absent n) h y = differ h
any_invoke P (Invoke n) h y = y n
any_invoke P (Result n) h y = differ h
any_invoke P (Error n) h y = differ h
any_invoke P (Reject n) h y = differ h
any_invoke P (Unknown k n) h y = differ h

-- ---- The answer

module _ (c : Call) (v : valid_of c ≡ true) (i : tells_running c.stand.rev ≡ true) where
  -- a row gives the answer o to an event; a table has a row that does
  abbrev Gives : Outcome → Event → Option Row → Type 0
  Gives o e x = taken_by x c (read_of e) ≡ o

  abbrev Has : Outcome → Event → (Kind → Cue → Option Row) → Type 0
  Has o e table = Gives o e (table (read_of e).kind (cue_of (read_of e)))

  answers : (o : Outcome) (e : Event) → Has o e wait_active_of → Has o e active_of → Has o e wait_active_conf_of → Has o e setup_wait_called_of →
      Has o e answered_wait_called_of → takes_of c e ≡ o
  answers o e p q r s t =
      where_running (Gives o e) (cue_of (read_of e)) p q r s t c.side.role c.stand.phase c.stand.rev (valid_place c v) i

  asked : (q : ℕ) (n : Number) → asks_reversal q ≡ true → takes_of c (Ask q n) ≡ told_running c
  asked q n h =
      a_request (λ (j : ℕ). takes_of c (Ask j n) ≡ told_running c) q h (answers (told_running c) (Ask 1 n) refl refl refl refl refl)
      (answers (told_running c) (Ask 2 n) refl refl refl refl refl) (answers (told_running c) (Ask 3 n) refl refl refl refl refl)

  invoked : (m : Message) → is_facility m ≡ true → is_invoke m.component ≡ true → takes_of c (Received m) ≡ sent_running c
  invoked m f h =
      a_facility (λ (k : ℕ). Sent k m.component) m.kind f
      (any_invoke (Sent 5) m.component h (λ n. answers (sent_running c) (with_these m 5 (Invoke n)) refl refl refl refl refl))
    where
      Sent : ℕ → Component → Type 0
      Sent k x = takes_of c (with_these m k x) ≡ sent_running c

idle_runs_nothing : (s : RevState) → (idle_only s && tells_running s) ≡ false
idle_runs_nothing Idle = refl
idle_runs_nothing WaitSetup = refl
idle_runs_nothing WaitActive = refl
idle_runs_nothing WaitAnswer = refl
idle_runs_nothing Active = refl
idle_runs_nothing WaitSetupConf = refl
idle_runs_nothing WaitActiveConf = refl
idle_runs_nothing WaitCalled = refl

running_opened : (c : Call) → valid_of c ≡ true → tells_running c.stand.rev ≡ true → is_unopened c.stand.phase ≡ false
running_opened c v i =
    opened_then (λ p. placed_of c.side.role p c.stand.rev && tells_running c.stand.rev) c.stand.phase (idle_runs_nothing c.stand.rev)
    (both (valid_place c v) i)

pub running_here : (c : Call) (q : ℕ) (n : Number) → valid_of c ≡ true → event_ok (Ask q n) ≡ true → tells_running c.stand.rev ≡ true →
    asks_reversal q ≡ true → step_of c (Ask q n) ≡ told_running c
running_here c q n v k i h = row_decides c (Ask q n) v (running_opened c v i) refl k ∙ asked c v i q n h

pub running_there : (c : Call) (m : Message) → valid_of c ≡ true → event_ok (Received m) ≡ true → tells_running c.stand.rev ≡ true →
    is_facility m ≡ true → is_invoke m.component ≡ true → step_of c (Received m) ≡ sent_running c
running_there c m v k i f h = row_decides c (Received m) v (running_opened c v i) refl k ∙ invoked c v i m f h
