-- What a row sends: where it passes an error on, that error is one of REV's.
-- Assumes nothing.
use mathlib.Core.Path.{◌≡◌, refl}
use mathlib.Core.Bool.{Bool, true, false}
use Prim.Native.Nat.{ℕ}
use Rattle.std.specs.Prelude.{Option, Some, None}
use Rattle.rows.specs.Find.{row_for_of}
use Rattle.rows.specs.Read.{listed_of, correct_by, read_of, cue_of, terms_of}
use Rattle.rows.specs.Rows
use Rattle.rows.specs.Rows.{plan_of}
use Rattle.rows.specs.Step.{planned}
use Rattle.rows.specs.declared.Call.{Call}
use Rattle.rows.specs.declared.Component.{Component}
use Rattle.rows.specs.declared.Component.TheVariants.{Absent, Invoke, Result, Error, Reject, Unknown}
use Rattle.rows.specs.declared.Correctness.{Correctness}
use Rattle.rows.specs.declared.Correctness.TheVariants.{Correct, Incorrect}
use Rattle.rows.specs.declared.Event.{Event}
use Rattle.rows.specs.declared.Plan.{Plan}
use Rattle.rows.specs.declared.Row.{Row}
use Rattle.rows.specs.declared.Row.TheVariants.{Opened, TimeInSetup, TimeCounts, ClearedHere, Released, RunningHere}
use Rattle.rows.specs.declared.Row.TheVariants.{RunningThere, BasicRequest, AskSetup, BasicAnswer, UnconditionalAsked, SetupAccepted}
use Rattle.rows.specs.declared.Row.TheVariants.{SetupError, SetupReleased, SetupFailed, UnconditionalAnswered, AskActive}
use Rattle.rows.specs.declared.Row.TheVariants.{CalledAsked, ActiveAccepted, WaitError, WaitFailed, WaitReleased, PlainIam}
use Rattle.rows.specs.declared.Row.TheVariants.{SetupAsked, AnsweredHere, SetupConfirmed, SetupRefused, SetupRejected, SetupIgnored}
use Rattle.rows.specs.declared.Row.TheVariants.{SetupExpired, UnconditionalAccepted, UnconditionalFailed, UnconditionalConnected}
use Rattle.rows.specs.declared.Row.TheVariants.{ActiveAsked, AskPartial, AskEntire, ActiveConfirmed, ActiveRefused, ActiveRejected}
use Rattle.rows.specs.declared.Row.TheVariants.{ActiveIgnored, ActiveCleared, CalledAccepted}
use Rattle.rows.specs.declared.Terms.{Terms}
use Rattle.rows.proofs.Answers.{plan_for}
use Rattle.rows.proofs.Found.{plans}

abbrev pub error_listed : Component → Bool
error_listed (Absent n) = true
error_listed (Invoke n) = true
error_listed (Result n) = true
error_listed (Error n) = listed_of n
error_listed (Reject n) = true
error_listed (Unknown code n) = true

abbrev listed : Plan → Bool
listed p = error_listed p.component

is_listed : (b : Bool) → Correct ≡ correct_by b → b ≡ true
is_listed true h = refl
is_listed false h = let n : false ≡ true = cc in n

-- the two rows that pass on what the own access said
setup_refused_lem : (k : Correctness) (error cause : ℕ) → k ≡ correct_by (listed_of error) → listed (Rows.setup_refused k error cause) ≡ true
setup_refused_lem Correct error cause h = is_listed (listed_of error) h
setup_refused_lem Incorrect error cause h = refl

active_refused_lem : (k : Correctness) (error : ℕ) → k ≡ correct_by (listed_of error) → listed (Rows.active_refused k error) ≡ true
active_refused_lem Correct error h = is_listed (listed_of error) h
active_refused_lem Incorrect error h = refl

-- any other has an error of its own, or sends none
row_listed : (t : Terms) → t.correct ≡ correct_by (listed_of t.error) → (x : Row) → listed (plan_of x t) ≡ true
row_listed t h Opened = refl
row_listed t h TimeInSetup = refl
row_listed t h TimeCounts = refl
row_listed t h ClearedHere = refl
row_listed t h Released = refl
row_listed t h RunningHere = refl
row_listed t h RunningThere = refl
row_listed t h BasicRequest = refl
row_listed t h AskSetup = (plans listed t AskSetup).law refl
row_listed t h BasicAnswer = refl
row_listed t h UnconditionalAsked = (plans listed t UnconditionalAsked).law refl
row_listed t h SetupAccepted = (plans listed t SetupAccepted).law refl
row_listed t h SetupError = (plans listed t SetupError).law refl
row_listed t h SetupReleased = refl
row_listed t h SetupFailed = refl
row_listed t h UnconditionalAnswered = (plans listed t UnconditionalAnswered).law refl
row_listed t h AskActive = (plans listed t AskActive).law refl
row_listed t h CalledAsked = (plans listed t CalledAsked).law refl
row_listed t h ActiveAccepted = (plans listed t ActiveAccepted).law refl
row_listed t h WaitError = (plans listed t WaitError).law refl
row_listed t h WaitFailed = refl
row_listed t h WaitReleased = refl
row_listed t h PlainIam = (plans listed t PlainIam).law refl
row_listed t h SetupAsked = (plans listed t SetupAsked).law refl
row_listed t h AnsweredHere = refl
row_listed t h SetupConfirmed = (plans listed t SetupConfirmed).law refl
row_listed t h SetupRefused = setup_refused_lem t.correct t.error t.cause h
row_listed t h SetupRejected = refl
row_listed t h SetupIgnored = refl
row_listed t h SetupExpired = refl
row_listed t h UnconditionalAccepted = (plans listed t UnconditionalAccepted).law refl
row_listed t h UnconditionalFailed = refl
row_listed t h UnconditionalConnected = (plans listed t UnconditionalConnected).law refl
row_listed t h ActiveAsked = (plans listed t ActiveAsked).law refl
row_listed t h AskPartial = (plans listed t AskPartial).law refl
row_listed t h AskEntire = (plans listed t AskEntire).law refl
row_listed t h ActiveConfirmed = (plans listed t ActiveConfirmed).law refl
row_listed t h ActiveRefused = active_refused_lem t.correct t.error h
row_listed t h ActiveRejected = refl
row_listed t h ActiveIgnored = refl
row_listed t h ActiveCleared = refl
row_listed t h CalledAccepted = (plans listed t CalledAccepted).law refl

found_listed : (t : Terms) → t.correct ≡ correct_by (listed_of t.error) → (x : Option Row) → listed (planned x t) ≡ true
found_listed t h (Some row) = row_listed t h row
found_listed t h None = refl

-- Whatever the event, an error that its row sends is one of REV's.
pub error_listed_lem : (c : Call) (e : Event) → error_listed (plan_for c e).component ≡ true
error_listed_lem c e =
    found_listed (terms_of c.side.flags c.stand (read_of e)) refl
    (row_for_of c.side.role c.stand.phase c.stand.rev (cue_of (read_of e)))
