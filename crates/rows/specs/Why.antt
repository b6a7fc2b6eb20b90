-- WHY THERE WAS NO ROW. 02 #106: "1 stays for an event that has no row in this role at any time; 15 is for the wrong phase (the role has a
-- row only in another phase); 16 for the wrong REV state (the role has a row in this phase)". Asked of the tables themselves (Find.antt):
-- a row that is added there changes the answer by itself.
-- Assumes nothing.
use Rattle.std.specs.Prelude.{ℕ, Bool, true, false, ◌&&◌, ◌||◌, Option, Some, None}
use Rattle.rows.specs.Find.{row_for_of}
use Rattle.rows.specs.Numbers.{no_row, wrong_phase, wrong_state}
use Rattle.rows.specs.Valid.{placed_of, pickℕ}
use Rattle.rows.specs.declared.Cue.{Cue}
use Rattle.rows.specs.declared.Kind.{Kind}
use Rattle.rows.specs.declared.Kind.TheVariants.{Opens, Asks, Iam, Answer, Rel, Fac, Tells, Expires, Passes}
use Rattle.rows.specs.declared.Phase.{Phase}
use Rattle.rows.specs.declared.Phase.TheVariants.{Unopened, Null, Setup, Answered, Cleared}
use Rattle.rows.specs.declared.RevState.{RevState}
use Rattle.rows.specs.declared.RevState.TheVariants.{Idle, WaitSetup, WaitActive, WaitAnswer, Active, WaitSetupConf, WaitActiveConf}
use Rattle.rows.specs.declared.RevState.TheVariants.{WaitCalled}
use Rattle.rows.specs.declared.Role.{Role}
use Rattle.rows.specs.declared.Role.TheVariants.{Originating, Destination}
use Rattle.rows.specs.declared.Row.{Row}

-- a row was found: also one that answers with an error, or whose plan then gives 4 or 2
abbrev pub is_row : Option Row → Bool
is_row (Some row) = true
is_row None = false

abbrev pub some_state : (RevState → Bool) → Bool
some_state f =
    f Idle || (f WaitSetup || (f WaitActive || (f WaitAnswer || (f Active || (f WaitSetupConf || (f WaitActiveConf || f WaitCalled))))))

abbrev pub some_phase : (Phase → Bool) → Bool
some_phase f = f Unopened || (f Null || (f Setup || (f Answered || f Cleared)))

-- "the role has a row in this phase": in one of the REV states that the phase has there (Valid.antt)
abbrev pub row_in : Role → Phase → Cue → Bool
row_in r p e = some_state (λ s. placed_of r p s && is_row (row_for_of r p s e))

-- "in this role at any time"
abbrev pub row_ever : Role → Cue → Bool
row_ever r e = some_phase (λ p. row_in r p e)

-- the number for an event that found no row in this phase
abbrev pub why_of : Role → Phase → Cue → ℕ
why_of r p e = pickℕ (row_in r p e) wrong_state (pickℕ (row_ever r e) wrong_phase no_row)

-- ---- The same in a smaller table, which is the code's: for each phase the events that have a row in one of its REV states.
-- proofs/Classes.antt says that it is the same

-- before the opening, and after the clearing
abbrev pub vacant_has : Kind → Cue → Bool
vacant_has Opens e = true
vacant_has Asks e = false
vacant_has Iam e = false
vacant_has Answer e = false
vacant_has Rel e = false
vacant_has Fac e = false
vacant_has Tells e = false
vacant_has Expires e = false
vacant_has Passes e = false

-- originating, NULL
abbrev pub originating_null_has : Kind → Cue → Bool
originating_null_has Opens e = false
originating_null_has Asks e = e.asked.basic || e.asked.casea
originating_null_has Iam e = false
originating_null_has Answer e = false
originating_null_has Rel e = false
originating_null_has Fac e = false
originating_null_has Tells e = false
originating_null_has Expires e = false
originating_null_has Passes e = false

-- originating, SETUP
abbrev pub originating_setup_has : Kind → Cue → Bool
originating_setup_has Opens e = false
originating_setup_has Asks e = false
originating_setup_has Iam e = false
originating_setup_has Answer e = e.heard.alone || e.heard.resultsetup
originating_setup_has Rel e = true
originating_setup_has Fac e = e.heard.invokecalled
originating_setup_has Tells e = e.told.clears
originating_setup_has Expires e = true
originating_setup_has Passes e = true

-- originating, ANSWERED
abbrev pub originating_answered_has : Kind → Cue → Bool
originating_answered_has Opens e = false
originating_answered_has Asks e = e.asked.caseb || e.asked.reversal
originating_answered_has Iam e = false
originating_answered_has Answer e = false
originating_answered_has Rel e = true
originating_answered_has Fac e =
    e.heard.invokecalled || (e.heard.invoke || (e.heard.resultactive || (e.heard.failure || (e.heard.rejection || e.heard.alone))))
originating_answered_has Tells e = e.told.clears
originating_answered_has Expires e = true
originating_answered_has Passes e = true

-- destination, NULL
abbrev pub destination_null_has : Kind → Cue → Bool
destination_null_has Opens e = false
destination_null_has Asks e = false
destination_null_has Iam e = e.heard.alone || e.heard.invokesetup
destination_null_has Answer e = false
destination_null_has Rel e = false
destination_null_has Fac e = false
destination_null_has Tells e = false
destination_null_has Expires e = false
destination_null_has Passes e = false

-- destination, SETUP
abbrev pub destination_setup_has : Kind → Cue → Bool
destination_setup_has Opens e = false
destination_setup_has Asks e = e.asked.reversal
destination_setup_has Iam e = false
destination_setup_has Answer e = false
destination_setup_has Rel e = true
destination_setup_has Fac e = e.heard.invoke || (e.heard.resultcalled || (e.heard.failure || e.heard.rejection))
destination_setup_has Tells e = e.told.answers || (e.told.clears || (e.told.accepts || (e.told.refuses || e.told.rejects)))
destination_setup_has Expires e = true
destination_setup_has Passes e = true

-- destination, ANSWERED
abbrev pub destination_answered_has : Kind → Cue → Bool
destination_answered_has Opens e = false
destination_answered_has Asks e = e.asked.caseb || (e.asked.casec || e.asked.reversal)
destination_answered_has Iam e = false
destination_answered_has Answer e = false
destination_answered_has Rel e = true
destination_answered_has Fac e =
    e.heard.invokeactive || (e.heard.invoke || (e.heard.resultcalled || (e.heard.failure || e.heard.rejection)))
destination_answered_has Tells e = e.told.clears || (e.told.accepts || (e.told.refuses || e.told.rejects))
destination_answered_has Expires e = true
destination_answered_has Passes e = true

abbrev pub small_has : Role → Phase → Cue → Bool
small_has r Unopened e = vacant_has e.kind e
small_has Originating Null e = originating_null_has e.kind e
small_has Destination Null e = destination_null_has e.kind e
small_has Originating Setup e = originating_setup_has e.kind e
small_has Destination Setup e = destination_setup_has e.kind e
small_has Originating Answered e = originating_answered_has e.kind e
small_has Destination Answered e = destination_answered_has e.kind e
small_has r Cleared e = vacant_has e.kind e

abbrev pub small_ever : Role → Cue → Bool
small_ever r e = some_phase (λ p. small_has r p e)
