-- A possible call stands in one of the places that 01 allows (Valid.antt, placed_of): what holds in each holds of it.
-- Assumes nothing.
use mathlib.Core.Path.{◌≡◌}
use mathlib.Core.Bool.{true}
use Rattle.rows.specs.Valid.{idle_only, placed_of}
use Rattle.rows.specs.declared.Phase.{Phase}
use Rattle.rows.specs.declared.Phase.TheVariants.{Unopened, Null, Setup, Answered, Cleared}
use Rattle.rows.specs.declared.RevState.{RevState}
use Rattle.rows.specs.declared.RevState.TheVariants.{Idle, WaitSetup, WaitActive, WaitAnswer, Active, WaitSetupConf, WaitActiveConf}
use Rattle.rows.specs.declared.RevState.TheVariants.{WaitCalled}
use Rattle.rows.specs.declared.Role.{Role}
use Rattle.rows.specs.declared.Role.TheVariants.{Originating, Destination}
use Rattle.rows.proofs.Truth.{differ}

module _ (P : Role → Phase → RevState → Type 0)
    -- in either role
    (unopened : (r : Role) → P r Unopened Idle) (null : (r : Role) → P r Null Idle) (cleared : (r : Role) → P r Cleared Idle)
    -- originating
    (o-setup : P Originating Setup Idle) (wait-setup : P Originating Setup WaitSetup) (o-wait-answer : P Originating Setup WaitAnswer)
    (o-answered : P Originating Answered Idle) (wait-active : P Originating Answered WaitActive) (o-active : P Originating Answered Active)
    -- destination
    (d-setup : P Destination Setup Idle) (wait-setup-conf : P Destination Setup WaitSetupConf)
    (setup-wait-called : P Destination Setup WaitCalled) (d-wait-answer : P Destination Setup WaitAnswer)
    (d-answered : P Destination Answered Idle) (wait-active-conf : P Destination Answered WaitActiveConf)
    (answered-wait-called : P Destination Answered WaitCalled) (d-active : P Destination Answered Active) where
  idle : (ph : Phase) → ((r : Role) → P r ph Idle) → (r : Role) (rv : RevState) → idle_only rv ≡ true → P r ph rv
  idle ph p r Idle h = p r
  idle ph p r WaitSetup h = differ h
  idle ph p r WaitActive h = differ h
  idle ph p r WaitAnswer h = differ h
  idle ph p r Active h = differ h
  idle ph p r WaitSetupConf h = differ h
  idle ph p r WaitActiveConf h = differ h
  idle ph p r WaitCalled h = differ h

  pub placed : (r : Role) (ph : Phase) (rv : RevState) → placed_of r ph rv ≡ true → P r ph rv
  placed r Unopened rv h = idle Unopened unopened r rv h
  placed r Null rv h = idle Null null r rv h
  placed r Cleared rv h = idle Cleared cleared r rv h
  placed Originating Setup Idle h = o-setup
  placed Originating Setup WaitSetup h = wait-setup
  placed Originating Setup WaitActive h = differ h
  placed Originating Setup WaitAnswer h = o-wait-answer
  placed Originating Setup Active h = differ h
  placed Originating Setup WaitSetupConf h = differ h
  placed Originating Setup WaitActiveConf h = differ h
  placed Originating Setup WaitCalled h = differ h
  placed Originating Answered Idle h = o-answered
  placed Originating Answered WaitSetup h = differ h
  placed Originating Answered WaitActive h = wait-active
  placed Originating Answered WaitAnswer h = differ h
  placed Originating Answered Active h = o-active
  placed Originating Answered WaitSetupConf h = differ h
  placed Originating Answered WaitActiveConf h = differ h
  placed Originating Answered WaitCalled h = differ h
  placed Destination Setup Idle h = d-setup
  placed Destination Setup WaitSetup h = differ h
  placed Destination Setup WaitActive h = differ h
  placed Destination Setup WaitAnswer h = d-wait-answer
  placed Destination Setup Active h = differ h
  placed Destination Setup WaitSetupConf h = wait-setup-conf
  placed Destination Setup WaitActiveConf h = differ h
  placed Destination Setup WaitCalled h = setup-wait-called
  placed Destination Answered Idle h = d-answered
  placed Destination Answered WaitSetup h = differ h
  placed Destination Answered WaitActive h = differ h
  placed Destination Answered WaitAnswer h = differ h
  placed Destination Answered Active h = d-active
  placed Destination Answered WaitSetupConf h = differ h
  placed Destination Answered WaitActiveConf h = wait-active-conf
  placed Destination Answered WaitCalled h = answered-wait-called
