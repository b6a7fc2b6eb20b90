-- WHAT IS PROMISED of the reasons for a refusal (02 #106): the words that the theorems on 1, 3, 15, 16, 17 and 20 use. Here the tables are
-- asked themselves (Find.antt), as the request does: "the role has a row". proofs/Theorems.antt states them.
-- Assumes nothing.
use Rattle.std.specs.Prelude.{ℕ, zero, suc, ◌<◌, Bool, true, false, ◌||◌, List, [], ◌∷◌, Option, None, ◌⊎◌, ◌≡◌, eqb}
use Rattle.rows.specs.Find.{row_for_of}
use Rattle.rows.specs.Promises.{sent}
use Rattle.rows.specs.Read.{read_of, cue_of}
use Rattle.rows.specs.Step.{is_opening}
use Rattle.rows.specs.Valid.{pickℕ, placed_of, valid_of, event_ok}
use Rattle.rows.specs.declared.Call.{Call}
use Rattle.rows.specs.declared.Component.{Component}
use Rattle.rows.specs.declared.Component.TheVariants.{Absent, Invoke, Result, Error, Reject}
use Rattle.rows.specs.declared.Event.{Event}
use Rattle.rows.specs.declared.Event.TheVariants.{Opening, Ask, Received, FromAccess, Expiry, Time}
use Rattle.rows.specs.declared.Number.{Number}
use Rattle.rows.specs.declared.Phase.{Phase}
use Rattle.rows.specs.declared.Phase.TheVariants.{Unopened, Cleared}
use Rattle.rows.specs.declared.RevState.{RevState}
use Rattle.rows.specs.declared.Role.{Role}
use Rattle.rows.specs.declared.Row.{Row}

-- ---- Why there was no row: proofs/Reasons.antt

-- "never opened or has cleared": 01's NONE, or CLEARED
abbrev pub Vacant : Phase → Type 0
Vacant p = (p ≡ Unopened) ⊎ (p ≡ Cleared)

-- the event comes in its time: an opening at a call that was never opened or has cleared, any other event at a call that was opened
abbrev pub Timely : Call → Event → Type 0
Timely c e = (is_opening e ≡ true → Vacant c.stand.phase) × (is_opening e ≡ false → c.stand.phase ≡ Unopened → ⊥)

-- the event is judged by the tables: the call is one, the event comes in its time, and its fields are in range
pub record Looked (c : Call) (e : Event) : Type 0 where
  pub valid : valid_of c ≡ true
  pub timely : Timely c e
  pub ranged : event_ok e ≡ true

-- the row of this event at a place
abbrev pub row_at : Role → Phase → RevState → Event → Option Row
row_at r p s e = row_for_of r p s (cue_of (read_of e))

-- "the role has a row": in a place that 01 allows
pub record HasRowIn (r : Role) (p : Phase) (e : Event) : Type 0 where
  pub rev : RevState
  pub placed : placed_of r p rev ≡ true
  pub row : row_at r p rev e ≡ None → ⊥

-- "no row in this role at any time"
abbrev pub Never : Role → Event → Type 0
Never r e = (p : Phase) → HasRowIn r p e → ⊥

-- "only in another phase"
abbrev pub OnlyElsewhere : Role → Phase → Event → Type 0
OnlyElsewhere r p e = (HasRowIn r p e → ⊥) × ((q : Phase) × HasRowIn r q e)

-- "the wrong REV state": not here, but in this phase
abbrev pub OtherState : Role → Phase → RevState → Event → Type 0
OtherState r p s e = (row_at r p s e ≡ None) × HasRowIn r p e

-- the number where it is one of these reasons, else 0
abbrev pub reason : ℕ → ℕ
reason n = pickℕ (eqb n 1 || (eqb n 15 || (eqb n 16 || (eqb n 17 || eqb n 20)))) n 0

-- "An event" is what the record says: kind, and request, or message with component and (invoke, result) operation, or the access's item.
-- Two that are the same in this may differ in role, flags, numbers, cause, error, parts, Duration and seconds
pub data SameComponent : Component → Component → Type 0 where
  no_component_lem : {n m : ℕ} → SameComponent (Absent n) (Absent m)
  an_invoke : {n : ℕ} → SameComponent (Invoke n) (Invoke n)
  a_result : {n : ℕ} → SameComponent (Result n) (Result n)
  an_error : {n m : ℕ} → SameComponent (Error n) (Error m)
  a_reject : {n m : ℕ} → SameComponent (Reject n) (Reject m)

pub data SameEvent : Event → Event → Type 0 where
  an_opening_lem : {r f r' f' : ℕ} {n n' : Number} → SameEvent (Opening r f n) (Opening r' f' n')
  a_request : {q : ℕ} {n n' : Number} → SameEvent (Ask q n) (Ask q n')
  a_message : {k u u' p p' s s' : ℕ} {x y : Component} {n n' m m' : Number} → SameComponent x y →
      SameEvent (Received (sent k u x p n m s)) (Received (sent k u' y p' n' m' s'))
  an_access : {a n n' : ℕ} → SameEvent (FromAccess a n) (FromAccess a n')
  an_expiry : SameEvent Expiry Expiry
  a_time : {s s' : ℕ} → SameEvent (Time s) (Time s')

-- ---- The first field out of range: proofs/Ranges.antt

-- whether the field at a place of the body, counted from 0, is in range; so is what is past the end
abbrev pub field_in : List Bool → ℕ → Bool
field_in [] k = true
field_in (b ∷ bs) zero = b
field_in (b ∷ bs) (suc k) = field_in bs k

-- this field is out of range, and every field before it is in range
abbrev pub FirstOut : List Bool → ℕ → Type 0
FirstOut bs k = (field_in bs k ≡ false) × ((j : ℕ) → j < k → field_in bs j ≡ true)
