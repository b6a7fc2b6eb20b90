-- SOMEBODY PAYS: an ANSWERED call has a payer, at either exchange. What 9 leaves says so, and a call stays a call (Stays.antt): so no history
-- reaches ANSWERED with nobody as payer, and such a call that a host hands in is none. And at a destination the payer is far until this
-- exchange charges.
-- Assumes nothing.
use mathlib.Core.Path.{◌≡◌, refl, sym, ◌∙◌, ap}
use mathlib.Core.Bool.{Bool, true, false, ◌&&◌, ◌||◌, not}
use mathlib.Core.List.{List}
use Prim.Native.Nat.{ℕ}
use lib.Dec.{eqb}
use Rattle.std.specs.Prelude.{Some}
use Rattle.meters.proofs.Laws.{gave, is, is_that}
use Rattle.meters.specs.Meters.{paid_by_of, change_of}
use Rattle.meters.specs.declared.Change.{Change}
use Rattle.meters.specs.declared.Change.TheVariants.{Keep, FarPays, TimePasses}
use Rattle.meters.specs.declared.Meters.{Meters}
use Rattle.meters.specs.declared.Payer.{Payer}
use Rattle.meters.specs.declared.Payer.TheVariants.{Nobody, Caller, Called, Far}
use Rattle.rows.specs.Bill.{is_answered, is_rev, same}
use Rattle.rows.specs.History.{run}
use Rattle.rows.specs.Perform.{refused_at, stand_of}
use Rattle.rows.specs.Promises.{with_payer, payer_fits, as_before}
use Rattle.rows.specs.Read.{read_of}
use Rattle.rows.specs.Step.{if_call, step_of}
use Rattle.rows.specs.Valid.{payer_nobody, payer_there, metered_of, paying_of, valid_of}
use Rattle.rows.specs.declared.Call.{Call}
use Rattle.rows.specs.declared.Event.{Event}
use Rattle.rows.specs.declared.Outcome.{Outcome}
use Rattle.rows.specs.declared.Phase.{Phase}
use Rattle.rows.specs.declared.Phase.TheVariants.{Unopened, Null, Setup, Answered, Cleared}
use Rattle.rows.specs.declared.RevState.TheVariants.{Active}
use Rattle.rows.specs.declared.Role.{Role}
use Rattle.rows.specs.declared.Role.TheVariants.{Originating, Destination}
use Rattle.rows.proofs.Answers.{plan_for}
use Rattle.rows.proofs.Found.{implies, so, Test, holds, stepped}
use Rattle.rows.proofs.Stays.{is_destination, good, nobody, somebody, valid_metered, valid_paying, by_meters, calls_stay, nine_exactly}
use Rattle.rows.proofs.Truth.{differ, either}

in_phase : (r : Role) (ph : Phase) (p : Payer) → paying_of r ph p ≡ true → is_answered ph ≡ true → p ≡ Nobody → ⊥
in_phase r Unopened p h a = differ a
in_phase r Null p h a = differ a
in_phase r Setup p h a = differ a
in_phase r Answered p h a = somebody r p h
in_phase r Cleared p h a = differ a

pub answered_paid : (c : Call) → valid_of c ≡ true → is_answered c.stand.phase ≡ true → c.meters.payer ≡ Nobody → ⊥
answered_paid c v = in_phase c.side.role c.stand.phase c.meters.payer (valid_paying c v)

out_of_phase : (r : Role) (ph : Phase) (p : Payer) → paying_of r ph p ≡ true → is_answered ph ≡ false → p ≡ Nobody
out_of_phase r Unopened p h a = nobody p h
out_of_phase r Null p h a = nobody p h
out_of_phase r Setup p h a = nobody p h
out_of_phase r Answered p h a = differ (sym a)
out_of_phase r Cleared p h a = nobody p h

pub nobody_outside : (c : Call) → valid_of c ≡ true → is_answered c.stand.phase ≡ false → c.meters.payer ≡ Nobody
nobody_outside c v = out_of_phase c.side.role c.stand.phase c.meters.payer (valid_paying c v)

pub somebody_pays : (c : Call) (es : List Event) → valid_of c ≡ true → (run c es).stand.phase ≡ Answered → (run c es).meters.payer ≡ Nobody → ⊥
somebody_pays c es v a = answered_paid (run c es) (calls_stay c es v) (ap is_answered a)

-- ---- 9: which payers are a call's

pub nobody_is_nine : (c : Call) (e : Event) → c.stand.phase ≡ Answered → c.meters.payer ≡ Nobody → step_of c e ≡ refused_at 9 0 c
nobody_is_nine c e a n = by (valid_of c) refl
  where
    by : (b : Bool) → valid_of c ≡ b → step_of c e ≡ refused_at 9 0 c
    by true v = absurd (answered_paid c v (ap is_answered a) n)
    by false v = ap (λ (b : Bool). if_call b c e) v

is_nobody : (p : Payer) → payer_nobody p ≡ same Nobody p
is_nobody Nobody = refl
is_nobody Caller = refl
is_nobody Called = refl
is_nobody Far = refl

is_there_lem : (p : Payer) → payer_there p ≡ (same Called p || same Far p)
is_there_lem Nobody = refl
is_there_lem Caller = refl
is_there_lem Called = refl
is_there_lem Far = refl

paying_fits : (r : Role) (ph : Phase) (p : Payer) → paying_of r ph p ≡ payer_fits r ph p
paying_fits r Unopened p = is_nobody p
paying_fits r Null p = is_nobody p
paying_fits r Setup p = is_nobody p
paying_fits Originating Answered p = ap not (is_nobody p)
paying_fits Destination Answered p = is_there_lem p
paying_fits r Cleared p = is_nobody p

-- what a phase asks of the meters does not look at the payer
still_metered : (r : Role) (ph : Phase) (p : Payer) (c : Call) → metered_of r ph (with_payer p c).meters ≡ metered_of r ph c.meters
still_metered r Unopened p c = refl
still_metered r Null p c = refl
still_metered r Setup p c = refl
still_metered Originating Answered p c = refl
still_metered Destination Answered p c = refl
still_metered Originating Cleared p c = refl
still_metered Destination Cleared p c = refl

valid_with : (c : Call) (p : Payer) → valid_of c ≡ true → valid_of (with_payer p c) ≡ payer_fits c.side.role c.stand.phase p
valid_with c p v =
    let g = good c v in
    by_meters c.side c.stand (with_payer p c).meters g.placed g.sound.within g.held
    ∙ ap (λ (b : Bool). b && paying_of c.side.role c.stand.phase p)
    (still_metered c.side.role c.stand.phase p c ∙ valid_metered c v)
    ∙ paying_fits c.side.role c.stand.phase p

pub nine_by_payer : (c : Call) (p : Payer) (e : Event) → valid_of c ≡ true →
    eqb (step_of (with_payer p c) e).number 9 ≡ not (payer_fits c.side.role c.stand.phase p)
nine_by_payer c p e v = nine_exactly (with_payer p c) e ∙ ap not (valid_with c p v)

-- ---- At a destination: far until this exchange charges

-- a change that leaves the payer
abbrev leaves : Change → Bool
leaves x = is Keep x || is TimePasses x

module _ (m n : Meters) (x : Change) (s : ℕ) (h : change_of x m s ≡ Some n) where
  as_that : (y : Change) → is y x ≡ true → change_of y m s ≡ Some n
  as_that y i = ap (λ (z : Change). change_of z m s) (is_that y x i) ∙ h

  left_alone : (m.payer ≡ Nobody → ⊥) → leaves x ≡ true → n.payer ≡ m.payer
  left_alone p k =
      either (is Keep x) (is TimePasses x) k (λ i. let q = as_that Keep i in let e : m ≡ n = cc in sym (ap (λ (y : Meters). y.payer) e))
      (λ i. (gave m n s p (as_that TimePasses i)).payer)

  far_named : is FarPays x ≡ true → n.payer ≡ Far
  far_named i = let q = as_that FarPays i in let e : paid_by_of m Far ≡ n = cc in sym (ap (λ (y : Meters). y.payer) e)

-- in ANSWERED the payer stays, from SETUP it is far, and from nowhere else does a row lead to ANSWERED
abbrev as_phase : Phase → Change → Bool
as_phase Unopened x = false
as_phase Null x = false
as_phase Setup x = is FarPays x
as_phase Answered x = leaves x
as_phase Cleared x = false

-- every plan at a destination that leads to ANSWERED and does not put reverse charging in effect
abbrev far_until : Test
far_until r now k p =
    implies (is_destination r)
    (implies (eqb p.number 0)
    (implies (is_answered (stand_of p.next now).phase)
    (implies (is_rev Active now.rev || not (is_rev Active (stand_of p.next now).rev)) (as_phase now.phase p.change))))

unless_new : (a b : Bool) → (b ≡ true → a ≡ true) → (a || not b) ≡ true
unless_new true b h = refl
unless_new false true h = h refl
unless_new false false h = refl

still_before : (ph : Phase) (q : Payer) → is_answered ph ≡ true → q ≡ as_before ph q
still_before Unopened q a = refl
still_before Null q a = refl
still_before Setup q a = differ a
still_before Answered q a = refl
still_before Cleared q a = refl

by_phase : (m n : Meters) (x : Change) (s : ℕ) → change_of x m s ≡ Some n → (ph : Phase) → (is_answered ph ≡ true → m.payer ≡ Nobody → ⊥) →
    as_phase ph x ≡ true → n.payer ≡ as_before ph m.payer
by_phase m n x s h Unopened p k = differ k
by_phase m n x s h Null p k = differ k
by_phase m n x s h Setup p k = far_named m n x s h k
by_phase m n x s h Answered p k = left_alone m n x s h (p refl) k
by_phase m n x s h Cleared p k = differ k

pub far_until_charged : (c : Call) (e : Event) → c.side.role ≡ Destination → is_answered (step_of c e).call.stand.phase ≡ true →
    (is_rev Active (step_of c e).call.stand.rev ≡ true → is_rev Active c.stand.rev ≡ true) →
    (step_of c e).call.meters.payer ≡ as_before c.stand.phase c.meters.payer
far_until_charged c e r =
    stepped
    (λ (o : Outcome). is_answered o.call.stand.phase ≡ true → (is_rev Active o.call.stand.rev ≡ true → is_rev Active c.stand.rev ≡ true) →
    o.call.meters.payer ≡ as_before c.stand.phase c.meters.payer)
    c e (λ v a i. still_before c.stand.phase c.meters.payer a) (λ n k v p q a i. still_before c.stand.phase c.meters.payer a)
    (λ n d a i.
    by_phase c.meters n (plan_for c e).change (read_of e).seconds d.meters c.stand.phase (answered_paid c d.valid)
    (so _ _ (so _ _ (so _ _ (so _ _ (holds far_until (λ e' t x y. refl) c e) (ap is_destination r)) d.row) a)
    (unless_new (is_rev Active c.stand.rev) _ i)))
