-- The reversal of an originating call: who pays now; one reversal at most; a bill once made stays.
-- Assumes nothing.
use mathlib.Core.Path.{◌≡◌, refl, sym, ◌∙◌, ap, subst}
use mathlib.Core.Bool.{Bool, true, false, ◌&&◌, not}
use mathlib.Core.List.{List, [], ◌∷◌, ◌++◌}
use Prim.Native.Nat.{ℕ, ◌+◌, ◌≤◌}
use native.Mathlib.Omega.{arith}
use Rattle.std.specs.Prelude.{Option, Some}
use Rattle.rows.specs.Bill.{pick, Step, accepted, is_answered, counted, seconds_in, is_rev, Case, Mark, plain, second, reversed, Paid}
use Rattle.rows.specs.Bill.{Took, nothing, took, in_effect, waits, mark, marks, reversal, payer, payments, bill}
use Rattle.rows.specs.Bill.{an_opening, opens, none_opens}
use Rattle.rows.specs.History.{run, written, history, opening}
use Rattle.rows.specs.Promises.{reversals, Extends, with_more}
use Rattle.rows.specs.Perform.{perform_of}
use Rattle.rows.specs.Read.{read_of, terms_of}
use Rattle.rows.specs.Step.{planned, step_of}
use Rattle.rows.specs.declared.Call.{Call}
use Rattle.rows.specs.declared.Event.{Event}
use Rattle.rows.specs.declared.Number.{Number}
use Rattle.rows.specs.declared.Outcome.{Outcome}
use Rattle.rows.specs.declared.Phase.{Phase}
use Rattle.rows.specs.declared.Phase.TheVariants.{Unopened, Null, Setup, Answered, Cleared}
use Rattle.rows.specs.declared.RevState.{RevState}
use Rattle.rows.specs.declared.RevState.TheVariants.{Active}
use Rattle.rows.specs.declared.Row.{Row}
use Rattle.rows.proofs.Answers.{refused_or_performed}
use Rattle.rows.proofs.Truth.{both, differ, left, right}
use Rattle.rows.proofs.Whole.{Known, known, note, read_all, waiting, Agrees, null, setup, asked_a, asked_d, talks}
use Rattle.rows.proofs.Whole.{asked_b, turned, over, after_clearing, Unopening, keeps, first_unopening, rest_unopening, reached}
use Rattle.rows.proofs.Whole.{from_opening}

-- ---- Who pays now

turn_after : (k : Case) (t : Bool) (x y : ℕ) (ms : List Mark) → (read_all (known (took k t) x y) ms).turn ≡ took k t
turn_after k t x y [] = refl
turn_after k t x y (plain ∷ ms) = turn_after k t x y ms
turn_after k t x y (second n ∷ ms) = turn_after k t x (y + n) ms
turn_after k t x y (reversed k' t' ∷ ms) = turn_after k t x y ms

turn_is : (x : ℕ) (ms : List Mark) → (read_all (known nothing x 0) ms).turn ≡ reversal ms
turn_is x [] = refl
turn_is x (plain ∷ ms) = turn_is x ms
turn_is x (second n ∷ ms) = turn_is (x + n) ms
turn_is x (reversed k t ∷ ms) = turn_after k t x 0 ms

abbrev Pays : Call → Known → Type 0
Pays c o = c.stand.phase ≡ Answered → c.meters.payer ≡ payer o.turn true

agreed_pays : {f : ℕ} {c : Call} {d : Mark} {o : Known} → Agrees f c d o → Pays c o
agreed_pays null = λ h. differ (ap is_answered h)
agreed_pays setup = λ h. differ (ap is_answered h)
agreed_pays asked_a = λ h. differ (ap is_answered h)
agreed_pays asked_d = λ h. differ (ap is_answered h)
agreed_pays (talks z) = λ h. z.pays
agreed_pays (asked_b z) = λ h. z.pays
agreed_pays (turned z) = λ h. z.pays
agreed_pays (over z) = λ h. differ (ap is_answered h)

-- in ANSWERED the payer who is charged is the one that the history names for the seconds to come
pub pays_now : (f : ℕ) (own : Number) → (opening f own).number ≡ 0 → (es : List Event) → none_opens (history (opening f own).call es) ≡ true →
    (run (opening f own).call es).stand.phase ≡ Answered →
    (run (opening f own).call es).meters.payer ≡ payer (reversal (marks f plain (history (opening f own).call es))) true
pays_now f own e es n h =
    agreed_pays (reached f es (from_opening f own e) n) h
    ∙ ap (λ (w : Took). payer w true) (turn_is 0 (marks f plain (history (opening f own).call es)))

-- ---- One reversal at most

-- nothing more of the bill can turn: REV is in effect, or the call is over
abbrev ended : Phase → RevState → Bool
ended Unopened rv = false
ended Null rv = false
ended Setup rv = false
ended Answered rv = is_rev Active rv
ended Cleared rv = true

abbrev Ended : Call → Type 0
Ended c = ended c.stand.phase c.stand.rev ≡ true

no_turn : {A : Type 0} {k : Case} {t : Bool} → nothing ≡ took k t → A
no_turn h = let z : false ≡ true = ap turnTaken h in differ z
  where
    turnTaken : Took → Bool
    turnTaken nothing = false
    turnTaken (took k t) = true

-- a reader who knows of a reversal: the call is one of those two
took_ended : {f : ℕ} {c : Call} {d : Mark} {o : Known} {k : Case} {t : Bool} → Agrees f c d o → o.turn ≡ took k t → Ended c
took_ended null h = no_turn h
took_ended setup h = no_turn h
took_ended asked_a h = no_turn h
took_ended asked_d h = no_turn h
took_ended (talks z) h = no_turn h
took_ended (asked_b z) h = no_turn h
took_ended (turned z) h = refl
took_ended (over z) h = refl

-- whatever a step shows, a reversal that is known stays known
known_stays : (k : Case) (t : Bool) (x y : ℕ) (m : Mark) → (note (known (took k t) x y) m).turn ≡ took k t
known_stays k t x y plain = refl
known_stays k t x y (second n) = refl
known_stays k t x y (reversed k' t') = refl

-- a step that shows no reversal
abbrev Calm : Mark → Type 0
Calm m = (ms : List Mark) → reversals (m ∷ ms) ≡ reversals ms

calm : (a b : Bool) (n : ℕ) → Calm (pick a (second n) (pick b plain plain))
calm true b n ms = refl
calm false true n ms = refl
calm false false n ms = refl

-- at a cleared call every answer that accepts no opening leaves the call as it stood, and shows nothing
module _ (P : Outcome → Type 0) (c : Call) (e : Event) where
  abbrev Told : Outcome → Type 0
  Told a = Unopening e a → P a

  abbrev Does : Option Row → Type 0
  Does x = Told (perform_of c (planned x (terms_of c.side.flags c.stand (read_of e))) (read_of e))

  -- the opening's row, accepted
  not_opened : an_opening e ≡ true → Does (Some Row.Opened)
  not_opened i h = differ (sym h ∙ ap (λ (b : Bool). true && b) i)

ended_keeps : {f : ℕ} {c : Call} {d : Mark} {o : Known} → Agrees f c d o → Ended c → (e : Event) → Unopening e (step_of c e) →
    Ended (step_of c e).call × Calm (mark f d (written c e (step_of c e)))
ended_keeps null h e n = differ h
ended_keeps setup h e n = differ h
ended_keeps asked_a h e n = differ h
ended_keeps asked_d h e n = differ h
ended_keeps (talks z) h e n = differ h
ended_keeps (asked_b z) h e n = differ h
ended_keeps {f} {c} {d} (turned {t = t} {k = k} {x = x} {y = y} z) h e n = (
  took_ended (keeps f {c = c} {d = d} e (turned z) n) (known_stays k t x y (mark f d (written c e (step_of c e)))),
  calm (counted (written c e (step_of c e))) (accepted (written c e (step_of c e)) && in_effect (written c e (step_of c e))) (seconds_in e),
)
ended_keeps {f} {c} {d} (over z) h e n =
    refused_or_performed (Told Calmly c e) c e (λ i. (refl, λ ms. refl))
    (record {
      one = λ i. (refl, λ ms. refl);
      three = λ k i. (refl, λ ms. refl);
      fifteen = λ i. (refl, λ ms. refl);
      sixteen = λ i. (refl, λ ms. refl);
      seventeen = λ i. (refl, λ ms. refl);
      twenty = λ i. (refl, λ ms. refl);
    })
    (after_clearing (Does Calmly c e) e (not_opened Calmly c e) (λ i. (refl, λ ms. refl))) n
  where
    Calmly : Outcome → Type 0
    Calmly a = Ended a.call × Calm (mark f d (written c e a))

none_after : {f : ℕ} (es : List Event) {c : Call} {d : Mark} {o : Known} → Agrees f c d o → none_opens (history c es) ≡ true → Ended c →
    reversals (marks f d (history c es)) ≡ 0
none_after [] y n h = refl
none_after {f} (e ∷ es) {c} {d} y n h =
    let s = written c e (step_of c e) in
    let u = first_unopening s (history (step_of c e).call es) n in
    let k = ended_keeps y h e u in
    k.1 (marks f (waits f d s) (history (step_of c e).call es))
    ∙ none_after es (keeps f e y u) (rest_unopening s (history (step_of c e).call es) n) k.0

-- what a step shows, and at most one reversal behind it
at_most_one : {f : ℕ} {c : Call} {d : Mark} (w : Took) (x y : ℕ) (m : Mark) (es : List Event) → Agrees f c d (note (known w x y) m) →
    none_opens (history c es) ≡ true → reversals (marks f d (history c es)) ≤ 1 → reversals (m ∷ marks f d (history c es)) ≤ 1
at_most_one w x y plain es a u h = h
at_most_one w x y (second n) es a u h = h
at_most_one nothing x y (reversed k t) es a u h = omega (arith, none_after es a u (took_ended a refl))
at_most_one (took k' t') x y (reversed k t) es a u h = omega (arith, none_after es a u (took_ended a refl))

turns_once : {f : ℕ} (es : List Event) {c : Call} {d : Mark} {o : Known} → Agrees f c d o → none_opens (history c es) ≡ true →
    reversals (marks f d (history c es)) ≤ 1
turns_once [] y n = omega arith
turns_once {f} (e ∷ es) {c} {d} {o} y n =
    let s = written c e (step_of c e) in
    let u = first_unopening s (history (step_of c e).call es) n in
    let r = rest_unopening s (history (step_of c e).call es) n in
    at_most_one o.turn o.before o.after (mark f d s) es (keeps f e y u) r (turns_once es (keeps f e y u) r)

-- a reversal takes effect once at most
pub one_reversal : (f : ℕ) (own : Number) → (opening f own).number ≡ 0 → (es : List Event) →
    none_opens (history (opening f own).call es) ≡ true → reversals (marks f plain (history (opening f own).call es)) ≤ 1
one_reversal f own e es n = turns_once es (from_opening f own e) n

-- ---- A bill once made stays

history_joins : (c : Call) (es more : List Event) → history c (es ++ more) ≡ history c es ++ history (run c es) more
history_joins c [] more = refl
history_joins c (e ∷ es) more = ap (λ (h : List Step). written c e (step_of c e) ∷ h) (history_joins (step_of c e).call es more)

marks_join : (f : ℕ) (d : Mark) (h more : List Step) → marks f d (h ++ more) ≡ marks f d h ++ marks f (waiting f d h) more
marks_join f d [] more = refl
marks_join f d (s ∷ h) more = ap (λ (ms : List Mark). mark f d s ∷ ms) (marks_join f (waits f d s) h more)

reversal_stays : (ms more : List Mark) {k : Case} {t : Bool} → reversal ms ≡ took k t → reversal (ms ++ more) ≡ reversal ms
reversal_stays [] more h = no_turn h
reversal_stays (plain ∷ ms) more h = reversal_stays ms more h
reversal_stays (second n ∷ ms) more h = reversal_stays ms more h
reversal_stays (reversed k t ∷ ms) more h = refl

-- whether a reversal is among the marks, or came before them (b)
abbrev passed : Bool → List Mark → Bool
passed b [] = b
passed b (plain ∷ ms) = passed b ms
passed b (second n ∷ ms) = passed b ms
passed b (reversed k t ∷ ms) = passed true ms

payments_join : (w : Took) (b : Bool) (ms more : List Mark) → payments w b (ms ++ more) ≡ payments w b ms ++ payments w (passed b ms) more
payments_join w b [] more = refl
payments_join w b (plain ∷ ms) more = payments_join w b ms more
payments_join w b (second n ∷ ms) more = ap (λ (l : List Paid). record { seconds = n; by = payer w b } ∷ l) (payments_join w b ms more)
payments_join w b (reversed k t ∷ ms) more = payments_join w true ms more

-- the bill by its marks
abbrev bill_by : List Mark → List Paid
bill_by ms = payments (reversal ms) false ms

more_marks : (ms more : List Mark) {k : Case} {t : Bool} → reversal ms ≡ took k t → Extends (bill_by ms) (bill_by (ms ++ more))
more_marks ms more h =
    subst (Extends (bill_by ms))
    (sym (ap (λ (w : Took). payments w false (ms ++ more)) (reversal_stays ms more h) ∙ payments_join (reversal ms) false ms more))
    (with_more _)

-- of any steps: after a reversal the bill of a longer history has the payments of the shorter one, and then its own
pub bill_extends : (f : ℕ) (h more : List Step) (k : Case) (t : Bool) → reversal (marks f plain h) ≡ took k t → Extends (bill f h) (bill f (h ++ more))
bill_extends f h more k t e =
    subst (λ (ms : List Mark). Extends (bill f h) (bill_by ms)) (sym (marks_join f plain h more)) (more_marks (marks f plain h) _ e)

-- steps that show nothing
data Quiet : List Mark → Type 0 where
  none : Quiet []
  one_more : {ms : List Mark} → Quiet ms → Quiet (plain ∷ ms)

quiet_reversal : (ms : List Mark) {more : List Mark} → Quiet more → reversal (ms ++ more) ≡ reversal ms
quiet_reversal [] none = refl
quiet_reversal [] (one_more q) = quiet_reversal [] q
quiet_reversal (plain ∷ ms) q = quiet_reversal ms q
quiet_reversal (second n ∷ ms) q = quiet_reversal ms q
quiet_reversal (reversed k t ∷ ms) q = refl

quiet_payments : (w : Took) (b : Bool) (ms : List Mark) {more : List Mark} → Quiet more → payments w b (ms ++ more) ≡ payments w b ms
quiet_payments w b [] none = refl
quiet_payments w b [] (one_more q) = quiet_payments w b [] q
quiet_payments w b (plain ∷ ms) q = quiet_payments w b ms q
quiet_payments w b (second n ∷ ms) q = ap (λ (l : List Paid). record { seconds = n; by = payer w b } ∷ l) (quiet_payments w b ms q)
quiet_payments w b (reversed k t ∷ ms) q = quiet_payments w true ms q

abbrev is_over : Phase → Bool
is_over Unopened = false
is_over Null = false
is_over Setup = false
is_over Answered = false
is_over Cleared = true

-- a cleared call refuses every event but an opening, so nothing more is shown
over_quiet : {f : ℕ} {c : Call} {d : Mark} {o : Known} (es : List Event) → Agrees f c d o → none_opens (history c es) ≡ true →
    c.stand.phase ≡ Cleared → Quiet (marks f d (history c es))
over_quiet [] y n h = none
over_quiet (e ∷ es) null n h = differ (ap is_over h)
over_quiet (e ∷ es) setup n h = differ (ap is_over h)
over_quiet (e ∷ es) asked_a n h = differ (ap is_over h)
over_quiet (e ∷ es) asked_d n h = differ (ap is_over h)
over_quiet (e ∷ es) (talks z) n h = differ (ap is_over h)
over_quiet (e ∷ es) (asked_b z) n h = differ (ap is_over h)
over_quiet (e ∷ es) (turned z) n h = differ (ap is_over h)
over_quiet {f} {c} {d} {o} (e ∷ es) (over z) n h =
    let quiet : none_opens (history c es) ≡ true → Quiet (plain ∷ marks f d (history c es)) =
    λ u. one_more (over_quiet {c = c} {d = d} {o = o} es (over z) u refl) in
    refused_or_performed (Told Shows-nothing c e) c e (λ i. quiet)
    (record { one = λ i. quiet; three = λ k i. quiet; fifteen = λ i. quiet; sixteen = λ i. quiet; seventeen = λ i. quiet; twenty = λ i. quiet })
    (after_clearing (Does Shows-nothing c e) e (not_opened Shows-nothing c e) (λ i. quiet))
    (first_unopening (written c e (step_of c e)) (history (step_of c e).call es) n)
    (rest_unopening (written c e (step_of c e)) (history (step_of c e).call es) n)
  where
    Shows-nothing : Outcome → Type 0
    Shows-nothing a =
        none_opens (history a.call es) ≡ true →
        Quiet (mark f d (written c e a) ∷ marks f (waits f d (written c e a)) (history a.call es))

-- of a history in two parts: none opens in it where none opens in either
none_joins : (h more : List Step) → none_opens (h ++ more) ≡ true → (none_opens h ≡ true) × (none_opens more ≡ true)
none_joins [] more n = (refl, n)
none_joins (s ∷ h) more n =
    let k = none_joins h more (right (not (opens s)) _ n) in
    (both (left (not (opens s)) _ n) k.0, k.1)

-- after the clearing the bill of a longer history is the one that was made
pub cleared_bill : (f : ℕ) (own : Number) → (opening f own).number ≡ 0 → (es more : List Event) →
    none_opens (history (opening f own).call (es ++ more)) ≡ true → (run (opening f own).call es).stand.phase ≡ Cleared →
    bill f (history (opening f own).call (es ++ more)) ≡ bill f (history (opening f own).call es)
cleared_bill f own e es more n h =
    let c = (opening f own).call in
    let u =
    none_joins (history c es) (history (run c es) more) (subst (λ (l : List Step). none_opens l ≡ true) (history_joins c es more) n) in
    let q = over_quiet more (reached f es (from_opening f own e) u.0) u.1 h in
    let ms : List Mark = marks f plain (history c es) in
    ap (bill f) (history_joins c es more) ∙ ap bill_by (marks_join f plain (history c es) (history (run c es) more))
    ∙ ap (λ (w : Took). payments w false (ms ++ marks f (waiting f plain (history c es)) (history (run c es) more))) (quiet_reversal ms q)
    ∙ quiet_payments (reversal ms) false ms q

-- after a reversal it has the payments that were made, and then its own
pub reversed_bill : (f : ℕ) (own : Number) (es more : List Event) (k : Case) (t : Bool) →
    reversal (marks f plain (history (opening f own).call es)) ≡ took k t →
    Extends (bill f (history (opening f own).call es)) (bill f (history (opening f own).call (es ++ more)))
reversed_bill f own es more k t h =
    let c = (opening f own).call in
    subst (λ (l : List Step). Extends (bill f (history c es)) (bill f l)) (sym (history_joins c es more)) (bill_extends f (history c es) _ k t h)
