-- DIGITS DECIDE NOTHING: other telephone numbers, in range, national or international, change no number given back, no action, no state
-- and no meter.
-- Assumes nothing.
use mathlib.Core.Path.{◌≡◌, refl, sym, ◌∙◌, ap, subst}
use mathlib.Core.Bool.{Bool, true, false, ◌&&◌, ◌||◌, not}
use mathlib.Core.List.{List, [], ◌∷◌}
use Prim.Native.Nat.{ℕ, ◌≤◌}
use native.Mathlib.Omega.{arith}
use lib.Dec.{eqb, ltb, leb}
use borrow.Author.Tests.{leb-true, ne_eqb}
use Rattle.std.specs.Prelude.{Option, Some, None}
use Rattle.meters.specs.Meters.{change_of, within_of}
use Rattle.meters.specs.declared.Meters.{Meters}
use Rattle.rows.specs.History.{run, history}
use Rattle.rows.specs.Perform.{refused_at, side_of, or_held, settled_of, perform_if, applies_of}
use Rattle.rows.specs.Promises.{OtherDigits, the_same, another, Redialled, opening, request, message, access, expiry, time}
use Rattle.rows.specs.Promises.{AllRedialled, no_more, and_then, holding, Renumbered, renumbered, SameAnswer, numbers}
use Rattle.rows.specs.Find.{row_for_of}
use Rattle.rows.specs.Read.{bit, error_of, kind_of, read_of, cue_of}
use Rattle.rows.specs.Telephone.{national}
use Rattle.rows.specs.Step.{if_row, takes_of, if_in_range, is_opening, if_timely, if_call, step_of}
use Rattle.rows.specs.Valid.{ten_to, in_range, number_there, number_absent, number_if, code_ok, item_ok, present_then, every_one, first_false}
use Rattle.rows.specs.Valid.{ranges_of, event_ok, bad_field_of, placed_of, metered_of, paying_of, valid_of}
use Rattle.rows.specs.Why.{is_row}
use Rattle.rows.specs.declared.Call.{Call}
use Rattle.rows.specs.declared.Component.{Component}
use Rattle.rows.specs.declared.Component.TheVariants.{Absent}
use Rattle.rows.specs.declared.Event.{Event}
use Rattle.rows.specs.declared.Flags.{Flags}
use Rattle.rows.specs.declared.Kind.{Kind}
use Rattle.rows.specs.declared.Kind.TheVariants.{Opens, Asks, Tells, Expires, Passes}
use Rattle.rows.specs.declared.Nature.{Nature}
use Rattle.rows.specs.declared.Number.{Number}
use Rattle.rows.specs.declared.Phase.{Phase}
use Rattle.rows.specs.declared.Phase.TheVariants.{Unopened, Null, Setup, Answered, Cleared}
use Rattle.rows.specs.declared.Plan.{Plan}
use Rattle.rows.specs.declared.Reading.{Reading}
use Rattle.rows.specs.declared.Register.{Register}
use Rattle.rows.specs.declared.Register.TheVariants.{AsHeld, FromOpening, CalledNumber, CallingNumber}
use Rattle.rows.specs.declared.Role.{Role}
use Rattle.rows.specs.declared.Row.{Row}
use Rattle.rows.specs.declared.Stand.{Stand}
use Rattle.rows.proofs.Answers.{plan_for}
use Rattle.rows.proofs.Truth.{both, left, or_true, right}

-- ---- What a number is asked: whether it is in range, there, absent

ranged : {n m : Number} → OtherDigits n m → in_range n ≡ in_range m
ranged the_same = refl
ranged (another p q) = left _ _ p ∙ sym (left _ _ q)

there : {n m : Number} → OtherDigits n m → number_there n ≡ number_there m
there the_same = refl
there (another p q) = p ∙ sym q

-- a number that is there has a digit
one_digit : (n : Number) → number_there n ≡ true → leb 1 n.count ≡ true
one_digit n p = right (in_range n) _ p

not_absent : (n : Number) → number_there n ≡ true → number_absent n ≡ false
not_absent n p =
    ap (λ (b : Bool). b && (eqb n.value 0 && national n.nature)) (ne_eqb n.count 0 (λ z. let h : 1 ≤ n.count = leb-true 1 n.count (one_digit n p) in omega arith))

absence : {n m : Number} → OtherDigits n m → number_absent n ≡ number_absent m
absence the_same = refl
absence (another {n} {m} p q) = not_absent n p ∙ sym (not_absent m q)

asked : (b : Bool) {n m : Number} → OtherDigits n m → number_if b n ≡ number_if b m
asked true d = ap (λ (x : Bool). x || false) (there d)
asked false d = absence d

-- a number that is there, is there with either nature
pub either_nature : (x y : Nature) (count value : ℕ) → number_there (record { nature = x; count = count; value = value }) ≡ true →
    OtherDigits (record { nature = x; count = count; value = value }) (record { nature = y; count = count; value = value })
either_nature x y count value p =
    let c = one_digit (record { nature = x; count = count; value = value }) p in
    another p (both (both (left (ltb value (ten_to count)) _ (left _ _ p)) (or_true (national y) (leb 1 count) c)) c)

-- a number that is held, or that an event brings in its place
held : {n m u v : Number} → OtherDigits n m → OtherDigits u v → OtherDigits (or_held (leb 1 n.count) n u) (or_held (leb 1 m.count) m v)
held {n} {m} {u} {v} the_same d = go (leb 1 n.count)
  where
    go : (b : Bool) → OtherDigits (or_held b n u) (or_held b n v)
    go true = the_same
    go false = d
held {n} {m} {u} {v} (another p q) d =
    subst (λ (b : Bool). OtherDigits (or_held b n u) (or_held (leb 1 m.count) m v)) (sym (one_digit n p))
    (subst (λ (b : Bool). OtherDigits n (or_held b m v)) (sym (one_digit m q)) (another p q))

-- ---- A row applied to both

pub same_stand : {c d : Call} → Renumbered c d → c.stand ≡ d.stand
same_stand (renumbered u v w) = refl

refused : (z k : ℕ) {c d : Call} → Renumbered c d → SameAnswer (refused_at z k c) (refused_at z k d)
refused z k y =
    record {
      number = refl;
      field = refl;
      call = y;
      first = refl;
      second = refl;
      third = refl;
      fourth = refl;
      error = refl;
      cause = refl;
      component = refl;
      parts = refl;
      duration = refl;
    }

module _ (k : Kind) (i g pt er ca s : ℕ) (x : Component) where
  abbrev reading : Number → Number → Number → Reading
  reading u v w =
      record { kind = k; item = i; flags = g; component = x; parts = pt; error = er; cause = ca; seconds = s; own = u; calling = v; called = w }

  module _ (r : Role) (f : Flags) (at : Stand) (m : Meters) {u u' v v' w w' n n' o o' q q' : Number}
      (a : OtherDigits u u') (b : OtherDigits v v') (c : OtherDigits w w')
      (d : OtherDigits n n') (e : OtherDigits o o') (h : OtherDigits q q') where
    registered : (reg : Register) (to : Stand) (after : Meters) →
        Renumbered (record { side = side_of reg (holding r f at m u v w).side (reading n o q); stand = to; meters = after })
        (record { side = side_of reg (holding r f at m u' v' w').side (reading n' o' q'); stand = to; meters = after })
    registered AsHeld to after = renumbered a b c
    registered FromOpening to after = renumbered d the_same the_same
    registered CalledNumber to after = renumbered a b (held h c)
    registered CallingNumber to after = renumbered a (held e b) c

    settles : (y : Option Meters) (p : Plan) →
        SameAnswer (settled_of y (holding r f at m u v w) p (reading n o q)) (settled_of y (holding r f at m u' v' w') p (reading n' o' q'))
    settles (Some after) p =
        record {
          number = refl;
          field = refl;
          call = registered p.register _ after;
          first = refl;
          second = refl;
          third = refl;
          fourth = refl;
          error = refl;
          cause = refl;
          component = refl;
          parts = refl;
          duration = refl;
        }
    settles None p = refused 2 0 (renumbered a b c)

    performs : (y : Bool) (p : Plan) →
        SameAnswer (perform_if y (holding r f at m u v w) p (reading n o q)) (perform_if y (holding r f at m u' v' w') p (reading n' o' q'))
    performs true p = settles (change_of p.change m s) p
    performs false p = refused p.number 0 (renumbered a b c)

-- ---- A step of both

valid_alike : {c d : Call} → Renumbered c d → valid_of c ≡ valid_of d
valid_alike (renumbered {r} {f} {at} {m} {u} {u'} {v} {v'} {w} {w'} a b c) =
    ap (λ (x : Bool). placed_of r at.phase at.rev && (metered_of r at.phase m && (within_of m && (paying_of r at.phase m.payer && x))))
    (ap (λ (x : Bool). x && (in_range v && in_range w)) (ranged a)
    ∙ ap (λ (x : Bool). in_range u' && (x && in_range w)) (ranged b)
    ∙ ap (λ (x : Bool). in_range u' && (in_range v' && x)) (ranged c))

-- a message's fields, by what is asked of its numbers: absent, there
abbrev message_by : ℕ → ℕ → Component → ℕ → ℕ → Bool → Bool → Bool → Bool → List Bool
message_by k u x p s calling called calls answers =
    (leb 1 k && leb k 5) ∷ leb u 127 ∷ code_ok x ∷ item_ok x
    ∷ ((leb p 127 && (bit 2 p || not (bit 4 p))) && ((bit 16 p || calling) && ((bit 32 p || called) && (bit 64 p || eqb s 0))))
    ∷ present_then (bit 16 p) calls (present_then (bit 32 p) answers (present_then (bit 64 p) true []))

ranges_alike : {e e' : Event} → Redialled e e' → ranges_of e ≡ ranges_of e'
ranges_alike (opening {r} {f} d) = ap (λ (x : Bool). leb r 1 ∷ leb f 31 ∷ x ∷ []) (there d)
ranges_alike (request {q} d) = ap (λ (x : Bool). leb q 3 ∷ x ∷ []) (asked (leb q 1) d)
ranges_alike (message {k} {u} {p} {s} {x} {n} {n'} {m} {m'} d e) =
    ap (λ (b : Bool). message_by k u x p s b (number_absent m) (number_there n) (number_there m)) (absence d)
    ∙ ap (λ (b : Bool). message_by k u x p s (number_absent n') b (number_there n) (number_there m)) (absence e)
    ∙ ap (λ (b : Bool). message_by k u x p s (number_absent n') (number_absent m') b (number_there m)) (there d)
    ∙ ap (λ (b : Bool). message_by k u x p s (number_absent n') (number_absent m') (number_there n') b) (there e)
ranges_alike access = refl
ranges_alike expiry = refl
ranges_alike time = refl

opening_alike : {e e' : Event} → Redialled e e' → is_opening e ≡ is_opening e'
opening_alike (opening d) = refl
opening_alike (request d) = refl
opening_alike (message d e) = refl
opening_alike access = refl
opening_alike expiry = refl
opening_alike time = refl

-- a row is found for both, or for neither
by_row : (b : Bool) (x : Option Row) {c d : Call} (r r' : Reading) → SameAnswer (if_row true x c r) (if_row true x d r') →
    SameAnswer (if_row false x c r) (if_row false x d r') → SameAnswer (if_row b x c r) (if_row b x d r')
by_row true x r r' h i = h
by_row false x r r' h i = i

abbrev row_for : Call → Event → Option Row
row_for c e = row_for_of c.side.role c.stand.phase c.stand.rev (cue_of (read_of e))

-- the same row is found and planned for both: neither looks at a number
takes_alike : {c d : Call} {e e' : Event} → Renumbered c d → Redialled e e' → SameAnswer (takes_of c e) (takes_of d e')
takes_alike {c} {d} {e} {e'} (renumbered {r} {f} {at} {m} u v w) (opening {r = k} {f = g} n) =
    by_row (is_row (row_for c e)) (row_for c e) (read_of e) (read_of e')
    (performs Opens k g 0 0 0 0 (Absent 0) r f at m u v w n the_same the_same (applies_of (plan_for c e).number) (plan_for c e))
    (refused _ 0 (renumbered u v w))
takes_alike {c} {d} {e} {e'} (renumbered {r} {f} {at} {m} u v w) (request {q = q} n) =
    by_row (is_row (row_for c e)) (row_for c e) (read_of e) (read_of e')
    (performs Asks q 0 0 0 0 0 (Absent 0) r f at m u v w the_same the_same n (applies_of (plan_for c e).number) (plan_for c e))
    (refused _ 0 (renumbered u v w))
takes_alike {c} {d} {e} {e'} (renumbered {r} {f} {at} {m} u v w) (message {k = k} {u = z} {p = p} {s = s} {x = x} n o) =
    by_row (is_row (row_for c e)) (row_for c e) (read_of e) (read_of e')
    (performs (kind_of k) 0 0 p (error_of x) z s x r f at m u v w the_same n o (applies_of (plan_for c e).number) (plan_for c e))
    (refused _ 0 (renumbered u v w))
takes_alike {c} {d} {e} {e'} (renumbered {r} {f} {at} {m} u v w) (access {a = a} {n = n}) =
    by_row (is_row (row_for c e)) (row_for c e) (read_of e) (read_of e')
    (performs Tells a 0 0 n 16 0 (Absent 0) r f at m u v w the_same the_same the_same (applies_of (plan_for c e).number) (plan_for c e))
    (refused _ 0 (renumbered u v w))
takes_alike {c} {d} {e} {e'} (renumbered {r} {f} {at} {m} u v w) expiry =
    by_row (is_row (row_for c e)) (row_for c e) (read_of e) (read_of e')
    (performs Expires 0 0 0 0 0 0 (Absent 0) r f at m u v w the_same the_same the_same (applies_of (plan_for c e).number) (plan_for c e))
    (refused _ 0 (renumbered u v w))
takes_alike {c} {d} {e} {e'} (renumbered {r} {f} {at} {m} u v w) (time {s = s}) =
    by_row (is_row (row_for c e)) (row_for c e) (read_of e) (read_of e')
    (performs Passes 0 0 0 0 0 s (Absent 0) r f at m u v w the_same the_same the_same (applies_of (plan_for c e).number) (plan_for c e))
    (refused _ 0 (renumbered u v w))

module _ {c d : Call} {e e' : Event} (y : Renumbered c d) (z : Redialled e e') where
  in_range_alike : (b : Bool) → SameAnswer (if_in_range b c e) (if_in_range b d e')
  in_range_alike true = takes_alike y z
  in_range_alike false = subst (λ (k : ℕ). SameAnswer (refused_at 3 (bad_field_of e) c) (refused_at 3 k d)) (ap (first_false 1) (ranges_alike z)) (refused 3 _ y)

  both_in_range : SameAnswer (if_in_range (event_ok e) c e) (if_in_range (event_ok e') d e')
  both_in_range =
      subst (λ (b : Bool). SameAnswer (if_in_range (event_ok e) c e) (if_in_range b d e')) (ap every_one (ranges_alike z)) (in_range_alike (event_ok e))

  timely_alike : (p : Phase) (b : Bool) → SameAnswer (if_timely p b c e) (if_timely p b d e')
  timely_alike Unopened true = both_in_range
  timely_alike Unopened false = refused 17 0 y
  timely_alike Null true = refused 20 0 y
  timely_alike Null false = both_in_range
  timely_alike Setup true = refused 20 0 y
  timely_alike Setup false = both_in_range
  timely_alike Answered true = refused 20 0 y
  timely_alike Answered false = both_in_range
  timely_alike Cleared b = both_in_range

  call_alike : (b : Bool) → SameAnswer (if_call b c e) (if_call b d e')
  call_alike true =
      subst (λ (b : Bool). SameAnswer (if_call true c e) (if_timely d.stand.phase b d e')) (opening_alike z)
      (subst (λ (p : Stand). SameAnswer (if_call true c e) (if_timely p.phase (is_opening e) d e')) (same_stand y)
      (timely_alike c.stand.phase (is_opening e)))
  call_alike false = refused 9 0 y

  pub step_alike : SameAnswer (step_of c e) (step_of d e')
  step_alike = subst (λ (b : Bool). SameAnswer (step_of c e) (if_call b d e')) (valid_alike y) (call_alike (valid_of c))

-- ---- Any history

pub run_alike : {c d : Call} {es es' : List Event} → Renumbered c d → AllRedialled es es' → Renumbered (run c es) (run d es')
run_alike y no_more = y
run_alike {c = c} {d = d} y (and_then {e = e} {e' = e'} {es = es} {es' = es'} z zs) =
    run_alike {c = (step_of c e).call} {d = (step_of d e').call} (step_alike y z).call zs

pub numbers_alike : {c d : Call} {es es' : List Event} → Renumbered c d → AllRedialled es es' → numbers (history c es) ≡ numbers (history d es')
numbers_alike y no_more = refl
numbers_alike {c} {d} y (and_then {e = e} {e' = e'} {es = es} {es' = es'} z zs) =
    ap (λ (n : ℕ). n ∷ numbers (history (step_of c e).call es)) (step_alike y z).number
    ∙ ap (λ (ns : List ℕ). (step_of d e').number ∷ ns) (numbers_alike {c = (step_of c e).call} {d = (step_of d e').call} (step_alike y z).call zs)
