-- Every refusal is 11, 12, 13 or 14, and so none of them is taken for a number that says something else.
-- Assumes nothing.
use mathlib.Core.Path.{◌≡◌, refl, sym, subst}
use mathlib.Core.List.{List}
use Prim.Native.Nat.{ℕ, zero, suc, ◌-◌, ◌≤◌, ◌<◌}
use native.Mathlib.Omega.{arith}
use lib.ListN.{length, take}
use Rattle.text.proofs.Cases.{both_lt, both_le, both_eq}
use Rattle.wire.specs.Heads.{filled_of, length_of, head_from, head_of}
use Rattle.wire.specs.Elements.{sequence_of}
use Rattle.wire.specs.Cursors.{stopped_of, absent_of, opened_of, inside_of, sized_of, look_of, need_of, may_of, extra_of, closed_of}
use Rattle.wire.specs.Cursors.{checked_of, seen_of, rest_of}
use Rattle.wire.specs.Grammar.{code_of, partial_of, duration_of, last_of, parts_of, answer_of, invoke_of, result_of, error_of, named_of}
use Rattle.wire.specs.Grammar.{reject_of, kind_of, whole_of, component_of}
use Rattle.wire.specs.Parameters.{Parameter, refused, holds, before, onward, walk_of, framed_of, held_in, parameter_of}
use Rattle.wire.specs.declared.Component.{Component}
use Rattle.wire.specs.declared.Cursor.{Cursor}
use Rattle.wire.specs.declared.Last.{Last}
use Rattle.wire.proofs.Bounds.{Told, seq_told}
use Rattle.wire.proofs.Walks.{Twelve, head_twelve, read_on, walk_end, walk_on}
use Rattle.wire.specs.Answers.{Answer, Frame, Head, Seen}
use Rattle.std.specs.Prelude.{Ok, Err}
use Rattle.std.specs.Prelude.{Bool}
use Rattle.text.proofs.Cases.{both_so}

-- ---- cursors: 12, 13 or 14, where it is stopped

abbrev Tells : Cursor → Type 0
Tells c = (c.number ≡ 0 → ⊥) → (12 ≤ c.number) × (c.number ≤ 14)

stopped_tells : (n place : ℕ) → 12 ≤ n → n ≤ 14 → Tells (stopped_of n place)
unfolding stopped_of
stopped_tells n place h g = λ _. (h, g)

other : (place : ℕ) → Tells (stopped_of 14 place)
other place = stopped_tells 14 place (omega arith) (omega arith)

absent_tells : (place : ℕ) → Tells (absent_of place)
unfolding absent_of
absent_tells place = λ h. absurd (h refl)

opened_tells : (inner next : ℕ) → Tells (opened_of inner next)
unfolding opened_of
opened_tells inner next = λ h. absurd (h refl)

look_tells : (h : Head) (place tag least most : ℕ) → Twelve h → Tells (look_of h place tag least most)
unfolding look_of sized_of
look_tells (Err n) place tag least most t = stopped_tells n place (omega arith) (omega arith)
look_tells (Ok el) place tag least most t =
    both_eq _ _ Tells _ _
    (λ _. both_lt _ _ Tells _ _ (λ _. other place) (λ _. both_lt _ _ Tells _ _ (λ _. other place) (λ _. opened_tells el.body el.next)))
    (λ _. other place)

extra_tells : (h : Head) (place : ℕ) → Twelve h → Tells (extra_of h place)
unfolding extra_of
extra_tells (Err n) place t = stopped_tells n place (omega arith) (omega arith)
extra_tells (Ok el) place t = other place

seen_tells : (x : Seen) → Told x → Tells (seen_of x)
unfolding seen_of
seen_tells (Err stop) (h, g) = stopped_tells stop.number stop.place h g
seen_tells (Ok next) t = absent_tells next

module _ (s : List ℕ) (c : Cursor) (end : ℕ) (i : Tells c) where
  need_tells : (tag least most : ℕ) → Tells (need_of s c end tag least most)
  unfolding need_of
  need_tells tag least most =
      both_eq c.number 0 Tells _ _
      (λ _. both_le _ _ Tells _ _ (λ _. other c.at)
      (λ _. look_tells (head_of s c.at end 12) c.at tag least most (head_twelve s c.at end)))
      (λ _. i)

  may_tells : (tag least most : ℕ) → Tells (may_of s c end tag least most)
  unfolding may_of
  may_tells tag least most =
      both_eq c.number 0 Tells _ _
      (λ _. both_le _ _ Tells _ _ (λ _. absent_tells c.at)
      (λ _. both_eq _ _ Tells _ _ (λ _. need_tells tag least most) (λ _. absent_tells c.at)))
      (λ _. i)

  closed_tells : Tells (closed_of s c end)
  unfolding closed_of
  closed_tells =
      both_eq c.number 0 Tells _ _
      (λ _. both_le _ _ Tells _ _ (λ _. i) (λ _. extra_tells (head_of s c.at end 12) c.at (head_twelve s c.at end)))
      (λ _. i)

  rest_tells : (depth known : ℕ) → Tells (rest_of s c end depth known)
  unfolding rest_of
  rest_tells depth known =
      both_eq c.number 0 Tells _ _
      (λ _. both_le _ _ Tells _ _ (λ _. absent_tells c.at)
      (λ _. seen_tells (sequence_of s c.at end depth known) (seq_told s c.at end depth known)))
      (λ _. i)

inside_tells : (c : Cursor) → Tells c → Tells (inside_of c)
unfolding inside_of
inside_tells c i = both_eq c.number 0 Tells _ _ (λ _. absent_tells c.body) (λ _. i)

checked_tells : (ok : Bool) (from : ℕ) (c : Cursor) → Tells c → Tells (checked_of ok from c)
unfolding checked_of
checked_tells ok from c i = both_eq c.body 0 Tells _ _ (λ _. i) (λ _. both_so ok Tells _ _ (λ _. i) (λ _. other from))

-- ---- the grammar

code_tells : (s : List ℕ) (c : Cursor) (end low high : ℕ) → Tells c → Tells (code_of s c end low high)
unfolding code_of
code_tells s c end low high i = checked_tells _ c.at (need_of s c end 6 7 7) (need_tells s c end i 6 7 7)

duration_tells : (s : List ℕ) (c : Cursor) (end : ℕ) → Tells c → Tells (duration_of s c end).cursor
unfolding duration_of
duration_tells s c end i =
    both_eq _ _ (λ (x : Last). Tells x.cursor) _ _ (λ _. may_tells s c end i 130 3 3)
    (λ _. checked_tells _ c.at (may_of s c end 130 3 3) (may_tells s c end i 130 3 3))

partial_tells : (s : List ℕ) (c : Cursor) (end : ℕ) → Tells c → Tells (partial_of s c end).cursor
unfolding partial_of
partial_tells s c end i = may_tells s c end i 130 1 1

last_tells : (s : List ℕ) (c : Cursor) (end k x : ℕ) → Tells c → Tells (last_of s c end k x).cursor
unfolding last_of
last_tells s c end k x i =
    both_eq _ _ (λ (y : Last). Tells y.cursor) _ _
    (λ _. both_eq _ _ (λ (y : Last). Tells y.cursor) _ _ (λ _. partial_tells s c end i) (λ _. duration_tells s c end i))
    (λ _. i)

parts_tells : (s : List ℕ) (c : Cursor) (end k x : ℕ) → Tells c → Tells (parts_of s c end k x).cursor
unfolding parts_of
parts_tells s c end k x i =
    let f = may_tells s c end i 128 1 1 in
    rest_tells s _ end (last_tells s _ end k x (checked_tells _ _ _ (may_tells s (may_of s c end 128 1 1) end f 129 3 10))) _ _

abbrev pub Numbered : Answer → Type 0
Numbered (Err stop) = (11 ≤ stop.number) × (stop.number ≤ 14)
Numbered (Ok (c, next)) = Unit {0}

answer_numbered : (c : Cursor) (m : Component) → Tells c → Numbered (answer_of c m)
unfolding answer_of
answer_numbered c m i = both_eq c.number 0 Numbered _ _ (λ _. tt) (λ h. let z = i h in (omega arith, z.1))

module _ (s : List ℕ) (at end : ℕ) where
  id_tells : Tells (need_of s (absent_of at) end 2 1 1)
  id_tells = need_tells s (absent_of at) end (absent_tells at) 2 1 1

  invoke_numbered : Numbered (invoke_of s at end)
  unfolding invoke_of
  invoke_numbered =
      let o = code_tells s _ end 1 3 (may_tells s _ end id_tells 128 1 1) in
      let g = need_tells s _ end o 48 0 18446744073709551615 in
      answer_numbered _ _ (closed_tells s _ end (parts_tells s _ _ 1 _ (inside_tells _ g)))

  result_numbered : Numbered (result_of s at end)
  unfolding result_of
  result_numbered =
      let h = need_tells s _ end id_tells 48 0 18446744073709551615 in
      let o = code_tells s _ _ 1 3 (inside_tells _ h) in
      let g = need_tells s _ _ o 48 0 18446744073709551615 in
      answer_numbered _ _ (closed_tells s _ end (closed_tells s _ _ (parts_tells s _ _ 2 _ (inside_tells _ g))))

  error_numbered : Numbered (error_of s at end)
  unfolding error_of
  error_numbered = answer_numbered _ _ (closed_tells s _ end (code_tells s _ end 4 12 id_tells))

  named_tells : (n : Cursor) → Tells n → Tells (named_of s n end)
  unfolding named_of
  named_tells n i = both_eq _ _ Tells _ _ (λ _. need_tells s n end i 2 1 1) (λ _. i)

  reject_numbered : Numbered (reject_of s at end)
  unfolding reject_of
  reject_numbered =
      let n = may_tells s (absent_of at) end (absent_tells at) 5 0 0 in
      answer_numbered _ _ (closed_tells s _ end (need_tells s _ end (named_tells _ n) _ 1 1))

kind_numbered : (s : List ℕ) (place tag at : ℕ) → Numbered (kind_of s place tag at)
unfolding kind_of
kind_numbered s place tag at =
    both_eq _ _ Numbered _ _ (λ _. invoke_numbered s at (length s)) λ _.
    both_eq _ _ Numbered _ _ (λ _. result_numbered s at (length s)) λ _.
    both_eq _ _ Numbered _ _ (λ _. error_numbered s at (length s)) λ _.
    both_eq _ _ Numbered _ _ (λ _. reject_numbered s at (length s)) (λ _. (omega arith, omega arith))

-- a component's own head: 11, or 12 for its length
abbrev Cut : Head → Type 0
Cut (Err n) = (11 ≤ n) × (n ≤ 14)
Cut (Ok el) = Unit {0}

filled_cut : (tag body end len : ℕ) → Cut (filled_of tag body end len 11)
unfolding filled_of
filled_cut tag body end len = both_lt _ _ Cut _ _ (λ _. (omega arith, omega arith)) (λ _. tt)

head_cut : (s : List ℕ) (at end : ℕ) → Cut (head_of s at end 11)
unfolding head_of head_from length_of
head_cut s at end =
    both_le _ _ Cut _ _ (λ _. (omega arith, omega arith)) λ _.
    both_le _ _ Cut _ _ (λ _. (omega arith, omega arith)) λ _.
    both_lt _ _ Cut _ _ (λ _. filled_cut _ _ _ _) λ _.
    both_eq _ _ Cut _ _ (λ _. (omega arith, omega arith)) λ _.
    both_eq _ _ Cut _ _ (λ _. (omega arith, omega arith)) λ _.
    both_lt _ _ Cut _ _ (λ _. (omega arith, omega arith)) (λ _. filled_cut _ _ _ _)

whole_numbered : (s : List ℕ) (at : ℕ) (h : Head) → Cut h → Numbered (whole_of s at h)
unfolding whole_of
whole_numbered s at (Err n) w = w
whole_numbered s at (Ok el) w = kind_numbered (take el.next s) at el.tag el.body

pub component_numbered : (s : List ℕ) (at : ℕ) → Numbered (component_of s at)
unfolding component_of
component_numbered s at = whole_numbered s at (head_of s at (length s) 11) (head_cut s at (length s))

-- ---- parameters

abbrev pub NumberedWhole : Parameter → Type 0
NumberedWhole (refused n place) = (11 ≤ n) × (n ≤ 14)
NumberedWhole (holds cs) = Unit {0}

before_numbered : (c : Component) (p : Parameter) → NumberedWhole p → NumberedWhole (before c p)
unfolding before
before_numbered c (refused n place) h = h
before_numbered c (holds cs) h = tt

onward_numbered : (a : Answer) (rest : ℕ → Parameter) → Numbered a → ((c : Component) (next : ℕ) → a ≡ Ok (c, next) → NumberedWhole (rest next))
    → NumberedWhole (onward a rest)
unfolding onward
onward_numbered (Err stop) rest h f = h
onward_numbered (Ok (c, next)) rest h f = before_numbered c (rest next) (f c next refl)

walk_numbered : (k : ℕ) (s : List ℕ) (place : ℕ) → length s - place < k → NumberedWhole (walk_of s place)
walk_numbered zero s place h = absurd (omega arith)
walk_numbered (suc k) s place h =
    both_le (length s) place (λ (_ : ℕ). NumberedWhole (walk_of s place)) 0 0
    (λ g. subst NumberedWhole (sym (walk_end s place g)) tt)
    (λ g. subst NumberedWhole (sym (walk_on s place g))
    (onward_numbered (component_of s place) (walk_of s) (component_numbered s place)
    (λ c next e. let o = read_on s place next c (component_of s place) refl e in walk_numbered k s next (omega arith))))

abbrev NumberedFrame : Frame → Type 0
NumberedFrame (Err stop) = (11 ≤ stop.number) × (stop.number ≤ 14)
NumberedFrame (Ok u) = Unit {0}

frame_numbered : (s : List ℕ) → NumberedFrame (framed_of s)
unfolding framed_of
frame_numbered s =
    both_lt _ _ NumberedFrame _ _ (λ _. (omega arith, omega arith)) λ _.
    both_lt _ _ NumberedFrame _ _ (λ _. (omega arith, omega arith)) λ _.
    both_lt _ _ NumberedFrame _ _ (λ _. (omega arith, omega arith)) λ _.
    both_eq _ _ NumberedFrame _ _ (λ _. (omega arith, omega arith)) λ _.
    both_eq _ _ NumberedFrame _ _ (λ _. both_eq _ _ NumberedFrame _ _ (λ _. tt) (λ _. (omega arith, omega arith))) (λ _. (omega arith, omega arith))

held_numbered : (f : Frame) (p : Parameter) → NumberedFrame f → NumberedWhole p → NumberedWhole (held_in f p)
unfolding held_in
held_numbered (Err stop) p h g = h
held_numbered (Ok u) p h g = g

pub parameter_numbered : (s : List ℕ) → NumberedWhole (parameter_of s)
unfolding parameter_of
parameter_numbered s = held_numbered (framed_of s) (walk_of s 3) (frame_numbered s) (walk_numbered (suc (length s - 3)) s 3 (omega arith))
