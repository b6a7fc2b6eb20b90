-- Every place that a reader gives lies within the bytes it was given: where a refusal was met, and where a component ends. And what is
-- written is short.
-- Assumes nothing.
use mathlib.Core.List.{List, [], ◌∷◌, ◌++◌}
use Prim.Native.Nat.{ℕ, zero, suc, ◌+◌, ◌-◌, ◌*◌, ◌/◌, ◌%◌, ◌≤◌}
use native.Mathlib.Omega.{arith}
use lib.ListN.{length, take, length-append}
use lib.Seq.{length-take-le}
use Rattle.text.proofs.Cases.{both_lt, both_le, both_eq}
use Rattle.wire.specs.Heads.{head_of}
use Rattle.wire.specs.Elements.{enter, follow, element_by, sequence_by, sequence_of}
use Rattle.wire.specs.Cursors.{stopped_of, absent_of, opened_of, inside_of, sized_of, look_of, need_of, may_of, extra_of, closed_of}
use Rattle.wire.specs.Cursors.{checked_of, seen_of, rest_of}
use Rattle.wire.specs.Grammar.{code_of, partial_of, duration_of, last_of, parts_of, answer_of, invoke_of, result_of, error_of, named_of}
use Rattle.wire.specs.Grammar.{reject_of, kind_of, whole_of, component_of}
use Rattle.wire.specs.Parameters.{Parameter, refused, holds, before, onward, walk_by, walk_of}
use Rattle.wire.specs.Texts.{element_text, text_if, flag_text, party_text, duration_text, first_text, parties_text, last_text}
use Rattle.wire.specs.Texts.{parts_text, seq_text, id_text, rejected_text, code_text, invoke_text, held_text, result_text, error_text}
use Rattle.wire.specs.Texts.{reject_text, component_text, parameter_text}
use Rattle.wire.specs.declared.Component.{Component}
use Rattle.wire.specs.declared.Cursor.{Cursor}
use Rattle.wire.specs.declared.Last.{Last}
use Rattle.wire.specs.declared.Number.{Number}
use Rattle.wire.proofs.Levels.{HeadWithin, head_within}
use Rattle.wire.proofs.Pieces.{number_length}
use Rattle.wire.specs.Answers.{Answer, Head, Seen}
use Rattle.std.specs.Prelude.{Ok, Err}
use Rattle.std.specs.Prelude.{Bool}
use Rattle.text.proofs.Cases.{both_so}

-- ---- elements

abbrev Bounded : ℕ → Seen → Type 0
Bounded e (Err stop) = stop.place ≤ e
Bounded e (Ok next) = next ≤ e

widen : (x : Seen) (e f : ℕ) → e ≤ f → Bounded e x → Bounded f x
widen (Err stop) e f h b = omega arith
widen (Ok next) e f h b = omega arith

enter_bounded : (h : Head) (at end depth known : ℕ) (held : ℕ → ℕ → ℕ → ℕ → Seen) → at ≤ end → HeadWithin at end h
    → ((body next d n : ℕ) → body ≤ next → Bounded next (held body next d n)) → Bounded end (enter h at depth known held)
unfolding enter
enter_bounded (Err n) at end depth known held l h f = l
enter_bounded (Ok el) at end depth known held l (h, g, i) f =
    both_eq _ _ (Bounded end) _ _ (λ _. l) λ _.
    both_so _ (Bounded end) _ _ (λ _. l) λ _.
    both_eq _ _ (Bounded end) _ _ (λ _. widen (held el.body el.next (depth - 1) 0) el.next end i (f el.body el.next (depth - 1) 0 g)) (λ _. i)

follow_bounded : (x : Seen) (end : ℕ) (rest : ℕ → Seen) → Bounded end x → ((next : ℕ) → next ≤ end → Bounded end (rest next))
    → Bounded end (follow x rest)
unfolding follow
follow_bounded (Err stop) end rest h f = h
follow_bounded (Ok next) end rest h f = f next h

mutual
  unfolding element_by

  element_bounded : (k : ℕ) (s : List ℕ) (at end depth known : ℕ) → at ≤ end → Bounded end (element_by k s at end depth known)
  element_bounded zero s at end depth known l = l
  element_bounded (suc k) s at end depth known l =
      enter_bounded (head_of s at end 12) at end depth known _ l (head_within s at end 12)
      (λ body next d n h. sequence_bounded k s body next d n h)

  sequence_bounded : (k : ℕ) (s : List ℕ) (at end depth known : ℕ) → at ≤ end → Bounded end (sequence_by k s at end depth known)
  sequence_bounded zero s at end depth known l = l
  sequence_bounded (suc k) s at end depth known l =
      both_le _ _ (Bounded end) _ _ (λ _. l)
      (λ _. follow_bounded (element_by k s at end depth known) end _ (element_bounded k s at end depth known l)
      (λ next i. sequence_bounded k s next end depth known i))

-- ---- cursors: where it stands, and where the contents of the element last read begin

abbrev In : ℕ → Cursor → Type 0
In e c = (c.at ≤ e) × (c.body ≤ e)

stopped_in : (e n place : ℕ) → place ≤ e → In e (stopped_of n place)
unfolding stopped_of
stopped_in e n place h = (h, omega arith)

absent_in : (e place : ℕ) → place ≤ e → In e (absent_of place)
unfolding absent_of
absent_in e place h = (h, omega arith)

opened_in : (e inner next : ℕ) → inner ≤ next → next ≤ e → In e (opened_of inner next)
unfolding opened_of
opened_in e inner next h g = (g, omega arith)

look_in : (e end : ℕ) (h : Head) (place tag least most : ℕ) → place ≤ e → end ≤ e → HeadWithin place end h
    → In e (look_of h place tag least most)
unfolding look_of sized_of
look_in e end (Err n) place tag least most p q w = stopped_in e n place p
look_in e end (Ok el) place tag least most p q (a, b, c) =
    both_eq _ _ (In e) _ _
    (λ _. both_lt _ _ (In e) _ _ (λ _. stopped_in e 14 place p)
    (λ _. both_lt _ _ (In e) _ _ (λ _. stopped_in e 14 place p) (λ _. opened_in e el.body el.next b (omega arith))))
    (λ _. stopped_in e 14 place p)

extra_in : (e : ℕ) (h : Head) (place : ℕ) → place ≤ e → In e (extra_of h place)
unfolding extra_of
extra_in e (Err n) place p = stopped_in e n place p
extra_in e (Ok el) place p = stopped_in e 14 place p

seen_in : (e end : ℕ) (x : Seen) → end ≤ e → Bounded end x → In e (seen_of x)
unfolding seen_of
seen_in e end (Err stop) h b = stopped_in e stop.number stop.place (omega arith)
seen_in e end (Ok next) h b = absent_in e next (omega arith)

module _ (e : ℕ) (s : List ℕ) (c : Cursor) (end : ℕ) (i : In e c) (q : end ≤ e) where
  need_in : (tag least most : ℕ) → In e (need_of s c end tag least most)
  unfolding need_of
  need_in tag least most =
      both_eq c.number 0 (In e) _ _
      (λ _. both_le _ _ (In e) _ _ (λ _. stopped_in e 14 c.at i.0)
      (λ _. look_in e end (head_of s c.at end 12) c.at tag least most i.0 q (head_within s c.at end 12)))
      (λ _. i)

  may_in : (tag least most : ℕ) → In e (may_of s c end tag least most)
  unfolding may_of
  may_in tag least most =
      both_eq c.number 0 (In e) _ _
      (λ _. both_le _ _ (In e) _ _ (λ _. absent_in e c.at i.0)
      (λ _. both_eq _ _ (In e) _ _ (λ _. need_in tag least most) (λ _. absent_in e c.at i.0)))
      (λ _. i)

  closed_in : In e (closed_of s c end)
  unfolding closed_of
  closed_in =
      both_eq c.number 0 (In e) _ _
      (λ _. both_le _ _ (In e) _ _ (λ _. i) (λ _. extra_in e (head_of s c.at end 12) c.at i.0))
      (λ _. i)

  rest_in : (depth known : ℕ) → In e (rest_of s c end depth known)
  unfolding rest_of sequence_of
  rest_in depth known =
      both_eq c.number 0 (In e) _ _
      (λ _. both_le _ _ (In e) _ _ (λ _. absent_in e c.at i.0)
      (λ l. seen_in e end (sequence_of s c.at end depth known) q (sequence_bounded _ s c.at end depth known (omega arith))))
      (λ _. i)

inside_in : (e : ℕ) (c : Cursor) → In e c → In e (inside_of c)
unfolding inside_of
inside_in e c i = both_eq c.number 0 (In e) _ _ (λ _. absent_in e c.body i.1) (λ _. i)

checked_in : (e : ℕ) (ok : Bool) (from : ℕ) (c : Cursor) → In e c → from ≤ e → In e (checked_of ok from c)
unfolding checked_of
checked_in e ok from c i h =
    both_eq c.body 0 (In e) _ _ (λ _. i) (λ _. both_so ok (In e) _ _ (λ _. i) (λ _. stopped_in e 14 from h))

-- ---- the grammar

code_in : (e : ℕ) (s : List ℕ) (c : Cursor) (end low high : ℕ) → In e c → end ≤ e → In e (code_of s c end low high)
unfolding code_of
code_in e s c end low high i q = checked_in e _ c.at (need_of s c end 6 7 7) (need_in e s c end i q 6 7 7) i.0

duration_in_lem : (e : ℕ) (s : List ℕ) (c : Cursor) (end : ℕ) → In e c → end ≤ e → In e (duration_of s c end).cursor
unfolding duration_of
duration_in_lem e s c end i q =
    both_eq _ _ (λ (x : Last). In e x.cursor) _ _ (λ _. may_in e s c end i q 130 3 3)
    (λ _. checked_in e _ c.at (may_of s c end 130 3 3) (may_in e s c end i q 130 3 3) i.0)

partial_in : (e : ℕ) (s : List ℕ) (c : Cursor) (end : ℕ) → In e c → end ≤ e → In e (partial_of s c end).cursor
unfolding partial_of
partial_in e s c end i q = may_in e s c end i q 130 1 1

last_in : (e : ℕ) (s : List ℕ) (c : Cursor) (end k x : ℕ) → In e c → end ≤ e → In e (last_of s c end k x).cursor
unfolding last_of
last_in e s c end k x i q =
    both_eq _ _ (λ (y : Last). In e y.cursor) _ _
    (λ _. both_eq _ _ (λ (y : Last). In e y.cursor) _ _ (λ _. partial_in e s c end i q) (λ _. duration_in_lem e s c end i q))
    (λ _. i)

parts_in : (e : ℕ) (s : List ℕ) (c : Cursor) (end k x : ℕ) → In e c → end ≤ e → In e (parts_of s c end k x).cursor
unfolding parts_of
parts_in e s c end k x i q =
    let f = may_in e s c end i q 128 1 1 in
    rest_in e s _ end (last_in e s _ end k x (checked_in e _ _ _ (may_in e s (may_of s c end 128 1 1) end f q 129 3 10) f.0) q) q _ _

-- where an answer leads: the place of a refusal, or the place after the component
abbrev pub Placed : ℕ → Answer → Type 0
Placed e (Err stop) = stop.place ≤ e
Placed e (Ok (c, next)) = next ≤ e

answer_placed : (e : ℕ) (c : Cursor) (m : Component) → In e c → Placed e (answer_of c m)
unfolding answer_of
answer_placed e c m i = both_eq c.number 0 (Placed e) _ _ (λ _. i.0) (λ _. i.0)

module _ (e : ℕ) (s : List ℕ) (at end : ℕ) (p : at ≤ e) (q : end ≤ e) where
  id_in : In e (need_of s (absent_of at) end 2 1 1)
  id_in = need_in e s (absent_of at) end (absent_in e at p) q 2 1 1

  invoke_placed : Placed e (invoke_of s at end)
  unfolding invoke_of
  invoke_placed =
      let l = may_in e s _ end id_in q 128 1 1 in
      let o = code_in e s _ end 1 3 l q in
      let g = need_in e s _ end o q 48 0 18446744073709551615 in
      answer_placed e _ _ (closed_in e s _ end (parts_in e s _ _ 1 _ (inside_in e _ g) g.0) q)

  result_placed : Placed e (result_of s at end)
  unfolding result_of
  result_placed =
      let h = need_in e s _ end id_in q 48 0 18446744073709551615 in
      let o = code_in e s _ _ 1 3 (inside_in e _ h) h.0 in
      let g = need_in e s _ _ o h.0 48 0 18446744073709551615 in
      answer_placed e _ _ (closed_in e s _ end (closed_in e s _ _ (parts_in e s _ _ 2 _ (inside_in e _ g) g.0) h.0) q)

  error_placed : Placed e (error_of s at end)
  unfolding error_of
  error_placed = answer_placed e _ _ (closed_in e s _ end (code_in e s _ end 4 12 id_in q) q)

  named_in : (n : Cursor) → In e n → In e (named_of s n end)
  unfolding named_of
  named_in n i = both_eq _ _ (In e) _ _ (λ _. need_in e s n end i q 2 1 1) (λ _. i)

  reject_placed : Placed e (reject_of s at end)
  unfolding reject_of
  reject_placed =
      let n = may_in e s (absent_of at) end (absent_in e at p) q 5 0 0 in
      answer_placed e _ _ (closed_in e s _ end (need_in e s _ end (named_in _ n) q _ 1 1) q)

kind_placed : (s : List ℕ) (place tag at : ℕ) → place ≤ length s → at ≤ length s → Placed (length s) (kind_of s place tag at)
unfolding kind_of
kind_placed s place tag at h p =
    let q : length s ≤ length s = omega arith in
    both_eq _ _ (Placed (length s)) _ _ (λ _. invoke_placed (length s) s at (length s) p q) λ _.
    both_eq _ _ (Placed (length s)) _ _ (λ _. result_placed (length s) s at (length s) p q) λ _.
    both_eq _ _ (Placed (length s)) _ _ (λ _. error_placed (length s) s at (length s) p q) λ _.
    both_eq _ _ (Placed (length s)) _ _ (λ _. reject_placed (length s) s at (length s) p q) (λ _. h)

wider : (a : Answer) (e f : ℕ) → e ≤ f → Placed e a → Placed f a
wider (Err stop) e f h p = omega arith
wider (Ok (c, next)) e f h p = omega arith

whole_placed : (s : List ℕ) (at : ℕ) (h : Head) → at ≤ length s → HeadWithin at (length s) h → Placed (length s) (whole_of s at h)
unfolding whole_of
whole_placed s at (Err n) l w = l
whole_placed s at (Ok el) l (f, g, i) =
    let e = length-take-le el.next s i in
    wider (kind_of (take el.next s) at el.tag el.body) (length (take el.next s)) (length s) (omega arith)
    (kind_placed (take el.next s) at el.tag el.body (omega arith) (omega arith))

pub component_placed : (s : List ℕ) (at : ℕ) → at ≤ length s → Placed (length s) (component_of s at)
unfolding component_of
component_placed s at l = whole_placed s at (head_of s at (length s) 11) l (head_within s at (length s) 11)

-- ---- parameters

-- where a parameter was refused
abbrev pub Met : ℕ → Parameter → Type 0
Met e (refused n place) = place ≤ e
Met e (holds cs) = Unit {0}

before_met : (e : ℕ) (c : Component) (p : Parameter) → Met e p → Met e (before c p)
unfolding before
before_met e c (refused n place) h = h
before_met e c (holds cs) h = tt

onward_met : (e : ℕ) (a : Answer) (rest : ℕ → Parameter) → Placed e a → ((next : ℕ) → next ≤ e → Met e (rest next)) → Met e (onward a rest)
unfolding onward
onward_met e (Err stop) rest h f = h
onward_met e (Ok (c, next)) rest h f = before_met e c (rest next) (f next h)

walk_by_met : (k : ℕ) (s : List ℕ) (place : ℕ) → place ≤ length s → Met (length s) (walk_by k s place)
unfolding walk_by
walk_by_met zero s place h = h
walk_by_met (suc k) s place h =
    both_le _ _ (Met (length s)) _ _ (λ _. tt)
    (λ _. onward_met (length s) (component_of s place) _ (component_placed s place h) (λ next l. walk_by_met k s next l))

pub walk_met : (s : List ℕ) (place : ℕ) → place ≤ length s → Met (length s) (walk_of s place)
unfolding walk_of
walk_met s place h = walk_by_met _ s place h

-- ---- what is written

if_most : (b m : ℕ) (t : List ℕ) → length t ≤ m → length (text_if b t) ≤ m
unfolding text_if
if_most b m t h = both_eq b 1 (λ (x : List ℕ). length x ≤ m) t [] (λ _. h) (λ _. omega arith)

flag_most : (b tag x : ℕ) → length (flag_text b tag x) ≤ 3
unfolding flag_text
flag_most b tag x = if_most b 3 _ (omega arith)

duration_most : (b t : ℕ) → length (duration_text b t) ≤ 5
unfolding duration_text
duration_most b t = if_most b 5 _ (omega arith)

party_most : (b : ℕ) (n : Number) → length (party_text b n) ≤ 68
unfolding party_text element_text
party_most b n = let e = number_length n in if_most b 68 _ (omega arith)

joined_most : (a b : List ℕ) (m n : ℕ) → length a ≤ m → length b ≤ n → length (a ++ b) ≤ m + n
joined_most a b m n h g = let e = length-append a b in omega arith

first_most : (p : ℕ) → length (first_text p) ≤ 6
unfolding first_text
first_most p =
    joined_most (flag_text (p % 2) 128 255) (flag_text (p / 2 % 2) 128 (p / 4 % 2 * 255)) 3 3 (flag_most (p % 2) 128 255)
    (flag_most (p / 2 % 2) 128 (p / 4 % 2 * 255))

parties_most : (c : Component) → length (parties_text c) ≤ 136
unfolding parties_text
parties_most c =
    let p = c.parts in
    joined_most (party_text (p / 16 % 2) c.calling) (party_text (p / 32 % 2) c.called) 68 68 (party_most (p / 16 % 2) c.calling)
    (party_most (p / 32 % 2) c.called)

last_most : (c : Component) → length (last_text c) ≤ 8
unfolding last_text
last_most c =
    let p = c.parts in
    joined_most (flag_text (p / 8 % 2) 130 255) (duration_text (p / 64 % 2) c.duration) 3 5 (flag_most (p / 8 % 2) 130 255)
    (duration_most (p / 64 % 2) c.duration)

pub parts_most : (c : Component) → length (parts_text c) ≤ 150
unfolding parts_text
parts_most c =
    joined_most (first_text c.parts ++ parties_text c) (last_text c) 142 8
    (joined_most (first_text c.parts) (parties_text c) 6 136 (first_most c.parts) (parties_most c)) (last_most c)

invoke_most : (c : Component) → length (invoke_text c) ≤ 168
unfolding invoke_text element_text id_text code_text seq_text
invoke_most c = let p = parts_most c in omega arith

result_most : (c : Component) → length (result_text c) ≤ 168
unfolding result_text held_text element_text id_text code_text seq_text
result_most c = let p = parts_most c in omega arith

error_most : (c : Component) → length (error_text c) ≤ 168
unfolding error_text element_text id_text code_text
error_most c = omega arith

pub rejected_most : (x : ℕ) → length (rejected_text x) ≤ 3
unfolding rejected_text id_text
rejected_most x = both_eq x 256 (λ (t : List ℕ). length t ≤ 3) _ _ (λ _. omega arith) (λ _. omega arith)

reject_most : (c : Component) → length (reject_text c) ≤ 168
unfolding reject_text element_text
reject_most c =
    let e = rejected_most c.id in
    let z = length-append (rejected_text c.id) (128 ∷ 1 ∷ 0 ∷ []) in
    omega arith

pub component_most : (c : Component) → length (component_text c) ≤ 168
unfolding component_text
component_most c =
    both_eq _ _ (λ (t : List ℕ). length t ≤ 168) _ _ (λ _. invoke_most c) λ _.
    both_eq _ _ (λ (t : List ℕ). length t ≤ 168) _ _ (λ _. result_most c) λ _.
    both_eq _ _ (λ (t : List ℕ). length t ≤ 168) _ _ (λ _. error_most c) (λ _. reject_most c)

pub parameter_most : (c : Component) → length (parameter_text c) ≤ 171
unfolding parameter_text
parameter_most c = let e = component_most c in omega arith
