-- What the functions for C gave is what the definitions say.
-- Assumes nothing.
use mathlib.Core.Path.{◌≡◌, refl, sym, ap, subst, ◌∙◌}
use mathlib.Core.List.{List, [], ◌∷◌}
use Prim.Native.Nat.{ℕ, ◌+◌, ◌≤◌, ◌<◌}
use native.Mathlib.Omega.{arith}
use lib.ListN.{length}
use Rattle.std.specs.Prelude.{Option, Some, None, MatchOption, Result}
use Rattle.text.specs.Choose.{if_lt}
use Rattle.text.proofs.Cases.{yes_eq, no_eq, both_eq, yes_lt, no_lt, both_lt}
use Rattle.rows.specs.Valid.{ordinal, bad_field_of}
use Rattle.rows.proofs.Ranges.{none_told, some_told}
use Rattle.rows.specs.declared.Event.{Event}
use Rattle.rows.specs.declared.Event.TheVariants.{Opening, Ask, Received, FromAccess, Expiry, Time}
use Rattle.rows.specs.declared.Message.{Message}
use Rattle.wire.specs.Grammar.{component_of}
use Rattle.wire.specs.Parameters.{Parameter, holds, before, onward, walk_of, framed_of, parameter_of, Bounded}
use Rattle.wire.specs.Texts.{parameter_text}
use Rattle.wire.specs.Writable.{bad_of, ordinal as told}
use Rattle.wire.proofs.Fields.{bad_most}
use Rattle.wire.specs.Texts.{leaves_of, written_of as wireWritten}
use Rattle.wire.specs.declared.Component.{Component}
use Rattle.wire.specs.declared.Unwritten.{Unwritten}
use Rattle.peers.specs.declared.Refusal.{Refusal}
use Rattle.wire.proofs.Fits.{FitsHeld, read_fits, walk_fits}
use Rattle.wire.proofs.Places.{parameter_most}
use Rattle.wire.proofs.Walks.{walk_end, walk_on, good_walk, bad_refused}
use Rattle.peers.specs.Entries.{with_rest, given, gives_of, or_none, KeptWithin, Keeps, read_gives, read_leaves}
use Rattle.peers.specs.Entries.{in_record_told, nearest, in_record, sent_bad, send_gives, send_leaves}
use Rattle.peers.specs.Messages.{no_component, carried_of}
use Rattle.peers.proofs.Entered.{Gave, gives_bad, Reads, several_given}
use Rattle.peers.proofs.Ranges.{fits_ranged, none_ranged}
use Rattle.peers.proofs.Same.{Entered}
use Rattle.wire.specs.Answers.{Answer, Frame, refusal}
use Rattle.std.specs.Prelude.{Ok, Err}

-- ---- a parameter: its own bytes, then its components

module _ (s : List ℕ) (f : Frame) (b : Bounded s f) where
  pub bad_within : (n place : ℕ) → f ≡ Err (refusal n place) → place ≤ 257
  bad_within n place e = let h : place ≤ 2 = subst (Bounded s) e b in omega arith

  pub good_bounds : f ≡ Ok tt → (3 ≤ length s) × (length s ≤ 257)
  good_bounds e = subst (Bounded s) e b

module _ (s : List ℕ) (message cause : ℕ) (out : List ℕ) (f : Frame) (e : f ≡ framed_of s) where
  pub framed_bad : (n place : ℕ) → f ≡ Err (refusal n place) → Entered s message cause out (with_rest n place) out
  unfolding read_gives read_leaves
  framed_bad n place g = subst (λ (p : Parameter). Reads message cause p out (with_rest n place) out) (sym (bad_refused s n place (sym e ∙ g))) (refl, refl)

  pub framed_good : (r : ℕ) (new : List ℕ) → f ≡ Ok tt → Reads message cause (walk_of s 3) out r new → Entered s message cause out r new
  framed_good r new g h = subst (λ (p : Parameter). Reads message cause p out r new) (sym (good_walk s (sym e ∙ g))) h

-- what a parameter holds fits
pub parameter_fits : (s : List ℕ) → FitsHeld (parameter_of s)
parameter_fits s = by (framed_of s) refl
  where
    by : (f : Frame) → framed_of s ≡ f → FitsHeld (parameter_of s)
    by (Err stop) e = subst FitsHeld (sym (bad_refused s stop.number stop.place e)) tt
    by (Ok u) e = subst FitsHeld (sym (good_walk s e)) (walk_fits s 3)

-- a parameter without components, and one with some
pub none_read : (s : List ℕ) (message cause : ℕ) (out new : List ℕ) (k : Result ℕ Refusal) → length s ≡ 3
    → Keeps message cause (holds (no_component ∷ [])) out 0 k new → Reads message cause (walk_of s 3) out (given k) new
unfolding read_gives read_leaves or_none before
none_read s message cause out new k h w =
    subst (λ (p : Parameter). Reads message cause p out (given k) new) (sym (walk_end s 3 (omega arith)))
    (several_given message cause no_component (holds []) out new k (given k) (none_ranged message cause) tt w refl)

pub walk_read : (s : List ℕ) (message cause : ℕ) (out new : List ℕ) (k : Result ℕ Refusal) → 3 < length s → Keeps message cause (walk_of s 3) out 0 k new
    → Reads message cause (walk_of s 3) out (given k) new
unfolding onward read_gives read_leaves Keeps
walk_read s message cause out new k h w = by (component_of s 3) refl
  where
    by : (a : Answer) → component_of s 3 ≡ a → Reads message cause (walk_of s 3) out (given k) new
    by (Err r) e =
        let on = walk_on s 3 h ∙ ap (λ (x : Answer). onward x (walk_of s)) e in
        let v = subst (λ (p : Parameter). Keeps message cause p out 0 k new) on w in
        subst (λ (p : Parameter). Reads message cause p out (given k) new) (sym on) (ap given v.0, v.1)
    by (Ok (c, next)) e =
        let on = walk_on s 3 h ∙ ap (λ (x : Answer). onward x (walk_of s)) e in
        subst (λ (p : Parameter). Reads message cause p out (given k) new) (sym on)
        (several_given message cause c (walk_of s next) out new k (given k) (fits_ranged message cause c (read_fits s 3 next c e)) (walk_fits s next)
        (subst (λ (p : Parameter). Keeps message cause p out 0 k new) on w) refl)

-- ---- an entry's parameter

-- what the writer of `wire` says of a component
abbrev Wrote : Component → List ℕ → Result ℕ Unwritten → List ℕ → Type 0
Wrote c out w new = (w ≡ wireWritten (bad_of c) (parameter_text c) out) × (new ≡ leaves_of (bad_of c) (parameter_text c) out)

-- what the writer of `wire` answers, as `peers` tells it
abbrev pub told_as : Result ℕ Unwritten → Result ℕ Refusal
told_as (Ok n) = Ok n
told_as (Err u) = Err (in_record_told u)

-- a field of the component is one of the record, and none is none
pub none_in : (k : ℕ) → k ≡ 0 → in_record k ≡ 0
unfolding in_record
none_in k h = sym (yes_eq _ _ _ _ _ h refl)

some_in : (k : ℕ) → (k ≡ 0 → ⊥) → in_record k ≡ 0 → ⊥
unfolding in_record
some_in k h = both_eq k 0 (λ (z : ℕ). z ≡ 0 → ⊥) _ _ (λ e _. h e) (λ _ e. omega (arith, e))

pub in_as : (k : ℕ) → (k ≡ 0 → ⊥) → in_record k ≡ 2 + k
unfolding in_record
in_as k h = sym (no_eq _ _ _ _ _ h refl)

number_as : (bad : ℕ) (t out : List ℕ) → given (told_as (wireWritten bad t out)) ≡ gives_of (in_record bad) t out
unfolding wireWritten gives_of
number_as bad t out =
    both_eq bad 0 (λ (w : Result ℕ Unwritten). given (told_as w) ≡ gives_of (in_record bad) t out) _ _
    (λ e.
    both_lt (length out) (length t) (λ (w : Result ℕ Unwritten). given (told_as w) ≡ gives_of (in_record bad) t out) _ _
    (λ l. yes_eq _ _ _ _ _ (none_in bad e) (yes_lt _ _ _ _ _ l refl))
    (λ l. yes_eq _ _ _ _ _ (none_in bad e) (no_lt _ _ _ _ _ l refl)))
    (λ h. no_eq _ _ _ _ _ (some_in bad h) (ap (with_rest 3) (sym (in_as bad h))))

left_as : (bad : ℕ) (t out : List ℕ) → leaves_of bad t out ≡ leaves_of (in_record bad) t out
unfolding leaves_of
left_as bad t out =
    both_eq bad 0 (λ (x : List ℕ). x ≡ leaves_of (in_record bad) t out) _ _
    (λ e. yes_eq _ _ _ _ _ (none_in bad e) refl) (λ h. no_eq _ _ _ _ _ (some_in bad h) refl)

within : (c : Component) (out : List ℕ) → KeptWithin (told_as (wireWritten (bad_of c) (parameter_text c) out))
unfolding wireWritten
within c out =
    both_eq _ _ (λ (w : Result ℕ Unwritten). KeptWithin (told_as w)) _ _
    (λ _. both_lt _ _ (λ (w : Result ℕ Unwritten). KeptWithin (told_as w)) _ _ (λ _. omega arith)
    (λ _. let l : length (parameter_text c) ≤ 171 = parameter_most c in omega arith))
    (λ _. let l = bad_most c in omega arith)

pub component_as : (c : Component) (out new : List ℕ) (w : Result ℕ Unwritten) → Wrote c out w new
    → (given (told_as w) ≡ gives_of (in_record (bad_of c)) (parameter_text c) out)
    × (new ≡ leaves_of (in_record (bad_of c)) (parameter_text c) out)
    × KeptWithin (told_as w)
component_as c out new w e = (
  ap (λ (x : Result ℕ Unwritten). given (told_as x)) e.0 ∙ number_as (bad_of c) (parameter_text c) out,
  e.1 ∙ left_as (bad_of c) (parameter_text c) out,
  subst (λ (x : Result ℕ Unwritten). KeptWithin (told_as x)) (sym e.0) (within c out),
)

-- what is given and left for an event
abbrev pub Sends : Event → ℕ → List ℕ → ℕ → List ℕ → Type 0
Sends e id out r new = (r ≡ send_gives e id out) × (new ≡ send_leaves e id out)

nearest_none : (a b : ℕ) → a ≡ 0 → nearest a b ≡ b
unfolding nearest
nearest_none a b h = sym (yes_eq _ _ _ _ _ h refl)

nearest_some : (a b : ℕ) → (a ≡ 0 → ⊥) → nearest a b ≡ 0 → ⊥
unfolding nearest
nearest_some a b h =
    both_eq a 0 (λ (z : ℕ). z ≡ 0 → ⊥) _ _ (λ e _. h e)
    (λ _. both_eq b 0 (λ (z : ℕ). z ≡ 0 → ⊥) _ _ (λ _. h) (λ g. both_lt b a (λ (z : ℕ). z ≡ 0 → ⊥) _ _ (λ _. g) (λ _. h)))

nearest_as : (a b k : ℕ) → (a ≡ 0 → ⊥) → MatchOption (told b) (k ≡ a) (λ j. k ≡ if_lt (2 + j) a (2 + j) a) → k ≡ nearest a (in_record b)
unfolding nearest told
nearest_as a b k h =
    both_eq b 0 (λ (o : Option ℕ). MatchOption o (k ≡ a) (λ j. k ≡ if_lt (2 + j) a (2 + j) a) → k ≡ nearest a (in_record b)) _ _
    (λ e i. no_eq _ _ _ _ _ h (yes_eq _ _ _ _ _ (none_in b e) i))
    (λ g i. let n = in_as b g in no_eq _ _ _ _ _ h (no_eq _ _ _ _ _ (some_in b g) (i ∙ ap (λ (j : ℕ). if_lt j a j a) (sym n))))

module _ (m : Message) (id : ℕ) (out : List ℕ) (c : Component) (f : c ≡ carried_of m id) where
  pub message_good : (r : ℕ) (new : List ℕ) → None ≡ ordinal (bad_field_of (Received m)) → Gave (in_record (bad_of c)) (parameter_text c) out r new
      → Sends (Received m) id out r new
  unfolding sent_bad send_gives send_leaves
  message_good r new h g =
      subst (λ (k : ℕ). Gave k (parameter_text (carried_of m id)) out r new)
      (sym (nearest_none (bad_field_of (Received m)) (in_record (bad_of (carried_of m id))) (none_told _ h)))
      (subst (λ (x : Component). Gave (in_record (bad_of x)) (parameter_text x) out r new) f g)

  pub message_bad : (a k : ℕ) (b : Option ℕ) → Some a ≡ ordinal (bad_field_of (Received m)) → b ≡ told (bad_of c)
      → MatchOption b (k ≡ a) (λ j. k ≡ if_lt (2 + j) a (2 + j) a) → Sends (Received m) id out (with_rest 3 k) out
  unfolding sent_bad send_gives send_leaves
  message_bad a k b h g i =
      let s = some_told _ _ h in
      let j = nearest_as a (bad_of c) k (λ e. s.1 (sym s.0 ∙ e)) (subst (λ (o : Option ℕ). MatchOption o (k ≡ a) (λ j. k ≡ if_lt (2 + j) a (2 + j) a)) g i) in
      let q : k ≡ nearest (bad_field_of (Received m)) (in_record (bad_of (carried_of m id))) =
      j ∙ ap (λ (y : ℕ). nearest y (in_record (bad_of c))) s.0 ∙ ap (λ (x : Component). nearest (bad_field_of (Received m)) (in_record (bad_of x))) f in
      gives_bad _ _ out _ (nearest_some (bad_field_of (Received m)) _ s.1) (ap (with_rest 3) q)

-- a record of another kind
pub event_other : (e : Event) (id : ℕ) (out : List ℕ) → ((m : Message) → e ≡ Received m → ⊥) → Sends e id out 3 out
unfolding send_gives send_leaves
event_other (Opening role flags own) id out h = (refl, refl)
event_other (Ask item called) id out h = (refl, refl)
event_other (Received m) id out h = absurd (h m refl)
event_other (FromAccess item error) id out h = (refl, refl)
event_other Expiry id out h = (refl, refl)
event_other (Time seconds) id out h = (refl, refl)
