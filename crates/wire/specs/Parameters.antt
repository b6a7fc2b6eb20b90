-- A whole parameter: 32 LL 91, then components, one after the other, to its end.
-- Assumes nothing.
use Rattle.std.specs.Prelude.{List, [], ◌∷◌, ℕ, zero, suc, ◌+◌, ◌-◌, ◌≤◌, length, Ok, Err}
use Rattle.text.specs.Choose.{if_lt, if_le, if_eq}
use Rattle.wire.specs.Bytes.{byte_at}
use Rattle.wire.specs.Heads.{bad_length}
use Rattle.wire.specs.Elements.{not_ours}
use Rattle.wire.specs.Grammar.{cut_short, component_of}
use Rattle.wire.specs.declared.Component.{Component}
use Rattle.wire.specs.declared.Whole.TheVariants.{Empty, One, Several}
use Rattle.wire.specs.Answers.{Answer, Frame, Told, refusal}

-- what a parameter says: a refusal's number and place; or its components, in order
pub data Parameter : Type 0 where
  refused : ℕ → ℕ → Parameter
  holds : List Component → Parameter

-- a refusal anywhere refuses the whole
unfoldable pub before : Component → Parameter → Parameter
before c (refused n place) = refused n place
before c (holds cs) = holds (c ∷ cs)

unfoldable pub onward : Answer → (ℕ → Parameter) → Parameter
onward (Err r) rest = refused r.number r.place
onward (Ok (c, next)) rest = before c (rest next)

-- the components from a place on; a component has two bytes at least, so k of as many as there are is enough
unfoldable pub walk_by : ℕ → List ℕ → ℕ → Parameter
walk_by zero s place = refused 0 place
walk_by (suc k) s place = if_le (length s) place (holds []) (onward (component_of s place) (λ next. walk_by k s next))

unfoldable pub walk_of : List ℕ → ℕ → Parameter
walk_of s place = walk_by (suc (length s - place)) s place

-- where the components of a parameter begin
abbrev pub first : ℕ
first = 3

-- A parameter's own three bytes: name, length and profile. At place 0: 11 if there are not two bytes, or fewer after them than the second
-- says; 12 if there are more, or it says none, so that no profile stands there; 14 if the first is not 32. At place 2: 14 if the profile is
-- not 91.
unfoldable pub framed_of : List ℕ → Frame
framed_of s =
    if_lt (length s) 2 (Err (refusal cut_short 0))
    (if_lt (length s) (2 + byte_at s 1) (Err (refusal cut_short 0))
    (if_lt (2 + byte_at s 1) (length s) (Err (refusal bad_length 0))
    (if_eq (byte_at s 1) 0 (Err (refusal bad_length 0))
    (if_eq (byte_at s 0) 50
    (if_eq (byte_at s 2) 145 (Ok tt) (Err (refusal not_ours 2)))
    (Err (refusal not_ours 0))))))

-- where they are good: what the components say
unfoldable pub held_in : Frame → Parameter → Parameter
held_in (Err r) p = refused r.number r.place
held_in (Ok u) p = p

unfoldable pub parameter_of : List ℕ → Parameter
parameter_of s = held_in (framed_of s) (walk_of s first)

-- a refusal is at one of them; a parameter where they are good has 3 to 257, because its length is one byte
abbrev pub Bounded : List ℕ → Frame → Type 0
Bounded s (Err r) = r.place ≤ 2
Bounded s (Ok u) = (3 ≤ length s) × (length s ≤ 257)

-- what the reader tells of it
unfoldable pub told_of : Parameter → Told
told_of (refused n place) = Err (refusal n place)
told_of (holds []) = Ok Empty
told_of (holds (c ∷ [])) = Ok (One c)
told_of (holds (c ∷ d ∷ cs)) = Ok (Several (length (c ∷ d ∷ cs)))

-- k components, and those that follow them
unfoldable pub several_of : ℕ → Parameter → Told
several_of k (refused n place) = Err (refusal n place)
several_of k (holds cs) = Ok (Several (k + length cs))
