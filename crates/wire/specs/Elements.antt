-- An element with what it holds, and elements one after the other.
-- Assumes nothing.
use Rattle.std.specs.Prelude.{List, ℕ, zero, suc, ◌-◌, ◌*◌, ◌/◌, ◌%◌, Bool, ◌&&◌, eqb, ltb, Ok, Err}
use Rattle.text.specs.Choose.{if_so, if_le, if_eq}
use Rattle.wire.specs.Heads.{bad_length, head_of}
use Rattle.wire.specs.Answers.{Head, Seen, refusal}

abbrev pub too_deep : ℕ
too_deep = 13

abbrev pub not_ours : ℕ
not_ours = 14

-- the tag of a part by its number, the context's own [0] to [known - 1], whether it can hold elements or not
unfoldable pub own_of : ℕ → ℕ → Bool
own_of tag known = eqb (tag / 64) 2 && ltb (tag % 32) known

-- An element by its first bytes: it stands too deep where no level is left, and a known part may not stand here. One with bit 32
-- in its tag holds elements, a level deeper and none of them known; any other ends where its contents end.
unfoldable pub enter : Head → ℕ → ℕ → ℕ → (ℕ → ℕ → ℕ → ℕ → Seen) → Seen
enter (Err n) at depth known held = Err (refusal n at)
enter (Ok e) at depth known held =
    if_eq depth 0 (Err (refusal too_deep at))
    (if_so (own_of e.tag known) (Err (refusal not_ours at))
    (if_eq (e.tag / 32 % 2) 1 (held e.body e.next (depth - 1) 0)
    (Ok e.next)))

-- what follows what was seen
unfoldable pub follow : Seen → (ℕ → Seen) → Seen
follow (Err r) rest = Err r
follow (Ok next) rest = rest next

-- k bounds how often the two call each other
unfoldable mutual
  pub element_by : ℕ → List ℕ → ℕ → ℕ → ℕ → ℕ → Seen
  element_by zero s at end depth known = Err (refusal 0 at)
  element_by (suc k) s at end depth known = enter (head_of s at end bad_length) at depth known (λ body next d n. sequence_by k s body next d n)

  pub sequence_by : ℕ → List ℕ → ℕ → ℕ → ℕ → ℕ → Seen
  sequence_by zero s at end depth known = Err (refusal 0 at)
  sequence_by (suc k) s at end depth known =
      if_le end at (Ok at) (follow (element_by k s at end depth known) (λ next. sequence_by k s next end depth known))

-- an element has two bytes at least, so this many calls are enough
unfoldable pub element_of : List ℕ → ℕ → ℕ → ℕ → ℕ → Seen
element_of s at end depth known = element_by (suc (2 * (end - at))) s at end depth known

unfoldable pub sequence_of : List ℕ → ℕ → ℕ → ℕ → ℕ → Seen
sequence_of s at end depth known = sequence_by (suc (suc (2 * (end - at)))) s at end depth known
