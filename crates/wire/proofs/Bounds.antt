-- How far each step of the reader goes: never past its holder's end, and over as many bytes as it took something from.
-- Assumes nothing.
use mathlib.Core.Path.{◌≡◌, refl}
use mathlib.Core.List.{List}
use Prim.Native.Nat.{ℕ, zero, suc, ◌+◌, ◌-◌, ◌*◌, ◌≤◌, ◌<◌}
use native.Mathlib.Omega.{arith}
use Rattle.text.proofs.Cases.{both_lt, both_le, both_eq}
use Rattle.wire.specs.Heads.{head_of}
use Rattle.wire.specs.Elements.{enter, follow, element_by, sequence_by, sequence_of}
use Rattle.wire.specs.Cursors.{stopped_of, absent_of, opened_of, inside_of, sized_of, look_of, may_of, need_of, closed_of, checked_of, seen_of, rest_of}
use Rattle.wire.specs.declared.Cursor.{Cursor}
use Rattle.wire.proofs.Levels.{HeadWithin, head_within, Within, Ends, element_by_within, sequence_ends}
use Rattle.wire.proofs.Walks.{Twelve, head_twelve, extra_stops}
use Rattle.wire.specs.Answers.{Head, Seen}
use Rattle.std.specs.Prelude.{Ok, Err}
use Rattle.std.specs.Prelude.{Bool, true}
use Rattle.text.proofs.Cases.{both_so}

-- ---- a refusal's number is 12, 13 or 14

abbrev pub Told : Seen → Type 0
Told (Err stop) = (12 ≤ stop.number) × (stop.number ≤ 14)
Told (Ok next) = Unit {0}

enter_told : (h : Head) (at end depth known : ℕ) (held : ℕ → ℕ → ℕ → ℕ → Seen) → HeadWithin at end h → Twelve h
    → ((body next d n : ℕ) → at + 2 ≤ body → body ≤ next → next ≤ end → Told (held body next d n)) → Told (enter h at depth known held)
unfolding enter
enter_told (Err n) at end depth known held w t f = (omega arith, omega arith)
enter_told (Ok el) at end depth known held (h, g, i) t f =
    both_eq _ _ Told _ _ (λ _. (omega arith, omega arith)) λ _.
    both_so _ Told _ _ (λ _. (omega arith, omega arith)) λ _.
    both_eq _ _ Told _ _ (λ _. f el.body el.next (depth - 1) 0 h g i) (λ _. tt)

follow_told : (x : Seen) (at end : ℕ) (rest : ℕ → Seen) → Told x → Within at end x → ((next : ℕ) → at + 2 ≤ next → next ≤ end → Told (rest next)) → Told (follow x rest)
unfolding follow
follow_told (Err stop) at end rest h w f = h
follow_told (Ok next) at end rest h (g, i) f = f next g i

mutual
  unfolding element_by

  element_told : (k : ℕ) (s : List ℕ) (at end depth known : ℕ) → 2 * (end - at) < k → Told (element_by k s at end depth known)
  element_told zero s at end depth known h = absurd (omega arith)
  element_told (suc k) s at end depth known h =
      enter_told (head_of s at end 12) at end depth known _ (head_within s at end 12) (head_twelve s at end)
      (λ body next d n p q r. sequence_told k s body next d n (omega arith))

  sequence_told : (k : ℕ) (s : List ℕ) (at end depth known : ℕ) → 2 * (end - at) + 1 < k → Told (sequence_by k s at end depth known)
  sequence_told zero s at end depth known h = absurd (omega arith)
  sequence_told (suc k) s at end depth known h =
      both_le _ _ Told _ _ (λ _. tt)
      (λ g. follow_told (element_by k s at end depth known) at end _ (element_told k s at end depth known (omega arith)) (element_by_within k s at end depth known)
      (λ next p q. sequence_told k s next end depth known (omega arith)))

pub seq_told : (s : List ℕ) (at end depth known : ℕ) → Told (sequence_of s at end depth known)
unfolding sequence_of
seq_told s at end depth known = sequence_told (suc (suc (2 * (end - at)))) s at end depth known (omega arith)

-- ---- one step, from c to e, where e is not stopped

-- it got an element: whose contents have `least` to `most` bytes, and which ends before its holder does
pub record Took (c e : Cursor) (end least most : ℕ) : Type 0 where
  pub from : c.number ≡ 0
  pub begins : c.at + 2 ≤ e.body
  pub least_is : e.body + least ≤ e.at
  pub most_is : e.at ≤ e.body + most
  pub ends : e.at ≤ end

-- or none, and stands where it stood
pub data Got (c e : Cursor) (end least most : ℕ) : Type 0 where
  took : Took c e end least most → Got c e end least most
  none : c.number ≡ 0 → e.body ≡ 0 → e.at ≡ c.at → Got c e end least most

-- said of a cursor that may be stopped
abbrev Live : (Cursor → Type 0) → Cursor → Type 0
Live P e = e.number ≡ 0 → P e

sized_took : (c : Cursor) (inner next end least most : ℕ) → c.number ≡ 0 → c.at + 2 ≤ inner → inner ≤ next → next ≤ end
    → Live (λ (e : Cursor). Took c e end least most) (sized_of c.at inner next least most)
unfolding sized_of stopped_of opened_of
sized_took c inner next end least most z a b d =
    both_lt _ _ (Live (λ (e : Cursor). Took c e end least most)) _ _ (λ _ e. absurd (omega arith)) λ l.
    both_lt _ _ (Live (λ (e : Cursor). Took c e end least most)) _ _ (λ _ e. absurd (omega arith))
    (λ m e. record { from = z; begins = a; least_is = omega arith; most_is = omega arith; ends = d })

look_took : (c : Cursor) (h : Head) (end tag least most : ℕ) → c.number ≡ 0 → HeadWithin c.at end h → Twelve h
    → Live (λ (e : Cursor). Took c e end least most) (look_of h c.at tag least most)
unfolding look_of stopped_of
look_took c (Err n) end tag least most z w t = λ e. absurd (omega arith)
look_took c (Ok el) end tag least most z (a, b, d) t =
    both_eq _ _ (Live (λ (e : Cursor). Took c e end least most)) _ _ (λ _. sized_took c el.body el.next end least most z a b d) (λ _ e. absurd (omega arith))

pub need_took : (s : List ℕ) (c : Cursor) (end tag least most : ℕ) → Live (λ (e : Cursor). Took c e end least most) (need_of s c end tag least most)
unfolding need_of stopped_of
need_took s c end tag least most =
    both_eq c.number 0 (Live (λ (e : Cursor). Took c e end least most)) _ _
    (λ z. both_le _ _ (Live (λ (e : Cursor). Took c e end least most)) _ _ (λ _ e. absurd (omega arith))
    (λ _. look_took c (head_of s c.at end 12) end tag least most z (head_within s c.at end 12) (head_twelve s c.at end)))
    (λ h e. absurd (h e))

pub may_got : (s : List ℕ) (c : Cursor) (end tag least most : ℕ) → Live (λ (e : Cursor). Got c e end least most) (may_of s c end tag least most)
unfolding may_of absent_of
may_got s c end tag least most =
    both_eq c.number 0 (Live (λ (e : Cursor). Got c e end least most)) _ _
    (λ z. both_le _ _ (Live (λ (e : Cursor). Got c e end least most)) _ _ (λ _ e. none z refl refl)
    (λ _. both_eq _ _ (Live (λ (e : Cursor). Got c e end least most)) _ _ (λ _ e. took (need_took s c end tag least most e)) (λ _ e. none z refl refl)))
    (λ h e. absurd (h e))

-- contents that were looked at: the cursor is the one before, and they were ok if there are any
pub checked_live : (ok : Bool) (from : ℕ) (c : Cursor) → (checked_of ok from c).number ≡ 0 → (checked_of ok from c ≡ c) × ((c.body ≡ 0 → ⊥) → ok ≡ true)
unfolding checked_of stopped_of
checked_live ok from c =
    both_eq c.body 0 (λ (x : Cursor). x.number ≡ 0 → (x ≡ c) × ((c.body ≡ 0 → ⊥) → ok ≡ true)) _ _
    (λ h _. (refl, λ g. absurd (g h)))
    (λ h. both_so ok (λ (x : Cursor). x.number ≡ 0 → (x ≡ c) × ((c.body ≡ 0 → ⊥) → ok ≡ true)) _ _ (λ g _. (refl, λ _. g)) (λ _ e. absurd (omega arith)))

seen_ends : (x : Seen) (end : ℕ) → Told x → Ends end x → (seen_of x).number ≡ 0 → (seen_of x).at ≡ end
unfolding seen_of absent_of stopped_of
seen_ends (Ok next) end t e z = e
seen_ends (Err stop) end (g, h) e z = absurd (omega arith)

-- what is not known goes to the holder's end
pub rest_ends : (s : List ℕ) (c : Cursor) (end depth known : ℕ) → (rest_of s c end depth known).number ≡ 0 → (c.number ≡ 0) × (c.at ≤ (rest_of s c end depth known).at) × (c.at ≤ end → (rest_of s c end depth known).at ≤ end)
unfolding rest_of absent_of
rest_ends s c end depth known =
    both_eq c.number 0 (λ (x : Cursor). x.number ≡ 0 → (c.number ≡ 0) × (c.at ≤ x.at) × (c.at ≤ end → x.at ≤ end)) _ _
    (λ z. both_le end c.at (λ (x : Cursor). x.number ≡ 0 → (c.number ≡ 0) × (c.at ≤ x.at) × (c.at ≤ end → x.at ≤ end)) _ _
    (λ _ _. (z, omega arith, λ h. h))
    (λ l e. let w = seen_ends (sequence_of s c.at end depth known) end (seq_told s c.at end depth known) (sequence_ends s c.at end depth known (omega arith)) e in
    (z, omega arith, λ _. omega arith)))
    (λ h e. absurd (h e))

-- a holder is closed at its end alone
pub closed_live : (s : List ℕ) (c : Cursor) (end : ℕ) → (closed_of s c end).number ≡ 0 → (closed_of s c end ≡ c) × (end ≤ c.at)
unfolding closed_of
closed_live s c end =
    both_eq c.number 0 (λ (x : Cursor). x.number ≡ 0 → (x ≡ c) × (end ≤ c.at)) _ _
    (λ z. both_le end c.at (λ (x : Cursor). x.number ≡ 0 → (x ≡ c) × (end ≤ c.at)) _ _ (λ h _. (refl, h))
    (λ _ e. absurd (extra_stops (head_of s c.at end 12) c.at (head_twelve s c.at end) e)))
    (λ h e. absurd (h e))

pub inside_live : (c : Cursor) → (inside_of c).number ≡ 0 → (c.number ≡ 0) × ((inside_of c).at ≡ c.body)
unfolding inside_of absent_of
inside_live c = both_eq c.number 0 (λ (x : Cursor). x.number ≡ 0 → (c.number ≡ 0) × (x.at ≡ c.body)) _ _ (λ z _. (z, refl)) (λ h e. absurd (h e))
