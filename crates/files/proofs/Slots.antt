-- A listing shows slots exactly where an entry of its file names one.
-- Assumes nothing.
use Rattle.std.proofs.Common.{◌≡◌, ℕ, zero, suc, Bool, true, false, ◌||◌, ◌↔◌, List, [], ◌∷◌, length, sym, refl, ap, ◌∙◌, arith}
use mathlib.Core.Option.{some}
use lib.ListN.{get_elem?}
use Rattle.text.proofs.Cases.{both_lt}
use Rattle.rows.proofs.Truth.{differ}
use Rattle.board.proofs.Laws.{none_is_not}
use Rattle.files.specs.Bodies.{read_at}
use Rattle.files.specs.Listing.{is_slot, names_slot, names_in, names_slots}
use Rattle.files.specs.Places.{place_after, places_from, places_of}
use Rattle.files.specs.Shown.{and_then, contents_from, contents_of, entries_of}
use Rattle.files.specs.Typed.{Entry}
use Rattle.files.specs.Bodies.{Reading}
use Rattle.files.specs.declared.Where.{Where}
use Rattle.files.proofs.Shown.{Stands, stands, past, no_places, some_some}
use Rattle.std.specs.Prelude.{None, Some, Ok, Err}

-- one of the entries names a slot
abbrev some_names : List Entry → Bool
some_names [] = false
some_names (x ∷ xs) = is_slot x.acts || some_names xs

module _ (k : ℕ) (s : List ℕ) (more : (at : ℕ) → names_in s (places_from k s at) ≡ some_names (contents_from k s at).entries) where
  by_read : (found : Reading) → Stands found →
      (names_slot found || names_in s (places_from k s (place_after found (length s)))) ≡ some_names (and_then found (contents_from k s)).entries
  unfolding place_after names_in
  by_read None t = absurd t
  by_read (Some (Err n)) t = ap (names_in s) (no_places k s (length s) (omega arith))
  by_read (Some (Ok found)) t = ap (λ (b : Bool). is_slot found.acts || b) (more found.next)

by_entries : (k : ℕ) (s : List ℕ) (at : ℕ) → names_in s (places_from k s at) ≡ some_names (contents_from k s at).entries
unfolding places_from contents_from names_in
by_entries zero s at = refl
by_entries (suc k) s at =
    both_lt at (length s) (λ (ps : List ℕ). names_in s ps ≡ some_names (and_then (read_at s at) (contents_from k s)).entries) _ _
    (λ h. by_read k s (by_entries k s) (read_at s at) (stands s at h))
    (λ h. ap (λ (found : Reading). some_names (and_then found (contents_from k s)).entries) (past s at h))

abbrev OneNames : List Entry → Type 0
OneNames xs = (k : ℕ) × (x : Entry) × (get_elem? xs k ≡ some x) × (is_slot x.acts ≡ true)

one_names : (xs : List Entry) → some_names xs ≡ true → OneNames xs
one_names [] h = differ h
one_names (x ∷ xs) h = by (is_slot x.acts) refl h (one_names xs)
  where
    by : (b : Bool) → is_slot x.acts ≡ b → (b || some_names xs) ≡ true → (some_names xs ≡ true → OneNames xs) → OneNames (x ∷ xs)
    by true e g more = (0, x, refl, e)
    by false e g more = let i = more g in (suc i.0, i.1, i.2, i.3)

names_one : (xs : List Entry) (k : ℕ) (x : Entry) → get_elem? xs k ≡ some x → is_slot x.acts ≡ true → some_names xs ≡ true
names_one [] k x g h = none_is_not g
names_one (y ∷ xs) zero x g h =
    ap (λ (b : Bool). b || some_names xs) (some_some (λ (z : Entry). is_slot z.acts ≡ true → is_slot y.acts ≡ true) y x g (λ e. e) h)
names_one (y ∷ xs) (suc k) x g h = either (is_slot y.acts) (names_one xs k x g h)
  where
    either : (b : Bool) → some_names xs ≡ true → (b || some_names xs) ≡ true
    either true e = refl
    either false e = e

-- what names a slot names some slot
slot_named : (w : Where) → is_slot w ≡ true → (i : ℕ) × (w ≡ Where.Slot i)
slot_named Where.Plain h = differ h
slot_named (Where.Slot i) h = (i, refl)

pub shows_slots_exactly : (s : List ℕ) →
    (names_slots s ≡ true) ↔ ((k : ℕ) × (x : Entry) × (i : ℕ) × (get_elem? (entries_of s) k ≡ some x) × (x.acts ≡ Where.Slot i))
unfolding names_slots places_of contents_of
shows_slots_exactly s =
    let e = by_entries (length s) s 0 in (
      λ h.
          let o = one_names (entries_of s) (sym e ∙ h) in
          let i = slot_named o.1.acts o.3 in
          (o.0, o.1, i.0, o.2, i.1),
      λ o. e ∙ names_one (entries_of s) o.0 o.1 o.3 (ap is_slot o.4),
    )
