-- The row that a listing holds: an array with one call past the last slot, and one call apart, which may be newer than the array has it. What
-- it stands for is the row of the definitions.
-- Assumes nothing.
use Rattle.std.proofs.Common.{◌≡◌, ℕ, ◌<◌, ◌≤◌, Bool, ltb, List, [], ◌∷◌, ◌++◌, length, get_or, set, sym, refl, ap, ◌∙◌, subst, arith, length-append, length-set, get_or-set_same, set-set, le-ltb, lt-ltb}
use lib.ListN.{get_or-append}
use lib.Seq.{set-get_or, set-append_left, get_or-append_seam}
use Rattle.text.proofs.Cases.{yes_lt, no_lt, both_lt}
use Rattle.rows.specs.Perform.{refused_of}
use Rattle.rows.specs.Step.{unopened_call, step_of}
use Rattle.rows.specs.declared.Call.{Call}
use Rattle.rows.specs.declared.Event.{Event}
use Rattle.rows.specs.declared.Outcome.{Outcome}
use Rattle.board.specs.Numbers.{no_such_slot}
use Rattle.board.specs.Row.{answer_at, row_after}
use Rattle.board.proofs.Laws.{at_place, answer_is, row_is, past_63}
use Rattle.files.specs.Listing.{slot_of, slot_found, answer_of, answer_by, row_by, index_of}
use Rattle.files.specs.Bodies.{Reading, got}
use Rattle.files.specs.Frames.{stop_number}
use Rattle.std.specs.Prelude.{None, Some, Ok, Err}

-- ---- what is held

-- the row of the definitions, and the call past its end
abbrev pub with_last : List Call → List Call
with_last row = row ++ (unopened_call ∷ [])

-- the array `row` and the call `call`, of the place `held`, stand for the row `reached`
pub record Holds (reached row : List Call) (held : ℕ) (call : Call) : Type 0 where
  pub slots : length reached ≡ 64
  pub kept : set row held call ≡ with_last reached
  pub there : held < 65

abbrev sixty_five : (reached : List Call) → length reached ≡ 64 → length (with_last reached) ≡ 65
sixty_five reached h = omega (arith, h, length-append reached (unopened_call ∷ []))

-- the array has as many
pub array_length : {reached row : List Call} {held : ℕ} {call : Call} → Holds reached row held call → length row ≡ 65
array_length {reached} {row} {held} {call} h =
    sym (length-set row held call) ∙ ap length h.kept ∙ sixty_five reached h.slots

-- the call is put back and another taken up
pub holds_other : {reached row : List Call} {held : ℕ} {call : Call} → Holds reached row held call → (index : ℕ) (d : Call) → index < 65
    → Holds reached (set row held call) index (get_or (set row held call) index d)
holds_other {reached} {row} {held} {call} h index d i =
    record { slots = h.slots; kept = set-get_or (set row held call) index d ∙ h.kept; there = i }

-- the call that is held is the row's at that place
pub holds_call : {reached row : List Call} {held : ℕ} {call : Call} → Holds reached row held call → (d : Call) → call ≡ get_or (with_last reached) held d
holds_call {reached} {row} {held} {call} h d =
    sym (get_or-set_same row held call d (omega (arith, h.there, array_length h))) ∙ ap (λ (l : List Call). get_or l held d) h.kept

-- a newer one of the same place
newer : {reached row : List Call} {held : ℕ} {call : Call} → Holds reached row held call → (c : Call) (reached' : List Call)
    → set (with_last reached) held c ≡ with_last reached' → length reached' ≡ 64 → Holds reached' row held c
newer {reached} {row} {held} {call} h c reached' e k =
    record {
      slots = k;
      kept = sym (set-set row held call c) ∙ ap (λ (l : List Call). set l held c) h.kept ∙ e;
      there = h.there;
    }

-- ---- the answer, and the row after it

index_below : (i : ℕ) → i < 64 → index_of i ≡ i
unfolding index_of
index_below i h = sym (yes_lt _ _ _ _ _ h refl)

index_past : (i : ℕ) → 64 ≤ i → index_of i ≡ 64
unfolding index_of
index_past i h = sym (no_lt _ _ _ _ _ h refl)

-- what stands at a place, answered by the call that is held at its slot's index
module _ {reached row : List Call} {held : ℕ} {call : Call} (h : Holds reached row held call) where
  same_call : (o : Outcome) → o.call ≡ call → Holds reached row held o.call
  same_call o e = subst (Holds reached row held) (sym e) h

  -- a record that cannot be read: slot 0 and its call
  refused_first : (n : ℕ) (o : Outcome) → held ≡ index_of 0 → o ≡ refused_of n call
      → (o ≡ refused_of n (get_or reached 0 unopened_call)) × Holds reached row held o.call
  refused_first n o e f =
      let c : call ≡ get_or reached 0 unopened_call =
      holds_call h unopened_call ∙ ap (λ (i : ℕ). get_or (with_last reached) i unopened_call) (e ∙ index_below 0 (omega arith))
      ∙ get_or-append reached (unopened_call ∷ []) unopened_call 0 (omega (arith, h.slots)) in
      (f ∙ ap (refused_of n) c, same_call o (ap (λ (x : Outcome). x.call) f))

  -- a slot that is there
  stepped : (i : ℕ) (e : Event) (o : Outcome) → held ≡ index_of i → i < 64 → o ≡ step_of call e
      → (o ≡ answer_at reached i e) × Holds (row_after reached i e) row held o.call
  stepped i e o p q f =
      let k : held ≡ i = p ∙ index_below i q in
      let l : i < length reached = omega (arith, h.slots, q) in
      let a = at_place reached i unopened_call l in
      let c : call ≡ get_or reached i unopened_call =
      holds_call h unopened_call ∙ ap (λ (j : ℕ). get_or (with_last reached) j unopened_call) k ∙ get_or-append reached (unopened_call ∷ []) unopened_call i l in
      let g : o ≡ step_of (get_or reached i unopened_call) e = f ∙ ap (λ (x : Call). step_of x e) c in
      let r : row_after reached i e ≡ set reached i o.call = row_is reached i e (get_or reached i unopened_call) q a ∙ ap (λ (x : Outcome). set reached i x.call) (sym g) in (
        g ∙ sym (answer_is reached i e (get_or reached i unopened_call) q a),
        newer h o.call (row_after reached i e)
            (ap (λ (j : ℕ). set (with_last reached) j o.call) k ∙ set-append_left reached (unopened_call ∷ []) i o.call l ∙ ap with_last (sym r))
            (ap length r ∙ length-set reached i o.call ∙ h.slots),
      )

  -- one that is not: the call past the last slot stays unopened
  missed : (i : ℕ) (e : Event) (o : Outcome) → held ≡ index_of i → 64 ≤ i → o ≡ refused_of no_such_slot call
      → (o ≡ answer_at reached i e) × Holds (row_after reached i e) row held o.call
  missed i e o p q f =
      let t = past_63 reached i e q in
      let c : call ≡ unopened_call =
      holds_call h unopened_call ∙ ap (λ (j : ℕ). get_or (with_last reached) j unopened_call) (p ∙ index_past i q ∙ sym h.slots) ∙ get_or-append_seam reached unopened_call [] unopened_call in (
        f ∙ ap (refused_of no_such_slot) c ∙ sym t.0,
        subst (λ (l : List Call). Holds l row held o.call) (sym t.1) (same_call o (ap (λ (x : Outcome). x.call) f)),
      )

  -- whatever was found
  pub answered : (found : Reading) (b : Bool) (o : Outcome) → held ≡ index_of (slot_found found) → b ≡ ltb held 64 → o ≡ answer_of found b call
      → (o ≡ answer_by found reached) × Holds (row_by found reached) row held o.call
  answered None b o p t f = refused_first 0 o p f
  answered (Some (Err stop)) b o p t f = refused_first (stop_number stop) o p f
  answered (Some (Ok found)) b o p t f =
      both_lt (slot_of found.acts) 64 (λ (_ : ℕ). (o ≡ answer_at reached (slot_of found.acts) found.event) × Holds (row_after reached (slot_of found.acts) found.event) row held o.call) 0 0
      (λ q. stepped (slot_of found.acts) found.event o p q (f ∙ ap (λ (x : Bool). answer_of (got found.acts found.event found.next) x call) (t ∙ lt-ltb held 64 (omega (arith, p ∙ index_below (slot_of found.acts) q, q)))))
      (λ q. missed (slot_of found.acts) found.event o p q (f ∙ ap (λ (x : Bool). answer_of (got found.acts found.event found.next) x call) (t ∙ le-ltb held 64 (omega (arith, p ∙ index_past (slot_of found.acts) q)))))
