-- What is promised of the wire, each theorem to be read alone.
-- Assumes nothing.
use mathlib.Core.Logic.{◌↔◌}
use mathlib.Core.Path.{◌≡◌, refl, sym, ap, subst, ◌∙◌}
use mathlib.Core.List.{List, [], ◌∷◌, ◌++◌, append_assoc}
use Prim.Native.Nat.{ℕ, zero, suc, ◌+◌, ◌-◌, ◌≤◌, ◌<◌}
use native.Mathlib.Omega.{arith}
use lib.ListN.{length, get_or, take, length-append, get_or-append}
use lib.Seq.{length-take-le, get_or-take, get_or-append-add, take_at}
use Rattle.wire.specs.Bytes.{byte_at}
use Rattle.wire.specs.Heads.{head_of}
use Rattle.wire.specs.Elements.{sequence_of}
use Rattle.wire.specs.Grammar.{kind_of, whole_of, component_of}
use Rattle.text.proofs.Cases.{yes_lt, no_lt, yes_eq, no_eq, both_lt, both_eq}
use Rattle.wire.specs.Parameters.{Parameter, refused, holds, before, onward, walk_of, framed_of, held_in, parameter_of}
use Rattle.wire.specs.Texts.{component_text, parameter_text, number_told, field_told, written_of, leaves_of}
use Rattle.wire.specs.Writable.{fields_of, bad_of, writable_of}
use Rattle.wire.specs.declared.Component.{Component}
use Rattle.wire.specs.declared.Unwritten.{Unwritten}
use Rattle.wire.specs.declared.Unwritten.TheVariants.{BadField, NoRoom}
use Rattle.wire.proofs.Again.{read_back, frame_said, parameter_back}
use Rattle.wire.proofs.Back.{Holds}
use Rattle.wire.proofs.Cuts.{Again, Alike, alike_take, Less, head_again, head_less}
use Rattle.wire.proofs.Fields.{first_at, first_is, none_bad, all_good, writable_none, none_writable}
use Rattle.wire.proofs.Fits.{read_writable}
use Rattle.wire.proofs.Goods.{Sized}
use Rattle.wire.proofs.Listed.{Listed, read_listed}
use Rattle.wire.proofs.Numbered.{Numbered, component_numbered, NumberedWhole, parameter_numbered}
use Rattle.wire.proofs.Walks.{read_on, walk_end, walk_on, good_walk, bad_refused}
use Rattle.wire.proofs.Levels.{HeadWithin, head_within, Ends, sequence_ends}
use Rattle.wire.proofs.Places.{Placed, component_placed, Met, walk_met}
use Rattle.wire.proofs.Shortest.{headed}
use Rattle.wire.specs.Answers.{Answer, Frame, element, refusal}
use Rattle.std.specs.Prelude.{Result, Ok, Err}

behind : (a t u : List ℕ) → Holds (a ++ (t ++ u)) (length a) t
behind a t u j h = get_or-append-add a (t ++ u) j 0 ∙ get_or-append t u 0 j h

alike_front : (s : List ℕ) (n : ℕ) (other : List ℕ) → length (take n s) ≡ n → Alike s (take n s ++ other) n
alike_front s n other l i h = sym (get_or-append (take n s) other 0 i (omega arith) ∙ get_or-take n s i 0 h)

-- 02 #105: "a written component reads back as itself": wherever it stands, and whatever stands before and behind it. (Sized: each of its
-- two counts is a byte, as the type has it.)
pub reads_back : (front : List ℕ) (c : Component) (rest : List ℕ) → Sized c → writable_of c ≡ 1
    → component_of (front ++ (component_text c ++ rest)) (length front) ≡ Ok (c, length front + length (component_text c))
reads_back front c rest z e =
    let l = length-append front (component_text c ++ rest) in
    let m = length-append (component_text c) rest in
    read_back (front ++ (component_text c ++ rest)) (length front) c z e (behind front (component_text c) rest) (omega arith)

-- And a written parameter as the one component that it was written from.
pub parameter_reads_back : (c : Component) → Sized c → writable_of c ≡ 1 → parameter_of (parameter_text c) ≡ holds (c ∷ [])
parameter_reads_back c z e = parameter_back c z e

-- Every proper beginning of a component that can be read is 11 at its first byte, whoever wrote it.
pub beginning_is_cut : (s : List ℕ) (at next k : ℕ) (c : Component) → component_of s at ≡ Ok (c, next) → k < next → component_of (take k s) at ≡ Err (refusal 11 at)
unfolding component_of whole_of
beginning_is_cut s at next k c e h =
    let d = headed s at next c e in
    let w : HeadWithin at (length s) (Ok (element d.tag d.body next)) = subst (HeadWithin at (length s)) d.head_is (head_within s at (length s) 11) in
    let w2 = w.2 in
    let l = length-take-le k s (omega arith) in
    let f : Less s at (Ok (element d.tag d.body next)) = subst (Less s at) d.head_is (head_less s at (length s) 11) in
    ap (whole_of (take k s) at) (ap (λ (n : ℕ). head_of (take k s) at n 11) l ∙ f (take k s) k 11 (alike_take s k) h)

-- The answer to a component whose bytes are all there, a refusal or not, does not depend on what follows it.
pub nothing_after_it : (s : List ℕ) (at tag body next : ℕ) (other : List ℕ) → head_of s at (length s) 11 ≡ Ok (element tag body next) → component_of (take next s ++ other) at ≡ component_of s at
unfolding component_of whole_of
nothing_after_it s at tag body next other e =
    let t : List ℕ = take next s ++ other in
    let w : HeadWithin at (length s) (Ok (element tag body next)) = subst (HeadWithin at (length s)) e (head_within s at (length s) 11) in
    let w2 = w.2 in
    let l = length-take-le next s w2 in
    let m = length-append (take next s) other in
    let f : Again s at (Ok (element tag body next)) = subst (Again s at) e (head_again s at (length s) 11) in
    let g : head_of (take next s ++ other) at (length (take next s ++ other)) 11 ≡ Ok (element tag body next) = f (take next s ++ other) (length (take next s ++ other)) 11 (alike_front s next other l) (omega arith) in
    ap (whole_of (take next s ++ other) at) g ∙ ap (λ (x : List ℕ). kind_of x at tag body) (take_at (take next s) other next l) ∙ ap (whole_of s at) (sym e)

-- No encoding of a component is shorter than the one that is written: whatever bytes were read as it, from a place to the next, its text
-- has no more.
pub written_is_shortest : (s : List ℕ) (at next : ℕ) (c : Component) → component_of s at ≡ Ok (c, next) → at + length (component_text c) ≤ next
written_is_shortest s at next c e = (headed s at next c e).short

-- No length leaves its holder: an element's contents begin after two bytes at least and end no later than the holder, whatever its length
-- says, and elements one after the other end where it ends.
pub stays_inside : (s : List ℕ) (at end short tag body next : ℕ) → head_of s at end short ≡ Ok (element tag body next) → (at + 2 ≤ body) × (body ≤ next) × (next ≤ end)
stays_inside s at end short tag body next e = subst (HeadWithin at end) e (head_within s at end short)

pub fills_its_holder : (s : List ℕ) (at end depth known next : ℕ) → at ≤ end → sequence_of s at end depth known ≡ Ok next → next ≡ end
fills_its_holder s at end depth known next h e = subst (Ends end) e (sequence_ends s at end depth known h)

-- A refusal's place is one of the bytes, or their end: a host that points at it points into what it gave.
pub refused_within : (s : List ℕ) (at n place : ℕ) → at ≤ length s → component_of s at ≡ Err (refusal n place) → place ≤ length s
refused_within s at n place h e = subst (Placed (length s)) e (component_placed s at h)

-- A parameter of any number of components reads back as just these, in order. (Each: every one is Sized and can be written.)
abbrev pub Each : List Component → Type 0
Each [] = Unit {0}
Each (c ∷ cs) = Sized c × (writable_of c ≡ 1) × Each cs

abbrev pub texts_of : List Component → List ℕ
texts_of [] = []
texts_of (c ∷ cs) = component_text c ++ texts_of cs

walk_several : (front : List ℕ) (cs : List Component) → Each cs → walk_of (front ++ texts_of cs) (length front) ≡ holds cs
unfolding onward before
walk_several front [] e = let l = length-append front [] in walk_end (front ++ []) (length front) (omega arith)
walk_several front (c ∷ cs) (z, e, f) =
    let s : List ℕ = front ++ (component_text c ++ texts_of cs) in
    let r = reads_back front c (texts_of cs) z e in
    let b = read_on (front ++ (component_text c ++ texts_of cs)) (length front) (length front + length (component_text c)) c (component_of (front ++ (component_text c ++ texts_of cs)) (length front)) refl r in
    let l = length-append front (component_text c ++ texts_of cs) in
    let m = length-append (component_text c) (texts_of cs) in
    let w = walk_several (front ++ component_text c) cs f in
    walk_on (front ++ (component_text c ++ texts_of cs)) (length front) (omega arith)
    ∙ ap (λ (a : Answer). onward a (walk_of (front ++ (component_text c ++ texts_of cs)))) r
    ∙ ap (before c)
    (ap (λ (x : List ℕ). walk_of x (length front + length (component_text c))) (sym (append_assoc front (component_text c) (texts_of cs)))
    ∙ ap (walk_of ((front ++ component_text c) ++ texts_of cs)) (sym (length-append front (component_text c))) ∙ w)

pub several_read_back : (cs : List Component) → Each cs → parameter_of (50 ∷ (length (texts_of cs) + 1) ∷ 145 ∷ texts_of cs) ≡ holds cs
several_read_back cs e =
    let n : ℕ = length (texts_of cs) + 1 in
    good_walk (50 ∷ n ∷ 145 ∷ texts_of cs) (frame_said (texts_of cs) n refl) ∙ walk_several (50 ∷ n ∷ 145 ∷ []) cs e

-- ---- whole parameters: as long as they say, and refused inside

abbrev Bounds : List ℕ → Frame → Type 0
Bounds s (Err stop) = stop.place ≤ length s
Bounds s (Ok u) = (length s ≡ 2 + byte_at s 1) × (3 ≤ length s)

frame_bounds : (s : List ℕ) → Bounds s (framed_of s)
unfolding framed_of
frame_bounds s =
    both_lt _ _ (Bounds s) _ _ (λ _. omega arith) λ _.
    both_lt _ _ (Bounds s) _ _ (λ _. omega arith) λ a.
    both_lt _ _ (Bounds s) _ _ (λ _. omega arith) λ b.
    both_eq _ _ (Bounds s) _ _ (λ _. omega arith) λ d.
    both_eq _ _ (Bounds s) _ _
    (λ _. both_eq _ _ (Bounds s) _ _ (λ _. (omega arith, some (byte_at s 1) d (omega arith)))
    (λ _. let h = some (byte_at s 1) d (omega arith) in omega arith)) (λ _. omega arith)
  where
    some : (b : ℕ) → (b ≡ 0 → ⊥) → 2 + b ≤ length s → 3 ≤ length s
    some zero n l = absurd (n refl)
    some (suc b) n l = omega arith

abbrev Held : List ℕ → Parameter → Type 0
Held s (refused n place) = place ≤ length s
Held s (holds cs) = length s ≡ 2 + byte_at s 1

held_by : (s : List ℕ) (f : Frame) (p : Parameter) → Bounds s f → (3 ≤ length s → Met (length s) p) → Held s (held_in f p)
unfolding held_in
held_by s (Err stop) p h m = h
held_by s (Ok u) (refused n place) h m = m h.1
held_by s (Ok u) (holds cs) h m = h.0

parameter_held : (s : List ℕ) → Held s (parameter_of s)
unfolding parameter_of
parameter_held s = held_by s (framed_of s) (walk_of s 3) (frame_bounds s) (walk_met s 3)

-- Every proper beginning of a parameter that can be read is 11 at its first byte.
pub parameter_beginning_is_cut : (s : List ℕ) (k : ℕ) (cs : List Component) → parameter_of s ≡ holds cs → k < length s → parameter_of (take k s) ≡ refused 11 0
unfolding framed_of
parameter_beginning_is_cut s k cs e h =
    let w : length s ≡ 2 + byte_at s 1 = subst (Held s) e (parameter_held s) in
    let l = length-take-le k s (omega arith) in
    bad_refused (take k s) 11 0
    (both_lt k 2 (λ (_ : ℕ). framed_of (take k s) ≡ Err (refusal 11 0)) 0 0 (λ g. sym (yes_lt _ _ _ _ _ (omega arith) refl))
    (λ g. let b : byte_at (take k s) 1 ≡ byte_at s 1 = get_or-take k s 1 0 (omega arith) in
    sym (no_lt _ _ _ _ _ (omega arith) (yes_lt _ _ _ _ _ (omega arith) refl))))

-- A refusal's place is one of its bytes, or their end.
pub parameter_refused_within : (s : List ℕ) (n place : ℕ) → parameter_of s ≡ refused n place → place ≤ length s
parameter_refused_within s n place e = subst (Held s) e (parameter_held s)

-- 02 #105: "11 cut short, 12 bad length, 13 too deep, 14 not a REV component": a refusal is one of these, of a component and of a whole
-- parameter, so that none is taken for what a host is given with a length (0), with a field (3) or with a room (8). Which of them where is
-- said by `beginning_is_cut`, `nothing_after_it` and the worked rows.
pub refused_is_numbered : (s : List ℕ) (at n place : ℕ) → component_of s at ≡ Err (refusal n place) → (11 ≤ n) × (n ≤ 14)
refused_is_numbered s at n place e = subst Numbered e (component_numbered s at)

pub parameter_refused_is_numbered : (s : List ℕ) (n place : ℕ) → parameter_of s ≡ refused n place → (11 ≤ n) × (n ≤ 14)
parameter_refused_is_numbered s n place e = subst NumberedWhole e (parameter_numbered s)

-- Whatever is read can be written, as long as bytes are bytes: nothing comes off the wire that could not be sent on.
pub read_is_writable : (s : List ℕ) (at next : ℕ) (c : Component) → ((i : ℕ) → byte_at s i < 256) → component_of s at ≡ Ok (c, next) → writable_of c ≡ 1
read_is_writable s at next c b e = (read_writable s at next c b e).1

-- And what is then written is read as the same: however loosely a neighbour wrote a component, its shortest form says just what it said.
pub shortest_says_the_same : (s : List ℕ) (at next : ℕ) (c : Component) (front rest : List ℕ) → ((i : ℕ) → byte_at s i < 256) → component_of s at ≡ Ok (c, next)
    → component_of (front ++ (component_text c ++ rest)) (length front) ≡ Ok (c, length front + length (component_text c))
shortest_says_the_same s at next c front rest b e = let w = read_writable s at next c b e in reads_back front c rest w.0 w.1

-- No operation and no error is read that the module does not list, whatever the bytes.
pub read_is_listed : (s : List ℕ) (at next : ℕ) (c : Component) → component_of s at ≡ Ok (c, next) → Listed c.kind c.item
read_is_listed s at next c e = read_listed s at next c e

-- ---- what cannot be written, and the field that is told

-- The field of c with the ordinal k, from 1 on, is in range: its test in the list of them (Writable.antt, `fields_of`) is 1. Past the last
-- there is nothing that could be out of range.
abbrev pub InRange : Component → ℕ → Type 0
InRange c k = get_or (fields_of c) (k - 1) 1 ≡ 1

-- 02 #106: "Where 3 is told, give the field's ordinal in the body as well, first bad field first": it is k exactly where field k is out of
-- range and every field before it is in range.
pub told_is_first_bad : (c : Component) (k : ℕ) → 1 ≤ k → (bad_of c ≡ k) ↔ ((InRange c k → ⊥) × ((j : ℕ) → 1 ≤ j → j < k → InRange c j))
unfolding bad_of
told_is_first_bad c k l = (
  λ e. let w = first_at 1 (k - 1) (fields_of c) (omega arith) (e ∙ omega arith) in (w.0, λ j m h. w.1 (j - 1) (omega arith)),
  λ w. first_is 1 (k - 1) (fields_of c) w.0
      (λ i h. let e : 1 + i - 1 ≡ i = omega arith in subst (λ (z : ℕ). get_or (fields_of c) z 1 ≡ 1) e (w.1 (1 + i) (omega arith) (omega arith)))
      ∙ omega arith,
)

-- It is 0 exactly where every field is in range.
pub none_told : (c : Component) → (bad_of c ≡ 0) ↔ ((k : ℕ) → 1 ≤ k → InRange c k)
unfolding bad_of
none_told c = (
  λ e k l. none_bad 1 (fields_of c) (omega arith) e (k - 1),
  λ f. all_good 1 (fields_of c) (λ j. let e : 1 + j - 1 ≡ j = omega arith in subst (λ (z : ℕ). get_or (fields_of c) z 1 ≡ 1) e (f (1 + j) (omega arith))),
)

-- And that is where the component can be written.
pub none_told_is_writable : (c : Component) → (bad_of c ≡ 0) ↔ (writable_of c ≡ 1)
none_told_is_writable c = (none_writable c, writable_none c)

-- 3 is given exactly where it cannot be written, with that ordinal, whatever its text and the room.
pub refused_with_its_field : (c : Component) (t out : List ℕ) (k : ℕ) → (written_of (bad_of c) t out ≡ Err (BadField k)) ↔ ((writable_of c ≡ 1 → ⊥) × (bad_of c ≡ k))
unfolding written_of
refused_with_its_field c t out k = (
  both_eq (bad_of c) 0 (λ (w : Result ℕ Unwritten). w ≡ Err (BadField k) → (writable_of c ≡ 1 → ⊥) × (bad_of c ≡ k)) _ _
      (λ _. both_lt _ _ (λ (w : Result ℕ Unwritten). w ≡ Err (BadField k) → (writable_of c ≡ 1 → ⊥) × (bad_of c ≡ k)) _ _ (λ _ e. cc) (λ _ e. cc))
      (λ h e. (λ w. h (writable_none c w), cc)),
  λ w. sym (no_eq (bad_of c) 0 _ _ _ (λ e. w.0 (none_writable c e)) (ap (λ (n : ℕ). Err (BadField n)) (sym w.1))),
)

-- 8 is given exactly where it can be written and there is too little room, with the ordinal 0 ..
pub refused_for_room : (c : Component) (t out : List ℕ) → (written_of (bad_of c) t out ≡ Err NoRoom) ↔ ((writable_of c ≡ 1) × (length out < length t))
unfolding written_of
refused_for_room c t out = (
  both_eq (bad_of c) 0 (λ (w : Result ℕ Unwritten). w ≡ Err NoRoom → (writable_of c ≡ 1) × (length out < length t)) _ _
      (λ h. both_lt _ _ (λ (w : Result ℕ Unwritten). w ≡ Err NoRoom → (writable_of c ≡ 1) × (length out < length t)) _ _
      (λ l e. (none_writable c h, l)) (λ _ e. cc))
      (λ _ e. cc),
  λ w. sym (yes_eq (bad_of c) 0 _ _ _ (writable_none c w.0) (yes_lt _ _ _ _ _ w.1 refl)),
)

-- .. and there is no other refusal.
pub no_other_refusal : (c : Component) (t out : List ℕ) (u : Unwritten) → written_of (bad_of c) t out ≡ Err u → (number_told u ≡ 3 → ⊥)
    → (number_told u ≡ 8) × (field_told u ≡ 0) × (length out < length t)
unfolding number_told field_told
no_other_refusal c t out (BadField k) e f = absurd (f refl)
no_other_refusal c t out NoRoom e f = (refl, refl, ((refused_for_room c t out).0 e).1)

-- Whatever is refused, the buffer is left as it was.
pub refused_stores_nothing : (c : Component) (t out : List ℕ) (u : Unwritten) → written_of (bad_of c) t out ≡ Err u → leaves_of (bad_of c) t out ≡ out
unfolding written_of leaves_of
refused_stores_nothing c t out u =
    both_eq (bad_of c) 0 (λ (l : List ℕ). written_of (bad_of c) t out ≡ Err u → l ≡ out) _ _
    (λ h. both_lt _ _ (λ (l : List ℕ). written_of (bad_of c) t out ≡ Err u → l ≡ out) _ _ (λ _ _. refl)
    (λ g e. let d : Ok (length t) ≡ written_of (bad_of c) t out = yes_eq _ _ _ _ _ h (no_lt _ _ _ _ _ g refl) in cc))
    (λ _ _. refl)
