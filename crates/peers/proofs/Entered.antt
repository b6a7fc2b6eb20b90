-- What the functions on entries gave is what the definitions say: sizes, one entry, and the entries of several components.
-- Assumes nothing.
use mathlib.Core.Path.{◌≡◌, refl, sym, ap, subst, ◌∙◌}
use mathlib.Core.List.{List, [], ◌∷◌, ◌++◌, append-nil}
use mathlib.Core.Logic.{◌↔◌}
use Prim.Native.Nat.{ℕ, zero, suc, ◌+◌, ◌-◌, ◌*◌, ◌≤◌, ◌<◌}
use native.Mathlib.Nat.{zero-add}
use native.Mathlib.Omega.{arith}
use lib.ListN.{length, take, drop, set, length-append, length-drop}
use lib.Seq.{sets, sets-eq, length-sets, take_all}
use Rattle.text.specs.Text.{Put}
use Rattle.text.proofs.Cases.{yes_eq, no_eq, both_eq, yes_lt, no_lt, both_lt}
use Rattle.text.proofs.Laws.{put_after, put_before, put_length, put_as}
use Rattle.files.specs.Bodies.{record_of}
use Rattle.files.specs.Bytes.{le_of}
use Rattle.files.specs.Frames.{length_of}
use Rattle.files.proofs.BothWays.{record_length}
use Rattle.files.proofs.Puts.{message_length, message_sized}
use Rattle.rows.specs.Valid.{bad_field_of}
use Rattle.rows.specs.declared.Event.{Event}
use Rattle.rows.specs.declared.Event.TheVariants.{Received}
use Rattle.rows.specs.declared.Message.{Message}
use Rattle.wire.specs.Grammar.{component_of}
use Rattle.wire.specs.Parameters.{Parameter, refused, holds, before, onward, walk_of}
use Rattle.wire.specs.Texts.{leaves_of}
use Rattle.wire.specs.declared.Component.{Component}
use Rattle.wire.proofs.Fits.{FitsAll, FitsHeld}
use Rattle.wire.proofs.Places.{Placed, component_placed}
use Rattle.wire.proofs.Walks.{read_on, walk_end, walk_on}
use Rattle.peers.specs.Entries.{with_rest, gives_of, entry_of, or_none, entries_of, carrier_bad, first_bad, read_gives, read_leaves}
use Rattle.peers.specs.Entries.{given, ended_of, kept_of, Keeps, KeptWithin}
use Rattle.peers.specs.Messages.{heard_of, received_of, no_component}
use Rattle.peers.specs.declared.Refusal.{Refusal}
use Rattle.peers.specs.declared.Refusal.TheVariants.{BadParameter}
use Rattle.peers.proofs.Ranges.{fits_ranged, none_ranged, carrier_small}
use Rattle.wire.specs.Answers.{Answer, refusal}
use Rattle.std.specs.Prelude.{Result, Ok, Err}

-- ---- sizes

pub entry_sized : (m : Message) (n : ℕ) → n ≡ 2 + length_of 3 m.parts → 2 + n ≡ 2 + length (record_of (Received m))
entry_sized m n e = ap (λ (k : ℕ). 2 + k) (message_sized n m.parts e ∙ sym (record_length (Received m)))

pub entry_most : (parts n : ℕ) → n ≡ 2 + length_of 3 parts → 2 + n ≤ 33
entry_most parts n e = let l = message_length parts in omega arith

pub entry_length : (id : ℕ) (e : Event) → length (entry_of id e) ≡ 2 + length (record_of e)
unfolding entry_of le_of
entry_length id e = omega arith

-- ---- an entry, its record in the part of the buffer behind the identifier

sets_behind : (x : ℕ) (l t : List ℕ) (i : ℕ) → sets (x ∷ l) (suc i) t ≡ x ∷ sets l i t
sets_behind x l [] i = refl
sets_behind x l (v ∷ t) i = sets_behind x (set l i v) t (suc i)

past_none : (l : List ℕ) (k : ℕ) → length l ≤ k → drop k l ≡ []
past_none [] zero h = refl
past_none [] (suc k) h = refl
past_none (x ∷ l) zero h = absurd (omega arith)
past_none (x ∷ l) (suc k) h = past_none l k (omega arith)

part_back : (l t : List ℕ) (at k : ℕ) → at ≤ length l → length l ≤ at + k
    → take at l ++ (sets (drop at l) 0 t ++ drop k (drop at l)) ≡ sets l at t
part_back l t zero k h g = rw (past_none l k (omega arith)) (append-nil (sets l 0 t))
part_back [] t (suc at) k h g = absurd (omega arith)
part_back (x ∷ l) t (suc at) k h g =
    ap (λ (m : List ℕ). x ∷ m) (part_back l t at k (omega arith) (omega arith)) ∙ sym (sets_behind x l t at)

part_whole : (l : List ℕ) (at : ℕ) → take (length l - at) (drop at l) ≡ drop at l
part_whole l at = let d = length-drop at l in take_all (length l - at) (drop at l) (omega arith)

pub entry_room : (l₀ l₁ : List ℕ) (at to id : ℕ) (m : Message) → at + (2 + length (record_of (Received m))) ≤ length l₀
    → Put l₀ at (le_of 2 id) l₁ to → to ≡ at + 2 → 2 + length_of 3 m.parts ≤ length (take (length l₁ - to) (drop to l₁))
entry_room l₀ l₁ at to id m h p e =
    let k = entry_sized m (2 + length_of 3 m.parts) refl in
    let l = put_length p in
    let d = length-drop to l₁ in
    let w = ap length (part_whole l₁ to) in
    omega arith

pub entry_as : (l₀ l₁ l₂ : List ℕ) (at to n id : ℕ) (m : Message) → Put l₀ at (le_of 2 id) l₁ to → to ≤ length l₁
    → Put (take (length l₁ - to) (drop to l₁)) 0 (record_of (Received m)) l₂ n
    → Put l₀ at (entry_of id (Received m)) (take to l₁ ++ (l₂ ++ drop (length l₁ - to) (drop to l₁))) (to + n)
unfolding entry_of
entry_as l₀ l₁ l₂ at to n id m p h q =
    let t = record_of (Received m) in
    let k = length l₁ - to in
    let e : take to l₁ ++ (l₂ ++ drop k (drop to l₁)) ≡ sets l₁ to t =
    ap (λ (x : List ℕ). take to l₁ ++ (x ++ drop k (drop to l₁))) (q.bytes ∙ ap (λ (x : List ℕ). sets x 0 t) (part_whole l₁ to))
    ∙ part_back l₁ t to k h (omega arith) in
    put_after (record { bytes = e; place = ap (λ (x : ℕ). to + x) (q.place ∙ zero-add (length t)) }) p

-- ---- what is given and left of a text

-- the number given back, and the bytes that the buffer then holds
abbrev pub Gave : ℕ → List ℕ → List ℕ → ℕ → List ℕ → Type 0
Gave bad t out r new = (r ≡ gives_of bad t out) × (new ≡ leaves_of bad t out)

-- of these components
abbrev pub GaveAll : ℕ → ℕ → List Component → List ℕ → ℕ → List ℕ → Type 0
GaveAll message cause cs out r new = Gave (first_bad message cause cs) (entries_of message cause cs) out r new

module _ (bad : ℕ) (t out : List ℕ) where
  pub gives_bad : (r : ℕ) → (bad ≡ 0 → ⊥) → r ≡ with_rest 3 bad → Gave bad t out r out
  unfolding gives_of leaves_of
  gives_bad r h e = (no_eq _ _ _ _ _ h e, no_eq _ _ _ _ _ h refl)

  module _ (n : ℕ) (h : bad ≡ 0) (e : n ≡ length t) where
    pub gives_full : length out < n → Gave bad t out 8 out
    unfolding gives_of leaves_of
    gives_full g =
        let k : length out < length t = omega arith in
        (yes_eq _ _ _ _ _ h (yes_lt _ _ _ _ _ k refl), yes_eq _ _ _ _ _ h (yes_lt _ _ _ _ _ k refl))

    pub gives_whole : (r at : ℕ) (new : List ℕ) → n ≤ length out → r ≡ with_rest 0 n → Put out 0 t new at → Gave bad t out r new
    unfolding gives_of leaves_of
    gives_whole r at new g f p =
        let k : length t ≤ length out = omega arith in
        let b : new ≡ t ++ drop (length t) out =
        p.bytes ∙ sets-eq t out 0 (omega arith) ∙ ap (λ (i : ℕ). t ++ drop i out) (zero-add (length t)) in
        (yes_eq _ _ _ _ _ h (no_lt _ _ _ _ _ k (f ∙ ap (with_rest 0) e)), yes_eq _ _ _ _ _ h (no_lt _ _ _ _ _ k b))

-- 3 with an ordinal is given for that ordinal, and for nothing else
pub three_given : (bad : ℕ) (t out : List ℕ) (k : ℕ) → (gives_of bad t out ≡ 3 + 256 * suc k) ↔ (bad ≡ suc k)
unfolding gives_of
three_given bad t out k = (
  both_eq bad 0 (λ (r : ℕ). r ≡ 3 + 256 * suc k → bad ≡ suc k) _ _
      (λ _. both_lt (length out) (length t) (λ (r : ℕ). r ≡ 3 + 256 * suc k → bad ≡ suc k) _ _
      (λ _ e. absurd (omega (arith, e))) (λ _ e. absurd (omega (arith, e))))
      (λ _ e. omega (arith, e)),
  λ e. sym (no_eq bad 0 _ _ _ (λ z. absurd (omega (arith, z, e))) (ap (λ (n : ℕ). 3 + 256 * n) (sym e))),
)

-- ---- what was read is in range

-- of an event of it no field is out of range but the kind and the cause of the message that carried it
abbrev pub Carried : ℕ → ℕ → Component → Type 0
Carried message cause c = bad_field_of (Received (heard_of message cause c)) ≡ carrier_bad message cause

abbrev CarriedAll : ℕ → ℕ → List Component → Type 0
CarriedAll message cause [] = Unit {0}
CarriedAll message cause (c ∷ cs) = Carried message cause c × CarriedAll message cause cs

all_carried : (message cause : ℕ) (cs : List Component) → FitsAll cs → CarriedAll message cause cs
all_carried message cause [] f = tt
all_carried message cause (c ∷ cs) (f, fs) = (fits_ranged message cause c f, all_carried message cause cs fs)

ranged_true : (message cause : ℕ) (cs : List Component) → CarriedAll message cause cs → carrier_bad message cause ≡ 0
    → first_bad message cause cs ≡ 0
unfolding first_bad received_of
ranged_true message cause [] f e = refl
ranged_true message cause (c ∷ cs) (f, fs) e = sym (yes_eq _ _ _ _ _ (f ∙ e) (sym (ranged_true message cause cs fs e)))

ranged_all : (message cause : ℕ) (c : Component) (cs : List Component) → Carried message cause c → CarriedAll message cause cs
    → first_bad message cause (c ∷ cs) ≡ carrier_bad message cause
unfolding first_bad received_of
ranged_all message cause c cs f fs =
    both_eq (bad_field_of (Received (heard_of message cause c))) 0 (λ (z : ℕ). z ≡ carrier_bad message cause) _ _
    (λ e. ranged_true message cause cs fs (sym f ∙ e) ∙ sym (sym f ∙ e)) (λ _. f)

pub fits_first_bad : (message cause : ℕ) (cs : List Component) → FitsAll cs → first_bad message cause (or_none cs) ≡ carrier_bad message cause
unfolding or_none
fits_first_bad message cause [] f = ranged_all message cause no_component [] (none_ranged message cause) tt
fits_first_bad message cause (c ∷ cs) (f, fs) = ranged_all message cause c cs (fits_ranged message cause c f) (all_carried message cause cs fs)

-- ---- what a parameter says

-- what is given and left for what a parameter says
abbrev pub Reads : ℕ → ℕ → Parameter → List ℕ → ℕ → List ℕ → Type 0
Reads message cause p out r new = (r ≡ read_gives message cause p out) × (new ≡ read_leaves message cause p out)

-- one and any that follow it
pub reads_all : (message cause : ℕ) (c : Component) (cs : List Component) (out : List ℕ) (r : ℕ) (new : List ℕ)
    → GaveAll message cause (c ∷ cs) out r new → Reads message cause (holds (c ∷ cs)) out r new
unfolding read_gives read_leaves or_none
reads_all message cause c cs out r new g = g

-- ---- several: the entry of one is put once those that follow it stand in the buffer

kept_nothing : (k : Result ℕ Refusal) (old : List ℕ) (from : ℕ) → old ≡ kept_of k old from []
unfolding kept_of
kept_nothing (Err r) old from = refl
kept_nothing (Ok to) old from = refl

kept_length : (k : Result ℕ Refusal) (old : List ℕ) (from : ℕ) (t : List ℕ) → length (kept_of k old from t) ≡ length old
unfolding kept_of
kept_length (Err r) old from t = refl
kept_length (Ok to) old from t = length-sets old from t

keeps_length : (message cause : ℕ) (p : Parameter) (old : List ℕ) (from : ℕ) (k : Result ℕ Refusal) (new : List ℕ) → Keeps message cause p old from k new
    → length new ≡ length old
unfolding Keeps
keeps_length message cause (refused n place) old from k new (_, e) = ap length e
keeps_length message cause (holds cs) old from k new (_, e) = ap length e ∙ kept_length k old from (entries_of message cause cs)

-- where the entries end they have room
pub ended_all : (bad room to end : ℕ) → Ok end ≡ ended_of bad room to → (to ≤ room) × (end ≡ to)
unfolding ended_of
ended_all bad room to end =
    both_eq bad 0 (λ (z : Result ℕ Refusal). Ok end ≡ z → (to ≤ room) × (end ≡ to)) _ _
    (λ _. both_lt room to (λ (z : Result ℕ Refusal). Ok end ≡ z → (to ≤ room) × (end ≡ to)) _ _ (λ _ e. cc) (λ h e. (h, cc)))
    (λ _ e. cc)

ended_within : (bad room to : ℕ) → bad ≤ 257 → to ≤ 8481 → KeptWithin (ended_of bad room to)
unfolding ended_of
ended_within bad room to g h =
    both_eq bad 0 KeptWithin _ _ (λ _. both_lt room to KeptWithin _ _ (λ _. omega arith) (λ _. h)) (λ _. g)

-- an entry before those of p, which begin where it ends
module _ (message cause : ℕ) (c : Component) (p : Parameter) (old new : List ℕ) (to from : ℕ) (k : Result ℕ Refusal) (m : Message) (g : m ≡ heard_of message cause c)
    (z : from ≡ to + (2 + length (record_of (Received m)))) (w : Keeps message cause p old from k new) where
  own : entry_of c.id (Received m) ≡ entry_of c.id (received_of message cause c)
  unfolding received_of
  own = ap (λ (x : Message). entry_of c.id (Received x)) g

  begin : from ≡ to + length (entry_of c.id (received_of message cause c))
  begin = z ∙ ap (λ (n : ℕ). to + n) (sym (entry_length c.id (Received m)) ∙ ap length own)

  end_same : (cs : List Component) → from + length (entries_of message cause cs) ≡ to + length (entries_of message cause (c ∷ cs))
  unfolding entries_of
  end_same cs =
      let l = length-append (entry_of c.id (received_of message cause c)) (entries_of message cause cs) in
      omega (arith, begin)

  pub before_refused : (r : Refusal) → k ≡ Err r → Keeps message cause (before c p) old to (Err r) new
  unfolding before kept_of Keeps
  before_refused r f = by p w
    where
      by : (q : Parameter) → Keeps message cause q old from k new → Keeps message cause (before c q) old to (Err r) new
      by (refused x place) (e, d) = (sym f ∙ e, d)
      by (holds cs) (e, d) =
          (sym f ∙ e ∙ ap (ended_of (carrier_bad message cause) (length old)) (end_same cs), d ∙ ap (λ (x : Result ℕ Refusal). kept_of x old from (entries_of message cause cs)) f)

  pub before_room : (end : ℕ) → k ≡ Ok end → to + (2 + length (record_of (Received m))) ≤ length new
  unfolding Keeps
  before_room end f = by p w
    where
      by : (q : Parameter) → Keeps message cause q old from k new → to + (2 + length (record_of (Received m))) ≤ length new
      by (refused x place) (e, d) = cc
      by (holds cs) (e, d) =
          let h = (ended_all _ _ _ _ (sym f ∙ e)).0 in
          let l = keeps_length message cause (holds cs) old from k new (e, d) in
          omega arith

  pub before_all : (end after : ℕ) (last : List ℕ) → k ≡ Ok end → Put new to (entry_of c.id (Received m)) last after
      → Keeps message cause (before c p) old to (Ok end) last
  unfolding before kept_of entries_of Keeps
  before_all end after last f q = by p w
    where
      by : (x : Parameter) → Keeps message cause x old from k new → Keeps message cause (before c x) old to (Ok end) last
      by (refused n place) (e, d) = cc
      by (holds cs) (e, d) =
          let b : Put old from (entries_of message cause cs) new (from + length (entries_of message cause cs)) =
          record { bytes = d ∙ ap (λ (x : Result ℕ Refusal). kept_of x old from (entries_of message cause cs)) f; place = refl } in
          (sym f ∙ e ∙ ap (ended_of (carrier_bad message cause) (length old)) (end_same cs), (put_before begin (put_as own q) b).bytes)

pub ended_kept : (message cause room to : ℕ) (k : Result ℕ Refusal) → to ≤ 8481 → k ≡ ended_of (carrier_bad message cause) room to → KeptWithin k
ended_kept message cause room to k h e =
    subst KeptWithin (sym e) (ended_within (carrier_bad message cause) room to (omega (arith, carrier_small message cause)) h)

-- one entry, of which all were read
alone_text : (message cause : ℕ) (c : Component) (m : Message) → m ≡ heard_of message cause c
    → entry_of c.id (Received m) ≡ entries_of message cause (c ∷ [])
unfolding entries_of received_of
alone_text message cause c m e = ap (λ (x : Message). entry_of c.id (Received x)) e ∙ sym (append-nil _)

pub alone_length : (message cause : ℕ) (c : Component) (m : Message) (n : ℕ) → m ≡ heard_of message cause c
    → n ≡ 2 + length (record_of (Received m)) → n ≡ length (entries_of message cause (c ∷ []))
alone_length message cause c m n e g = g ∙ sym (entry_length c.id (Received m)) ∙ ap length (alone_text message cause c m e)

pub alone_refused : (message cause : ℕ) (c : Component) (old : List ℕ) (n : ℕ) (r : Refusal) → n ≡ length (entries_of message cause (c ∷ []))
    → Err r ≡ ended_of (carrier_bad message cause) (length old) n → Keeps message cause (holds (c ∷ [])) old 0 (Err r) old
unfolding Keeps kept_of
alone_refused message cause c old n r e f = (f ∙ ap (ended_of (carrier_bad message cause) (length old)) (e ∙ sym (zero-add _)), refl)

pub alone_all : (message cause : ℕ) (c : Component) (m : Message) (old new : List ℕ) (n end at : ℕ) → m ≡ heard_of message cause c
    → n ≡ 2 + length (record_of (Received m)) → Ok end ≡ ended_of (carrier_bad message cause) (length old) n → Put old 0 (entry_of c.id (Received m)) new at
    → Keeps message cause (holds (c ∷ [])) old 0 (Ok end) new
unfolding Keeps kept_of
alone_all message cause c m old new n end at g z f p = (
  f ∙ ap (ended_of (carrier_bad message cause) (length old)) (alone_length message cause c m n g z ∙ sym (zero-add _)),
  (put_as (alone_text message cause c m g) p).bytes,
)

-- the components of s from a place on
module _ (s : List ℕ) (at message cause : ℕ) (old : List ℕ) (to : ℕ) where
  pub keep_end : (k : Result ℕ Refusal) → length s ≤ at → at ≤ length s → length s ≤ 257 → to ≤ 33 * at → k ≡ ended_of (carrier_bad message cause) (length old) to
      → Keeps message cause (walk_of s at) old to k old × KeptWithin k
  unfolding entries_of Keeps
  keep_end k h near few little e =
      let z : to ≡ to + 0 = omega arith in (
        subst (λ (p : Parameter). Keeps message cause p old to k old) (sym (walk_end s at h))
            (e ∙ ap (ended_of (carrier_bad message cause) (length old)) z, kept_nothing k old to),
        subst KeptWithin (sym e)
            (ended_within (carrier_bad message cause) (length old) to (omega (arith, carrier_small message cause)) (omega arith)),
      )

  module _ (a : Answer) (h : at < length s) (e : a ≡ component_of s at) where
    on : walk_of s at ≡ onward a (walk_of s)
    on = walk_on s at h ∙ ap (λ (x : Answer). onward x (walk_of s)) (sym e)

    placed : Placed (length s) a
    placed = subst (Placed (length s)) (sym e) (component_placed s at (omega arith))

    pub keep_refused : (n place : ℕ) → length s ≤ 257 → a ≡ Err (refusal n place)
        → Keeps message cause (walk_of s at) old to (Err (BadParameter (refusal n place))) old × KeptWithin (Err (BadParameter (refusal n place)))
    unfolding onward Keeps
    keep_refused n place few f =
        let l : place ≤ length s = subst (Placed (length s)) f placed in (
          subst (λ (p : Parameter). Keeps message cause p old to (Err (BadParameter (refusal n place))) old) (sym (on ∙ ap (λ (x : Answer). onward x (walk_of s)) f)) (refl, refl),
          omega arith,
        )

    module _ (c : Component) (next : ℕ) (f : a ≡ Ok (c, next)) where
      pub keep_near : next ≤ length s
      keep_near = subst (Placed (length s)) f placed

      pub keep_on : at < next
      keep_on = let o = read_on s at next c a e f in omega arith

      step : before c (walk_of s next) ≡ walk_of s at
      unfolding onward
      step = sym (on ∙ ap (λ (x : Answer). onward x (walk_of s)) f)

      pub keep_before : (k : Result ℕ Refusal) (last : List ℕ) → Keeps message cause (before c (walk_of s next)) old to k last → Keeps message cause (walk_of s at) old to k last
      keep_before k last w = subst (λ (p : Parameter). Keeps message cause p old to k last) step w

pub within_as : (k x : Result ℕ Refusal) → k ≡ x → KeptWithin k → KeptWithin x
within_as k x e w = subst KeptWithin e w

-- ---- and all of them given

ended_gave : (bad : ℕ) (t old new : List ℕ) (k : Result ℕ Refusal) (r : ℕ) → r ≡ given k → new ≡ kept_of k old 0 t → k ≡ ended_of bad (length old) (length t)
    → Gave bad t old r new
unfolding ended_of kept_of
ended_gave bad t old new k r g d =
    both_eq bad 0 (λ (z : Result ℕ Refusal). k ≡ z → Gave bad t old r new) _ _
    (λ h. both_lt (length old) (length t) (λ (z : Result ℕ Refusal). k ≡ z → Gave bad t old r new) _ _
    (λ l f. like _ _ (g ∙ ap given f) (d ∙ left f) (gives_full bad t old (length t) h refl l))
    (λ l f. gives_whole bad t old (length t) h refl r (0 + length t) new l (g ∙ ap given f) (record { bytes = d ∙ left f; place = refl })))
    (λ h f. like _ _ (g ∙ ap given f) (d ∙ left f) (gives_bad bad t old (with_rest 3 bad) h refl))
  where
    like : (x : ℕ) (y : List ℕ) → r ≡ x → new ≡ y → Gave bad t old x y → Gave bad t old r new
    like x y a b (u, v) = (a ∙ u, b ∙ v)

    left : {z : Result ℕ Refusal} → k ≡ z → kept_of k old 0 t ≡ kept_of z old 0 t
    left f = ap (λ (x : Result ℕ Refusal). kept_of x old 0 t) f

pub several_given : (message cause : ℕ) (c : Component) (p : Parameter) (old new : List ℕ) (k : Result ℕ Refusal) (r : ℕ) → Carried message cause c → FitsHeld p
    → Keeps message cause (before c p) old 0 k new → r ≡ given k → Reads message cause (before c p) old r new
unfolding before read_gives read_leaves Keeps
several_given message cause c (refused n place) old new k r f fs (e, d) g = (g ∙ ap given e, d)
several_given message cause c (holds cs) old new k r f fs (e, d) g =
    let bad = carrier_bad message cause in
    let t = entries_of message cause (c ∷ cs) in
    reads_all message cause c cs old r new
    (subst (λ (x : ℕ). Gave x t old r new) (sym (ranged_all message cause c cs f (all_carried message cause cs fs)))
    (ended_gave bad t old new k r g d (e ∙ ap (ended_of bad (length old)) (zero-add (length t)))))
