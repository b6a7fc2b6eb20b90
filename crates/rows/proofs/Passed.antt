-- NUMBERS ARE PASSED ON WHOLE: one that is sent is the own number of the call, and one that is held was held, or the event brought it, each
-- with its nature, its count and its value. So two rooms that share their digits stay two rooms. An opening's own number and the number
-- that a caller asks for are held.
-- Assumes nothing.
use mathlib.Core.Bool.{Bool, true, false, ◌||◌, not}
use mathlib.Core.List.{[], ◌∷◌}
use mathlib.Core.Logic.{inl, inr}
use mathlib.Core.Path.{◌≡◌, refl, sym, ap, subst, ◌∙◌}
use Prim.Native.Nat.{ℕ}
use lib.Dec.{leb, eqb}
use borrow.Author.Tests.{eq-eqb}
use Rattle.std.specs.Prelude.{Option, Some, None}
use Rattle.meters.specs.declared.Meters.{Meters}
use Rattle.meters.specs.Meters.{change_of}
use Rattle.rows.specs.Perform.{refused_at, if_there, or_held, opened_of, stand_of, side_of, settled_of, perform_if, applies_of}
use Rattle.rows.specs.Promises.{OneOf, this, later, own_in, calling_in, called_in, named_by, PassedOn, HeldOr, Keeps, OnlyOwn, HoldsOrClears, place_in}
use Rattle.rows.specs.Read.{bit, read_of}
use Rattle.rows.specs.Step.{is_opening, step_of}
use Rattle.rows.specs.Telephone.{absent}
use Rattle.rows.specs.Valid.{in_range, number_there}
use Rattle.rows.specs.declared.Call.{Call}
use Rattle.rows.specs.declared.Event.{Event}
use Rattle.rows.specs.declared.Event.TheVariants.{Opening, Ask, Received, FromAccess, Expiry, Time}
use Rattle.rows.specs.declared.Kind.{Kind}
use Rattle.rows.specs.declared.Kind.TheVariants.{Asks}
use Rattle.rows.specs.declared.Number.{Number}
use Rattle.rows.specs.declared.Outcome.{Outcome}
use Rattle.rows.specs.declared.Phase.{Phase}
use Rattle.rows.specs.declared.Phase.TheVariants.{Unopened, Null, Setup, Answered, Cleared}
use Rattle.rows.specs.declared.Plan.{Plan}
use Rattle.rows.specs.declared.Reading.{Reading}
use Rattle.rows.specs.declared.Register.{Register}
use Rattle.rows.specs.declared.Register.TheVariants.{AsHeld, FromOpening, CalledNumber, CallingNumber}
use Rattle.rows.specs.declared.Side.{Side}
use Rattle.rows.proofs.Answers.{plan_for, refused_or_performed}
use Rattle.rows.proofs.Found.{Test, implies, so, holds, stepped, is_kind}
use Rattle.rows.proofs.Phases.{is_opens, opens}
use Rattle.rows.proofs.Truth.{differ, right, or_none_lem}

-- ---- what is sent, what is held

sent : (b : Bool) (own : Number) → if_there b own ≡ named_by b own
sent true own = refl
sent false own = refl

held : (b : Bool) (n h : Number) → OneOf (or_held b n h) (h ∷ n ∷ absent ∷ [])
held true n h = later this
held false n h = this

own_held : (x : Register) (s : Side) (r : Reading) → OneOf (side_of x s r).own (s.own ∷ r.own ∷ [])
own_held AsHeld s r = this
own_held FromOpening s r = later this
own_held CalledNumber s r = this
own_held CallingNumber s r = this

calling_held : (x : Register) (s : Side) (r : Reading) → OneOf (side_of x s r).calling (s.calling ∷ r.calling ∷ absent ∷ [])
calling_held AsHeld s r = this
calling_held FromOpening s r = later (later this)
calling_held CalledNumber s r = this
calling_held CallingNumber s r = held (leb 1 r.calling.count) r.calling s.calling

called_held : (x : Register) (s : Side) (r : Reading) → OneOf (side_of x s r).called (s.called ∷ r.called ∷ absent ∷ [])
called_held AsHeld s r = this
called_held FromOpening s r = later (later this)
called_held CalledNumber s r = held (leb 1 r.called.count) r.called s.called
called_held CallingNumber s r = this

-- ---- the numbers that an event brings are read as they are

own_read : (e : Event) → (read_of e).own ≡ own_in e
own_read (Opening r f n) = refl
own_read (Ask q n) = refl
own_read (Received m) = refl
own_read (FromAccess a n) = refl
own_read Expiry = refl
own_read (Time s) = refl

calling_read : (e : Event) → (read_of e).calling ≡ calling_in e
calling_read (Opening r f n) = refl
calling_read (Ask q n) = refl
calling_read (Received m) = refl
calling_read (FromAccess a n) = refl
calling_read Expiry = refl
calling_read (Time s) = refl

called_read : (e : Event) → (read_of e).called ≡ called_in e
called_read (Opening r f n) = refl
called_read (Ask q n) = refl
called_read (Received m) = refl
called_read (FromAccess a n) = refl
called_read Expiry = refl
called_read (Time s) = refl

-- ---- a step

module _ (c : Call) (e : Event) where
  refused : (n k : ℕ) → PassedOn c e (refused_at n k c)
  refused n k = record { calling_sent = refl; called_sent = refl; own_held = this; calling_held = this; called_held = this }

  settled : (m : Option Meters) (p : Plan) → PassedOn c e (settled_of m c p (read_of e))
  settled (Some after) p =
      record {
        calling_sent = sent (bit 16 p.parts) c.side.own;
        called_sent = sent (bit 32 p.parts) c.side.own;
        own_held =
            subst (λ (n : Number). OneOf (side_of p.register c.side (read_of e)).own (c.side.own ∷ n ∷ [])) (own_read e)
            (own_held p.register c.side (read_of e));
        calling_held =
            subst (λ (n : Number). OneOf (side_of p.register c.side (read_of e)).calling (c.side.calling ∷ n ∷ absent ∷ [])) (calling_read e)
            (calling_held p.register c.side (read_of e));
        called_held =
            subst (λ (n : Number). OneOf (side_of p.register c.side (read_of e)).called (c.side.called ∷ n ∷ absent ∷ [])) (called_read e)
            (called_held p.register c.side (read_of e));
      }
  settled None p = refused 2 0

  performs : (b : Bool) (p : Plan) → PassedOn c e (perform_if b c p (read_of e))
  performs true p = settled (change_of p.change c.meters (read_of e).seconds) p
  performs false p = refused p.number 0

  pub passed_on : PassedOn c e (step_of c e)
  passed_on =
      refused_or_performed (PassedOn c e) c e (refused 9 0)
      (record {
        one = refused 1 0;
        three = refused 3;
        fifteen = refused 15 0;
        sixteen = refused 16 0;
        seventeen = refused 17 0;
        twenty = refused 20 0;
      })
      (performs (applies_of (plan_for c e).number) (plan_for c e))

-- ---- without an opening nothing is forgotten

-- the register that begins anew
abbrev anew : Register → Bool
anew AsHeld = false
anew FromOpening = true
anew CalledNumber = false
anew CallingNumber = false

abbrev only_openings : Test
only_openings r now k p = not (anew p.register) || is_opens k

kept_or : (b : Bool) (n held : Number) → leb 1 n.count ≡ b → HeldOr (or_held b n held) held n
kept_or true n held h = inr (refl, h)
kept_or false n held h = inl refl

own_kept : (x : Register) (s : Side) (r : Reading) → not (anew x) ≡ true → (side_of x s r).own ≡ s.own
own_kept AsHeld s r h = refl
own_kept FromOpening s r h = differ h
own_kept CalledNumber s r h = refl
own_kept CallingNumber s r h = refl

calling_kept : (x : Register) (s : Side) (r : Reading) → not (anew x) ≡ true → HeldOr (side_of x s r).calling s.calling r.calling
calling_kept AsHeld s r h = inl refl
calling_kept FromOpening s r h = differ h
calling_kept CalledNumber s r h = inl refl
calling_kept CallingNumber s r h = kept_or (leb 1 r.calling.count) r.calling s.calling refl

called_kept : (x : Register) (s : Side) (r : Reading) → not (anew x) ≡ true → HeldOr (side_of x s r).called s.called r.called
called_kept AsHeld s r h = inl refl
called_kept FromOpening s r h = differ h
called_kept CalledNumber s r h = kept_or (leb 1 r.called.count) r.called s.called refl
called_kept CallingNumber s r h = inl refl

pub keeps : (c : Call) (e : Event) → is_opening e ≡ false → Keeps c e (step_of c e)
keeps c e h =
    let x = (plan_for c e).register in
    let a : not (anew x) ≡ true =
    or_none_lem _ (subst (λ (b : Bool). (not (anew x) || b) ≡ true) (opens e ∙ h) (holds only_openings (λ e t a b. refl) c e)) in
    stepped (Keeps c e) c e (λ v. stays 9 0) (λ n k v p q. stays n k)
    (λ n _. record {
      own = own_kept x c.side (read_of e) a;
      calling =
          subst (λ (m : Number). HeldOr (side_of x c.side (read_of e)).calling c.side.calling m) (calling_read e)
          (calling_kept x c.side (read_of e) a);
      called =
          subst (λ (m : Number). HeldOr (side_of x c.side (read_of e)).called c.side.called m) (called_read e)
          (called_kept x c.side (read_of e) a);
    })
  where
    stays : (n k : ℕ) → Keeps c e (refused_at n k c)
    stays n k = record { own = refl; calling = inl refl; called = inl refl }

-- ---- an opening and a caller's request register

abbrev is_null : Phase → Bool
is_null p = eqb (place_in p) 1

abbrev is_asks : Kind → Bool
is_asks k = is_kind Asks k

abbrev registers_called : Register → Bool
registers_called AsHeld = false
registers_called FromOpening = false
registers_called CalledNumber = true
registers_called CallingNumber = false

-- the call has cleared, or it is being set up and the number asked for is registered
abbrev registers_or_clears : Phase → Bool → Bool
registers_or_clears Unopened b = false
registers_or_clears Null b = false
registers_or_clears Setup b = b
registers_or_clears Answered b = false
registers_or_clears Cleared b = true

-- what is accepted of an opening begins anew, and a request that is accepted in NULL registers the number asked for, or clears the call
abbrev openings_anew : Test
openings_anew r now k p = implies (eqb p.number 0) (implies (is_opens k) (anew p.register))

abbrev requests_held : Test
requests_held r now k p =
    implies (is_null now.phase)
    (implies (eqb p.number 0) (implies (is_asks k) (registers_or_clears (stand_of p.next now).phase (registers_called p.register))))

opened_own : (x : Register) (s : Side) (r : Reading) → anew x ≡ true → side_of x s r ≡ opened_of r
opened_own AsHeld s r h = differ h
opened_own FromOpening s r h = refl
opened_own CalledNumber s r h = differ h
opened_own CallingNumber s r h = differ h

asked_held : (x : Register) (s : Side) (r : Reading) → registers_called x ≡ true → leb 1 r.called.count ≡ true → (side_of x s r).called ≡ r.called
asked_held AsHeld s r h l = differ h
asked_held FromOpening s r h l = differ h
asked_held CalledNumber s r h l = ap (λ (b : Bool). or_held b r.called s.called) l
asked_held CallingNumber s r h l = differ h

-- a refusal is not accepted
not_accepted : {A : Type 0} (n : ℕ) → eqb n 0 ≡ false → n ≡ 0 → A
not_accepted n f z = differ (sym f ∙ eq-eqb n 0 z)

pub opening_registers : (c : Call) (r f : ℕ) (n : Number) → (step_of c (Opening r f n)).number ≡ 0 → OnlyOwn n (step_of c (Opening r f n)).call
opening_registers c r f n =
    let e : Event = Opening r f n in
    stepped (λ (o : Outcome). o.number ≡ 0 → OnlyOwn n o.call) c e (λ v. not_accepted 9 refl) (λ k x v p q. not_accepted k p)
    (λ m w z.
    let g = opened_own (plan_for c e).register c.side (read_of e) (so _ _ (holds openings_anew (λ e t a b. refl) c e) w.row) in
    record { own = ap (λ (s : Side). s.own) g; calling = ap (λ (s : Side). s.calling) g; called = ap (λ (s : Side). s.called) g })

holds_or_clears : (p : Phase) (b : Bool) (m n : Number) → registers_or_clears p b ≡ true → (b ≡ true → m ≡ n) → HoldsOrClears n p m
holds_or_clears Unopened b m n h f = differ h
holds_or_clears Null b m n h f = differ h
holds_or_clears Setup b m n h f = inr (refl, f h)
holds_or_clears Answered b m n h f = differ h
holds_or_clears Cleared b m n h f = inl refl

pub request_registers : (c : Call) (q : ℕ) (n : Number) → c.stand.phase ≡ Null → number_there n ≡ true → (step_of c (Ask q n)).number ≡ 0 →
    HoldsOrClears n (step_of c (Ask q n)).call.stand.phase (step_of c (Ask q n)).call.side.called
request_registers c q n h l =
    let e : Event = Ask q n in
    let x = (plan_for c e).register in
    stepped (λ (o : Outcome). o.number ≡ 0 → HoldsOrClears n o.call.stand.phase o.call.side.called) c e
    (λ v. not_accepted 9 refl) (λ k x v p q. not_accepted k p)
    (λ m w z. holds_or_clears (stand_of (plan_for c e).next c.stand).phase (registers_called x) (side_of x c.side (read_of e)).called n
    (so _ _ (so _ _ (holds requests_held (λ e t a b. refl) c e) (ap is_null h)) w.row)
    (λ r. asked_held x c.side (read_of e) r (right (in_range n) _ l)))
