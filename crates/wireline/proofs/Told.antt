-- What is said of a component or a parameter, by what its reader told; and the components of a parameter, one after the other.
-- Assumes nothing.
use Rattle.std.proofs.Common.{◌≡◌, ℕ, ◌-◌, ◌<◌, ◌≤◌, List, [], ◌∷◌, ◌++◌, length, sym, refl, ap, ◌∙◌, subst, append_assoc, append-nil, arith}
use Rattle.text.specs.Page.{Wrote}
use Rattle.text.specs.Text.{ascii}
use Rattle.text.specs.declared.page.Page.{Page}
use Rattle.text.proofs.Writes.{wrote_none, wrote_after, wrote_as}
use Rattle.wire.specs.Grammar.{component_of}
use Rattle.wire.specs.Parameters.{Parameter, refused, holds, before, onward, walk_of, framed_of, held_in, parameter_of, told_of}
use Rattle.wire.specs.declared.Component.{Component}
use Rattle.wire.specs.declared.Whole.{Whole}
use Rattle.wire.proofs.Walks.{read_on, walk_end, walk_on}
use Rattle.wireline.specs.Answers.{refused_text, own_line, lines_text, Held, walk_text, parameter_text}
use Rattle.wire.specs.declared.Refusal.{Refusal}
use Rattle.wire.specs.Answers.{Answer, Frame, Told, refusal}
use Rattle.std.specs.Prelude.{Ok, Err}

-- ---- a parameter that is held, and what follows its first component

record Apart (c : Component) (p : Parameter) (cs : List Component) : Type 0 where
  rest : List Component
  is : p ≡ holds rest
  all : cs ≡ c ∷ rest

abbrev components : Parameter → List Component
components (refused n place) = []
components (holds cs) = cs

-- what a parameter holds is not refused
never : {A : Type 0} (n place : ℕ) (cs : List Component) → refused n place ≡ holds cs → A
never n place cs e = absurd (subst Held (sym e) tt)

apart : (c : Component) (p : Parameter) (cs : List Component) → before c p ≡ holds cs → Apart c p cs
unfolding before
apart c (refused n place) cs e = never n place cs e
apart c (holds rest) cs e = record { rest = rest; is = refl; all = sym (ap components e) }

held_is : (p : Parameter) → Held p → p ≡ holds (components p)
held_is (refused n place) h = absurd h
held_is (holds cs) h = refl

-- ---- the loop over its components

pub record Telling (s : List ℕ) (old new : Page) (place : ℕ) : Type 0 where
  pub left : List Component
  pub walk : walk_of s place ≡ holds left
  pub text : List ℕ
  pub put : Wrote text old new
  pub all : text ++ lines_text left ≡ walk_text (walk_of s 3)

pub telling_none : (s : List ℕ) (old : Page) → Held (walk_of s 3) → Telling s old old 3
unfolding walk_text
telling_none s old h =
    let e = held_is (walk_of s 3) h in
    record { left = components (walk_of s 3); walk = e; text = []; put = wrote_none old; all = ap walk_text (sym e) }

module _ (s : List ℕ) (old new : Page) (place : ℕ) (t : Telling s old new place) where
  pub telling_done : length s ≤ place → Wrote (walk_text (walk_of s 3)) old new
  unfolding lines_text
  telling_done h =
      let e : t.left ≡ [] = ap components (sym t.walk ∙ walk_end s place h) in
      wrote_as (sym (append-nil t.text) ∙ ap (λ (cs : List Component). t.text ++ lines_text cs) (sym e) ∙ t.all) t.put

  module _ (a : Answer) (h : place < length s) (e : a ≡ component_of s place) where
    on : onward a (walk_of s) ≡ holds t.left
    on = ap (λ (x : Answer). onward x (walk_of s)) e ∙ sym (walk_on s place h) ∙ t.walk

    pub telling_never : {A : Type 0} (n met : ℕ) → a ≡ Err (refusal n met) → A
    unfolding onward
    telling_never n met f = never n met t.left (ap (λ (x : Answer). onward x (walk_of s)) (sym f) ∙ on)

    pub telling_refused : (r : Refusal) → a ≡ Err r → Wrote (walk_text (walk_of s 3)) old new
    telling_refused r f = telling_never r.number r.place f

    module _ (c : Component) (after : ℕ) (f : a ≡ Ok (c, after)) where
      pub telling_less : length s - after < length s - place
      telling_less = let l = read_on s place after c a e f in omega arith

      pub telling_on : (new' : Page) → Wrote (own_line c) new new' → Telling s old new' after
      unfolding onward lines_text
      telling_on new' p =
          let z = apart c (walk_of s after) t.left (ap (λ (x : Answer). onward x (walk_of s)) (sym f) ∙ on) in
          record {
            left = z.rest;
            walk = z.is;
            text = t.text ++ own_line c;
            put = wrote_after p t.put;
            all =
                append_assoc t.text (own_line c) (lines_text z.rest)
                ∙ ap (λ (cs : List Component). t.text ++ lines_text cs) (sym z.all) ∙ t.all;
          }

-- ---- a parameter, by what its reader told

-- what is said by what is told: l is what is said of several components
abbrev by_told : List ℕ → Told → List ℕ
by_told l (Err stop) = refused_text stop.number stop.place
by_told l (Ok Whole.Empty) = ascii "NONE\n"
by_told l (Ok (Whole.One c)) = own_line c
by_told l (Ok (Whole.Several k)) = l

said_as : (p : Parameter) → by_told (walk_text p) (told_of p) ≡ parameter_text p
unfolding told_of parameter_text walk_text lines_text
said_as (refused n place) = refl
said_as (holds []) = refl
said_as (holds (c ∷ [])) = sym (append-nil (own_line c))
said_as (holds (c ∷ d ∷ cs)) = refl

abbrev Unrefused : Told → Type 0
Unrefused (Err stop) = ⊥
Unrefused (Ok Whole.Empty) = Unit {0}
Unrefused (Ok (Whole.One c)) = Unit {0}
Unrefused (Ok (Whole.Several k)) = Unit {0}

told_held : (p : Parameter) → Unrefused (told_of p) → Held p
unfolding told_of
told_held (refused n place) h = h
told_held (holds cs) h = tt

-- a parameter that is held is its components, from place 3 on
framed_is : (f : Frame) (p : Parameter) → Held (held_in f p) → held_in f p ≡ p
unfolding held_in
framed_is (Err stop) p h = absurd h
framed_is (Ok u) p h = refl

walk_is : (s : List ℕ) → Held (parameter_of s) → parameter_of s ≡ walk_of s 3
unfolding parameter_of
walk_is s h = framed_is (framed_of s) (walk_of s 3) h

module _ (s : List ℕ) (w : Told) (e : w ≡ told_of (parameter_of s)) where
  several_is : (k : ℕ) → w ≡ Ok (Whole.Several k) → Held (parameter_of s)
  several_is k f = told_held (parameter_of s) (subst Unrefused (sym f ∙ e) tt)

  pub several_held : (v : Whole) (k : ℕ) → w ≡ Ok v → v ≡ Whole.Several k → Held (walk_of s 3)
  several_held v k f g = let h = several_is k (f ∙ ap Ok g) in subst Held (walk_is s h) h

  module _ (old new : Page) where
    said-by : (v : Told) → w ≡ v → Wrote (by_told (walk_text (parameter_of s)) v) old new → Wrote (parameter_text (parameter_of s)) old new
    said-by v f p = wrote_as (ap (by_told (walk_text (parameter_of s))) (sym f ∙ e) ∙ said_as (parameter_of s)) p

    pub said_refused : (r : Refusal) → w ≡ Err r → Wrote (refused_text r.number r.place) old new
        → Wrote (parameter_text (parameter_of s)) old new
    said_refused r f p = said-by (Err r) f p

    pub said_none : (v : Whole) → w ≡ Ok v → v ≡ Whole.Empty → Wrote (ascii "NONE\n") old new → Wrote (parameter_text (parameter_of s)) old new
    said_none v f g p = said-by (Ok Whole.Empty) (f ∙ ap Ok g) p

    pub said_one : (v : Whole) (c : Component) → w ≡ Ok v → v ≡ Whole.One c → Wrote (own_line c) old new → Wrote (parameter_text (parameter_of s)) old new
    said_one v c f g p = said-by (Ok (Whole.One c)) (f ∙ ap Ok g) p

    pub said_several : (v : Whole) (k : ℕ) → w ≡ Ok v → v ≡ Whole.Several k → Wrote (walk_text (walk_of s 3)) old new → Wrote (parameter_text (parameter_of s)) old new
    said_several v k f g p = let e = f ∙ ap Ok g in said-by (Ok (Whole.Several k)) e (wrote_as (ap walk_text (sym (walk_is s (several_is k e)))) p)
