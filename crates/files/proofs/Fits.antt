-- What is left and answered where a text is measured first.
-- Assumes nothing.
use Rattle.std.proofs.Common.{◌≡◌, ℕ, ◌+◌, ◌^◌, ◌<◌, ◌≤◌, List, [], ◌∷◌, ◌++◌, length, take, drop, sym, refl, ap, ◌∙◌, zero-add, arith, length-take-le}
use lib.Seq.{sets, sets-eq}
use Rattle.text.specs.Page.{Wrote, moved}
use Rattle.text.specs.Text.{Put}
use Rattle.text.specs.declared.page.Page.{Page}
use Rattle.text.proofs.Cases.{yes_lt, no_lt, both_lt}
use Rattle.text.proofs.Writes.{wrote_put}
use Rattle.files.specs.Fit.{longest, too_long, answers, leaves}

-- a front of no bytes, put back, changes nothing
pub no_front : (e out : List ℕ) → length e ≡ 0 → e ++ drop 0 out ≡ out
no_front [] out h = refl
no_front (a ∷ e) out h = absurd (omega arith)

-- the place after a text that was put from the first place on
pub measured : {a b : Page} {t : List ℕ} → a.at ≡ 0 → Wrote t a b → b.at ≡ moved 0 (length t)
measured {t = t} z p = p.place ∙ ap (λ (k : ℕ). moved k (length t)) z

-- n: that place, where nothing was stored
module _ (s t out : List ℕ) (n : ℕ) (h : length s ≤ longest) (l : n ≡ moved 0 (length t)) where
  pub full_as : (e : List ℕ) → length out < n → length e ≡ 0 → (too_long ≡ answers s t out) × (e ++ drop 0 out ≡ leaves s t out)
  unfolding answers leaves
  full_as e g z =
      (no_lt _ _ _ _ _ h (yes_lt _ _ _ _ _ (omega arith) refl), no_front e out z ∙ no_lt _ _ _ _ _ h (yes_lt _ _ _ _ _ (omega arith) refl))

  pub fit_as : (e last : List ℕ) (a b : Page) → length out < 2 ^ 63 → n ≤ length out → length e ≡ 0 → a.at ≡ 0 → a.out.now ≡ e ++ drop 0 out → Wrote t a b
      → last ≡ b.out.now → (b.at ≡ answers s t out) × (last ≡ leaves s t out)
  unfolding answers leaves
  fit_as e last a b m g z i f w v =
      let k : a.out.now ≡ out = f ∙ no_front e out z in
      let p : Put a.out.now a.at t b.out.now b.at = wrote_put (rw k m) (omega arith) w in (
        no_lt _ _ _ _ _ h (no_lt _ _ _ _ _ (omega arith) (p.place ∙ ap (λ (x : ℕ). x + length t) i ∙ zero-add _)),
        no_lt _ _ _ _ _ h
            (no_lt _ _ _ _ _ (omega arith)
            (v ∙ p.bytes ∙ ap (λ (o : List ℕ). sets o a.at t) k ∙ ap (λ (x : ℕ). sets out x t) i
            ∙ sets-eq t out 0 (omega arith)
            ∙ ap (λ (x : ℕ). t ++ drop x out) (zero-add (length t)))),
      )

-- an answer other than 8 is a length within the buffer
answers_within : (s t out : List ℕ) → (answers s t out ≡ too_long → ⊥) → answers s t out ≤ length out
unfolding answers
answers_within s t out =
    both_lt _ _ (λ (k : ℕ). (k ≡ too_long → ⊥) → k ≤ length out) _ _ (λ _ f. absurd (f refl)) λ _.
    both_lt _ _ (λ (k : ℕ). (k ≡ too_long → ⊥) → k ≤ length out) _ _ (λ _ f. absurd (f refl)) λ g _. g

module _ (s t out last : List ℕ) (k : ℕ) (e : k ≡ answers s t out) (f : k ≡ too_long → ⊥) (h : length last ≡ length out) where
  pub answer_within : k ≤ length last
  answer_within = omega (arith, answers_within s t out (λ g. f (e ∙ g)))

  pub front_length : k ≡ length (take k last)
  front_length = sym (length-take-le k last answer_within)
