-- What a writer leaves of a page.
use Rattle.std.specs.Prelude.{◌≡◌, List, ℕ, ◌+◌, ◌<◌, ◌^◌, min, max, length}
use Rattle.std.proofs.lemmas.List.Edits.{sets}
use Rattle.text.specs.declared.page.Page.{Page}

-- the place after n bytes more: it stops at the largest number
abbrev pub moved : ℕ → ℕ → ℕ
moved at n = max at (min (at + n) 18446744073709551615)

-- The text t was put on the page from its place on, as far as its buffer goes.
pub record Wrote (t : List ℕ) (old new : Page) : Type 0 where
  pub same : new.out.ghost_name ≡ old.out.ghost_name
  pub bytes : length old.out.now < 2 ^ 63 → new.out.now ≡ sets old.out.now old.at t
  pub place : new.at ≡ moved old.at (length t)
