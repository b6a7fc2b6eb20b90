-- An element on a page of `text`, in the order of its bytes: its tag and room for its length, its contents, and then the length.
-- Assumes nothing.
use Rattle.std.specs.Prelude.{◌≡◌, ℕ, [], ◌∷◌, ◌-◌, ◌%◌, set}
use Rattle.text.specs.Page.{Wrote}
use Rattle.text.specs.declared.page.Page.{Page}

-- The element begins, and its contents are put next, at `body`.
pub record Opened (tag : ℕ) (old new : Page) (body : ℕ) : Type 0 where
  pub put : Wrote (tag ∷ 0 ∷ []) old new
  pub place : body ≡ new.at

-- The contents, which begin at `body`, end where the page is: their length is in the byte before them.
pub record Closed (body : ℕ) (old new : Page) : Type 0 where
  pub same : new.out.ghost_name ≡ old.out.ghost_name
  pub bytes : new.out.now ≡ set old.out.now (body - 1) ((old.at - body) % 256)
  pub place : new.at ≡ old.at
