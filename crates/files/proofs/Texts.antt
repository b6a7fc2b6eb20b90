-- Texts that go by a test of a bool.
-- Assumes nothing.
use Rattle.std.proofs.Common.{◌≡◌, ℕ, Bool, true, false, List, refl}
use Rattle.text.specs.Choose.{if_so}
use Rattle.text.specs.Text.{Put}
use Rattle.text.proofs.Cases.{yes_so, no_so}
use Rattle.text.proofs.Laws.{put_as}

pub put_so : (x : Bool) (a b s t : List ℕ) (i j : ℕ) → x ≡ true → Put a i s b j → Put a i (if_so x s t) b j
put_so x a b s t i j h p = put_as (yes_so x s s t h refl) p

pub put_not : (x : Bool) (a b s t : List ℕ) (i j : ℕ) → x ≡ false → Put a i t b j → Put a i (if_so x s t) b j
put_not x a b s t i j h p = put_as (no_so x t s t h refl) p
