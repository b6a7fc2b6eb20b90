-- Any two results that a contract allows are the same: a law for each form that the contracts of `meters`, `rows` and `text` have. A
-- bound beside one of them (`r ≤ at + 10`) only adds to what is said. The forms of `files` alone are in its own Same.antt.
-- Assumes nothing.
use mathlib.Core.Path.{◌≡◌, sym, ◌∙◌}
use mathlib.Core.List.{List}
use Prim.Native.Nat.{ℕ, ◌^◌, ◌<◌}
use lib.ListN.{length}
use Rattle.text.specs.Text.{Put}
use Rattle.text.specs.Page.{Wrote}
use Rattle.text.specs.declared.page.Page.{Page}

-- `result ≡ definition arguments`: all functions of `meters` and `rows`, and every reader of `text` and `files`. Two results that both equal
-- the definition are equal.
pub same : {A : Type 0} {defined out out' : A} → out ≡ defined → out' ≡ defined → out ≡ out'
same e f = e ∙ sym f

-- `Put old at t new r`: every writer. For one buffer, place and text there is one buffer that it leaves and one place after.
pub put_same : {old t new new' : List ℕ} {at r r' : ℕ} → Put old at t new r → Put old at t new' r' → (new ≡ new') × (r ≡ r')
put_same p q = (same p.bytes q.bytes, same p.place q.place)

-- `Wrote t old new`: every writer on a page. For one page and text there is one place that it leaves, and one content of a buffer of fewer
-- than 2 ^ 63 bytes.
pub wrote_same : {old new new' : Page} {t : List ℕ} → length old.out.now < 2 ^ 63 → Wrote t old new → Wrote t old new'
    → (new.out.now ≡ new'.out.now) × (new.at ≡ new'.at)
wrote_same h p q = (same (p.bytes h) (q.bytes h), same p.place q.place)
