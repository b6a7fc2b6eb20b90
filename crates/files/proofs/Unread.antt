-- A record that cannot be read has 5, 6 or 7.
-- Assumes nothing.
use Rattle.std.proofs.Common.{◌≡◌, ℕ, zero, suc, ◌≤◌, List, length, subst, arith}
use Rattle.std.specs.Prelude.{None, Some, Ok, Err}
use Rattle.files.specs.Bodies.{Reading, stopped, read_at, plain_at}
use Rattle.files.specs.Frames.{stop_number}
use Rattle.files.specs.Shown.{Ending, whole, unread, Contents, and_then, contents_from, contents_of}
use Rattle.files.specs.declared.Unreadable.{Unreadable}
use Rattle.files.specs.declared.Unreadable.TheVariants.{CutShort, BadLength, UnknownKind}

abbrev Ends : Ending → Type 0
Ends whole = Unit {0}
Ends (unread n) = (5 ≤ n) × (n ≤ 7)

pub stop_five_to_seven : (e : Unreadable) → (5 ≤ stop_number e) × (stop_number e ≤ 7)
stop_five_to_seven CutShort = omega arith
stop_five_to_seven BadLength = omega arith
stop_five_to_seven UnknownKind = omega arith

-- where plain records alone may stand
pub plain_stop_number : (s : List ℕ) (at : ℕ) (e : Unreadable) → plain_at s at ≡ stopped e → (5 ≤ stop_number e) × (stop_number e ≤ 7)
plain_stop_number s at e r = stop_five_to_seven e

by_read : (found : Reading) (rest : ℕ → Contents) → ((at : ℕ) → Ends (rest at).ending) → Ends (and_then found rest).ending
by_read None rest i = tt
by_read (Some (Err e)) rest i = stop_five_to_seven e
by_read (Some (Ok found)) rest i = i found.next

from_ends : (k : ℕ) (s : List ℕ) (at : ℕ) → Ends (contents_from k s at).ending
unfolding contents_from
from_ends zero s at = tt
from_ends (suc k) s at = by_read (read_at s at) (contents_from k s) (from_ends k s)

-- A file that does not end after a record ends at one that is given 5, 6 or 7.
pub unread_number : (s : List ℕ) (n : ℕ) → (contents_of s).ending ≡ unread n → (5 ≤ n) × (n ≤ 7)
unfolding contents_of
unread_number s n e = subst Ends e (from_ends (length s) s 0)
