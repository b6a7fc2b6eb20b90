-- A cursor over the elements of one holder, up to the holder's `end`. Once stopped it stays.
-- Assumes nothing.
use Rattle.std.specs.Prelude.{List, ℕ, ◌-◌, Bool, Ok, Err}
use Rattle.text.specs.Choose.{if_so, if_lt, if_le, if_eq}
use Rattle.wire.specs.Bytes.{byte_at}
use Rattle.wire.specs.Heads.{bad_length, head_of}
use Rattle.wire.specs.Elements.{not_ours, sequence_of}
use Rattle.wire.specs.declared.Cursor.{Cursor}
use Rattle.wire.specs.Answers.{Head, Seen}

-- stopped by a refusal, at its place
unfoldable pub stopped_of : ℕ → ℕ → Cursor
stopped_of n place = record { number = n; at = place; body = 0 }

-- the element asked for does not stand here; another, or the end, does
unfoldable pub absent_of : ℕ → Cursor
absent_of place = record { number = 0; at = place; body = 0 }

-- it does: its contents begin at `inner`, and after it comes `next`
unfoldable pub opened_of : ℕ → ℕ → Cursor
opened_of inner next = record { number = 0; at = next; body = inner }

-- to the first of the elements that the element last read holds
unfoldable pub inside_of : Cursor → Cursor
inside_of c = if_eq c.number 0 (absent_of c.body) c

unfoldable pub sized_of : ℕ → ℕ → ℕ → ℕ → ℕ → Cursor
sized_of place inner next least most =
    if_lt (next - inner) least (stopped_of not_ours place)
    (if_lt most (next - inner) (stopped_of not_ours place)
    (opened_of inner next))

unfoldable pub look_of : Head → ℕ → ℕ → ℕ → ℕ → Cursor
look_of (Err n) place tag least most = stopped_of n place
look_of (Ok e) place tag least most = if_eq e.tag tag (sized_of place e.body e.next least most) (stopped_of not_ours place)

-- an element with this tag must stand here, and its contents are `least` to `most` bytes. 12 comes before 14
unfoldable pub need_of : List ℕ → Cursor → ℕ → ℕ → ℕ → ℕ → Cursor
need_of s c end tag least most =
    if_eq c.number 0
    (if_le end c.at (stopped_of not_ours c.at) (look_of (head_of s c.at end bad_length) c.at tag least most))
    c

-- it may stand here. What else does is looked at by what comes next, which needs an element, lets any unknown one stand, or lets none
unfoldable pub may_of : List ℕ → Cursor → ℕ → ℕ → ℕ → ℕ → Cursor
may_of s c end tag least most =
    if_eq c.number 0
    (if_le end c.at (absent_of c.at) (if_eq (byte_at s c.at) tag (need_of s c end tag least most) (absent_of c.at)))
    c

unfoldable pub extra_of : Head → ℕ → Cursor
extra_of (Err n) place = stopped_of n place
extra_of (Ok e) place = stopped_of not_ours place

-- nothing more may stand in the holder
unfoldable pub closed_of : List ℕ → Cursor → ℕ → Cursor
closed_of s c end = if_eq c.number 0 (if_le end c.at c (extra_of (head_of s c.at end bad_length) c.at)) c

-- the contents of the element last read, which began at `from`, must be ok
unfoldable pub checked_of : Bool → ℕ → Cursor → Cursor
checked_of ok from c = if_eq c.body 0 c (if_so ok c (stopped_of not_ours from))

unfoldable pub seen_of : Seen → Cursor
seen_of (Ok next) = absent_of next
seen_of (Err r) = stopped_of r.number r.place

-- any elements that are not known, up to the holder's end
unfoldable pub rest_of : List ℕ → Cursor → ℕ → ℕ → ℕ → Cursor
rest_of s c end depth known =
    if_eq c.number 0 (if_le end c.at (absent_of c.at) (seen_of (sequence_of s c.at end depth known))) c
