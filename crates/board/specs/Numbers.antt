-- The numbers of the board, each behind one name.
-- Assumes nothing.
use Rattle.std.specs.Prelude.{ℕ}

-- 02 #107, beside 01's "Numbers given back": "19 no such slot (past the row's end or past 63)", "21 none free"
abbrev pub no_such_slot : ℕ
no_such_slot = 19

abbrev pub none_free : ℕ
none_free = 21

-- 02 #107: "A host lends a row of up to 64 calls": a longer one has no more slots
abbrev pub slots : ℕ
slots = 64
