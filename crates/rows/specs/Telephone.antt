-- Telephone numbers. 02 #103: "A number now also states its nature, national or international"; "Two numbers are equal only with equal
-- nature, count and value."
-- Assumes nothing.
use Rattle.std.specs.Prelude.{Bool, true, false, ◌&&◌, eqb}
use Rattle.rows.specs.declared.Nature.{Nature}
use Rattle.rows.specs.declared.Nature.TheVariants.{National, International}
use Rattle.rows.specs.declared.Number.{Number}

-- no number
abbrev pub absent : Number
absent = record { nature = National; count = 0; value = 0 }

abbrev pub national : Nature → Bool
national National = true
national International = false

abbrev pub same_nature : Nature → Nature → Bool
same_nature National National = true
same_nature National International = false
same_nature International National = false
same_nature International International = true

-- "equal nature, count and value"
abbrev pub same_number : Number → Number → Bool
same_number a b = same_nature a.nature b.nature && (eqb a.count b.count && eqb a.value b.value)
