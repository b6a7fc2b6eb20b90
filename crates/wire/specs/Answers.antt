-- What a reader answers: what it read; or None or Err.
-- Assumes nothing.
use Rattle.std.specs.Prelude.{ℕ, Option, Result}
use Rattle.wire.specs.declared.Component.{Component}
use Rattle.wire.specs.declared.Element.{Element}
use Rattle.wire.specs.declared.Refusal.{Refusal}
use Rattle.wire.specs.declared.Said.{Said}
use Rattle.wire.specs.declared.Whole.{Whole}

-- an element's first bytes; or the number at which reading stops
abbrev pub Head : Type 0
Head = Result Element ℕ

-- what was seen from a place on: the place after it
abbrev pub Seen : Type 0
Seen = Result ℕ Refusal

-- digits, none of them above 9: their value
abbrev pub Digits : Type 0
Digits = Option ℕ

-- what a SEQUENCE in the usual form says; None where it has another form
abbrev pub Parted : Type 0
Parted = Option Said

-- a component in the usual form; None where it has another form
abbrev pub Form : Type 0
Form = Option Component

-- a component and the place after it
abbrev pub Answer : Type 0
Answer = Result (Component × ℕ) Refusal

-- a parameter's own three bytes, which say nothing where they are good
abbrev pub Frame : Type 0
Frame = Result Unit Refusal

-- what a parameter is
abbrev pub Told : Type 0
Told = Result Whole Refusal

-- ---- what a struct of two or three fields holds, in order

-- an element: its tag, where its contents begin, and the place after them
abbrev pub element : ℕ → ℕ → ℕ → Element
element tag body next = record { tag = tag; body = body; next = next }

-- a refusal: its number, and its place
abbrev pub refusal : ℕ → ℕ → Refusal
refusal number place = record { number = number; place = place }
