-- What is said of a whole input: of the component that it begins with, or of a parameter.
-- Assumes nothing.
use Rattle.std.specs.Prelude.{ℕ, List, [], ◌∷◌, ◌++◌, Ok, Err}
use Rattle.text.specs.Text.{ascii, value_text, numbered}
use Rattle.wire.specs.Parameters.{Parameter, refused, holds}
use Rattle.wire.specs.declared.Component.{Component}
use Rattle.wireline.specs.Lines.{line_text}
use Rattle.wire.specs.Answers.{Answer}

-- a refusal's number and place
unfoldable pub refused_text : ℕ → ℕ → List ℕ
refused_text n place = numbered (ascii "REFUSED ") n ++ ascii " " ++ value_text place ++ ascii "\n"

-- a component, and the place after it
unfoldable pub read_text : Component → ℕ → List ℕ
read_text c next = line_text c ++ ascii " NEXT " ++ value_text next ++ ascii "\n"

abbrev pub answer_text : Answer → List ℕ
answer_text (Err r) = refused_text r.number r.place
answer_text (Ok (c, next)) = read_text c next

-- a component on a line of its own
unfoldable pub own_line : Component → List ℕ
own_line c = line_text c ++ ascii "\n"

unfoldable pub lines_text : List Component → List ℕ
lines_text [] = []
lines_text (c ∷ cs) = own_line c ++ lines_text cs

-- a parameter that is not refused
abbrev pub Held : Parameter → Type 0
Held (refused n place) = ⊥
Held (holds cs) = Unit {0}

-- its components, one a line
unfoldable pub walk_text : Parameter → List ℕ
walk_text (refused n place) = []
walk_text (holds cs) = lines_text cs

unfoldable pub parameter_text : Parameter → List ℕ
parameter_text (refused n place) = refused_text n place
parameter_text (holds []) = ascii "NONE\n"
parameter_text (holds (c ∷ cs)) = lines_text (c ∷ cs)
