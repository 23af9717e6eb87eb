-- Texts that are JSON numbers.
use Rattle.std.specs.Prelude.{ℕ, List, [], ◌∷◌, Option, Some, None, Ok, Err}
use Rattle.fixed_num.specs.JsonNumber.{Parts}
use Rattle.fixed_num.specs.Front.{Read, parts_at}

-- parts after which nothing stands
abbrev pub before_nothing : List ℕ → Parts → Option Parts
before_nothing [] parts = Some parts
before_nothing (b ∷ bytes) parts = None

abbrev pub parts_alone : Read Parts → Option Parts
parts_alone (Ok x) = before_nothing x.1 x.0
parts_alone (Err left) = None

-- the parts of a text that is a JSON number; None where it is none
unfoldable pub parts_of : List ℕ → Option Parts
parts_of text = parts_alone (parts_at text)
