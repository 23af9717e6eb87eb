-- What is found on a walk over views.
use Rattle.std.specs.Prelude.{ℕ, ◌+◌, Option, List, [], ◌∷◌, ◌++◌, length, map}
use Rattle.vl_spec.specs.declared.marks.Mark.{Mark}
use Rattle.vl_normalize.specs.Marks.{used}
use Rattle.vl_compose.specs.declared.units.Found.{Found}
use Rattle.vl_compose.specs.Rounds.{Round}
use Rattle.vl_compose.specs.Shown.{unit_shown}
use Rattle.vl_compose.specs.Units.{UnitAt, channels_at, units_among}

-- how many views were met, and the units among them
pub record FoundAt : Type 0 where
  pub count : ℕ
  pub units : List UnitAt

abbrev pub found_shown : Found → FoundAt
found_shown found = record { count = found.count; units = map unit_shown found.units }

-- one more view
abbrev pub counted : FoundAt → FoundAt
counted found = record { count = found.count + 1; units = found.units }

-- one more view, which is a unit of this mark
abbrev pub with_unit : FoundAt → Option Mark → Round → FoundAt
with_unit found mark round = record {
  count = found.count + 1;
  units = found.units ++ record { number = length found.units; round = round; mark = mark; channels = used mark (channels_at round) } ∷ [];
}

-- some more views
abbrev pub after : FoundAt → List Round → FoundAt
after found rounds = record {
  count = found.count + length rounds;
  units = found.units ++ units_among (length found.units) rounds;
}
