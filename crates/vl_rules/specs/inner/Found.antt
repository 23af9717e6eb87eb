-- What is found on a walk over views.
use Rattle.std.specs.Prelude.{ℕ, ◌+◌, Option, List, [], ◌∷◌, ◌++◌, length, map, take}
use Rattle.vl_spec.specs.declared.marks.Mark.{Mark}
use Rattle.vl_compose.specs.Rounds.{Round}
use Rattle.vl_rules.specs.declared.marked.Found.{Found}
use Rattle.vl_rules.specs.declared.marked.TheConstants.{MOST_FOUND}
use Rattle.vl_rules.specs.Marked.{MarkedAt, marked_among}
use Rattle.vl_rules.specs.inner.Shown.{marked_shown, marked_with}

-- how many units are looked for
abbrev pub most_found : ℕ
most_found = MOST_FOUND

-- how many views were met, and the first units among them
pub record FoundAt : Type 0 where
  pub count : ℕ
  pub units : List MarkedAt

abbrev pub found_shown : Found → FoundAt
found_shown found = record { count = found.count; units = take most_found (map marked_shown found.units) }

-- one more view
abbrev pub and_met : FoundAt → FoundAt
and_met found = record { count = found.count + 1; units = found.units }

-- one more view, which is a unit of this mark
abbrev pub with_unit : FoundAt → Option Mark → Round → FoundAt
with_unit found mark round = record { count = found.count + 1; units = take most_found (found.units ++ marked_with mark round ∷ []) }

-- some more views
abbrev pub after : FoundAt → List Round → FoundAt
after found rounds = record { count = found.count + length rounds; units = take most_found (found.units ++ marked_among rounds) }
