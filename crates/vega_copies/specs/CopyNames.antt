-- What names stand for in a copy of a group.
use Rattle.std.specs.Prelude.{Option, List}
use Rattle.cell_value.specs.State.{Dataset}
use Rattle.vega_copies.specs.Outlines.{Object}
use Rattle.vega_copies.specs.Scopes.{Names, names_in_object}
use Rattle.vega_copies.specs.Facets.{Copy, with_parts}

-- what names stand for in a copy of a group, from what they stand for round it; None where a data set overflows, or mentions a signal without value
abbrev pub names_in_copy : List Dataset → Names → Object → Copy → Option Names
names_in_copy sources outer o copy = names_in_object sources (record outer { lists = with_parts copy.parts outer.lists }) o
