use Rattle.std.proofs.Common.{◌≡◌, drop}
use Rattle.std.specs.List.{list_any}
use Rattle.vega_parts.specs.Selections.{clashes_with}
use Rattle.vega_parts.proofs.selections.clashes_with_one.Given as goal

abbrev pub invariant-loop-entry : goal.invariant-loop-entry
invariant-loop-entry l = list_any (clashes_with l.update) (drop l.entry-index l.earlier) ≡ list_any (clashes_with l.update) l.earlier
