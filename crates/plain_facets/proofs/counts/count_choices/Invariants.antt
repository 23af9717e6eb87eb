use Rattle.std.proofs.Common.{◌≡◌, ◌-◌, ◌*◌, ◌^◌, ◌≤◌, min, length, drop}
use Rattle.plain_facets.specs.Facets.{choices}
use Rattle.plain_facets.proofs.counts.count_choices.Given as goal

abbrev pub invariant-loop-cells : goal.invariant-loop-cells
invariant-loop-cells l = record {
  counts : min (l.count * length (choices (drop l.cells-index l.lists))) (2 ^ 128 - 1) ≡ min (length (choices l.lists)) (2 ^ 128 - 1);
  few : l.count ≤ 2 ^ 128 - 1;
}
