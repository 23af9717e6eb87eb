use Rattle.std.proofs.Common.{◌≡◌, ◌++◌, drop}
use Rattle.std.specs.List.{filter_map, enumerate_from}
use Rattle.std.specs.Prelude.{filter}
use Rattle.vega_assemble.specs.Guides.{legend_written}
use Rattle.vega_assemble.specs.Views.{belongs_to}
use Rattle.vega_assemble.proofs.views.legends_held.Given as goal

abbrev pub invariant-loop-number : goal.invariant-loop-number
invariant-loop-number l =
    l.out ++ filter_map (legend_written l.stem l.scales) (filter (belongs_to l.holder) (enumerate_from l.number (drop l.number l.scales)))
    ≡ filter_map (legend_written l.stem l.scales) (filter (belongs_to l.holder) (enumerate_from 0 l.scales))
