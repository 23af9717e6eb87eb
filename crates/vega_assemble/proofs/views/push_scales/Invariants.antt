use Rattle.std.proofs.Common.{◌≡◌, ◌++◌, drop, map}
use Rattle.std.specs.List.{enumerate_from}
use Rattle.std.specs.Prelude.{filter}
use Rattle.vega_assemble.specs.Scales.{scale_written}
use Rattle.vega_assemble.specs.Views.{belongs_to}
use Rattle.vega_assemble.proofs.views.push_scales.Given as goal

abbrev pub invariant-loop-number : goal.invariant-loop-number
invariant-loop-number l =
    l.out ++ map (scale_written l.stem l.scales) (filter (belongs_to l.holder) (enumerate_from l.number (drop l.number l.scales)))
    ≡ l.fn.out ++ map (scale_written l.stem l.scales) (filter (belongs_to l.holder) (enumerate_from 0 l.scales))
