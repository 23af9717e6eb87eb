use Rattle.std.proofs.Common.{◌≡◌, flat_map, map, take}
use Rattle.vega_selections.specs.Plots.{mark_spans}
use Rattle.vega_selections.proofs.plots.+spans.Given as goal

abbrev pub invariant-spans_below-loop-mark : goal.invariant-spans_below-loop-mark
invariant-spans_below-loop-mark l = l.out ≡ flat_map (λ spans. spans) (map mark_spans (take l.mark-index l.marks))
