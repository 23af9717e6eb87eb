use Rattle.std.proofs.Common.{◌≡◌, ◌++◌, drop}
use Rattle.chart_plan.specs.Plots.{edges_of}
use Rattle.chart_plan.proofs.plot_axes.edges_of.Given as goal

abbrev pub invariant-loop-facet : goal.invariant-loop-facet
invariant-loop-facet l =
    l.edges ++ edges_of l.holder (drop l.facet-index l.facets) ≡ edges_of l.holder l.facets
