use Rattle.std.proofs.Common.{◌≡◌, ◌+◌, drop, fold}
use Rattle.vega_selections.specs.declared.plots.Span.{Span}
use Rattle.vega_selections.specs.Plots.{size_of}
use Rattle.vega_selections.proofs.plots.size_of.Given as goal

abbrev pub invariant-loop-span : goal.invariant-loop-span
invariant-loop-span l = fold (λ a (s : Span). a + s.size) l.size (drop l.span-index l.spans) ≡ size_of l.spans
