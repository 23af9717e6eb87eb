use Rattle.std.proofs.Common.{◌≡◌, drop}
use Rattle.std.specs.List.{list_any}
use Rattle.vega_parts.proofs.around.any_facet.Given as goal

abbrev pub invariant-loop-around : goal.invariant-loop-around
invariant-loop-around l = list_any (λ a. a.facet) (drop l.around-index l.trail) ≡ list_any (λ a. a.facet) l.trail
