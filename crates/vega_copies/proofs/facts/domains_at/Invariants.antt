use Rattle.std.proofs.Common.{◌≡◌, Some, map, take}
use Rattle.std.specs.List.{AllZip}
use Rattle.fixed_num.specs.Ranges.{all_found}
use Rattle.vega_scales.specs.Scales.{FitsScale}
use Rattle.vega_copies.specs.inner.FactsMade.{domain_at}
use Rattle.vega_copies.specs.inner.Levels.{names_at}
use Rattle.vega_copies.proofs.facts.domains_at.Given as goal

abbrev pub invariant-loop-scale : goal.invariant-loop-scale
invariant-loop-scale l = record {
  value : all_found (map (domain_at (names_at l.names.stores.now l.names.sources.now l.names.levels.now)) (take l.scale-index l.scales)) ≡ Some l.domains;
  fits : AllZip FitsScale (take l.scale-index l.scales) l.domains;
}
