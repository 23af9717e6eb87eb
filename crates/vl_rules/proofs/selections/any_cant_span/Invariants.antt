use Rattle.std.proofs.Common.{◌≡◌, drop, map}
use Rattle.std.specs.List.{list_any}
use Rattle.vl_rules.specs.Selections.{cant_span}
use Rattle.vl_rules.proofs.selections.any_cant_span.Given as goal

abbrev pub invariant-loop-unit : goal.invariant-loop-unit
invariant-loop-unit l =
    list_any (cant_span l.codes) (map (λ o. o.now) (drop l.unit-index l.units)) ≡ list_any (cant_span l.codes) (map (λ o. o.now) l.units)
