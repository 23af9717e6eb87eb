use Rattle.std.proofs.Common.{◌≡◌, drop, map}
use Rattle.std.specs.List.{list_any}
use Rattle.vl_rules.specs.Selections.{lacks_source}
use Rattle.vl_rules.proofs.selections.any_lacks_source.Given as goal

abbrev pub invariant-loop-unit : goal.invariant-loop-unit
invariant-loop-unit l =
    list_any (lacks_source l.codes) (map (λ o. o.now) (drop l.unit-index l.units)) ≡ list_any (lacks_source l.codes) (map (λ o. o.now) l.units)
