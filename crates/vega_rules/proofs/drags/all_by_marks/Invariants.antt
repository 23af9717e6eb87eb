use Rattle.std.proofs.Common.{◌≡◌, [], drop}
use Rattle.std.specs.Prelude.{filter_map}
use Rattle.std.specs.List.{list_all}
use Rattle.vega_parts.specs.declared.part.Used.TheVariants as used
use Rattle.vega_rules.specs.Resolved.{resolved}
use Rattle.vega_rules.specs.Intervals.{inverts, concerned, all_invert}
use Rattle.vega_rules.proofs.drags.all_by_marks.Given as goal

-- the marks of the rest decide
abbrev pub invariant-loop-part : goal.invariant-loop-part
invariant-loop-part l =
    list_all (λ object. inverts (resolved l.parts used.Scale object [] l.scale)) (filter_map (concerned l.scope l.names)
    (drop l.part-index l.parts))
    ≡ all_invert l.parts l.scale l.scope l.names
