use Rattle.std.proofs.Common.{◌≡◌, drop}
use Rattle.std.specs.Prelude.{find, filter_map}
use Rattle.vega_rules.specs.Folds.{used_by}
use Rattle.vega_rules.specs.Cycles.{is_read_in}
use Rattle.vega_rules.proofs.cycles.first_read.Given as goal

-- the first one is that of the rest
abbrev pub invariant-loop-part : goal.invariant-loop-part
invariant-loop-part l = find (is_read_in l.place) (filter_map used_by (drop l.part-index l.parts))
    ≡ find (is_read_in l.place) (filter_map used_by l.parts)
