use Rattle.std.proofs.Common.{◌≡◌, ◌++◌, drop}
use Rattle.std.specs.List.{flat_map}
use Rattle.vega_assemble.specs.Signals.{and_quoted}
use Rattle.vega_assemble.proofs.signals.push_all_quoted.Given as goal

abbrev pub invariant-loop-text : goal.invariant-loop-text
invariant-loop-text l =
    l.out ++ flat_map and_quoted (drop l.text-index l.texts) ≡ l.fn.out ++ flat_map and_quoted l.texts
