use Rattle.std.proofs.Common.{◌≡◌, ◌++◌, drop}
use Rattle.std.specs.Prelude.{filter_map}
use Rattle.std.specs.List.{enumerate_from}
use Rattle.vega_rules.specs.Cycles.{signal_number, signals}
use Rattle.vega_rules.proofs.cycles.signals.Given as goal

-- the numbers so far and those of the rest
abbrev pub invariant-loop-number : goal.invariant-loop-number
invariant-loop-number l = l.numbers ++ filter_map signal_number (enumerate_from l.number (drop l.number l.parts)) ≡ signals l.parts
