use Rattle.std.proofs.Common.{◌≡◌, ◌++◌}
use Rattle.vega_assemble.specs.Names.{underscores}
use Rattle.vega_assemble.proofs.stems.push_underscores.Given as goal

abbrev pub invariant-loop : goal.invariant-loop
invariant-loop l = l.text ≡ l.fn.text ++ underscores l.counter
