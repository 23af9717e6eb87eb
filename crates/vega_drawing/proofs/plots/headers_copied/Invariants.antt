use Rattle.std.proofs.Common.{◌≡◌, ◌++◌, drop}
use Rattle.vega_drawing.proofs.plots.headers_copied.Given as goal

abbrev pub invariant-loop-header : goal.invariant-loop-header
invariant-loop-header l = l.out ++ drop l.header-index l.headers ≡ l.headers
