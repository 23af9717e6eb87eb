use Rattle.std.proofs.Common.{◌≡◌, ◌+◌, drop, false}
use Rattle.expr_syntax.specs.inner.Scanner.{number_len}
use Rattle.expr_syntax.proofs.scanner.number_len.Given as goal

abbrev pub invariant-loop-i : goal.invariant-loop-i
invariant-loop-i l = l.i + number_len l.behind (drop l.i l.bytes) ≡ number_len false l.bytes
