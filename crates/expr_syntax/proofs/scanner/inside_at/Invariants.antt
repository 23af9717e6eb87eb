use Rattle.std.specs.Prelude.{string_bytes}
use Rattle.expr_syntax.proofs.Texts.{Reached}
use Rattle.expr_syntax.proofs.scanner.inside_at.Given as goal

abbrev pub invariant-loop-i : goal.invariant-loop-i
invariant-loop-i l = Reached l.quote l.text (string_bytes l.out) l.escaped l.i-iterator.rest.now l.i-iterator.at
