use Rattle.std.proofs.Common.{◌≡◌, ◌++◌, drop}
use Rattle.tick_kit.specs.Labels.{with_thousands}
use Rattle.guide_text.proofs.digits.push_with_commas.Given as goal

abbrev pub invariant-loop-i : goal.invariant-loop-i
invariant-loop-i l = l.out ++ with_thousands (drop l.i l.digits) ≡ l.fn.out ++ with_thousands l.digits
