use Rattle.std.proofs.Common.{◌≡◌, Some, drop}
use Rattle.std.specs.Prelude.{fold}
use Rattle.std.specs.Int.{int_min}
use Rattle.fixed_num.specs.Ranges.{◌>>=◌}
use Rattle.expr_eval.specs.Builtins.{numbers_alone}
use Rattle.expr_eval.proofs.lists.least_among.Given as goal

abbrev pub invariant-loop-arg : goal.invariant-loop-arg
invariant-loop-arg l =
    (numbers_alone (drop l.arg-index l.more) >>= λ ns. Some (fold int_min l.least ns))
    ≡ (numbers_alone l.more >>= λ ns. Some (fold int_min l.initial.least ns))
