use Rattle.std.proofs.Common.{◌≡◌, Some, drop}
use Rattle.std.specs.Prelude.{fold}
use Rattle.std.specs.Int.{int_max}
use Rattle.fixed_num.specs.Ranges.{◌>>=◌}
use Rattle.expr_eval.specs.Builtins.{numbers_alone}
use Rattle.expr_eval.proofs.lists.greatest_among.Given as goal

abbrev pub invariant-loop-arg : goal.invariant-loop-arg
invariant-loop-arg l =
    (numbers_alone (drop l.arg-index l.more) >>= λ ns. Some (fold int_max l.greatest ns))
    ≡ (numbers_alone l.more >>= λ ns. Some (fold int_max l.initial.greatest ns))
