use Rattle.std.proofs.Common.{◌≡◌, map, sum_by, ◌+◌, ◌*◌, max, take, Some}
use Rattle.expr_syntax.specs.declared.expr.Expr.{size-Expr}
use Rattle.fixed_num.specs.Ranges.{all_found}
use Rattle.expr_eval.specs.Value.{value_of}
use Rattle.expr_eval.specs.Reads.{reads_of}
use Rattle.expr_eval.specs.Answers.{RisesBy}
use Rattle.expr_eval.proofs.value.+value.Given as goal

abbrev pub decreases-eval : goal.decreases-eval
decreases-eval g l = 4 * size-Expr l.e.now

abbrev pub decreases-eval_binary : goal.decreases-eval_binary
decreases-eval_binary g l = 4 * max (size-Expr l.a.now) (size-Expr l.b.now) + 1

abbrev pub decreases-eval_choice : goal.decreases-eval_choice
decreases-eval_choice g l = 4 * max (size-Expr l.test.now) (max (size-Expr l.first.now) (size-Expr l.second.now)) + 1

abbrev pub decreases-eval_all : goal.decreases-eval_all
decreases-eval_all g l = 4 * goal.size-eval_all g l + 1

abbrev pub decreases-eval_if : goal.decreases-eval_if
decreases-eval_if g l = 4 * goal.size-eval_if g l + 2

abbrev pub decreases-eval_builtin : goal.decreases-eval_builtin
decreases-eval_builtin g l = 4 * goal.size-eval_builtin g l + 2

abbrev pub decreases-eval_call : goal.decreases-eval_call
decreases-eval_call g l = 4 * goal.size-eval_call g l + 3

abbrev pub invariant-eval_all-loop-arg : goal.invariant-eval_all-loop-arg
invariant-eval_all-loop-arg g l = record {
  values : all_found (map (value_of (g.R.RowReader.cells l.row) (g.P.ParamReader.values l.params)) (take l.arg-index l.args)) ≡ Some l.out;
  steps : RisesBy (sum_by (reads_of (g.P.ParamReader.values l.params)) (take l.arg-index l.args)) l.initial.steps l.steps;
}
