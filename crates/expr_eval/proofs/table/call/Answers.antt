use Rattle.std.proofs.Common.{arith}
use Rattle.expr_eval.proofs.TableLemmas.{no_builtin}
use Rattle.expr_eval.proofs.table.call.Goals as goal

pub returns-in_default : goal.returns-in_default
returns-in_default c = no_builtin c.args.code c.args.args.now (omega arith)
