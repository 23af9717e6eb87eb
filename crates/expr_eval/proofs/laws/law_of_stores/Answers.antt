use Rattle.expr_eval.proofs.StoreLemmas.{read_their_fields}
use Rattle.expr_eval.proofs.laws.law_of_stores.Goals as goal

pub returns : goal.returns
returns c = read_their_fields
