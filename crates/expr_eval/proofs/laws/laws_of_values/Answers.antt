use Rattle.expr_eval.proofs.ValueLaws.{spells_its_number, if_of_values}
use Rattle.expr_eval.proofs.laws.laws_of_values.Goals as goal

pub returns-clause-spells_its_number : goal.returns-clause-spells_its_number
returns-clause-spells_its_number c = spells_its_number

pub returns-clause-if_of_values : goal.returns-clause-if_of_values
returns-clause-if_of_values c = if_of_values
