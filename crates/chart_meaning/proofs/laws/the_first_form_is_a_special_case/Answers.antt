use Rattle.chart_meaning.proofs.laws.the_first_form_is_a_special_case.Goals as goal
use Rattle.chart_meaning.proofs.FormChart.{first_form_is_special_case}

pub returns : goal.returns
returns c = first_form_is_special_case
