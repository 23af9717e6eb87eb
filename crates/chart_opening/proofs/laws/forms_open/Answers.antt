use Rattle.chart_opening.proofs.FormOpenings.{form_opens}
use Rattle.chart_opening.proofs.laws.forms_open.Goals as goal

pub returns : goal.returns
returns c = form_opens
