use Rattle.chart_opening.proofs.FormOpenings.{form_opens}
use Rattle.chart_run.proofs.Alike.{forms_open_alike}
use Rattle.chart_run.proofs.laws.forms_open_alike.Goals as goal

pub returns : goal.returns
returns c = forms_open_alike form_opens
