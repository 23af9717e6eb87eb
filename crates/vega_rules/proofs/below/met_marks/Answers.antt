use Rattle.vega_rules.proofs.MetLemmas.{is_met}
use Rattle.vega_rules.proofs.below.met_marks.Goals as goal

pub returns : goal.returns
returns c = is_met c.in_ok-asked.asked c.in_ok-met.met c.args.parts.now c.in_ok-asked.ensures c.in_ok-met.ensures
