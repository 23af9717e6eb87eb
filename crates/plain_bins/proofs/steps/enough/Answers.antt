use Rattle.plain_bins.proofs.StepLemmas.{above_zero, within_range}
use Rattle.plain_bins.proofs.steps.enough.Goals as goal

pub returns-clause-value : goal.returns-clause-value
returns-clause-value c = c.first_enough.ensures

pub returns-clause-above_zero : goal.returns-clause-above_zero
returns-clause-above_zero c = rw c.first_enough.ensures (above_zero c.args.span c.args.maxbins)

pub returns-clause-in_range : goal.returns-clause-in_range
returns-clause-in_range c = rw c.first_enough.ensures (within_range c.args.span c.args.maxbins)
