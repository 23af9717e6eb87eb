use Rattle.vega_scales.proofs.KnownLemmas.{known_in_time}
use Rattle.vega_scales.proofs.known.domain_of_numbers.Goals as goal

pub returns-clause-fits : goal.returns-clause-fits
returns-clause-fits g c = (
  c.requires.continuous,
  c.in_ok-d0.ensures.ordered,
  known_in_time (g.P.ParamReader.values c.args.params.now) c.args.ends c.args.scale.now _ c.requires.in_time c.in_ok-d0.ensures.value,
)
