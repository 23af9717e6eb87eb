use Rattle.vega_lists.specs.Held.{scope_read}
use Rattle.vega_scales.proofs.TimeLemmas.{numbers_in_time}
use Rattle.vega_scales.proofs.scales.numbers_between.Goals as goal

pub returns-clause-fits : goal.returns-clause-fits
returns-clause-fits g c = (
  c.requires.continuous,
  c.in_ok-d0.ensures.ordered,
  numbers_in_time (g.P.ParamReader.values c.args.params.now) (scope_read (g.L.ListReader.named c.args.lists.now)) c.args.scale.now _
      c.in_ok-d0.ensures.value,
)
