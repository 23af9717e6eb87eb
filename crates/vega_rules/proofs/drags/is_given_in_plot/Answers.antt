use Rattle.std.proofs.Common.{◌∙◌}
use Rattle.vega_rules.proofs.DragLemmas.{in_plot_found}
use Rattle.vega_rules.proofs.drags.is_given_in_plot.Goals as goal

pub returns : goal.returns
returns c = c.in_ok-has.ensures ∙ in_plot_found c.args.in_plot.now c.args.parts.now c.args.scale.now c.requires
