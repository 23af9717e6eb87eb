use Rattle.std.proofs.Common.{ap, sym, ◌∙◌}
use Rattle.chart_plan.specs.Plots.{size_on}
use Rattle.chart_plan.specs.Sizes.{size_of}
use Rattle.chart_plan.proofs.plot_sizes.size_on.Goals as goal

pub returns-in-Some : goal.returns-in-Some
returns-in-Some c =
    c.size_of.ensures
    ∙ ap (λ line. size_of c.args.channel line c.in-Some.scale.number c.args.config.now c.args.sizes.now) c.is_continuous.ensures
    ∙ ap (size_on c.args.channel c.args.config.now c.args.sizes.now) (sym c.in-Some.is)
