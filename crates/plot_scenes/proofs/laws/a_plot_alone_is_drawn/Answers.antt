use Rattle.plot_scenes.proofs.OnePlotLaw.{alone}
use Rattle.plot_scenes.proofs.laws.a_plot_alone_is_drawn.Goals as goal

pub returns : goal.returns
returns c = alone
