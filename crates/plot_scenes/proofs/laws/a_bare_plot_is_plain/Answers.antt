use Rattle.plot_scenes.proofs.OnePlotLaw.{bare}
use Rattle.plot_scenes.proofs.laws.a_bare_plot_is_plain.Goals as goal

pub returns : goal.returns
returns c = bare
