use Rattle.plot_scenes.proofs.GridLemmas.{has_legends}
use Rattle.plot_scenes.proofs.grids.placed_grid.Goals as goal

pub returns-clause-asked : goal.returns-clause-asked
returns-clause-asked c =
    has_legends c.has_plots-has_plot.result c.args.grid.legends c.legends_over-legends.result c.gathered.new.legends c.args.inside
    c.legends_over-legends.ensures c.in_ok-cells.ensures.legends c.requires.grid c.requires.inside
