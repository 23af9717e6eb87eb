use Rattle.chart_opening.specs.Files.{tree_of_file}
use Rattle.chart_opening.specs.Specs.{opened_tree}
use Rattle.chart_opening.specs.inner.Reading.{the_reading}
use Rattle.chart_opening.proofs.FolderLemmas.{then_read, stopped}
use Rattle.chart_opening.proofs.opened.opened_in.Goals as goal

pub opened_tree-requires : goal.opened_tree-requires
opened_tree-requires g c = c.in-Ok.ensures.tree

pub returns-in-Ok-clause-read : goal.returns-in-Ok-clause-read
returns-in-Ok-clause-read g c =
    then_read _ _ _ _ _ _ c.in-Ok.tree c.opened_tree.result (λ files. tree_of_file the_reading files c.args.name.now)
    (λ files. opened_tree the_reading files) c.in-Ok.ensures.read c.opened_tree.ensures.read

pub returns-in-Err-clause-read : goal.returns-in-Err-clause-read
returns-in-Err-clause-read g c =
    stopped _ _ _ _ c.in-Err.why (λ files. tree_of_file the_reading files c.args.name.now) (λ files. opened_tree the_reading files) c.in-Err.ensures.read
