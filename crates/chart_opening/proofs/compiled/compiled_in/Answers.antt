use Rattle.chart_opening.specs.Files.{tree_of_file}
use Rattle.chart_opening.specs.Compiled.{compiled_tree}
use Rattle.chart_opening.specs.inner.Reading.{the_reading}
use Rattle.chart_opening.proofs.FolderLemmas.{then_read, stopped}
use Rattle.chart_opening.proofs.compiled.compiled_in.Goals as goal

pub returns-in-Ok : goal.returns-in-Ok
returns-in-Ok g c =
    then_read _ _ _ _ _ _ c.in-Ok.tree c.compiled_tree.result (λ files. tree_of_file the_reading files c.args.name.now)
    (λ files. compiled_tree the_reading files) c.in-Ok.ensures.read c.compiled_tree.ensures

pub returns-in-Err : goal.returns-in-Err
returns-in-Err g c =
    stopped _ _ _ _ c.in-Err.why (λ files. tree_of_file the_reading files c.args.name.now) (λ files. compiled_tree the_reading files) c.in-Err.ensures.read
