use Rattle.chart_opening.specs.Specs.{opened_with}
use Rattle.chart_opening.specs.Compiled.{compiled_of}
use Rattle.chart_opening.specs.inner.Reading.{the_reading}
use Rattle.chart_opening.proofs.FolderLemmas.{then_read, stopped_from, quiet}
use Rattle.chart_opening.proofs.compiled.compiled_tree.Goals as goal

pub returns-in_err-spec : goal.returns-in_err-spec
returns-in_err-spec g c =
    stopped_from _ _ (compiled_of c.args.tree) (λ files. opened_with the_reading files) c.in_err-spec.field-0.0 c.from_residual.result
    c.from_residual.ensures.1 c.in_err-spec.ensures

pub returns : goal.returns
returns g c =
    then_read _ _ _ _ _ _ c.in_ok-spec.spec c.opened_with.result (λ files. compiled_of c.args.tree) (λ files. opened_with the_reading files)
    (quiet _ _ _ c.in_ok-spec.spec c.in_ok-spec.ensures) c.opened_with.ensures.read
