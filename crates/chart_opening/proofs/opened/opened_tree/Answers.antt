use Rattle.chart_opening.specs.Specs.{opened_with, spec_of}
use Rattle.chart_opening.specs.inner.Reading.{the_reading}
use Rattle.chart_opening.proofs.FolderLemmas.{then_read, stopped_from, quiet}
use Rattle.chart_opening.proofs.ReadyLemmas.{ready_of}
use Rattle.chart_opening.proofs.ChartOpenings.{said_rules}
use Rattle.chart_opening.proofs.opened.opened_tree.Goals as goal

pub returns-in_err-spec-clause-read : goal.returns-in_err-spec-clause-read
returns-in_err-spec-clause-read g c =
    stopped_from _ _ (spec_of c.args.tree) (λ files. opened_with the_reading files) c.in_err-spec.field-0.0 c.from_residual.result
    c.from_residual.ensures.1 c.in_err-spec.ensures

pub returns-clause-read : goal.returns-clause-read
returns-clause-read g c =
    then_read _ _ _ _ _ _ c.in_ok-spec.spec c.opened_with.result (λ files. spec_of c.args.tree) (λ files. opened_with the_reading files)
    (quiet _ _ _ c.in_ok-spec.spec c.in_ok-spec.ensures) c.opened_with.ensures.read

pub returns-clause-ready : goal.returns-clause-ready
returns-clause-ready g c =
    let kept = said_rules c.accepted_keep_rules.ensures c.accepted_keep_selections.ensures c.args.tree c.in_ok-spec.spec c.requires c.in_ok-spec.ensures in
    ready_of c.opened_with.result c.in_ok-spec.spec kept.0 kept.1 c.opened_with.ensures.spec c.opened_with.ensures.state
