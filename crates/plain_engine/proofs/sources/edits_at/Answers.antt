use Rattle.std.proofs.Common.{length, map, sym, ap, subst, ◌∙◌}
use Rattle.cell_value.specs.Datum.{datum_of}
use Rattle.param_flow.specs.Change.{rows_after, count_staying}
use Rattle.plain_engine.specs.inner.Fits.{Fits}
use Rattle.plain_engine.specs.inner.Edits.{data_edited}
use Rattle.plain_engine.specs.inner.Sources.{values_over}
use Rattle.plain_engine.proofs.Changes.{rows_fit}
use Rattle.plain_engine.proofs.sources.edits_at.Goals as goal

pub edits_of-requires : goal.edits_of-requires
edits_of-requires c =
    let chart = c.args.chart.now in
    subst Fits (sym c.rows_at.ensures)
    (rows_fit chart.stores.now chart.next_id chart.params.now chart.signals.now c.args.sources.now c.args.index c.args.change.now
    c.requires.within c.requires.state)

pub returns-clause-each : goal.returns-clause-each
returns-clause-each c = c.in_ok-edits.ensures.each ∙ ap length c.rows_at.ensures

pub returns-clause-staying : goal.returns-clause-staying
returns-clause-staying c =
    let signals = c.args.chart.now.signals.now in
    c.in_ok-edits.ensures.staying
    ∙ (λ i. count_staying (values_over (c.in_ok-held.ensures i) signals) c.args.change.now.remove (map datum_of (c.rows_at.ensures i)))

pub returns-clause-rows : goal.returns-clause-rows
returns-clause-rows c =
    let signals = c.args.chart.now.signals.now in
    let edits = c.in_ok-edits.edits in
    (λ i. data_edited edits (sym c.rows_at.ensures i)) ∙ c.in_ok-edits.ensures.rows
    ∙ (λ i. rows_after (values_over (c.in_ok-held.ensures i) signals) c.args.change.now (map datum_of (c.rows_at.ensures i)))
