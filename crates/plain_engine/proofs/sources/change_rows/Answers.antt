use Rattle.std.proofs.Common.{◌≡◌, ◌++◌, Some, None, map, sym, ap, subst, ◌∙◌}
use Rattle.std.specs.Prelude.{IfOk}
use Rattle.cell_value.specs.State.{dataset_of}
use Rattle.param_flow.specs.Machine.{new_rows}
use Rattle.plain_engine.specs.inner.Edits.{edited}
use Rattle.plain_engine.specs.inner.Sources.{rows_at, with_rows, sources_changed}
use Rattle.plain_engine.proofs.Changes.{sources_by, fit_by, out_of_range_by, reply_past, reply_by, left_by}
use Rattle.plain_engine.proofs.sources.change_rows.Goals as goal

pub returns-then-is_past-clause-reply : goal.returns-then-is_past-clause-reply
returns-then-is_past-clause-reply c =
    let chart = c.args.chart.now in
    reply_past chart.stores.now chart.next_id chart.params.now chart.signals.now c.args.sources.now c.args.index c.args.change.now chart.g.now
    (sym c.is_past.ensures ∙ c.if-is_past.true)

pub returns-then-overflows-clause-reply : goal.returns-then-overflows-clause-reply
returns-then-overflows-clause-reply c =
    let chart = c.args.chart.now in
    let sources = c.args.sources.now in
    let free = sym c.is_past.ensures ∙ c.if-is_past.false in
    sym (reply_by chart.stores.now chart.next_id chart.params.now chart.signals.now sources c.args.index c.args.change.now chart.g.now None free
    (out_of_range_by chart.stores.now chart.next_id chart.params.now chart.signals.now sources c.args.index c.args.change.now
    c.in_ok-each.field-0 c.in_ok-each.ensures.rows c.if-overflows.true))

pub put_rows-requires-clause-fit : goal.put_rows-requires-clause-fit
put_rows-requires-clause-fit c =
    let chart = c.args.chart.now in
    let new = c.in_ok-more.ensures ∙ ap (new_rows chart.next_id) c.as_slice.ensures in
    fit_by chart.stores.now chart.next_id chart.params.now chart.signals.now c.args.sources.now c.args.index c.args.change.now
    c.in_ok-each.field-0 c.in_ok-each.ensures.rows c.in_ok-more.more c.if-overflows.false new c.requires.within c.requires.state
    (sym c.is_past.ensures ∙ c.if-is_past.false)

pub returns-clause-reply : goal.returns-clause-reply
returns-clause-reply c =
    let chart = c.args.chart.now in
    let sources = c.args.sources.now in
    let edits = c.in_ok-each.field-0 in
    let more = c.in_ok-more.more in
    let new = c.in_ok-more.ensures ∙ ap (new_rows chart.next_id) c.as_slice.ensures in
    let changed = sources_by chart.stores.now chart.next_id chart.params.now chart.signals.now sources c.args.index c.args.change.now
    edits c.in_ok-each.ensures.rows more c.if-overflows.false new in
    subst (λ wanted. IfOk c.put_rows.result (λ reply. reply ≡ wanted))
    (sym (reply_by chart.stores.now chart.next_id chart.params.now chart.signals.now sources c.args.index c.args.change.now chart.g.now
    (Some (map dataset_of (with_rows sources c.args.index (edited edits.each (rows_at sources c.args.index) ++ more))))
    (sym c.is_past.ensures ∙ c.if-is_past.false) changed))
    c.put_rows.ensures.reply

pub returns-clause-sources : goal.returns-clause-sources
returns-clause-sources c =
    let chart = c.args.chart.now in
    let sources = c.args.sources.now in
    let edits = c.in_ok-each.field-0 in
    let more = c.in_ok-more.more in
    let new = c.in_ok-more.ensures ∙ ap (new_rows chart.next_id) c.as_slice.ensures in
    let changed = sources_by chart.stores.now chart.next_id chart.params.now chart.signals.now sources c.args.index c.args.change.now
    edits c.in_ok-each.ensures.rows more c.if-overflows.false new in
    left_by c.put_rows.result (sources_changed chart.stores.now chart.next_id chart.signals.now (map dataset_of sources) c.args.index c.args.change.now)
    sources (with_rows sources c.args.index (edited edits.each (rows_at sources c.args.index) ++ more)) _ changed c.put_rows.ensures.sources
