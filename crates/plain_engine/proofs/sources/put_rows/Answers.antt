use Rattle.std.proofs.Common.{map, sym, ap, ◌∙◌}
use Rattle.cell_value.specs.State.{dataset_of}
use Rattle.param_flow.specs.Machine.{reply_to_chart}
use Rattle.vega_meaning.specs.Charts.{picture_over}
use Rattle.plain_engine.proofs.sources.put_rows.Goals as goal

pub returns-in-Ok-clause-reply : goal.returns-in-Ok-clause-reply
returns-in-Ok-clause-reply c =
    sym (ap reply_to_chart
    ((λ i. picture_over c.args.chart.now.g.now (map dataset_of (sym c.in_ok-undo.ensures.done i)) c.args.chart.now.params.now
    c.args.chart.now.stores.now) ∙ c.in-Ok.ensures.drawn))

pub returns-in-Ok-clause-drawn : goal.returns-in-Ok-clause-drawn
returns-in-Ok-clause-drawn c = record { picture = c.in-Ok.ensures.drawn; scales = c.in-Ok.ensures.scales }

pub returns-in-Err-Overflow-clause-reply : goal.returns-in-Err-Overflow-clause-reply
returns-in-Err-Overflow-clause-reply c =
    let out = rw c.in-Err-Overflow.field-0-is at c.in-Err-Overflow.ensures.drawn in
    sym (ap reply_to_chart
    ((λ i. picture_over c.args.chart.now.g.now (map dataset_of (sym c.in_ok-undo.ensures.done i)) c.args.chart.now.params.now
    c.args.chart.now.stores.now) ∙ out))

pub returns-in-Err-Panels-clause-reply : goal.returns-in-Err-Panels-clause-reply
returns-in-Err-Panels-clause-reply c =
    let many = rw c.in-Err-Panels.field-0-is at c.in-Err-Panels.ensures.drawn in
    sym (ap reply_to_chart
    ((λ i. picture_over c.args.chart.now.g.now (map dataset_of (sym c.in_ok-undo.ensures.done i)) c.args.chart.now.params.now
    c.args.chart.now.stores.now) ∙ many))
