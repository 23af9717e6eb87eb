use Rattle.std.proofs.Common.{List, subst}
use Rattle.cell_value.specs.Datum.{Datum}
use Rattle.expr_eval.specs.Answers.{Evaluates}
use Rattle.vega_spec.specs.declared.spec.VgMark.{out-VgMark}
use Rattle.mark_encode.specs.Channels.{channel_values}
use Rattle.mark_encode.specs.Items.{items_over}
use Rattle.mark_encode.specs.Orders.{data_of}
use Rattle.mark_encode.proofs.items.items_by_sort.Goals as goal

pub returns : goal.returns
returns g c =
    let P : List Datum → Type 0 = λ rows. Evaluates c.items_over.result
    (items_over (out-VgMark c.args.mark.now).type_ c.args.unit c.args.plot.now.width c.args.plot.now.height
    (channel_values c.args.plot.now.scales.now (out-VgMark c.args.mark.now).encode)
    (g.P.ParamReader.values c.args.params.now) rows) in
    subst P c.in_ok-sorted.ensures.reads (subst (λ xs. P (data_of xs)) c.as_slice.ensures c.items_over.ensures)
