use Rattle.std.proofs.Common.{List, map, subst}
use Rattle.cell_value.specs.Datum.{Datum, datum_of}
use Rattle.expr_eval.specs.Answers.{Evaluates}
use Rattle.mark_encode.specs.Items.{items_of}
use Rattle.mark_encode.specs.Orders.{data_of}
use Rattle.mark_encode.proofs.RowLemmas.{listed_as}
use Rattle.mark_encode.proofs.items.items_on.Goals as goal

pub items_over_rows-requires : goal.items_over_rows-requires
items_over_rows-requires g c =
    listed_as _ _ _ _ c.as_slice-2.ensures c.in_ok-rows.ensures.reads c.as_slice.ensures c.requires.rows

pub returns : goal.returns
returns g c =
    let P : List Datum → Type 0 = λ rows. Evaluates c.items_over_rows.result
    (items_of c.args.mark.now c.args.unit c.args.plot.now.scales.now c.args.plot.now.width c.args.plot.now.height
    (g.P.ParamReader.values c.args.params.now) rows) in
    subst (λ rows. P (map datum_of rows)) c.as_slice.ensures
    (subst P c.in_ok-rows.ensures.reads (subst (λ xs. P (data_of xs)) c.as_slice-2.ensures c.items_over_rows.ensures))
