use Rattle.std.proofs.Common.{◌≡◌, ◌+◌, [], ◌∷◌, ◌++◌, length, map, take, drop, arith, sym, ap, ◌∙◌}
use Rattle.std.proofs.lemmas.List.{drop_more, take_more, length-take-le}
use Rattle.cell_value.specs.Datum.{datum_of}
use Rattle.plain_engine.specs.declared.edits.Edits.{Edits}
use Rattle.param_flow.specs.Change.{rows_after, count_staying}
use Rattle.plain_engine.proofs.EditLemmas.{data_so_far, data_go_on, count_goes_on, length_goes_on, few_go_on}
use Rattle.plain_engine.proofs.edits.edits_of.Goals as goal

pub loop-row-preserved : goal.loop-row-preserved
loop-row-preserved g c =
    let values = g.P.ParamReader.values c.args.params.now in
    let change = c.args.change.now in
    let rows = c.args.rows.now in
    let index = c.loop-row.row-index in
    let row = c.row-item.result in
    let rest = drop (index + 1) rows in
    let edits = c.loop-row.edits in
    let next = c.in_ok-next.next in
    let h = c.loop-row.invariant in
    let added = c.in_ok-add.ensures in
    let at : drop index rows ≡ row ∷ rest = drop_more rows index row c.loop-row-test.true ∙ ap (λ row. row ∷ rest) (sym c.row-item.is) in
    let more : take (index + 1) rows ≡ take index rows ++ row ∷ [] = take_more rows index row c.loop-row-test.true
    ∙ ap (λ row. take index rows ++ row ∷ []) (sym c.row-item.is) in
    let taken = length-take-le index rows (omega (arith, c.loop-row-test.true)) in
    let each = h.0 in
    let few = h.1 in
    let longer = ap (λ (edits : Edits). length edits.each) added ∙ length_goes_on edits next in
    let staying = ap (λ (edits : Edits). edits.staying) added in
    let step = few_go_on edits next in (
      omega (arith, longer, each),
      omega (arith, staying, step, few),
      ap (λ (edits : Edits). edits.staying + count_staying values change.remove (map datum_of rest)) added
          ∙ sym (count_goes_on values change edits row rest next c.in_ok-next.ensures)
          ∙ sym (ap (λ rows. edits.staying + count_staying values change.remove (map datum_of rows)) at) ∙ h.2,
      (λ i. data_so_far (added i).overflows (added i).each (more i) (rows_after values change (map datum_of rest)))
          ∙ sym (data_go_on values change edits (take index rows) row rest next (omega (arith, each, taken)) c.in_ok-next.ensures)
          ∙ sym (ap (λ left. data_so_far edits.overflows edits.each (take index rows) (rows_after values change (map datum_of left))) at)
          ∙ h.3,
    )
