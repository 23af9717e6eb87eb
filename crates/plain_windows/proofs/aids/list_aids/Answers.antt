use Rattle.std.proofs.Common.{◌∙◌, arith, length, map, subst, sym}
use Rattle.std.specs.List.{AllZip}
use Rattle.std.proofs.lemmas.Bool.{eqb-true}
use Rattle.cell_value.specs.Datum.{datum_of}
use Rattle.plain_orders.specs.Partitions.{data_at}
use Rattle.plain_windows.specs.inner.Aids.{IsAid}
use Rattle.plain_windows.proofs.aids.list_aids.Goals as goal

pub returns-then-is_empty : goal.returns-then-is_empty
returns-then-is_empty c = λ some.
    let none = eqb-true (length c.args.places.now) 0 (sym c.is_empty.ensures ∙ c.if-is_empty.true) in absurd (omega (arith, some, none))

pub returns : goal.returns
returns c = λ some.
    let w = c.args.w.now in
    let all = data_at (map datum_of c.args.rows.now) c.args.places.now in
    subst (λ ops. AllZip (IsAid w.sort all) ops c.in_ok-op_aids.field-0) c.as_slice.ensures c.in_ok-op_aids.ensures
