-- Why the laws of keys hold.
use Rattle.std.proofs.Common.{◌≡◌, ◌∙◌, ◌&&◌, [], ◌∷◌, refl, ap}
use Rattle.std.specs.declared.cmp.Ordering.{Ordering}
use Rattle.std.specs.declared.cmp.Ordering.TheVariants.{Less, Equal, Greater}
use Rattle.std.specs.Ordering.{is_eq, ordering_then}
use Rattle.std.specs.Cmp.Lexicographic.{lists_total}
use Rattle.std.specs.FinMap.{slice_cmp-IsAntisymmetric}
use Rattle.cell_value.specs.Cell.{cell_cmp, same_cells}
use Rattle.cell_value.specs.inner.CellOrder.{cell_cmp_total, only_equal_cells_tie}
use Rattle.row_keys.specs.Laws.{OrderIsTotal, OnlyEqualKeysTie, AlikeRowsHaveOneKey, KeysStandAsRows, cells_cmp, key_in}

pub order_is_total : OrderIsTotal
order_is_total = lists_total cell_cmp_total

pub only_equal_keys_tie : OnlyEqualKeysTie
only_equal_keys_tie = slice_cmp-IsAntisymmetric only_equal_cells_tie

both_tie : (r s : Ordering) → is_eq (ordering_then r s) ≡ is_eq r && is_eq s
both_tie Less s = refl
both_tie Equal s = refl
both_tie Greater s = refl

pub alike_rows_have_one_key : AlikeRowsHaveOneKey
alike_rows_have_one_key [] x y = refl
alike_rows_have_one_key (field ∷ fields) x y =
    both_tie (cell_cmp (x field) (y field)) (cells_cmp (key_in fields x) (key_in fields y))
    ∙ ap (λ others. same_cells (x field) (y field) && others) (alike_rows_have_one_key fields x y)

pub keys_stand_as_rows : KeysStandAsRows
keys_stand_as_rows [] x y = refl
keys_stand_as_rows (field ∷ fields) x y = ap (ordering_then (cell_cmp (x.cell field) (y.cell field))) (keys_stand_as_rows fields x y)
