-- Entries that tie are equal.
use Rattle.std.proofs.Common.{◌≡◌, refl, sym, ap}
use Rattle.std.specs.declared.cmp.Ordering.{Ordering}
use Rattle.std.specs.declared.cmp.Ordering.TheVariants.{Less, Equal, Greater}
use Rattle.std.specs.Ordering.{nat_cmp, ordering_then}
use Rattle.std.specs.Cmp.Lexicographic.{slice_cmp}
use Rattle.std.specs.FinMap.{IsAntisymmetric, nat_cmp-IsAntisymmetric, slice_cmp-IsAntisymmetric}
use Rattle.cell_value.specs.inner.CellOrder.{only_equal_cells_tie}
use Rattle.plain_orders.specs.declared.entries.SortCell.TheVariants.{Rising, Falling}
use Rattle.plain_orders.specs.inner.Entries.{sort_cell_cmp, entry_cells_cmp, entry_cmp}

both_tie : (r s : Ordering) → ordering_then r s ≡ Equal → (r ≡ Equal) × (s ≡ Equal)
both_tie Less s e = absurd (cc)
both_tie Equal s e = (refl, e)
both_tie Greater s e = absurd (cc)

sort_cells_tie : IsAntisymmetric sort_cell_cmp
sort_cells_tie (Rising a) (Rising b) e = ap Rising (only_equal_cells_tie a b e)
sort_cells_tie (Rising a) (Falling b) e = absurd (cc)
sort_cells_tie (Falling a) (Rising b) e = absurd (cc)
sort_cells_tie (Falling a) (Falling b) e = ap Falling (sym (only_equal_cells_tie b a e))

pub only_equal_entries_tie : IsAntisymmetric entry_cmp
only_equal_entries_tie a b e =
    let whole = both_tie (entry_cells_cmp a b) (nat_cmp a.place b.place) e in
    let firsts = ordering_then (sort_cell_cmp a.first b.first) (sort_cell_cmp a.second b.second) in
    let cells = both_tie firsts (slice_cmp sort_cell_cmp a.others b.others) whole.0 in
    let two = both_tie (sort_cell_cmp a.first b.first) (sort_cell_cmp a.second b.second) cells.0 in
    λ i. record {
      first = sort_cells_tie a.first b.first two.0 i;
      second = sort_cells_tie a.second b.second two.1 i;
      others = slice_cmp-IsAntisymmetric sort_cells_tie a.others b.others cells.1 i;
      place = nat_cmp-IsAntisymmetric a.place b.place whole.1 i;
    }
