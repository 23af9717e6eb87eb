-- The extent of a field is found row by row.
use Rattle.std.proofs.Common.{◌≡◌, ℕ, ℤ, Option, Some, None, List, [], ◌∷◌, fold, drop, length, ◌≤◌, refl, sym, ap, ◌∙◌}
use Rattle.std.proofs.lemmas.List.{drop_all}
use Rattle.std.specs.Int.{int_min, int_max}
use Rattle.std.specs.List.{cons_option}
use Rattle.cell_value.specs.declared.state.Keyed.{Keyed}
use Rattle.cell_value.specs.Datum.{cell_at}
use Rattle.cell_value.specs.Cell.{number_in}
use Rattle.plain_bins.specs.Extents.{numbers_of, extent_of}
use Rattle.plain_bins.specs.inner.Wider.{widened, wider, with_row}

from_found : (low high : ℤ) (ns : List ℤ) → fold widened (Some (low, high)) ns ≡ Some (fold int_min low ns, fold int_max high ns)
from_found low high [] = refl
from_found low high (n ∷ ns) = from_found (int_min low n) (int_max high n) ns

number_by_number : (ns : List ℤ) → fold widened None ns ≡ extent_of ns
number_by_number [] = refl
number_by_number (n ∷ ns) = from_found n n ns

one_row : (found : Option (ℤ × ℤ)) (o : Option ℤ) (ns : List ℤ) → fold widened (wider found o) ns ≡ fold widened found (cons_option o ns)
one_row found None ns = refl
one_row found (Some n) ns = refl

row_by_row : (name : List ℕ) (found : Option (ℤ × ℤ)) (rows : List Keyed)
    → fold (with_row name) found rows ≡ fold widened found (numbers_of cell_at name rows)
row_by_row name found [] = refl
row_by_row name found (row ∷ rows) =
    row_by_row name (with_row name found row) rows
    ∙ one_row found (number_in (cell_at row name)) (numbers_of cell_at name rows)

-- the extent that is found row by row is that of the numbers
pub folded_extent : (name : List ℕ) (rows : List Keyed) → fold (with_row name) None rows ≡ extent_of (numbers_of cell_at name rows)
folded_extent name rows = row_by_row name None rows ∙ number_by_number (numbers_of cell_at name rows)

-- so is what is found where no row is left
pub found_at_the_end : (name : List ℕ) (rows : List Keyed) (found : Option (ℤ × ℤ)) (i : ℕ) → length rows ≤ i
    → fold (with_row name) found (drop i rows) ≡ fold (with_row name) None rows → found ≡ extent_of (numbers_of cell_at name rows)
found_at_the_end name rows found i past is =
    sym (ap (fold (with_row name) found) (drop_all i rows past)) ∙ is ∙ folded_extent name rows
