-- Domains of scales by what is known of the cells of their references.
use Rattle.std.specs.Prelude.{◌≡◌, refl, Bool, false, ℤ, pos, Option, Some, None, List, [], ◌∷◌, filter_map, codes}
use Rattle.std.specs.Option.{option_map, option_map_or}
use Rattle.fixed_num.specs.Ranges.{◌>>=◌}
use Rattle.cell_value.specs.declared.cell.Cell.{Cell}
use Rattle.cell_value.specs.declared.cell.Cell.TheVariants.{Null, Number, Text}
use Rattle.expr_eval.specs.Plain.{null_row}
use Rattle.expr_eval.specs.Value.{value_of}
use Rattle.expr_eval.specs.Values.{Values}
use Rattle.domain_kit.specs.declared.keyed.Entry.{Entry}
use Rattle.domain_kit.specs.Cells.{in_first_order}
use Rattle.domain_kit.specs.Counting.{counted, extent_among, extent_between, widened_as_asked}
use Rattle.domain_kit.specs.Orders.{entry, in_direction, by_rank}
use Rattle.vega_spec.specs.declared.domains.Domain.{Domain}
use Rattle.vega_spec.specs.declared.domains.Domain.TheVariants as domain
use Rattle.vega_spec.specs.declared.domains.DomainOrder.{DomainOrder}
use Rattle.vega_spec.specs.declared.domains.DomainOrder.TheVariants as order
use Rattle.vega_spec.specs.declared.domains.Reference.{Reference}
use Rattle.vega_spec.specs.declared.orders.Order.TheVariants.{Descending}
use Rattle.vega_spec.specs.declared.scales.Scale.{Scale}
use Rattle.vega_lists.specs.Scopes.{Scope}
use Rattle.vega_scales.specs.declared.scaled.Scaled.{Scaled}
use Rattle.vega_scales.specs.declared.scaled.Scaled.TheVariants.{Cells}
use Rattle.vega_scales.specs.Domains.{cells_in, reference_of, cells_referred, descends, counting_in, raw_domain}
use Rattle.vega_scales.specs.Scales.{is_time, is_set, takes_zero, between}

-- the references of a domain; a list and the value of an expression have none
abbrev pub references_of : Domain → List Reference
references_of (domain.Cells cells) = []
references_of (domain.Signal e) = []
references_of (domain.Field f) = reference_of f ∷ []
references_of (domain.Fields f) = f.fields

-- the order that a domain asks of the cells of its references
abbrev pub sort_of : Domain → Option DomainOrder
sort_of (domain.Cells cells) = None
sort_of (domain.Signal e) = None
sort_of (domain.Field f) = f.sort
sort_of (domain.Fields f) = f.sort

-- whether an order runs from the greatest to the least
abbrev pub falls : Option DomainOrder → Bool
falls None = false
falls (Some order.True) = false
falls (Some (order.Cells direction)) = descends direction
falls (Some (order.Operation direction op field)) = descends direction

-- the numbers that count among the cells of the references of a scale
abbrev pub numbers_referred : Scope → Scale → List ℤ
numbers_referred scope s = filter_map (counted (counting_in (is_time s) s.domain)) (cells_referred scope (references_of s.domain))

-- the extent of a domain, by the ends of those numbers
abbrev pub extent_by : Values → Option (ℤ × ℤ) → Bool → Domain → Option (ℤ × ℤ)
extent_by values ends of_time (domain.Cells cells) = Some (extent_among (counting_in of_time (domain.Cells cells)) cells)
extent_by values ends of_time (domain.Signal e) =
    option_map (extent_among (counting_in of_time (domain.Signal e))) (option_map cells_in (value_of null_row values e))
extent_by values ends of_time (domain.Field f) = Some (extent_between ends)
extent_by values ends of_time (domain.Fields f) = Some (extent_between ends)

-- that extent, which takes in 0 and is widened as asked
abbrev pub widened_by : Values → Option (ℤ × ℤ) → Bool → Bool → Bool → Domain → Option (ℤ × ℤ)
widened_by values ends of_time zero nice d = extent_by values ends of_time d >>= widened_as_asked of_time zero nice

-- the numbers between which the domain of a continuous scale runs: a raw domain as it is, else that extent
abbrev pub numbers_by : Values → Option (ℤ × ℤ) → Scale → Option (ℤ × ℤ)
numbers_by values ends s = do
  given ← raw_domain values (is_time s) s.domain_raw
  option_map_or Some given (widened_by values ends (is_time s) (takes_zero s) (is_set s.nice) s.domain)

-- what a continuous scale scales, by the ends of the numbers that count among the cells of its references
abbrev pub domain_of_numbers : Values → Option (ℤ × ℤ) → Scale → Option Scaled
domain_of_numbers values ends s = option_map between (numbers_by values ends s)

-- cells in an order that isn't by an operation: by where each stands first, or in a direction
abbrev pub in_order_asked : Option DomainOrder → List Cell → List Cell
in_order_asked None cells = in_first_order cells
in_order_asked (Some sort) cells = in_direction (falls (Some sort)) cells

-- the cells of a discrete domain, by those of its references
abbrev pub cells_by : Values → List Cell → Domain → Option (List Cell)
cells_by values cells (domain.Cells given) = Some given
cells_by values cells (domain.Signal e) = option_map cells_in (value_of null_row values e)
cells_by values cells (domain.Field f) = Some (in_order_asked f.sort cells)
cells_by values cells (domain.Fields f) = Some (in_order_asked f.sort cells)

-- what a discrete scale scales, by the cells of its references, which stand by no operation
abbrev pub domain_of_cells : Values → List Cell → Scale → Option Scaled
domain_of_cells values cells s = option_map Cells (cells_by values cells s.domain)

-- what it scales where they stand by an operation, by these cells, each as the value under what the operation gives for it
abbrev pub domain_by_rank : List Entry → Scale → Scaled
domain_by_rank ranks s = Cells (by_rank (falls (sort_of s.domain)) ranks)

-- The rules at work.

abbrev some_cells : List Cell
some_cells = Number (pos 7) ∷ Null ∷ Number (pos 3) ∷ Null ∷ []

by_their_first_places : in_order_asked None some_cells ≡ Number (pos 7) ∷ Null ∷ Number (pos 3) ∷ []
by_their_first_places = refl

from_the_greatest : in_order_asked (Some (order.Cells (Some Descending))) some_cells ≡ Number (pos 7) ∷ Number (pos 3) ∷ Null ∷ []
from_the_greatest = refl

equal_ranks_as_they_stand : by_rank (falls (Some (order.Operation (Some Descending) 0 (codes "a"))))
    (entry (Number (pos 1)) Null ∷ entry (Number (pos 2)) (Number (pos 3)) ∷ entry (Number (pos 1)) (Text (codes "b")) ∷ [])
    ≡ Number (pos 3) ∷ Null ∷ Text (codes "b") ∷ []
equal_ranks_as_they_stand = refl
