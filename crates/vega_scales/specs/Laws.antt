-- What holds of the domains of scales.
use Rattle.std.specs.Prelude.{◌≡◌, ℕ, ℤ, true, false, Option, Some, None, IsTrue, List}
use Rattle.std.specs.Option.{option_map}
use Rattle.cell_value.specs.declared.cell.Cell.{Cell}
use Rattle.expr_eval.specs.Values.{Values}
use Rattle.domain_kit.specs.Cells.{in_first_order}
use Rattle.domain_kit.specs.Counting.{ends_of}
use Rattle.domain_kit.specs.Orders.{all_ranked}
use Rattle.domain_kit.specs.Laws.{AreSameNumbers, AreSameCells}
use Rattle.vega_spec.specs.declared.domains.DomainOrder.{DomainOrder}
use Rattle.vega_spec.specs.declared.domains.DomainOrder.TheVariants as order
use Rattle.vega_spec.specs.declared.orders.Order.{Order}
use Rattle.vega_spec.specs.declared.scales.Scale.{Scale}
use Rattle.vega_lists.specs.Scopes.{Scope}
use Rattle.vega_scales.specs.declared.scaled.Scaled.{Scaled}
use Rattle.vega_scales.specs.Domains.{cells_referred, entries_referred}
use Rattle.scale_kit.specs.Scale.{IsScale, IsPixel}
use Rattle.vega_scales.specs.Scales.{is_discrete, is_built, domain_of, domain_size, domain_length, scale_over, FitsScale, KeepsBounds}
use Rattle.vega_scales.specs.Known.{references_of, sort_of, numbers_referred, domain_of_numbers, domain_of_cells, domain_by_rank}

-- a scale that has a domain is as long as that
abbrev pub LengthIsSize : Type 0
LengthIsSize =
    (values : Values) (scope : Scope) (s : Scale) (domain : Scaled) → domain_of values scope s ≡ Some domain
    → domain_length values scope s ≡ Some (domain_size domain)

-- the numbers that count among the cells of its references, in whatever order and however often, give the domain of a continuous scale
abbrev pub NumbersGiveTheDomain : Type 0
NumbersGiveTheDomain =
    (values : Values) (scope : Scope) (s : Scale) (ns : List ℤ) → is_discrete s ≡ false → AreSameNumbers ns (numbers_referred scope s)
    → domain_of_numbers values (ends_of ns) s ≡ domain_of values scope s

-- Cells that stand for others in an order: without one by their first places, else the same cells, in whatever order and however often.
-- None do where an operation orders them.
abbrev pub StandFor : Option DomainOrder → List Cell → List Cell → Type 0
StandFor None cells all = in_first_order cells ≡ in_first_order all
StandFor (Some order.True) cells all = AreSameCells cells all
StandFor (Some (order.Cells direction)) cells all = AreSameCells cells all
StandFor (Some (order.Operation direction op field)) cells all = ⊥

-- cells that stand for those of its references give the domain of a discrete scale
abbrev pub CellsGiveTheDomain : Type 0
CellsGiveTheDomain =
    (values : Values) (scope : Scope) (s : Scale) (cells : List Cell) → is_discrete s ≡ true
    → StandFor (sort_of s.domain) cells (cells_referred scope (references_of s.domain))
    → domain_of_cells values cells s ≡ domain_of values scope s

-- the cells of its references by what an operation gives for each give the domain of one whose cells stand by the operation
abbrev pub RanksGiveTheDomain : Type 0
RanksGiveTheDomain =
    (values : Values) (scope : Scope) (s : Scale) (direction : Option Order) (op : ℕ) (field : List ℕ) → is_discrete s ≡ true
    → sort_of s.domain ≡ Some (order.Operation direction op field)
    → option_map (λ ranks. domain_by_rank ranks s) (all_ranked op (entries_referred scope field (references_of s.domain)))
    ≡ domain_of values scope s

-- what a scale scales fits it
abbrev pub DomainsFit : Type 0
DomainsFit = (values : Values) (scope : Scope) (s : Scale) (domain : Scaled) → domain_of values scope s ≡ Some domain → FitsScale s domain

-- what callers ask of a scale holds of one over a domain that fits it, in a plot of a size that plots may have
abbrev pub ScalesAreSound : Type 0
ScalesAreSound =
    (s : Scale) (width height : ℤ) (domain : Scaled) → IsTrue (is_built s) → KeepsBounds s → IsPixel width → IsPixel height → FitsScale s domain
    → IsScale (scale_over s width height domain)
