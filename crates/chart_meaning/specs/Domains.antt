-- The domains of scales, from the present rows of the units that share them. A continuous domain is that of a selection, as far as it keeps a pair; else
-- the least and greatest number of a given list, or of the cells that count in the sharing views, and 0 to 1 where there is none; then it takes in 0 and
-- then ends at round numbers, where that is asked. On a scale of time only instants in range count, in a list also texts that give one, and what is made
-- round is cut to that range. A discrete domain is the given list as it stands, or the distinct cells of these views, null among them, in the stated
-- order. A scale that a facet makes independent stands once per panel, over the rows of that panel.
use Rattle.std.specs.Prelude.{◌≡◌, refl, ℕ, ◌==◌, Bool, true, false, ℤ, pos, Option, Some, None, List, [], ◌∷◌, ◌++◌, map, filter, flat_map}
use Rattle.std.specs.Prelude.{if◌then◌else◌, ◌*◌, codes}
use Rattle.std.specs.List.{enumerate_from}
use Rattle.std.specs.Option.{option_map, option_map_or}
use Rattle.fixed_num.specs.Number.{million, floored, ceiled, floor_quotient}
use Rattle.fixed_num.specs.Ranges.{◌>>=◌, all_found}
use Rattle.cell_value.specs.declared.cell.Cell.{Cell}
use Rattle.cell_value.specs.declared.cell.Cell.TheVariants.{Null, Number, Text}
use Rattle.cell_value.specs.Datum.{Datum, CellAt}
use Rattle.tick_kit.specs.Steps.{step_of, spaced}
use Rattle.expr_syntax.specs.declared.expr.Expr.{Expr}
use Rattle.expr_eval.specs.Plain.{null_row, no_values}
use Rattle.expr_eval.specs.Value.{value_of}
use Rattle.expr_eval.specs.Values.{Values}
use Rattle.domain_kit.specs.declared.counting.Counting.{Counting}
use Rattle.domain_kit.specs.declared.counting.Counting.TheVariants.{Numbers, ListedInstants}
use Rattle.domain_kit.specs.Counting.{extent_among, numbers_or_instants, pair_in, widened_as_asked}
use Rattle.scale_infer.specs.declared.codes.TheConstants.{LINEAR, POINT}
use Rattle.plan_kit.specs.declared.cells.CellOf.{CellOf}
use Rattle.plan_kit.specs.declared.cells.CellOf.TheVariants as shows
use Rattle.plan_kit.specs.declared.columns.Column.{Column}
use Rattle.plan_kit.specs.declared.domains.DomainPlan.{DomainPlan}
use Rattle.plan_kit.specs.declared.domains.DomainPlan.TheVariants as domain
use Rattle.plan_kit.specs.declared.orders.CellOrder.TheVariants as order
use Rattle.plan_kit.specs.declared.orders.RowsOrder.{RowsOrder}
use Rattle.plan_kit.specs.declared.ranges.RangePlan.TheVariants.{Across}
use Rattle.plan_kit.specs.declared.scales.ScalePlan.{ScalePlan}
use Rattle.guide_infer.specs.Axes.{is_continuous}
use Rattle.chart_meaning.specs.Parts.{Copy, Domain, OfCells, OfNumbers, cells_in_order, rank_over, a_copy}

-- ---- cells of rows

-- the cell that is shown of a row; None where its computation is out of range
abbrev pub cell_shown : Values → CellAt → CellOf → Option Cell
cell_shown values row (shows.Field name) = Some (row name)
cell_shown values row (shows.Written cell) = Some cell
cell_shown values row (shows.Computed e) = value_of row values e

-- the cells of a column: one of each row of its unit
abbrev pub column_cells : Values → Copy → Column → Option (List Cell)
column_cells values copy column =
    all_found (map (λ (row : Datum). cell_shown values row.cell column.cell) (copy.rows column.unit))

-- the cells of columns, column after column
abbrev pub cells_counted : Values → Copy → List Column → Option (List Cell)
cells_counted values copy columns = option_map (flat_map (λ cells. cells)) (all_found (map (column_cells values copy) columns))

-- ---- continuous domains

-- which cells of a given list count
abbrev pub listed_counting : Bool → Counting
listed_counting is_time = if is_time then ListedInstants else Numbers

-- the numbers between two ends
abbrev pub numbers_between : ℤ × ℤ → Domain
numbers_between ends = OfNumbers ends.0 ends.1

-- the domain of cells that count so, which takes in 0 and ends at round numbers where that is asked; None where that is out of range
abbrev pub widened_over : ScalePlan → Counting → List Cell → Option Domain
widened_over s counting cells = option_map numbers_between (widened_as_asked s.is_time s.zero s.nice (extent_among counting cells))

-- the same of a given list, or of the cells of rows
abbrev pub numbers_over : Values → Copy → ScalePlan → DomainPlan → Option Domain
numbers_over values copy s (domain.Cells cells) = widened_over s (listed_counting s.is_time) cells
numbers_over values copy s (domain.Columns of) = cells_counted values copy of.columns >>= widened_over s (numbers_or_instants s.is_time)

-- the ends that a selection gives, if it keeps a pair
abbrev pub ends_selected : Values → Bool → Option Expr → Option (Option (ℤ × ℤ))
ends_selected values is_time raw =
    option_map_or (λ e. option_map (pair_in (numbers_or_instants is_time)) (value_of null_row values e)) raw (Some None)

-- the continuous domain of a scale: what a selection gives is taken as it is
abbrev pub continuous_domain : Values → Copy → ScalePlan → Option Domain
continuous_domain values copy s = do
  selected ← ends_selected values s.is_time s.raw
  option_map_or (λ ends. Some (numbers_between ends)) selected (numbers_over values copy s s.domain)

-- ---- discrete domains

-- the rank of a cell of a channel, over the rows of the copy before their aggregate; a cell that these lack has what is given over no rows
abbrev pub channel_rank : Copy → RowsOrder → Cell → Option Cell
channel_rank copy by cell = rank_over (copy.begun by.unit) by cell

-- the discrete domain of a scale
abbrev pub discrete_domain : Values → Copy → DomainPlan → Option Domain
discrete_domain values copy (domain.Cells cells) = Some (OfCells cells)
discrete_domain values copy (domain.Columns of) =
    cells_counted values copy of.columns >>= λ cells. option_map OfCells (cells_in_order (channel_rank copy) of.order cells)

-- ---- domains in copies

-- the domain of a scale in a copy; None where what it needs is out of range
abbrev pub domain_in : Values → Copy → ScalePlan → Option Domain
domain_in values copy s = if is_continuous s.kind then continuous_domain values copy s else discrete_domain values copy s.domain

-- whether a scale belongs to a facet, or without one to the chart
abbrev pub is_same_holder : Option ℕ → Option ℕ → Bool
is_same_holder None None = true
is_same_holder None (Some facet) = false
is_same_holder (Some facet) None = false
is_same_holder (Some facet) (Some other) = facet == other

abbrev pub belongs_to : Option ℕ → ℕ × ScalePlan → Bool
belongs_to holder numbered = is_same_holder holder numbered.1.holder

-- the scales that belong there, each with its number
abbrev pub scales_held : List ScalePlan → Option ℕ → List (ℕ × ScalePlan)
scales_held scales holder = filter (belongs_to holder) (enumerate_from 0 scales)

abbrev pub numbered_domain : Values → Copy → ℕ × ScalePlan → Option (ℕ × Domain)
numbered_domain values copy numbered = option_map (λ found. (numbered.0, found)) (domain_in values copy numbered.1)

-- A copy with the domains of the scales that belong to it, read or not: to a panel those of its facet, to the whole those of the chart. None where one
-- is out of range.
abbrev pub with_domains : List ScalePlan → Values → Option ℕ → Copy → Option Copy
with_domains scales values holder copy =
    option_map (λ found. record copy { domains = found ++ copy.domains })
    (all_found (map (numbered_domain values copy) (scales_held scales holder)))

-- The rules at work.

-- a scale of x over the cells of a name
abbrev pub a_scale_over : ℕ → DomainPlan → ScalePlan
a_scale_over kind of = record {
  channel = 0;
  units = 0 ∷ [];
  kind = kind;
  is_time = false;
  holder = None;
  domain = of;
  raw = None;
  range = Across;
  reverse = false;
  zero = true;
  nice = true;
  inner = pos million;
  outer = pos 500000;
  legend = None;
  is_alone = false;
}

abbrev of_name : List ℕ → DomainPlan
of_name name = domain.Columns record { columns = record { unit = 0; cell = shows.Field name } ∷ []; order = order.Up }

-- without a number it is 0 to 1, and a list of 12 and 43 comes from 0 to 45
continuous_domains : (domain_in no_values a_copy (a_scale_over LINEAR (of_name (codes "a"))) ≡ Some (OfNumbers (pos 0) (pos million)))
    × (domain_in no_values a_copy (a_scale_over LINEAR (domain.Cells (Number (pos (43 * million)) ∷ Number (pos (12 * million)) ∷ Null ∷ [])))
    ≡ Some (OfNumbers (pos 0) (pos (45 * million))))
unfolding step_of spaced floored ceiled floor_quotient
continuous_domains = (refl, refl)

-- a given list stands as it is, and cells of rows ascending
discrete_domains : (domain_in no_values a_copy (a_scale_over POINT (domain.Cells (Null ∷ Number (pos 1) ∷ Null ∷ [])))
    ≡ Some (OfCells (Null ∷ Number (pos 1) ∷ Null ∷ [])))
    × (domain_in no_values a_copy (a_scale_over POINT (of_name (codes "b"))) ≡ Some (OfCells (Text (codes "p") ∷ Text (codes "q") ∷ [])))
discrete_domains = (refl, refl)

-- a datum counts once for each row, so not at all without rows
abbrev without_rows : Copy
without_rows = record a_copy { rows = λ unit. [] }

abbrev a_datum : DomainPlan
a_datum = domain.Columns record { columns = record { unit = 0; cell = shows.Written (Number (pos 5)) } ∷ []; order = order.First }

a_datum_needs_a_row : (domain_in no_values a_copy (a_scale_over POINT a_datum) ≡ Some (OfCells (Number (pos 5) ∷ [])))
    × (domain_in no_values without_rows (a_scale_over POINT a_datum) ≡ Some (OfCells []))
a_datum_needs_a_row = (refl, refl)

-- a panel has only the scales of its facet
scales_of_facets : (scales_held (a_scale_over POINT a_datum ∷ record (a_scale_over POINT a_datum) { holder = Some 3 } ∷ []) (Some 3)
    ≡ (1, record (a_scale_over POINT a_datum) { holder = Some 3 }) ∷ [])
    × (scales_held (a_scale_over POINT a_datum ∷ []) None ≡ (0, a_scale_over POINT a_datum) ∷ [])
scales_of_facets = (refl, refl)
