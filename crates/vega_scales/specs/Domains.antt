-- The domains of scales.
use Rattle.std.specs.Prelude.{◌≡◌, refl, ℕ, ◌*◌, Bool, true, false, ℤ, pos, negsuc, Option, Some, None, List, [], ◌∷◌, map, flat_map, codes}
use Rattle.std.specs.Option.{option_map, option_map_or}
use Rattle.fixed_num.specs.Number.{million, floored, ceiled, floor_quotient}
use Rattle.fixed_num.specs.Ranges.{◌>>=◌}
use Rattle.cell_value.specs.declared.cell.Cell.{Cell}
use Rattle.cell_value.specs.declared.cell.Cell.TheVariants.{Null, Flag, Number, Text, Pair}
use Rattle.cell_value.specs.Datum.{Datum, datum_with}
use Rattle.expr_syntax.specs.declared.expr.Expr.{Expr}
use Rattle.expr_eval.specs.Plain.{null_row}
use Rattle.expr_eval.specs.Value.{value_of}
use Rattle.expr_eval.specs.Values.{Values}
use Rattle.vega_spec.specs.declared.domains.Domain.{Domain}
use Rattle.vega_spec.specs.declared.domains.Domain.TheVariants as domain
use Rattle.vega_spec.specs.declared.domains.DomainOrder.{DomainOrder}
use Rattle.vega_spec.specs.declared.domains.DomainOrder.TheVariants as order
use Rattle.vega_spec.specs.declared.domains.Reference.{Reference}
use Rattle.vega_spec.specs.declared.domains.FieldDomain.{FieldDomain}
use Rattle.vega_spec.specs.declared.orders.Order.{Order}
use Rattle.vega_spec.specs.declared.orders.Order.TheVariants.{Ascending, Descending}
use Rattle.vega_lists.specs.Scopes.{Scope, no_lists, with_list}
use Rattle.tick_kit.specs.Steps.{step_of, spaced}
use Rattle.plain_groups.specs.Aggregates.{aggregates}
use Rattle.domain_kit.specs.declared.counting.Counting.{Counting}
use Rattle.domain_kit.specs.declared.counting.Counting.TheVariants.{Numbers, Instants, ListedInstants}
use Rattle.domain_kit.specs.declared.keyed.Entry.{Entry}
use Rattle.domain_kit.specs.Cells.{in_first_order}
use Rattle.domain_kit.specs.Counting.{numbers_or_instants, extent_among, pair_in, widened_as_asked}
use Rattle.domain_kit.specs.Orders.{entry, in_direction, by_operation}

-- the cells of rows under a name
abbrev pub column_of : List ℕ → List Datum → List Cell
column_of name rows = map (λ (datum : Datum). datum.cell name) rows

-- the cells of a reference: its field in each row of the list that its name stands for
abbrev pub referred : Scope → Reference → List Cell
referred scope reference = column_of reference.field (scope reference.data_)

-- the one reference of a domain over one field
abbrev pub reference_of : FieldDomain → Reference
reference_of f = record { data_ = f.data_; field = f.field }

-- the cells that a value stands for as a domain: a pair for its two numbers, null for none, each other value for itself
abbrev pub cells_in : Cell → List Cell
cells_in Null = []
cells_in (Flag b) = Flag b ∷ []
cells_in (Number n) = Number n ∷ []
cells_in (Text t) = Text t ∷ []
cells_in (Pair a b) = Number a ∷ Number b ∷ []

-- the cells of references, reference after reference
abbrev pub cells_referred : Scope → List Reference → List Cell
cells_referred scope references = flat_map (referred scope) references

-- for each row its cell in one field, as the key, and its cell in another, as the value
abbrev pub entries_among : List ℕ → List ℕ → List Datum → List Entry
entries_among key value rows = map (λ (datum : Datum). entry (datum.cell key) (datum.cell value)) rows

-- the same for the rows of a reference, by its field
abbrev pub entries_in : Scope → List ℕ → Reference → List Entry
entries_in scope field reference = entries_among reference.field field (scope reference.data_)

-- the same of references, reference after reference: a row counts once for each
abbrev pub entries_referred : Scope → List ℕ → List Reference → List Entry
entries_referred scope field references = flat_map (entries_in scope field) references

-- whether cells stand from the greatest to the least: ascending where no direction is given
abbrev pub descends : Option Order → Bool
descends None = false
descends (Some Ascending) = false
descends (Some Descending) = true

-- The distinct cells of references: without an order by their first rows, reference after reference, else ascending, or in the direction
-- that is given; or by what an operation gives over a field of all rows that have the cell. None where an operation overflows.
abbrev pub in_order : Scope → List Reference → Option DomainOrder → Option (List Cell)
in_order scope references None = Some (in_first_order (cells_referred scope references))
in_order scope references (Some order.True) = Some (in_direction false (cells_referred scope references))
in_order scope references (Some (order.Cells direction)) = Some (in_direction (descends direction) (cells_referred scope references))
in_order scope references (Some (order.Operation direction op field)) =
    by_operation (descends direction) op (entries_referred scope field references)

-- The domain of a discrete scale: a list and the cells that a value stands for as they are, the cells of references in their order. None
-- where its expression or its operation overflows.
abbrev pub discrete_domain : Values → Scope → Domain → Option (List Cell)
discrete_domain values scope (domain.Cells cells) = Some cells
discrete_domain values scope (domain.Signal e) = option_map cells_in (value_of null_row values e)
discrete_domain values scope (domain.Field f) = in_order scope (reference_of f ∷ []) f.sort
discrete_domain values scope (domain.Fields f) = in_order scope f.fields f.sort

-- The cells of which the domain of a continuous scale is made: those of a list, those that the value of an expression stands for, or
-- those of its references. None where the expression overflows.
abbrev pub cells_of_domain : Values → Scope → Domain → Option (List Cell)
cells_of_domain values scope (domain.Cells cells) = Some cells
cells_of_domain values scope (domain.Signal e) = option_map cells_in (value_of null_row values e)
cells_of_domain values scope (domain.Field f) = Some (cells_referred scope (reference_of f ∷ []))
cells_of_domain values scope (domain.Fields f) = Some (cells_referred scope f.fields)

-- which of them count: numbers, and on a time scale instants in range, for which in a list a text may stand
abbrev pub counting_in : Bool → Domain → Counting
counting_in false d = Numbers
counting_in true (domain.Cells cells) = ListedInstants
counting_in true (domain.Signal e) = Instants
counting_in true (domain.Field f) = Instants
counting_in true (domain.Fields f) = Instants

-- the domain that the value of the raw domain's expression gives: a pair gives one; None where it overflows
abbrev pub raw_domain : Values → Bool → Option Expr → Option (Option (ℤ × ℤ))
raw_domain values is_time None = Some None
raw_domain values is_time (Some e) = option_map (pair_in (numbers_or_instants is_time)) (value_of null_row values e)

-- the least and the greatest number among the cells of a domain, 0 and 1 where there is none; None where its expression overflows
abbrev pub extent_of_domain : Values → Scope → Bool → Domain → Option (ℤ × ℤ)
extent_of_domain values scope is_time d = option_map (extent_among (counting_in is_time d)) (cells_of_domain values scope d)

-- the extent of a domain, which takes in 0 and is widened as asked
abbrev pub widened_domain : Values → Scope → Bool → Bool → Bool → Domain → Option (ℤ × ℤ)
widened_domain values scope is_time takes_zero is_nice d =
    extent_of_domain values scope is_time d >>= widened_as_asked is_time takes_zero is_nice

-- The domain of a continuous scale, of time or not: a raw domain as it is, else the extent of its domain, which takes in 0 and is
-- widened as asked. None where what is needed of it overflows.
abbrev pub continuous_domain : Values → Scope → Bool → Option Expr → Bool → Bool → Domain → Option (ℤ × ℤ)
continuous_domain values scope is_time raw takes_zero is_nice d = do
  given ← raw_domain values is_time raw
  option_map_or Some given (widened_domain values scope is_time takes_zero is_nice d)

-- The rules at work.

-- rows with these cells under `a`
abbrev rows_with : List Cell → List Datum
rows_with cells = map (λ cell. datum_with (codes "a") cell (record { key = record { id = 1; branch = 0 }; cell = null_row })) cells

-- two lists: of 3, null and 1; of 1 and 7
abbrev two_lists : Scope
two_lists =
    with_list (codes "t") (rows_with (Number (pos 3) ∷ Null ∷ Number (pos 1) ∷ []))
    (with_list (codes "u") (rows_with (Number (pos 1) ∷ Number (pos 7) ∷ [])) no_lists)

abbrev of_list : List ℕ → Reference
of_list name = record { data_ = name; field = codes "a" }

abbrev both : Option DomainOrder → Domain
both sort = domain.Fields record { fields = of_list (codes "u") ∷ of_list (codes "t") ∷ []; sort = sort }

reference_after_reference : (values : Values) → discrete_domain values two_lists (both None)
    ≡ Some (Number (pos 1) ∷ Number (pos 7) ∷ Number (pos 3) ∷ Null ∷ [])
reference_after_reference values = refl

ascending_by_true : (values : Values) → discrete_domain values two_lists (both (Some order.True))
    ≡ Some (Null ∷ Number (pos 1) ∷ Number (pos 3) ∷ Number (pos 7) ∷ [])
ascending_by_true values = refl

descending_by_an_order : (values : Values) → discrete_domain values two_lists (both (Some (order.Cells (Some Descending))))
    ≡ Some (Number (pos 7) ∷ Number (pos 3) ∷ Number (pos 1) ∷ Null ∷ [])
descending_by_an_order values = refl

a_list_stays_as_it_is : (values : Values) → discrete_domain values two_lists (domain.Cells (Null ∷ Number (pos 2) ∷ Null ∷ []))
    ≡ Some (Null ∷ Number (pos 2) ∷ Null ∷ [])
a_list_stays_as_it_is values = refl

no_list_of_the_name : (values : Values)
    → discrete_domain values no_lists (domain.Field record { data_ = codes "t"; field = codes "a"; sort = None }) ≡ Some []
no_list_of_the_name values = refl

the_extent_of_two_references : (values : Values) → extent_of_domain values two_lists false (both None) ≡ Some (pos 1, pos 7)
the_extent_of_two_references values = refl

without_rows_from_0_to_1 : (values : Values)
    → continuous_domain values no_lists false None true true (both None) ≡ Some (pos 0, pos million)
unfolding step_of spaced floored ceiled floor_quotient
without_rows_from_0_to_1 values = refl

-- a whole number, in millionths
abbrev whole : ℕ → ℤ
whole n = pos (n * million)

zero_and_then_nice : (values : Values)
    → continuous_domain values no_lists false None true true (domain.Cells (Number (whole 12) ∷ Number (whole 43) ∷ []))
    ≡ Some (whole 0, whole 45)
unfolding step_of spaced floored ceiled floor_quotient
zero_and_then_nice values = refl

one_point_stays : (values : Values)
    → continuous_domain values no_lists false None false true (domain.Cells (Number (whole 12) ∷ [])) ≡ Some (whole 12, whole 12)
one_point_stays values = refl

the_numbers_of_a_pair : (cells_in (Pair (pos 5) (negsuc 0)) ≡ Number (pos 5) ∷ Number (negsuc 0) ∷ []) × (cells_in Null ≡ [])
the_numbers_of_a_pair = (refl, refl)

by_the_sum_of_all_rows : (values : Values)
    → discrete_domain values two_lists (both (Some (order.Operation (Some Descending) 4 (codes "a"))))
    ≡ Some (Number (pos 7) ∷ Number (pos 3) ∷ Number (pos 1) ∷ Null ∷ [])
unfolding aggregates
by_the_sum_of_all_rows values = refl

by_how_many_rows : (values : Values)
    → discrete_domain values two_lists (both (Some (order.Operation None 0 (codes "b"))))
    ≡ Some (Null ∷ Number (pos 3) ∷ Number (pos 7) ∷ Number (pos 1) ∷ [])
unfolding aggregates
by_how_many_rows values = refl
