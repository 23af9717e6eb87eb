-- Filters.
use Rattle.std.specs.Prelude.{◌≡◌, refl, ℕ, ℤ, pos, true, Option, Some, None, List, [], ◌∷◌, map, codes, if◌then◌else◌}
use Rattle.std.specs.Option.{option_map, option_map_or, option_and_then, unwrap_or}
use Rattle.json_exact.specs.declared.json.Json.{Json, out-Json}
use Rattle.json_exact.specs.declared.json.Json.TheVariants as json
use Rattle.json_exact.specs.declared.json.Json.TheOpen as level
use Rattle.json_exact.specs.declared.json.Member.{Member}
use Rattle.json_exact.specs.Inside.{items_in}
use Rattle.cell_value.specs.declared.cell.Cell.TheVariants as cell
use Rattle.expr_syntax.specs.declared.expr.Expr.TheVariants as expr
use Rattle.vl_spec.specs.declared.filters.Filter.{Filter}
use Rattle.vl_spec.specs.declared.filters.Filter.TheVariants as filter
use Rattle.vl_spec.specs.declared.filters.ParamTest.{ParamTest}
use Rattle.vl_spec.specs.declared.filters.FieldTest.{FieldTest}
use Rattle.vl_spec.specs.declared.filters.Comparison.{Comparison}
use Rattle.vl_spec.specs.declared.filters.Comparison.TheVariants as comparison
use Rattle.tree_readers.specs.Parts.{Opened, found_at, has_member, flag_at, needed_text}
use Rattle.vl_building.specs.Expressions.{expression_in}
use Rattle.vl_building.specs.Inside.{Giving, given_by, member_gives}
use Rattle.vl_building.specs.Fields.{needed_field}
use Rattle.vl_building.specs.Values.{needed_scalar, needed_scalars}
use Rattle.vl_building.specs.Names.{named_at, time_unit_named}

-- a test by a parameter
unfoldable pub param_test_of : List Member → ParamTest
param_test_of members = record {
  param = needed_text members (codes "param");
  empty = flag_at members (codes "empty");
}

-- a bound: a number, or null for none
abbrev pub bound_in : Opened → Option (Option ℤ)
bound_in level.Null = Some None
bound_in (level.Number n) = Some (Some n)
bound_in other = None

-- from one bound to another
abbrev pub range_from : Option (Option ℤ) → Option (Option ℤ) → Option Comparison
range_from low high = option_and_then (λ a. option_map (λ b. comparison.Range a b) high) low

-- two bounds
abbrev pub range_in : List Json → Option Comparison
range_in (low ∷ high ∷ []) = range_from (bound_in (out-Json low)) (bound_in (out-Json high))
range_in items = None

-- the two bounds under a name; none where they are ill-formed
abbrev pub needed_range : List Member → List ℕ → Comparison
needed_range members name = unwrap_or (option_and_then range_in (found_at items_in members name)) (comparison.Range None None)

-- a comparison, by the first of these members that is there, or else by `valid`
unfoldable pub later_comparison : List Member → Comparison
later_comparison members =
    if has_member members (codes "gte") then comparison.MoreSame (needed_scalar members (codes "gte"))
    else (if has_member members (codes "range") then needed_range members (codes "range")
    else (if has_member members (codes "oneOf") then comparison.OneOf (needed_scalars members (codes "oneOf"))
    else comparison.Valid (unwrap_or (flag_at members (codes "valid")) true)))

-- a comparison, by the first of its members that is there
unfoldable pub comparison_of : List Member → Comparison
comparison_of members =
    if has_member members (codes "equal") then comparison.Equal (needed_scalar members (codes "equal"))
    else (if has_member members (codes "lt") then comparison.Less (needed_scalar members (codes "lt"))
    else (if has_member members (codes "lte") then comparison.LessSame (needed_scalar members (codes "lte"))
    else (if has_member members (codes "gt") then comparison.More (needed_scalar members (codes "gt"))
    else later_comparison members)))

-- a test of a field
unfoldable pub field_test_of : List Member → FieldTest
field_test_of members = record {
  field = needed_field members (codes "field");
  time_unit = named_at time_unit_named members (codes "timeUnit");
  comparison = comparison_of members;
}

-- what a value is as a filter, and what its items are
abbrev pub AsFilter : Type 0
AsFilter = Filter × List Filter

-- no row passes
abbrev pub no_filter : Filter
no_filter = filter.Expr expr.Null

-- a filter that is a text
unfoldable pub text_filter : List ℕ → Filter
text_filter text = filter.Expr (unwrap_or (expression_in text) expr.Null)

-- the filters that a member holds, none where it is no list
abbrev pub filters_given : Option AsFilter → List Filter
filters_given given = option_map_or (λ (f : AsFilter). f.1) given []

-- the filter that a member holds, one that no row passes where there is none
abbrev pub filter_given : Option AsFilter → Filter
filter_given given = option_map_or (λ (f : AsFilter). f.0) given no_filter

-- a filter that is an object, by the first of these members that is there
unfoldable pub object_filter : List Member → (List ℕ → Option AsFilter) → Filter
object_filter members inside =
    if has_member members (codes "and") then filter.And (filters_given (inside (codes "and")))
    else (if has_member members (codes "or") then filter.Or (filters_given (inside (codes "or")))
    else (if has_member members (codes "not") then filter.Not (filter_given (inside (codes "not")))
    else (if has_member members (codes "field") then filter.Field (field_test_of members)
    else filter.Param (param_test_of members))))

-- a filter: the text of an expression, or an object
abbrev pub filter_in : Opened → (List ℕ → Option AsFilter) → Filter
filter_in (level.Text text) inside = text_filter text
filter_in (level.Object members) inside = object_filter members inside
filter_in other inside = no_filter

-- what a value gives
abbrev pub as_filter_with : Giving AsFilter
as_filter_with tree inside items = (filter_in (out-Json tree) inside, map (λ (f : AsFilter). f.0) items)

-- what a value is as a filter, and what its items are
abbrev pub as_filter : Json → AsFilter
as_filter = given_by as_filter_with

-- the filter that a value is
abbrev pub filter_of : Json → Filter
filter_of tree = (as_filter tree).0

-- the filters that the items of a value are
abbrev pub filters_of : Json → List Filter
filters_of tree = (as_filter tree).1

-- the filter under a name, one that no row passes where there is none
abbrev pub needed_filter : List Member → List ℕ → Filter
needed_filter members name = filter_given (member_gives as_filter members name)

-- The rules at work.

-- members of these names, all null
abbrev nulls : List (List ℕ) → List Member
nulls [] = []
nulls (name ∷ names) = record { name = name; value = json.Null } ∷ nulls names

null_is_no_bound : range_in (json.Number (pos 5) ∷ json.Null ∷ []) ≡ Some (comparison.Range (Some (pos 5)) None)
unfolding out-Json denote.Hole.Carrier.out
null_is_no_bound = refl

three_bounds_are_none : range_in (json.Null ∷ json.Null ∷ json.Null ∷ []) ≡ None
three_bounds_are_none = refl

a_range_without_bounds : needed_range (nulls (codes "range" ∷ [])) (codes "range") ≡ comparison.Range None None
unfolding out-Json denote.Hole.Carrier.out
a_range_without_bounds = refl

a_comparison_with_null : comparison_of (nulls (codes "field" ∷ codes "gt" ∷ [])) ≡ comparison.More cell.Null
unfolding out-Json denote.Hole.Carrier.out comparison_of
a_comparison_with_null = refl

the_order_of_members_is_not_asked : object_filter (nulls (codes "field" ∷ codes "or" ∷ [])) (λ name. None) ≡ filter.Or []
unfolding object_filter
the_order_of_members_is_not_asked = refl

a_value_that_is_no_filter : filter_in level.Null (λ name. None) ≡ filter.Expr expr.Null
a_value_that_is_no_filter = refl
