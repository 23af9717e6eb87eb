-- The copies of a group by its facet.
use Rattle.std.specs.Prelude.{◌≡◌, refl, ℕ, Bool, true, false, Option, Some, None, List, [], ◌∷◌, map, flat_map, zip, length, unwrap_or, codes}
use Rattle.std.specs.Prelude.{if◌then◌else◌}
use Rattle.std.specs.Option.{option_map, option_map_or}
use Rattle.fixed_num.specs.Ranges.{◌>>=◌}
use Rattle.cell_value.specs.declared.cell.Cell.{Cell}
use Rattle.cell_value.specs.declared.cell.Cell.TheVariants.{Null, Text}
use Rattle.cell_value.specs.Datum.{Datum}
use Rattle.cell_value.specs.State.{Dataset}
use Rattle.plain_facets.specs.declared.copies.DividedBy.{DividedBy}
use Rattle.plain_facets.specs.Facets.{part_of, cells_of_fields, cells_of_copies, a_row, four_rows}
use Rattle.vega_spec.specs.declared.marks.Cross.{Cross}
use Rattle.vega_spec.specs.declared.marks.Facet.{Facet}
use Rattle.vega_spec.specs.declared.orders.Sort.{Sort}
use Rattle.vega_spec.specs.declared.orders.Texts.TheVariants as texts
use Rattle.vega_lists.specs.Orders.{texts_in, sort_settings}
use Rattle.vega_lists.specs.Scopes.{Scope, no_lists, with_list}
use Rattle.vega_copies.specs.Outlines.{Object, bare}

-- whether there is a copy for every choice of cells
abbrev pub crosses : Facet → Bool
crosses f = option_map_or (λ (a : Cross). unwrap_or a.cross false) f.aggregate false

-- how a facet divides rows: entry i of the order of its group is for the cells of its field i
abbrev pub divided_by : Option Sort → Facet → DividedBy
divided_by sort f = record { fields = f.groupby; sort = option_map sort_settings sort; crosses = crosses f }

-- the rows of the lists of a facet, list after list
abbrev pub rows_divided : Scope → Facet → List Datum
rows_divided scope f = flat_map scope (texts_in f.data_)

-- A copy of a group.
pub record Copy : Type 0 where
  -- the fields of its facet with their cells; None where the group has no facet
  pub cells : Option (List (List ℕ × Cell))
  -- the lists of which each has the rows with these cells, by their names in the copy
  pub parts : List Dataset

-- the rows of a list that have the cells of a copy, under the name that they have in it
abbrev pub part_named : Scope → Facet → List Cell → List ℕ × List ℕ → Dataset
part_named scope f cells named = record { name = named.0; rows = part_of f.groupby cells (scope named.1) }

-- the copy with these cells
abbrev pub copy_with : Scope → Facet → List Cell → Copy
copy_with scope f cells = record {
  cells = Some (zip f.groupby cells);
  parts = map (part_named scope f cells) (zip (texts_in f.name) (texts_in f.data_));
}

-- the one copy of a group without a facet
abbrev pub only_copy : Copy
only_copy = record { cells = None; parts = [] }

-- the copies by a facet
abbrev pub copies_by : Scope → Option Sort → Facet → List Copy
copies_by scope sort f = map (copy_with scope f) (cells_of_copies (divided_by sort f) (rows_divided scope f))

-- the copies of a group, where names stand for lists
abbrev pub copies_of : Scope → Object → List Copy
copies_of scope o = option_map_or (copies_by scope o.sort) o.facet (only_copy ∷ [])

-- the scope in which the names of a copy stand for its rows
abbrev pub with_parts : List Dataset → Scope → Scope
with_parts [] scope = scope
with_parts (part ∷ others) scope = with_list part.name part.rows (with_parts others scope)

-- how many cells the second of two fields has
abbrev pub second_of_two : List (List Cell) → Option ℕ
second_of_two (first ∷ second ∷ []) = Some (length second)
second_of_two others = None

-- how many copies stand side by side by a facet that crosses two fields: one for each cell of the second; None for any other
abbrev pub across_by : Scope → Option Sort → Facet → Option ℕ
across_by scope sort f = if crosses f then second_of_two (cells_of_fields (divided_by sort f) (rows_divided scope f)) else None

abbrev pub columns_across : Scope → Object → Option ℕ
columns_across scope o = o.facet >>= across_by scope o.sort

-- The rules at work.

abbrev the_list : Scope
the_list = with_list (codes "t") four_rows no_lists

-- a facet of the list `t` by fields
abbrev pub by : List (List ℕ) → Option Bool → Facet
by fields cross = record {
  name = texts.One (codes "part");
  data_ = texts.One (codes "t");
  groupby = fields;
  aggregate = option_map (λ c. record { cross = Some c }) cross;
  headers = None;
}

abbrev a_and_b : List (List ℕ)
a_and_b = codes "a" ∷ codes "b" ∷ []

-- the ids of the rows of each copy
abbrev ids_of_copies : List Copy → List (List ℕ)
ids_of_copies copies =
    map (λ (c : Copy). flat_map (λ (part : Dataset). map (λ (row : Datum). row.key.id) part.rows) c.parts) copies

the_rows_of_copies : ids_of_copies (copies_of the_list (record bare { facet = Some (by (codes "a" ∷ []) None) }))
    ≡ (1 ∷ 3 ∷ []) ∷ (2 ∷ []) ∷ (4 ∷ []) ∷ []
the_rows_of_copies = refl

no_facet_one_copy : copies_of the_list bare ≡ only_copy ∷ []
no_facet_one_copy = refl

no_rows_no_copies : copies_of no_lists (record bare { facet = Some (by (codes "a" ∷ []) None) }) ≡ []
no_rows_no_copies = refl

one_column_for_each_cell_of_the_second : (columns_across the_list (record bare { facet = Some (by a_and_b (Some true)) }) ≡ Some 2)
    × (columns_across the_list (record bare { facet = Some (by a_and_b None) }) ≡ None)
    × (columns_across the_list (record bare { facet = Some (by (codes "a" ∷ []) (Some true)) }) ≡ None)
one_column_for_each_cell_of_the_second = (refl, refl, refl)

-- a row with texts in `a` and `b`
abbrev texts_in_row : ℕ → List ℕ → List ℕ → Datum
texts_in_row id a b = a_row id (Text a) (Text b) Null

-- two lists: the cells stand list after list, and each name has the rows of its list
abbrev both_lists : Scope
both_lists = with_list (codes "u") (texts_in_row 5 (codes "z") (codes "p") ∷ texts_in_row 6 (codes "y") (codes "q") ∷ []) the_list

abbrev by_both : Facet
by_both = record (by (codes "a" ∷ []) None) {
  name = texts.Several (codes "in" ∷ codes "out" ∷ []);
  data_ = texts.Several (codes "u" ∷ codes "t" ∷ []);
}

abbrev ids_of_parts : Copy → List (List ℕ)
ids_of_parts c = map (λ (part : Dataset). map (λ (row : Datum). row.key.id) part.rows) c.parts

the_parts_of_two_lists : map ids_of_parts (copies_of both_lists (record bare { facet = Some by_both }))
    ≡ ((5 ∷ []) ∷ (4 ∷ []) ∷ []) ∷ ((6 ∷ []) ∷ (1 ∷ 3 ∷ []) ∷ []) ∷ ([] ∷ (2 ∷ []) ∷ []) ∷ []
the_parts_of_two_lists = refl

-- how many copies a facet of a copy's part makes
abbrev copies_within : Copy → ℕ
copies_within c =
    length (copies_of (with_parts c.parts the_list)
    (record bare { facet = Some (record (by (codes "b" ∷ []) None) { data_ = texts.One (codes "part") }) }))

-- its cells are those of that part, and not those of all rows
facets_in_facets : map copies_within (copies_of the_list (record bare { facet = Some (by (codes "a" ∷ []) None) })) ≡ 2 ∷ 1 ∷ 1 ∷ []
facets_in_facets = refl
