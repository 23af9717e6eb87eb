-- Copies of groups, as definitions see them.
use Rattle.std.specs.Prelude.{ℕ, Option, Some, List, [], ◌∷◌, map, zip, slice_get, unwrap_or}
use Rattle.std.specs.Option.{option_map_or}
use Rattle.std.specs.Borrow.{Bor}
use Rattle.fixed_num.specs.Ranges.{◌>>=◌}
use Rattle.cell_value.specs.declared.cell.Cell.{Cell}
use Rattle.cell_value.specs.declared.state.Keyed.{Keyed}
use Rattle.cell_value.specs.Datum.{Datum}
use Rattle.plain_facets.specs.Facets.{part_of}
use Rattle.vega_lists.specs.Scopes.{Scope}
use Rattle.vega_lists.specs.Held.{scope_read}
use Rattle.cell_value.specs.State.{dataset_of}
use Rattle.cell_value.specs.declared.state.Named.{Named}
use Rattle.vega_copies.specs.declared.copies.CopyOf.{CopyOf}
use Rattle.vega_spec.specs.declared.marks.Facet.{Facet}
use Rattle.vega_spec.specs.declared.orders.Sort.{Sort}
use Rattle.vega_spec.specs.declared.spec.Group.{Group}
use Rattle.vega_spec.specs.declared.spec.VgMark.{VgMark, VgMark-F}
use Rattle.vega_lists.specs.Inside.{AllKeysFit}
use Rattle.vega_lists.specs.Products.{Products}
use Rattle.vega_copies.specs.declared.names.NamesAt.{NamesAt}
use Rattle.vega_copies.specs.Outlines.{facet_in}
use Rattle.vega_copies.specs.Fitting.{products_in_copy}
use Rattle.vega_copies.specs.Facets.{Copy, only_copy, copies_by, across_by}
use Rattle.vega_copies.specs.inner.Levels.{rows_at, rows_behind, parts_over, AreParts}

abbrev pub copy_seen : CopyOf → Copy
copy_seen c = record { cells = c.cells; parts = map dataset_of c.parts }

-- the rows for which a name stands, as they are read
abbrev pub scope_at : NamesAt → Scope
scope_at names = scope_read (rows_at names.sources.now names.levels.now)

-- the copies of a group with this facet, if it has one, and how many stand side by side
abbrev pub copies_with_facet : Scope → Option Sort → Option Facet → List Copy
copies_with_facet scope sort facet = option_map_or (copies_by scope sort) facet (only_copy ∷ [])

abbrev pub across_with_facet : Scope → Option Sort → Option Facet → Option ℕ
across_with_facet scope sort facet = facet >>= across_by scope sort

-- a field with its cell
abbrev pub named_cell : List ℕ → Cell → List ℕ × Cell
named_cell field cell = (field, cell)

-- rows under a name
abbrev pub rows_named : List ℕ → List Keyed → Named
rows_named name rows = record { name = name; rows = rows }

-- the rows that a list has in a copy, under its name there
abbrev pub part_at : ℕ → List ℕ × List (List (Bor Keyed)) → Named
part_at copy entry = record { name = entry.0; rows = rows_behind (unwrap_or (slice_get entry.1 copy) []) }

-- the same of several lists
abbrev pub parts_at : ℕ → List (List ℕ) → List (List (List (Bor Keyed))) → List Named
parts_at copy names tables = map (part_at copy) (zip names tables)

-- the copy with some cells, which stands at a place
abbrev pub copy_at : List (List ℕ) → List (List ℕ) → List (List (List (Bor Keyed))) → ℕ × List Cell → Copy
copy_at fields names tables at = record { cells = Some (zip fields at.1); parts = map dataset_of (parts_at at.0 names tables) }

-- the rows that a list has in each copy with cells in some fields, as they are read
abbrev pub parts_read : NamesAt → List (List ℕ) → List (List Cell) → List ℕ → List (List Datum)
parts_read names fields copies list = map (λ key. part_of fields key (scope_at names list)) copies

-- A copy of a group, where names stand for these: its parts are lists of rows, and no fold of what stands in it makes a product too great.
pub record IsCopy (names : NamesAt) (m : VgMark-F Group VgMark) (copy : CopyOf) : Type 0 where
  pub parts : AreParts copy.parts
  pub folds : (products : Products) → AllKeysFit products (rows_at names.sources.now names.levels.now)
      → AllKeysFit (products_in_copy (facet_in m.from) products) (parts_over copy.parts (rows_at names.sources.now names.levels.now))
