-- What levels of names stand for.
use Rattle.std.specs.Prelude.{ℕ, All, Option, Some, None, List, [], ◌∷◌, map, find, if◌then◌else◌}
use Rattle.std.specs.Option.{option_map, option_or}
use Rattle.std.specs.Str.{bytes_eq}
use Rattle.std.specs.Borrow.{Bor}
use Rattle.cell_value.specs.declared.cell.Cell.{Cell}
use Rattle.cell_value.specs.declared.state.Keyed.{Keyed}
use Rattle.cell_value.specs.declared.state.Named.{Named}
use Rattle.cell_value.specs.declared.state.StoreOf.{StoreOf}
use Rattle.expr_eval.specs.Stores.{values_of_stores}
use Rattle.expr_eval.specs.Values.{Values}
use Rattle.vega_lists.specs.declared.held.Lists.{Lists}
use Rattle.vega_lists.specs.Inside.{RowsByName, no_rows, rows_held, rows_inside}
use Rattle.vega_lists.specs.Held.{scope_read, AreSources, AreAllRows}
use Rattle.plain_rows.specs.Rows.{AreRows}
use Rattle.vega_signals.specs.Extents.{Settled}
use Rattle.vega_signals.specs.Settling.{values_inside, Valued}
use Rattle.vega_copies.specs.declared.names.Level.{Level}
use Rattle.cell_value.specs.State.{dataset_of}
use Rattle.vega_copies.specs.declared.names.NamesAt.{NamesAt}
use Rattle.vega_copies.specs.Outlines.{Object}
use Rattle.fixed_num.specs.Ranges.{◌>>=◌}
use Rattle.vega_copies.specs.Scopes.{Names, names_with, settled_in, keeps_signals}

-- the part of a name
abbrev pub part_named : List Named → List ℕ → Option Named
part_named parts name = find (λ (part : Named). bytes_eq part.name name) parts

-- the first signal of a name
abbrev pub signal_named : Settled → List ℕ → Option (List ℕ × Option Cell)
signal_named signals name = find (λ (signal : List ℕ × Option Cell). bytes_eq signal.0 name) signals

-- the rows behind references
abbrev pub rows_behind : List (Bor Keyed) → List Keyed
rows_behind rows = map (λ row. row.now) rows

-- the rows of parts by their names, in place of those that names stood for
abbrev pub parts_over : List Named → RowsByName → RowsByName
parts_over [] rows = rows
parts_over (part ∷ others) rows = λ name. if bytes_eq part.name name then part.rows else parts_over others rows name

-- the rows for which a level itself has a name
abbrev pub rows_here : List Named → Level → List ℕ → Option (List Keyed)
rows_here sources level name =
    option_or (rows_held sources level.lists name) (option_map (λ (part : Named). part.rows) (part_named level.parts name))

-- the rows for which names stand where these are the levels, the inner before the outer
abbrev pub rows_at : List Named → List (Bor Level) → RowsByName
rows_at sources [] = no_rows
rows_at sources (level ∷ outer) = rows_inside sources (parts_over level.now.parts (rows_at sources outer)) level.now.lists

-- the values of signals there, and what is read of these stores of selections
abbrev pub values_at : List StoreOf → List (Bor Level) → Values
values_at stores [] = values_of_stores stores
values_at stores (level ∷ outer) = values_inside level.now.signals (values_at stores outer)

-- what names stand for there
abbrev pub names_at : List StoreOf → List Named → List (Bor Level) → Names
names_at stores sources levels = record { lists = scope_read (rows_at sources levels); values = values_at stores levels }

-- what names stand for round a copy with parts of lists
abbrev pub names_over : NamesAt → List Named → Names
names_over outer parts = record (names_at outer.stores.now outer.sources.now outer.levels.now) {
  lists = scope_read (parts_over parts (rows_at outer.sources.now outer.levels.now));
}

-- the rows for which names stand with one more level inside
abbrev pub rows_with_level : NamesAt → Level → RowsByName
rows_with_level outer level =
    rows_inside outer.sources.now (parts_over level.parts (rows_at outer.sources.now outer.levels.now)) level.lists

-- what names stand for with it
abbrev pub names_with_level : NamesAt → Level → Names
names_with_level outer level = record {
  lists = scope_read (rows_with_level outer level);
  values = values_inside level.signals (values_at outer.stores.now outer.levels.now);
}

-- what names stand for in an object that has these lists, and whose own signals have these values, where a facet gives parts of lists
abbrev pub names_with_lists : NamesAt → List Named → Settled → Lists → Names
names_with_lists outer parts own lists = record {
  lists = scope_read (rows_inside outer.sources.now (parts_over parts (rows_at outer.sources.now outer.levels.now)) lists);
  values = values_inside own (values_at outer.stores.now outer.levels.now);
}

-- what names stand for in an object whose given signals have these values, where a facet gives parts of lists
abbrev pub names_with_parts : NamesAt → List Named → Object → Valued → Option Names
names_with_parts outer parts o given =
    let around = names_over outer parts in
    names_with (map dataset_of outer.sources.now) around o (settled_in (map dataset_of outer.sources.now) around given o)

-- names of an object of which each own signal has a value
abbrev pub kept_names : Object → Option Names → Option Names
kept_names o found = found >>= λ names. if keeps_signals names o then Some names else None

-- names that stand for rows, where these are the levels, over sources of rows
pub record AreLevels (sources : List Named) (levels : List (Bor Level)) : Type 0 where
  pub sources_are : AreSources sources
  pub rows : AreAllRows (rows_at sources levels)

abbrev pub AreNames : NamesAt → Type 0
AreNames names = AreLevels names.sources.now names.levels.now

-- each part is a list of rows
abbrev pub AreParts : List Named → Type 0
AreParts parts = All (λ (part : Named). AreRows part.rows) parts
