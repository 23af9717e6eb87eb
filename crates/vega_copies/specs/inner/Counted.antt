-- How many plots stand in facets, step by step.
use Rattle.std.specs.Prelude.{ℕ, ◌+◌, ◌-◌, ◌*◌, ◌^◌, ◌&&◌, ◌==◌, min, Bool, Option, Some, None, Result, Err, IfErr, List, [], ◌∷◌, map, zip}
use Rattle.std.specs.Prelude.{is_some, if◌then◌else◌}
use Rattle.std.specs.Option.{option_map, option_map_or}
use Rattle.fixed_num.specs.Ranges.{◌>>=◌}
use Rattle.cell_value.specs.State.{Dataset}
use Rattle.cell_value.specs.declared.state.Named.{Named}
use Rattle.expr_eval.specs.declared.error.EvalError.{EvalError}
use Rattle.expr_eval.specs.Answers.{Evaluates}
use Rattle.plain_facets.specs.Facets.{cells_with_rows, count_without_rows}
use Rattle.vega_spec.specs.declared.marks.Facet.{Facet}
use Rattle.vega_spec.specs.declared.orders.Sort.{Sort}
use Rattle.vega_spec.specs.declared.spec.Group.{Group, out-Group}
use Rattle.vega_spec.specs.declared.spec.VgMark.{VgMark, VgMark-F}
use Rattle.vega_lists.specs.Orders.{texts_in}
use Rattle.vega_lists.specs.Scopes.{Scope}
use Rattle.vega_copies.specs.Outlines.{Object}
use Rattle.vega_copies.specs.Scopes.{Names}
use Rattle.vega_copies.specs.Facets.{Copy, copy_with, only_copy, divided_by, rows_divided}
use Rattle.vega_copies.specs.CopyNames.{names_in_copy}
use Rattle.vega_copies.specs.Panels.{is_plot, plots_in_facets}
use Rattle.vega_copies.specs.inner.Outlined.{marks_in, marks_of, group_object}

-- the greatest number of 64 bits
abbrev pub most_counted : ℕ
most_counted = 2 ^ 64 - 1

-- a count up to that
abbrev pub counted : Option ℕ → Option ℕ
counted found = option_map (λ n. min n most_counted) found

-- how many plots in facets stand in a group that is in a facet or not, where names stand for lists in a copy of it
abbrev pub plots_inside : List Dataset → Bool → VgMark-F Group VgMark → Names → Option ℕ
plots_inside sources in_facet m here =
    plots_in_facets sources (marks_of (marks_in (out-Group m.group))) in_facet (is_some (out-Group m.group).layout) here

-- how many a copy of the group holds
abbrev pub plots_in_copy : List Dataset → Bool → VgMark-F Group VgMark → Names → Copy → Option ℕ
plots_in_copy sources in_facet m names copy = names_in_copy sources names (group_object 0 m) copy >>= plots_inside sources in_facet m

-- whether a copy of a group is a plot in a facet itself
abbrev pub is_panel : Bool → Bool → VgMark-F Group VgMark → Bool
is_panel in_facet in_grid m = in_facet && is_plot in_grid (group_object 0 m)

-- how many it is and holds, where names stand for lists in it
abbrev pub plots_with_level : List Dataset → Bool → Bool → VgMark-F Group VgMark → Names → Option ℕ
plots_with_level sources in_facet in_grid m here =
    option_map (λ n. (if is_panel in_facet in_grid m then 1 else 0) + n) (plots_inside sources in_facet m here)

-- how many it is, or holds
abbrev pub plots_of_copy : List Dataset → Bool → Bool → VgMark-F Group VgMark → Names → Copy → Option ℕ
plots_of_copy sources in_facet in_grid m names copy =
    option_map (λ n. (if is_panel in_facet in_grid m then 1 else 0) + n) (plots_in_copy sources in_facet m names copy)

-- a result that stops only where nothing is found
abbrev pub Stops : {X Y : Type 0} → Result X EvalError → Option Y → Type 0
Stops {X} {Y} result found = IfErr result (λ e. Evaluates {X = Y} (Err e) found)

-- how many each of some copies is, or holds
abbrev pub plots_of_all : List Dataset → Bool → Bool → VgMark-F Group VgMark → Names → List Copy → List (Option ℕ)
plots_of_all sources in_facet in_grid m names copies = map (plots_of_copy sources in_facet in_grid m names) copies

-- a count with those of so many copies more, each as many as this one, up to the greatest number; of no copy nothing is asked
abbrev pub with_bare : ℕ → ℕ → Option ℕ → Option ℕ
with_bare plots copies each =
    if copies == 0 then Some plots else option_map (λ n. min (plots + min (copies * n) most_counted) most_counted) each

-- ---- copies that have rows, and the number of those that have none

-- the copies by a facet that have rows
abbrev pub with_rows_by : Scope → Option Sort → Facet → List Copy
with_rows_by scope sort f = map (copy_with scope f) (cells_with_rows (divided_by sort f) (rows_divided scope f))

-- how many of them have none
abbrev pub without_rows_by : Scope → Option Sort → Facet → ℕ
without_rows_by scope sort f = count_without_rows (divided_by sort f) (rows_divided scope f)

-- the same of a group, which has one copy where it has no facet
abbrev pub rows_with_facet : Scope → Option Sort → Option Facet → List Copy
rows_with_facet scope sort facet = option_map_or (with_rows_by scope sort) facet (only_copy ∷ [])

abbrev pub bare_with_facet : Scope → Option Sort → Option Facet → ℕ
bare_with_facet scope sort facet = option_map_or (without_rows_by scope sort) facet 0

abbrev pub copies_with_rows : Scope → Object → List Copy
copies_with_rows scope o = rows_with_facet scope o.sort o.facet

abbrev pub count_bare : Scope → Object → ℕ
count_bare scope o = bare_with_facet scope o.sort o.facet

-- a list without rows, under the name that it has in a copy
abbrev pub bare_part : List ℕ × List ℕ → Dataset
bare_part named = record { name = named.0; rows = [] }

-- the same, as it is held
abbrev pub bare_named : List ℕ × List ℕ → Named
bare_named named = record { name = named.0; rows = [] }

abbrev pub bare_named_by : Facet → List Named
bare_named_by f = map bare_named (zip (texts_in f.name) (texts_in f.data_))

-- the lists of a copy of a group without rows
abbrev pub parts_of_bare : Option Facet → List Named
parts_of_bare f = option_map_or bare_named_by f []

-- a copy by a facet without rows, whatever its cells are
abbrev pub bare_by : Facet → Copy
bare_by f = record { cells = None; parts = map bare_part (zip (texts_in f.name) (texts_in f.data_)) }

abbrev pub bare_copy : Option Facet → Copy
bare_copy f = option_map_or bare_by f only_copy
