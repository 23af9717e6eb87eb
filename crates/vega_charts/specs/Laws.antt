-- What holds of charts: of the top and of marks without groups they say what is said of one plot, and outcomes come in an order.
use Rattle.std.specs.Prelude.{◌≡◌, ℕ, ◌-◌, ◌^◌, min, nat_lt, Bool, true, false, Some, None, List, is_some}
use Rattle.cell_value.specs.State.{Dataset}
use Rattle.expr_eval.specs.Values.{Values}
use Rattle.scene_tree.specs.Outcome.{Overflow, Panels}
use Rattle.vega_spec.specs.declared.spec.Group.{Group, Group-F}
use Rattle.vega_spec.specs.declared.spec.VgMark.{VgMark}
use Rattle.vega_spec.specs.declared.spec.VgSpec.{VgSpec}
use Rattle.vega_signals.specs.Settling.{Valued}
use Rattle.vega_signals.specs.Signals.{settled_values}
use Rattle.vega_copies.specs.Outlines.{Opened, Marks, NoMarks, AMark, AGroup, object_here}
use Rattle.vega_copies.specs.Scopes.{Names, outermost, settled_in, names_at_top}
use Rattle.vega_copies.specs.Panels.{plots_in_facets}
use Rattle.vega_charts.specs.Panels.{most_panels}
use Rattle.vega_charts.specs.Charts.{drawn_from}

-- the signals of the top settle at the values of the signals of a specification, over the same stores of selections
abbrev pub TopSettles : Type 0
TopSettles = (stores : Values) (g : Group-F Group VgMark) (sources : List Dataset) (params : Valued)
    → settled_in sources (outermost stores) params (object_here g) ≡ settled_values stores g sources params

-- whether there is no group among marks
abbrev pub has_no_groups : Marks → Bool
has_no_groups NoMarks = true
has_no_groups (AMark unit mark others) = has_no_groups others
has_no_groups (AGroup object inside others) = false

-- without groups no plot stands in a facet
abbrev pub NoGroupsNoPanels : Type 0
NoGroupsNoPanels = (sources : List Dataset) (marks : Marks) (in_facet in_grid : Bool) (names : Names)
    → has_no_groups marks ≡ true → plots_in_facets sources marks in_facet in_grid names ≡ Some 0

-- a list out of range, or a signal that one reads, stops all
abbrev pub ListsFirst : Type 0
ListsFirst = (g : VgSpec) (top : Opened) (stores : Values) (params : Valued) (sources : List Dataset)
    → names_at_top stores params sources top.object ≡ None → drawn_from g top stores params sources ≡ Overflow

-- with more than 400 plots in facets nothing else counts
abbrev pub PanelsNext : Type 0
PanelsNext = (g : VgSpec) (top : Opened) (stores : Values) (params : Valued) (sources : List Dataset) (names : Names) (n : ℕ)
    → names_at_top stores params sources top.object ≡ Some names
    → plots_in_facets sources top.marks false (is_some top.object.layout) names ≡ Some n
    → nat_lt most_panels n ≡ true → drawn_from g top stores params sources ≡ Panels (min n (2 ^ 64 - 1))

-- all laws
pub record ChartLaws : Type 0 where
  pub top : TopSettles
  pub no_panels : NoGroupsNoPanels
  pub lists : ListsFirst
  pub panels : PanelsNext
