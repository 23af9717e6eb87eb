-- How many plots stand in facets.
use Rattle.std.specs.Prelude.{◌≡◌, refl, ℕ, ◌+◌, ◌&&◌, ◌||◌, Bool, true, false, Option, Some, None, List, [], ◌∷◌, map, length}
use Rattle.std.specs.Prelude.{is_some, is_none, codes, if◌then◌else◌}
use Rattle.std.specs.List.{sum}
use Rattle.fixed_num.specs.Ranges.{◌>>=◌, all_found}
use Rattle.cell_value.specs.State.{Dataset}
use Rattle.expr_eval.specs.Plain.{no_values}
use Rattle.vega_lists.specs.Scopes.{no_lists, with_list}
use Rattle.vega_copies.specs.Outlines.{Object, Marks, NoMarks, AMark, AGroup, bare, a_symbol}
use Rattle.vega_copies.specs.Scopes.{Names, outermost}
use Rattle.plain_facets.specs.Facets.{four_rows}
use Rattle.vega_copies.specs.Facets.{copies_of, by}
use Rattle.vega_copies.specs.CopyNames.{names_in_copy}

-- whether an object is a plot: it stands under a layout, and has none of its own
abbrev pub is_plot : Bool → Object → Bool
is_plot in_grid o = in_grid && is_none o.layout

-- how many of some copies of a group are plots in facets
abbrev pub plots_among : Bool → Bool → Object → List ℕ → ℕ
plots_among in_facet in_grid o copies = if in_facet && is_plot in_grid o then length copies else 0

-- How many plots stand in facets: those that are copies of a faceted group, or stand in one. The marks are those of an object that is in a
-- facet or not, and has a layout or not, where names stand for lists. None where a data set overflows.
abbrev pub plots_in_facets : List Dataset → Marks → Bool → Bool → Names → Option ℕ
plots_in_facets sources NoMarks in_facet in_grid names = Some 0
plots_in_facets sources (AMark unit mark others) in_facet in_grid names = plots_in_facets sources others in_facet in_grid names
plots_in_facets sources (AGroup o inside others) in_facet in_grid names = do
  deeper ← all_found (map (λ copy. names_in_copy sources names o copy >>= λ here.
      plots_in_facets sources inside (in_facet || is_some o.facet) (is_some o.layout) here) (copies_of names.lists o))
  rest ← plots_in_facets sources others in_facet in_grid names
  Some (plots_among (in_facet || is_some o.facet) in_grid o deeper + sum deeper + rest)

-- The rule at work.

-- where `t` stands for four rows with three cells in `a`
abbrev four_listed : Names
four_listed = record (outermost no_values) { lists = with_list (codes "t") four_rows no_lists }

-- a group with a copy for each cell of `a`, and these marks in it
abbrev a_faceted : Object → Marks → Marks
a_faceted o inside = AGroup (record o { facet = Some (by (codes "a" ∷ []) None) }) inside NoMarks

abbrev a_grid : Object
a_grid = record bare { layout = Some (record { padding = None; columns = None }) }

abbrev some_mark : Marks
some_mark = AMark 0 a_symbol NoMarks

-- three copies beside a plot, each with a mark; three grids of two plots each; the same of no rows; three copies in a plot, which are none
plots_of_three_cells : (plots_in_facets [] (AGroup bare some_mark (a_faceted bare some_mark)) false true four_listed ≡ Some 3)
    × (plots_in_facets [] (a_faceted a_grid (AGroup bare some_mark (AGroup bare NoMarks NoMarks))) false true four_listed ≡ Some 6)
    × (plots_in_facets [] (a_faceted bare some_mark) false true (outermost no_values) ≡ Some 0)
    × (plots_in_facets [] (a_faceted bare some_mark) false false four_listed ≡ Some 0)
plots_of_three_cells = (refl, refl, refl, refl)
