-- What stands round a unit: where it is found, its rows, its facets and its plot.
use Rattle.std.specs.Prelude.{ℕ, Bool, true, false, Option, None, List, [], ◌∷◌, ◌++◌, codes, filter, flat_map, map, unwrap_or, if◌then◌else◌}
use Rattle.std.specs.Fmt.{decimal}
use Rattle.std.specs.List.{filter_map, last_or, list_any}
use Rattle.vl_spec.specs.declared.spec.VlSpec.{VlSpec}
use Rattle.vl_spec.specs.declared.transforms.Transform.{Transform}
use Rattle.vl_spec.specs.declared.views.Joining.{Joining}
use Rattle.vl_spec.specs.declared.views.Joining.TheVariants as joining
use Rattle.vl_compose.specs.declared.views.UnitView.{UnitView}
use Rattle.vl_compose.specs.Rounds.{KindAt, AUnit, ALayer, AFacet, AJoined, ViewAt, Round}
use Rattle.vl_compose.specs.Units.{UnitAt, units_of}

-- the member that holds joined views
abbrev pub joined_word : Joining → List ℕ
joined_word joining.Row = codes "/hconcat/"
joined_word joining.Column = codes "/vconcat/"
joined_word joining.Grid = codes "/concat/"

-- the words of a JSON Pointer (RFC 6901) from a view to the view in it of this number
abbrev pub step_of : KindAt → ℕ → List ℕ
step_of (AUnit unit) child = []
step_of (ALayer encoding) child = codes "/layer/" ++ decimal child
step_of (AFacet facet) child = codes "/spec"
step_of (AJoined joined) child = joined_word joined.joining ++ decimal child

-- the words from a view on to the last of those in it that follow
abbrev pub path_from : KindAt → List ViewAt → List ℕ
path_from outer [] = []
path_from outer (inner ∷ others) = step_of outer inner.child ++ path_from inner.kind others

-- the JSON Pointer of the view with which a round ends, from the top on
abbrev pub path_of : Round → List ℕ
path_of [] = []
path_of (top ∷ inside) = path_from top.kind inside

-- the name of the source of its rows: the innermost view that names one gives it
abbrev pub source_of : Round → Option (List ℕ)
source_of round = last_or None (filter_map (λ (v : ViewAt). v.data_) round)

-- the transforms of the views round it, from the outermost in, and its own behind them
abbrev pub transforms_of : Round → List Transform
transforms_of round = flat_map (λ (v : ViewAt). unwrap_or v.transform []) round

-- whether a view is faceted
abbrev pub is_faceted : KindAt → Bool
is_faceted (AUnit unit) = false
is_faceted (ALayer encoding) = false
is_faceted (AFacet facet) = true
is_faceted (AJoined joined) = false

-- the facets round it, the outer before the inner
abbrev pub facets_of : Round → List ViewAt
facets_of round = filter (λ (v : ViewAt). is_faceted v.kind) round

-- whether the views in a view are plots of their own
abbrev pub parts_plots : KindAt → Bool
parts_plots (AUnit unit) = false
parts_plots (ALayer encoding) = false
parts_plots (AFacet facet) = true
parts_plots (AJoined joined) = true

-- the views behind the last that has a property: all where none has it
abbrev pub behind : (ViewAt → Bool) → Round → Round
behind has [] = []
behind has (v ∷ others) = if list_any has (v ∷ others) then behind has others else v ∷ others

-- the number of the first of some views
abbrev pub first_number : Round → ℕ
first_number [] = 0
first_number (v ∷ others) = v.number

-- the plot in which a unit is drawn: the unit itself, or the outermost layer round it within the innermost facet and the innermost joined views
abbrev pub plot_of : Round → ℕ
plot_of round = first_number (behind (λ (v : ViewAt). parts_plots v.kind) round)

-- the unit views of a specification, each with its path
abbrev pub unit_view : UnitAt → UnitView
unit_view unit = record { number = unit.number; path = path_of unit.round }

abbrev pub views_of : VlSpec → List UnitView
views_of s = map unit_view (units_of s)
