-- The selections of a chart: the parameters that have a `select`, in the order of the text. One concerns the units below the views that it names, and
-- without names those below the view that has it. It keeps its `fields`, or else the fields of the channels that it names, or else
-- `_vgsid_`; of an aggregated unit all names of its grouping in place of that. The field of a channel is the name of its cells in the unit's rows; an
-- interval keeps of bins the field itself. `row`, `column` and `facet` mean that field of the innermost facet which has one, and `detail` all of its. A
-- point keeps what it keeps on a click and toggles it with shift; an interval keeps two ends of each channel that it names (one that it names twice
-- counts once), without names of x and y as far as they show a field. A double click clears both. A drag inverts the scales of these channels in the plot
-- in which it is made: those of the first unit there that is concerned.
use Rattle.std.specs.Prelude.{◌≡◌, refl, ℕ, ◌==◌, ◌&&◌, ◌||◌, Bool, true, false, Option, Some, None, List, [], ◌∷◌, codes, find, map, bytes_eq}
use Rattle.std.specs.Prelude.{option_map, option_to_list, unwrap_or, if◌then◌else◌}
use Rattle.std.specs.Option.{option_and_then, option_map_or, option_or}
use Rattle.std.specs.List.{enumerate_from, filter_map, flat_map, fold, list_any}
use Rattle.selection_events.specs.declared.selection.DragOf.{DragOf}
use Rattle.selection_events.specs.declared.selection.SelectionOf.{SelectionOf}
use Rattle.vl_normalize.specs.declared.codes.TheConstants.{X, Y, ROW, COLUMN, FACET}
use Rattle.vl_spec.specs.declared.channels.Channel.{Channel}
use Rattle.vl_spec.specs.declared.channels.ChannelKind.{ChannelKind}
use Rattle.vl_spec.specs.declared.channels.ChannelKind.TheVariants as several
use Rattle.vl_spec.specs.declared.channels.ChannelOf.{ChannelOf}
use Rattle.vl_spec.specs.declared.definitions.Definition.{Definition}
use Rattle.vl_spec.specs.declared.params.ParamKind.{ParamKind}
use Rattle.vl_spec.specs.declared.params.ParamKind.TheVariants as kind
use Rattle.vl_spec.specs.declared.params.ParamOf.{ParamOf}
use Rattle.vl_spec.specs.declared.params.Select.{Select}
use Rattle.vl_spec.specs.declared.params.Select.TheVariants as select
use Rattle.vl_spec.specs.declared.params.SelectType.{SelectType}
use Rattle.vl_spec.specs.declared.params.SelectType.TheVariants as type
use Rattle.vl_spec.specs.declared.params.Selection.{Selection}
use Rattle.vl_spec.specs.declared.views.CrossFacet.{CrossFacet}
use Rattle.vl_spec.specs.declared.views.Facet.{Facet}
use Rattle.vl_spec.specs.declared.views.Facet.TheVariants as facet
use Rattle.vl_compose.specs.Definitions.{definitions_at, has_own_scale}
use Rattle.vl_compose.specs.Rounds.{KindAt, AUnit, ALayer, AFacet, AJoined, ViewAt, Round}
use Rattle.vl_compose.specs.Sharing.{is_filled}
use Rattle.vl_compose.specs.Units.{UnitAt}
use Rattle.scale_infer.specs.Types.{is_binned}
use Rattle.unit_plan.specs.declared.seen.ScaleSeen.{ScaleSeen}
use Rattle.unit_plan.specs.Cells.{cell_of}
use Rattle.unit_plan.specs.Groups.{group_names}
use Rattle.unit_plan.specs.Seen.{seen_at}
use Rattle.plan_kit.specs.declared.plots.PlotPlan.{PlotPlan}
use Rattle.plan_kit.specs.declared.scales.ScalePlan.{ScalePlan}
use Rattle.plan_kit.specs.declared.selections.DragPlan.{DragPlan}
use Rattle.plan_kit.specs.declared.selections.SelectionPlan.{SelectionPlan}
use Rattle.chart_plan.specs.Grids.{shown_by}
use Rattle.guide_infer.specs.Once.{each_once}
use Rattle.chart_plan.specs.Orders.{field_in, name_of}
use Rattle.chart_plan.specs.Plots.{is_in, with_number}
use Rattle.chart_plan.specs.Scales.{seen_by}

-- ---- what a selection says

abbrev pub type_in : Select → SelectType
type_in (select.Type t) = t
type_in (select.Definition d) = d.type_

abbrev pub is_interval : SelectType → Bool
is_interval type.Point = false
is_interval type.Interval = true

-- a list that isn't empty
abbrev pub if_some : {A : Type 0} → List A → Option (List A)
if_some xs = if is_filled xs then Some xs else None

-- the fields that it names, and the channels
abbrev pub fields_said : Select → Option (List (List ℕ))
fields_said (select.Type t) = None
fields_said (select.Definition d) = option_and_then if_some d.fields

abbrev pub channels_said : Select → Option (List ℕ)
channels_said (select.Type t) = None
channels_said (select.Definition d) = option_and_then if_some d.encodings

-- ---- units that it concerns

abbrev pub is_named : List (List ℕ) → ViewAt → Bool
is_named names v = option_map_or (λ name. list_any (λ n. bytes_eq n name) names) v.name false

abbrev pub has_param : ℕ → ViewAt → Bool
has_param number v = list_any (λ n. n == number) v.params

-- whether a selection, the parameter of a number, concerns a unit
abbrev pub concerns : ℕ → Selection → UnitAt → Bool
concerns number s unit =
    option_map_or (λ names. list_any (is_named names) unit.round) s.views (list_any (has_param number) unit.round)

-- ---- fields of channels

-- the definitions of a channel that has no scale
abbrev pub all_of : ChannelKind → List Definition
all_of (several.One c) = shown_by c ∷ []
all_of (several.Several cs) = map shown_by cs

abbrev pub unscaled : List ChannelOf → ℕ → List Definition
unscaled channels code = option_map_or (λ (c : ChannelOf). all_of c.shows) (find (λ (c : ChannelOf). c.channel == code) channels) []

-- the field of a facet that parts by it
abbrev pub crossed_by : ℕ → CrossFacet → Option Channel
crossed_by code cross = if code == ROW then cross.row else (if code == COLUMN then cross.column else None)

abbrev pub parted_by : ℕ → Facet → Option Channel
parted_by code (facet.One c) = if code == FACET then Some c else None
parted_by code (facet.Cross cross) = crossed_by code cross

abbrev pub kind_parted : ℕ → KindAt → Option Channel
kind_parted code (AUnit unit) = None
kind_parted code (ALayer encoding) = None
kind_parted code (AFacet f) = parted_by code f.facet
kind_parted code (AJoined joined) = None

-- that of the innermost facet which has one
abbrev pub or_further_out : ℕ → Option Channel → ViewAt → Option Channel
or_further_out code outer v = option_or (kind_parted code v.kind) outer

abbrev pub facet_channel : ℕ → Round → Option Channel
facet_channel code round = fold (or_further_out code) None round

abbrev pub is_parting : ℕ → Bool
is_parting code = code == ROW || (code == COLUMN || code == FACET)

-- the first of several alone
abbrev pub first_alone : List Definition → List Definition
first_alone [] = []
first_alone (first ∷ others) = first ∷ []

-- the definitions of a channel that parts no rows: the first that has a scale, or all of one without a scale
abbrev pub own_definitions : ℕ → UnitAt → List Definition
own_definitions code unit =
    if has_own_scale code then first_alone (definitions_at unit.channels code) else unscaled unit.channels code

-- the definitions of a channel of a unit whose fields a selection keeps
abbrev pub kept_definitions : ℕ → UnitAt → List Definition
kept_definitions code unit =
    if is_parting code then option_to_list (option_map shown_by (facet_channel code unit.round)) else own_definitions code unit

-- the name under which a definition's field is kept
abbrev pub kept_name : Bool → ℕ → Definition → Option (List ℕ)
kept_name interval code d = if interval && is_binned d then field_in d else name_of (cell_of code d)

abbrev pub channel_names : Bool → UnitAt → ℕ → List (List ℕ)
channel_names interval unit code = filter_map (kept_name interval code) (kept_definitions code unit)

abbrev pub names_of_channels : Bool → UnitAt → List ℕ → List (List ℕ)
names_of_channels interval unit channels = flat_map (channel_names interval unit) channels

-- the first name
abbrev pub first_name : List (List ℕ) → Option (List ℕ)
first_name [] = None
first_name (name ∷ others) = Some name

-- ---- what a point keeps

abbrev pub id_names : List (List ℕ)
id_names = codes "_vgsid_" ∷ []

-- what is kept of a unit where nothing is said
abbrev pub default_names : UnitAt → List (List ℕ)
default_names unit = unwrap_or (group_names unit) id_names

unfoldable pub unit_names : Select → UnitAt → List (List ℕ)
unit_names s unit = option_map_or (names_of_channels false unit) (channels_said s) (default_names unit)

-- what is kept where this is the first unit that is concerned
abbrev pub point_names : Select → Option UnitAt → List (List ℕ)
point_names s unit = unwrap_or (fields_said s) (option_map_or (unit_names s) unit id_names)

abbrev pub clicked : Select → Option UnitAt → Option (List (List ℕ))
clicked s unit = if is_interval (type_in s) then None else Some (each_once (point_names s unit))

-- ---- what an interval keeps

abbrev pub both_places : List ℕ
both_places = X ∷ Y ∷ []

-- channels, each where it stands first
abbrev pub channels_once : List ℕ → List ℕ
channels_once channels = fold with_number [] channels

abbrev pub drag_channels : Select → List ℕ
drag_channels s = if is_interval (type_in s) then option_map_or channels_once (channels_said s) both_places else []

abbrev pub place_word : ℕ → Option (List ℕ)
place_word code = if code == X then Some (codes "x") else (if code == Y then Some (codes "y") else None)

abbrev pub drag_with : List ℕ → List ℕ → DragOf
drag_with field channel = record { channel = channel; field = field }

unfoldable pub drag_of : UnitAt → ℕ → Option DragOf
drag_of unit code = option_and_then (λ field. option_map (drag_with field) (place_word code)) (first_name (channel_names true unit code))

abbrev pub dragged : Select → Option UnitAt → List DragOf
dragged s unit = option_map_or (λ (u : UnitAt). filter_map (drag_of u) (drag_channels s)) unit []

-- ---- selections

-- the numbers of the units that are concerned, and the first of them
abbrev pub number_if : ℕ → Selection → UnitAt → Option ℕ
number_if number s unit = if concerns number s unit then Some unit.number else None

abbrev pub units_concerned : ℕ → Selection → List UnitAt → List ℕ
units_concerned number s units = filter_map (number_if number s) units

abbrev pub first_concerned : ℕ → Selection → List UnitAt → Option UnitAt
first_concerned number s units = find (concerns number s) units

-- what a selection of this name keeps over these units: whatever a click keeps is also toggled with shift
abbrev pub kept_with : List ℕ → List ℕ → Select → Option UnitAt → SelectionOf
kept_with name units s first = record {
  name = name;
  units = units;
  click = clicked s first;
  toggle = clicked s first;
  clears = true;
  drag = dragged s first;
}

-- ---- drags

-- a drag in a plot along a channel of a unit there
abbrev pub drag_on : ℕ → ℕ → ScaleSeen → DragPlan
drag_on plot code scale = record { plot = plot; channel = code; scale = scale.number }

abbrev pub drag_in : ℕ → List ScaleSeen → ℕ → Option DragPlan
drag_in plot seen code = option_map (drag_on plot code) (seen_at seen code)

abbrev pub unit_drags : List ScalePlan → Select → ℕ → UnitAt → List DragPlan
unit_drags scales s plot unit = filter_map (drag_in plot (seen_by scales unit.number)) (drag_channels s)

abbrev pub is_concerned_in : ℕ → Selection → ℕ → UnitAt → Bool
is_concerned_in number s plot unit = is_in plot unit && concerns number s unit

abbrev pub plot_drags : List ScalePlan → List UnitAt → ℕ → Selection → PlotPlan → List DragPlan
plot_drags scales units number s plot =
    option_map_or (unit_drags scales s.select plot.number) (find (is_concerned_in number s plot.number) units) []

-- the selection of a number among the parameters
abbrev pub selection_plan : List UnitAt → List ScalePlan → List PlotPlan → ℕ → List ℕ → Selection → SelectionPlan
selection_plan units scales plots number name s = record {
  kept = kept_with name (units_concerned number s units) s.select (first_concerned number s units);
  drags = flat_map (plot_drags scales units number s) plots;
}

abbrev pub plan_by : List UnitAt → List ScalePlan → List PlotPlan → ℕ → List ℕ → ParamKind → Option SelectionPlan
plan_by units scales plots number name (kind.Value cell) = None
plan_by units scales plots number name (kind.Expr e) = None
plan_by units scales plots number name (kind.Select s) = Some (selection_plan units scales plots number name s)

abbrev pub plan_if : List UnitAt → List ScalePlan → List PlotPlan → ℕ × ParamOf → Option SelectionPlan
plan_if units scales plots param = plan_by units scales plots param.0 param.1.name param.1.kind

abbrev pub selections_of : List UnitAt → List ScalePlan → List PlotPlan → List ParamOf → List SelectionPlan
selections_of units scales plots params = filter_map (plan_if units scales plots) (enumerate_from 0 params)

-- The rules at work.

channels_named_twice : channels_once (X ∷ Y ∷ X ∷ Y ∷ []) ≡ X ∷ Y ∷ []
channels_named_twice = refl
