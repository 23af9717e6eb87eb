-- The faults of scales and of selections, view by view.
use Rattle.std.specs.Prelude.{ℕ, Option, List, [], ◌++◌, codes, flat_map, map, slice_get, if◌then◌else◌}
use Rattle.std.specs.Option.{option_map_or}
use Rattle.std.specs.List.{enumerate_from}
use Rattle.json_exact.specs.declared.json.Json.{Json}
use Rattle.spec_schema.specs.declared.fault.Fault.{Fault}
use Rattle.vl_spec.specs.declared.channels.Channel.{Channel, Channel-F, fold-Channel}
use Rattle.vl_spec.specs.declared.channels.ChannelKind.{ChannelKind}
use Rattle.vl_spec.specs.declared.channels.ChannelKind.TheVariants as channel_kind
use Rattle.vl_spec.specs.declared.channels.ChannelOf.{ChannelOf}
use Rattle.vl_spec.specs.declared.channels.Condition.{Condition-F}
use Rattle.vl_spec.specs.declared.channels.Conditions.{Conditions-F}
use Rattle.vl_spec.specs.declared.channels.Conditions.TheOpen as level
use Rattle.vl_spec.specs.declared.channels.Encoding.{Encoding}
use Rattle.vl_spec.specs.declared.params.ParamKind.{ParamKind}
use Rattle.vl_spec.specs.declared.params.ParamKind.TheVariants as param_kind
use Rattle.vl_spec.specs.declared.params.ParamOf.{ParamOf}
use Rattle.vl_spec.specs.declared.params.Selection.{Selection}
use Rattle.vl_spec.specs.declared.spec.VlSpec.{VlSpec}
use Rattle.vl_normalize.specs.Channels.{channels_in}
use Rattle.vl_compose.specs.Definitions.{has_own_scale}
use Rattle.vl_names.specs.Channels.{channel_name}
use Rattle.vl_names.specs.Views.{ViewIn, views_of}
use Rattle.vl_trails.specs.declared.fault.RuleFault.{RuleFault}
use Rattle.vl_trails.specs.Faults.{wrong_if}
use Rattle.vl_trails.specs.Trails.{Trail, to_item, to_member}
use Rattle.vl_rules.specs.declared.offers.Offer.{Offer}
use Rattle.vl_rules.specs.Offers.{offers_of}
use Rattle.vl_rules.specs.Resting.{select_at}
use Rattle.vl_rules.specs.Scales.{definition_faults}
use Rattle.vl_rules.specs.Selections.{asking_of, below, concerned, is_wrong_for}

-- what has faults, by the steps that lead to it
abbrev pub Faulty : Type 0
Faulty = Trail → List RuleFault

-- those of the items of a list, of which the first has this number
abbrev pub items_from : ℕ → List Faulty → Faulty
items_from number items trail = flat_map (λ (item : ℕ × Faulty). item.1 (to_item trail item.0)) (enumerate_from number items)

-- those of the items of a list
abbrev pub item_faults : List Faulty → Faulty
item_faults = items_from 0

-- ---- scales: those of a channel's own definition, and those of its conditions

abbrev pub channel_here : Json → ℕ → Channel-F Faulty Faulty Faulty → Faulty
channel_here tree code c trail =
    definition_faults tree code c.definition trail ++ option_map_or (λ (f : Faulty). f (to_member trail (codes "condition"))) c.condition []

abbrev pub conditions_here : Conditions-F Faulty Faulty Faulty → Faulty
conditions_here (level.One condition) = condition
conditions_here (level.Several conditions) = item_faults conditions

abbrev pub condition_here : Condition-F Faulty Faulty Faulty → Faulty
condition_here c = c.shows

abbrev pub channel_faults : Json → ℕ → Channel → Faulty
channel_faults tree code = fold-Channel Faulty Faulty Faulty conditions_here (channel_here tree code) condition_here

-- those of what a channel shows; a list stands only where there is no scale
abbrev pub shown_faults : Json → ℕ → ChannelKind → Faulty
shown_faults tree code (channel_kind.One c) = channel_faults tree code c
shown_faults tree code (channel_kind.Several cs) = λ trail. []

-- those of one of the channels of an encoding; channels without a scale of their own aren't tested
abbrev pub scale_faults_of : Json → ChannelOf → Faulty
scale_faults_of tree c trail = if has_own_scale c.channel then shown_faults tree c.channel c.shows (to_member trail (channel_name c.channel)) else []

-- those of the channels of an encoding
abbrev pub channels_faults : Json → List ChannelOf → Faulty
channels_faults tree channels trail = flat_map (λ c. scale_faults_of tree c trail) channels

-- those of the channels of a view
abbrev pub encoding_faults : Json → List ChannelOf → Faulty
encoding_faults tree channels trail = channels_faults tree channels (to_member trail (codes "encoding"))

-- ---- selections

-- the fault of a parameter, if it is a selection that is wrong for the units that it concerns; its place hangs on the first fault of the form
abbrev pub selection_fault : Json → Option Fault → List Offer → List Offer → Selection → Faulty
selection_fault tree first offers inside s trail =
    wrong_if (is_wrong_for (asking_of s.select) (concerned offers inside s)) (select_at tree first trail)

abbrev pub kind_fault : Json → Option Fault → List Offer → List Offer → ParamKind → Faulty
kind_fault tree first offers inside (param_kind.Value cell) trail = []
kind_fault tree first offers inside (param_kind.Expr e) trail = []
kind_fault tree first offers inside (param_kind.Select s) trail = selection_fault tree first offers inside s trail

-- that of the parameter of a number
abbrev pub param_fault : Json → Option Fault → List ParamOf → List Offer → List Offer → ℕ → Faulty
param_fault tree first params offers inside number trail =
    option_map_or (λ (p : ParamOf). kind_fault tree first offers inside p.kind trail) (slice_get params number) []

-- those of the parameters of a list, by their numbers, where these units stand below the view that has them
abbrev pub params_faults : Json → Option Fault → List ParamOf → List Offer → List Offer → List ℕ → Faulty
params_faults tree first params offers inside numbers = item_faults (map (param_fault tree first params offers inside) numbers)

-- those of the parameters of a view
abbrev pub param_faults : Json → Option Fault → List ParamOf → List Offer → List ℕ → Faulty
param_faults tree first params offers numbers trail =
    params_faults tree first params offers (below trail offers) numbers (to_member trail (codes "params"))

-- ---- views

-- the faults of the channels that a view has itself
abbrev pub own_faults : Json → Option Encoding → Faulty
own_faults tree encoding trail = encoding_faults tree (channels_in encoding) trail

-- those of a view: of its parameters, and of its channels
abbrev pub faults_of_view : Json → Option Fault → List ParamOf → List Offer → ViewIn → List RuleFault
faults_of_view tree first params offers v = param_faults tree first params offers v.params v.trail ++ own_faults tree v.encoding v.trail

-- those of all views of a specification, where these are its units
abbrev pub faults_of_views : Json → Option Fault → List Offer → VlSpec → List RuleFault
faults_of_views tree first offers s = flat_map (faults_of_view tree first s.params offers) (views_of s)

abbrev pub view_faults : Json → Option Fault → VlSpec → List RuleFault
view_faults tree first s = faults_of_views tree first (offers_of s) s
