-- The normal form of a specification: the channels of a layer stand in its units, a line with points is a layer of both, and a unit whose
-- channels part its rows stands in a faceted view. Nothing else changes.
use Rattle.std.specs.Prelude.{◌≡◌, Option, Some, None, List, [], ◌∷◌, map}
use Rattle.std.specs.Option.{option_map_or}
use Rattle.vl_spec.specs.declared.channels.ChannelOf.{ChannelOf}
use Rattle.vl_spec.specs.declared.marks.Mark.{Mark}
use Rattle.vl_spec.specs.declared.marks.Mark.TheVariants as mark
use Rattle.vl_spec.specs.declared.marks.MarkDefinition.{MarkDefinition}
use Rattle.vl_spec.specs.declared.spec.VlSpec.{VlSpec}
use Rattle.vl_spec.specs.declared.views.Facet.{Facet}
use Rattle.vl_spec.specs.declared.views.Faceted.{Faceted, Faceted-F, roll-Faceted, fold-Faceted}
use Rattle.vl_spec.specs.declared.views.Joined.{Joined, Joined-F, roll-Joined, fold-Joined}
use Rattle.vl_spec.specs.declared.views.Layer.{Layer, Layer-F, roll-Layer, fold-Layer}
use Rattle.vl_spec.specs.declared.views.Unit.{Unit}
use Rattle.vl_spec.specs.declared.views.View.{View, View-F, fold-View}
use Rattle.vl_spec.specs.declared.views.ViewKind.{ViewKind, ViewKind-F, fold-ViewKind}
use Rattle.vl_spec.specs.declared.views.ViewKind.TheVariants as kind
use Rattle.vl_spec.specs.declared.views.ViewKind.TheOpen as level
use Rattle.vl_normalize.specs.declared.heads.Head.{Head}
use Rattle.vl_normalize.specs.Channels.{channels_in, with_around}
use Rattle.vl_normalize.specs.Facets.{facet_of, facet_spacing}
use Rattle.vl_normalize.specs.Marks.{used, pointed, line_of, points_of}
use Rattle.vl_normalize.specs.Heads.{head_in, view_of, no_head, outer_head, inner_head}

-- a mark with channels
abbrev pub unit_of : Option Mark → List ChannelOf → ViewKind
unit_of mark channels = kind.Unit (record { mark = mark; encoding = Some (record { channels = channels }) })

-- a mark with those of some channels that it has a use for
abbrev pub unit_with : Option Mark → List ChannelOf → ViewKind
unit_with mark channels = unit_of mark (used mark channels)

-- the same as a view of its own
abbrev pub part_with : MarkDefinition → List ChannelOf → View
part_with d channels = view_of no_head (unit_with (Some (mark.Definition d)) channels)

-- a line and its points above it
abbrev pub line_with_points : List ChannelOf → MarkDefinition → ViewKind
line_with_points channels d =
    kind.Layer (roll-Layer (record { layer = part_with (line_of d) channels ∷ part_with (points_of d) channels ∷ []; encoding = None }))

-- a mark with some channels: a line with points is a layer of two
abbrev pub mark_kind : Option Mark → List ChannelOf → ViewKind
mark_kind mark channels = option_map_or (line_with_points channels) (pointed mark) (unit_with mark channels)

-- a view parted by a facet, and what stays inside. The number of columns stays with the facet's field, and is read there.
abbrev pub faceted_by : Head → ViewKind → Facet → View
faceted_by head inside facet = view_of (outer_head head) (kind.Facet (roll-Faceted (record {
  facet = facet;
  columns = None;
  spacing = facet_spacing facet;
  spec = view_of (inner_head head) inside;
})))

-- a unit with all of its channels
abbrev pub unit_form : Option Mark → List ChannelOf → Head → View
unit_form mark channels head =
    option_map_or (faceted_by head (mark_kind mark channels)) (facet_of channels) (view_of head (mark_kind mark channels))

-- what something gives among the channels of the layers round it
abbrev pub Around : Type 0 → Type 0
Around A = List ChannelOf → A

-- a kind of view gives a view once the rest of the view is known
abbrev pub KindForm : Type 0
KindForm = Around (Head → View)

abbrev pub kind_here : ViewKind-F KindForm (Around Faceted) (Around Joined) (Around Layer) (Around View) → KindForm
kind_here (level.Unit unit) around head = unit_form unit.mark (with_around (channels_in unit.encoding) around) head
kind_here (level.Layer layer) around head = view_of head (kind.Layer (layer around))
kind_here (level.Facet faceted) around head = view_of head (kind.Facet (faceted around))
kind_here (level.Joined joined) around head = view_of head (kind.Joined (joined around))

abbrev pub faceted_here : Faceted-F KindForm (Around Faceted) (Around Joined) (Around Layer) (Around View) → Around Faceted
faceted_here f around = roll-Faceted (record { facet = f.facet; columns = f.columns; spacing = f.spacing; spec = f.spec around })

abbrev pub joined_here : Joined-F KindForm (Around Faceted) (Around Joined) (Around Layer) (Around View) → Around Joined
joined_here j around =
    roll-Joined (record { joining = j.joining; columns = j.columns; spacing = j.spacing; views = map (λ (view : Around View). view around) j.views })

-- the channels of a layer go on inside it, and it keeps none
abbrev pub layer_here : Layer-F KindForm (Around Faceted) (Around Joined) (Around Layer) (Around View) → Around Layer
layer_here l around = roll-Layer (record {
  layer = map (λ (view : Around View). view (with_around (channels_in l.encoding) around)) l.layer;
  encoding = None;
})

abbrev pub view_here : View-F KindForm (Around Faceted) (Around Joined) (Around Layer) (Around View) → Around View
view_here v around = v.kind around (head_in v)

-- the normal form of a view, where these are the channels of the layers round it
abbrev pub normal_view : View → Around View
normal_view = fold-View KindForm (Around Faceted) (Around Joined) (Around Layer) (Around View) kind_here faceted_here joined_here layer_here view_here

abbrev pub normal_kind : ViewKind → KindForm
normal_kind = fold-ViewKind KindForm (Around Faceted) (Around Joined) (Around Layer) (Around View) kind_here faceted_here joined_here layer_here view_here

abbrev pub normal_layer : Layer → Around Layer
normal_layer = fold-Layer KindForm (Around Faceted) (Around Joined) (Around Layer) (Around View) kind_here faceted_here joined_here layer_here view_here

abbrev pub normal_faceted : Faceted → Around Faceted
normal_faceted = fold-Faceted KindForm (Around Faceted) (Around Joined) (Around Layer) (Around View) kind_here faceted_here joined_here layer_here view_here

abbrev pub normal_joined : Joined → Around Joined
normal_joined = fold-Joined KindForm (Around Faceted) (Around Joined) (Around Layer) (Around View) kind_here faceted_here joined_here layer_here view_here

-- the normal form of a specification
abbrev pub normal_form : VlSpec → VlSpec
normal_form s = record s { view = normal_view s.view [] }

-- a specification in normal form
abbrev pub IsNormal : VlSpec → Type 0
IsNormal s = normal_form s ≡ s

-- Each normal form is in normal form.
abbrev pub NormalFormsAreNormal : Type 0
NormalFormsAreNormal = (s : VlSpec) → IsNormal (normal_form s)
