-- A normal form is its own.
use Rattle.std.proofs.Common.{◌≡◌, Option, Some, None, List, [], ◌∷◌, map, refl, ap, sym, ◌∙◌, subst}
use Rattle.std.specs.Option.{option_map_or}
use Rattle.vl_spec.specs.declared.channels.ChannelOf.{ChannelOf}
use Rattle.vl_spec.specs.declared.marks.Mark.{Mark}
use Rattle.vl_spec.specs.declared.marks.Mark.TheVariants as mark
use Rattle.vl_spec.specs.declared.marks.MarkDefinition.{MarkDefinition}
use Rattle.vl_spec.specs.declared.views.Facet.{Facet}
use Rattle.vl_spec.specs.declared.views.Faceted.{Faceted, Faceted-F, roll-Faceted, map-Faceted, fold-roll-Faceted}
use Rattle.vl_spec.specs.declared.views.Joined.{Joined, Joined-F, roll-Joined, map-Joined, fold-roll-Joined}
use Rattle.vl_spec.specs.declared.views.Layer.{Layer, Layer-F, roll-Layer, map-Layer, fold-roll-Layer}
use Rattle.vl_spec.specs.declared.views.Unit.{Unit}
use Rattle.vl_spec.specs.declared.views.View.{View, View-F, roll-View, map-View, fold-roll-View, ind-View}
use Rattle.vl_spec.specs.declared.views.ViewKind.{ViewKind, ViewKind-F, roll-ViewKind, map-ViewKind, fold-roll-ViewKind}
use Rattle.vl_spec.specs.declared.views.ViewKind.TheVariants as kind
use Rattle.vl_spec.specs.declared.views.ViewKind.TheOpen as level
use Rattle.vl_normalize.specs.declared.heads.Head.{Head}
use Rattle.vl_normalize.specs.Channels.{channels_in, with_around}
use Rattle.vl_normalize.specs.Facets.{facet_of, facet_spacing}
use Rattle.vl_normalize.specs.Heads.{head_in, view_of, no_head, outer_head, inner_head}
use Rattle.vl_normalize.specs.Marks.{used, pointed, line_of, points_of, is_used}
use Rattle.vl_normalize.specs.Normal.{unit_of, unit_with, part_with, line_with_points, mark_kind, faceted_by, unit_form, Around, KindForm}
use Rattle.vl_normalize.specs.Normal.{kind_here, faceted_here, joined_here, layer_here, view_here}
use Rattle.vl_normalize.specs.Normal.{normal_view, normal_kind, normal_layer, normal_faceted, normal_joined, NormalFormsAreNormal}
use Rattle.vl_normalize.proofs.ChannelLemmas.{filtered_twice, no_facet, alone, line_is_bare, points_are_bare, pointed_or_not}

-- ---- the normal form, form by form

pub of_view : (head : Head) (k : ViewKind) (around : List ChannelOf) → normal_view (view_of head k) around ≡ normal_kind k around head
of_view head k around = ap (λ (f : Around View). f around)
    (fold-roll-View KindForm (Around Faceted) (Around Joined) (Around Layer) (Around View) kind_here faceted_here joined_here layer_here view_here
    (record {
      name = head.name;
      title = head.title;
      data_ = head.data_;
      transform = head.transform;
      params = head.params;
      width = head.width;
      height = head.height;
      resolve = head.resolve;
      kind = k;
    }))

of_kind : (k : ViewKind-F ViewKind Faceted Joined Layer View) → normal_kind (roll-ViewKind k)
    ≡ kind_here (map-ViewKind ViewKind Faceted Joined Layer View KindForm (Around Faceted) (Around Joined) (Around Layer) (Around View)
    normal_kind normal_faceted normal_joined normal_layer normal_view k)
of_kind k = fold-roll-ViewKind KindForm (Around Faceted) (Around Joined) (Around Layer) (Around View) kind_here faceted_here joined_here layer_here view_here k

pub of_unit : (u : Unit) (around : List ChannelOf) (head : Head)
    → normal_kind (kind.Unit u) around head ≡ unit_form u.mark (with_around (channels_in u.encoding) around) head
of_unit u around head = ap (λ (k : ViewKind). normal_kind k around head) (sym (kind.rolls-Unit u))
    ∙ ap (λ (f : KindForm). f around head) (of_kind (level.Unit u))

pub of_layered : (l : Layer) (around : List ChannelOf) (head : Head)
    → normal_kind (kind.Layer l) around head ≡ view_of head (kind.Layer (normal_layer l around))
of_layered l around head =
    ap (λ (k : ViewKind). normal_kind k around head) (sym (kind.rolls-Layer l)) ∙ ap (λ (f : KindForm). f around head) (of_kind (level.Layer l))

pub of_parted : (f : Faceted) (around : List ChannelOf) (head : Head)
    → normal_kind (kind.Facet f) around head ≡ view_of head (kind.Facet (normal_faceted f around))
of_parted f around head =
    ap (λ (k : ViewKind). normal_kind k around head) (sym (kind.rolls-Facet f)) ∙ ap (λ (g : KindForm). g around head) (of_kind (level.Facet f))

pub of_beside : (j : Joined) (around : List ChannelOf) (head : Head)
    → normal_kind (kind.Joined j) around head ≡ view_of head (kind.Joined (normal_joined j around))
of_beside j around head =
    ap (λ (k : ViewKind). normal_kind k around head) (sym (kind.rolls-Joined j)) ∙ ap (λ (f : KindForm). f around head) (of_kind (level.Joined j))

pub all_views : (around : List ChannelOf) (views : List View)
    → map (λ (view : Around View). view around) (map normal_view views) ≡ map (λ view. normal_view view around) views
all_views around [] = refl
all_views around (v ∷ vs) = ap (λ rest. normal_view v around ∷ rest) (all_views around vs)

pub of_layer : (l : Layer-F ViewKind Faceted Joined Layer View) (around : List ChannelOf) → normal_layer (roll-Layer l) around
    ≡ roll-Layer (record { layer = map (λ view. normal_view view (with_around (channels_in l.encoding) around)) l.layer; encoding = None })
of_layer l around = ap (λ (f : Around Layer). f around)
    (fold-roll-Layer KindForm (Around Faceted) (Around Joined) (Around Layer) (Around View) kind_here faceted_here joined_here layer_here view_here l)
    ∙ ap (λ views. roll-Layer (record { layer = views; encoding = None })) (all_views (with_around (channels_in l.encoding) around) l.layer)

pub of_joined : (j : Joined-F ViewKind Faceted Joined Layer View) (around : List ChannelOf) → normal_joined (roll-Joined j) around
    ≡ roll-Joined (record { joining = j.joining; columns = j.columns; spacing = j.spacing; views = map (λ view. normal_view view around) j.views })
of_joined j around = ap (λ (f : Around Joined). f around)
    (fold-roll-Joined KindForm (Around Faceted) (Around Joined) (Around Layer) (Around View) kind_here faceted_here joined_here layer_here view_here j)
    ∙ ap (λ views. roll-Joined (record { joining = j.joining; columns = j.columns; spacing = j.spacing; views = views })) (all_views around j.views)

pub of_faceted : (f : Faceted-F ViewKind Faceted Joined Layer View) (around : List ChannelOf) → normal_faceted (roll-Faceted f) around
    ≡ roll-Faceted (record { facet = f.facet; columns = f.columns; spacing = f.spacing; spec = normal_view f.spec around })
of_faceted f around = ap (λ (g : Around Faceted). g around)
    (fold-roll-Faceted KindForm (Around Faceted) (Around Joined) (Around Layer) (Around View) kind_here faceted_here joined_here layer_here view_here f)

-- ---- the normal form of a unit

unit_alone : (m : Option Mark) (channels : List ChannelOf) (head : Head) → pointed m ≡ None
    → normal_view (view_of head (unit_with m channels)) [] ≡ view_of head (unit_with m channels)
unit_alone m channels head bare =
    of_view head (unit_with m channels) []
    ∙ of_unit (record { mark = m; encoding = Some (record { channels = used m channels }) }) [] head
    ∙ ap (λ cs. unit_form m cs head) (alone (used m channels))
    ∙ ap (λ facet. option_map_or (faceted_by head (mark_kind m (used m channels))) facet (view_of head (mark_kind m (used m channels)))) (no_facet m channels)
    ∙ ap (λ points. view_of head (option_map_or (line_with_points (used m channels)) points (unit_with m (used m channels)))) bare
    ∙ ap (λ cs. view_of head (unit_of m cs)) (sym (filtered_twice (λ (c : ChannelOf). is_used m c.channel) channels))

layer_alone : (d : MarkDefinition) (channels : List ChannelOf) (head : Head)
    → normal_view (view_of head (line_with_points channels d)) [] ≡ view_of head (line_with_points channels d)
layer_alone d channels head =
    let line : normal_view (part_with (line_of d) channels) [] ≡ part_with (line_of d) channels =
    unit_alone (Some (mark.Definition (line_of d))) channels no_head (line_is_bare d) in
    let points : normal_view (part_with (points_of d) channels) [] ≡ part_with (points_of d) channels =
    unit_alone (Some (mark.Definition (points_of d))) channels no_head (points_are_bare d) in
    let layer : Layer-F ViewKind Faceted Joined Layer View =
    record { layer = part_with (line_of d) channels ∷ part_with (points_of d) channels ∷ []; encoding = None } in
    of_view head (line_with_points channels d) []
    ∙ of_layered (roll-Layer layer) [] head
    ∙ ap (λ l. view_of head (kind.Layer l)) (of_layer layer [])
    ∙ (λ i. view_of head (kind.Layer (roll-Layer (record { layer = line i ∷ points i ∷ []; encoding = None }))))

mark_alone : (m : Option Mark) (channels : List ChannelOf) (head : Head)
    → normal_view (view_of head (mark_kind m channels)) [] ≡ view_of head (mark_kind m channels)
mark_alone m channels head = pointed_or_not m
    (λ points. normal_view (view_of head (option_map_or (line_with_points channels) points (unit_with m channels))) []
    ≡ view_of head (option_map_or (line_with_points channels) points (unit_with m channels)))
    (unit_alone m channels head) (λ d. layer_alone d channels head)

unit_again : (m : Option Mark) (channels : List ChannelOf) (head : Head) → normal_view (unit_form m channels head) [] ≡ unit_form m channels head
unit_again m channels head = by_facet (facet_of channels)
  where
    by_facet : (o : Option Facet) → normal_view (option_map_or (faceted_by head (mark_kind m channels)) o (view_of head (mark_kind m channels))) []
        ≡ option_map_or (faceted_by head (mark_kind m channels)) o (view_of head (mark_kind m channels))
    by_facet None = mark_alone m channels head
    by_facet (Some facet) =
        let faceted : Faceted-F ViewKind Faceted Joined Layer View =
        record { facet = facet; columns = None; spacing = facet_spacing facet; spec = view_of (inner_head head) (mark_kind m channels) } in
        of_view (outer_head head) (kind.Facet (roll-Faceted faceted)) []
        ∙ of_parted (roll-Faceted faceted) [] (outer_head head)
        ∙ ap (λ f. view_of (outer_head head) (kind.Facet f)) (of_faceted faceted [])
        ∙ ap (λ v. view_of (outer_head head) (kind.Facet (roll-Faceted (record { facet = facet; columns = None; spacing = facet_spacing facet; spec = v }))))
        (mark_alone m channels (inner_head head))

-- ---- the law

abbrev SameView : View → Type 0
SameView v = (around : List ChannelOf) → normal_view (normal_view v around) [] ≡ normal_view v around

abbrev SameKind : ViewKind → Type 0
SameKind k = (around : List ChannelOf) (head : Head) → normal_view (normal_kind k around head) [] ≡ normal_kind k around head

abbrev SameLayer : Layer → Type 0
SameLayer l = (around : List ChannelOf) → normal_layer (normal_layer l around) [] ≡ normal_layer l around

abbrev SameFaceted : Faceted → Type 0
SameFaceted f = (around : List ChannelOf) → normal_faceted (normal_faceted f around) [] ≡ normal_faceted f around

abbrev SameJoined : Joined → Type 0
SameJoined j = (around : List ChannelOf) → normal_joined (normal_joined j around) [] ≡ normal_joined j around

-- what is equal to its own normal form keeps that along an equation
again : (v w : View) → v ≡ w → normal_view w [] ≡ w → normal_view v [] ≡ v
again v w e same = ap (λ x. normal_view x []) e ∙ same ∙ sym e

views_again : (inside : List ChannelOf) (views : List ((v : View) × SameView v))
    → map (λ view. normal_view view []) (map (λ view. normal_view view inside) (map (λ e. e.0) views))
    ≡ map (λ view. normal_view view inside) (map (λ e. e.0) views)
views_again inside [] = refl
views_again inside (e ∷ views) = λ i. e.1 inside i ∷ views_again inside views i

kind_step : (y : ViewKind-F ((k : ViewKind) × SameKind k) ((f : Faceted) × SameFaceted f)
    ((j : Joined) × SameJoined j) ((l : Layer) × SameLayer l) ((v : View) × SameView v))
    → SameKind (roll-ViewKind (map-ViewKind _ _ _ _ _ ViewKind Faceted Joined Layer View (λ e. e.0) (λ e. e.0) (λ e. e.0) (λ e. e.0) (λ e. e.0) y))
kind_step (level.Unit u) around head =
    again _ _ (ap (λ (f : KindForm). f around head) (of_kind (level.Unit u))) (unit_again u.mark (with_around (channels_in u.encoding) around) head)
kind_step (level.Layer l) around head =
    let inside : Layer = normal_layer l.0 around in
    again _ (view_of head (kind.Layer inside)) (ap (λ (f : KindForm). f around head) (of_kind (level.Layer l.0)))
    (of_view head (kind.Layer inside) [] ∙ of_layered inside [] head ∙ ap (λ x. view_of head (kind.Layer x)) (l.1 around))
kind_step (level.Facet f) around head =
    let inside : Faceted = normal_faceted f.0 around in
    again _ (view_of head (kind.Facet inside)) (ap (λ (g : KindForm). g around head) (of_kind (level.Facet f.0)))
    (of_view head (kind.Facet inside) [] ∙ of_parted inside [] head ∙ ap (λ x. view_of head (kind.Facet x)) (f.1 around))
kind_step (level.Joined j) around head =
    let inside : Joined = normal_joined j.0 around in
    again _ (view_of head (kind.Joined inside)) (ap (λ (f : KindForm). f around head) (of_kind (level.Joined j.0)))
    (of_view head (kind.Joined inside) [] ∙ of_beside inside [] head ∙ ap (λ x. view_of head (kind.Joined x)) (j.1 around))

layer_step : (y : Layer-F ((k : ViewKind) × SameKind k) ((f : Faceted) × SameFaceted f)
    ((j : Joined) × SameJoined j) ((l : Layer) × SameLayer l) ((v : View) × SameView v))
    → SameLayer (roll-Layer (map-Layer _ _ _ _ _ ViewKind Faceted Joined Layer View (λ e. e.0) (λ e. e.0) (λ e. e.0) (λ e. e.0) (λ e. e.0) y))
layer_step y around =
    let inside : List ChannelOf = with_around (channels_in y.encoding) around in
    let views : List View = map (λ view. normal_view view inside) (map (λ e. e.0) y.layer) in
    let here : normal_layer (roll-Layer (record { layer = map (λ e. e.0) y.layer; encoding = y.encoding })) around
    ≡ roll-Layer (record { layer = views; encoding = None }) =
    of_layer (record { layer = map (λ e. e.0) y.layer; encoding = y.encoding }) around in
    ap (λ l. normal_layer l []) here
    ∙ of_layer (record { layer = views; encoding = None }) []
    ∙ ap (λ vs. roll-Layer (record { layer = vs; encoding = None })) (views_again inside y.layer)
    ∙ sym here

faceted_step : (y : Faceted-F ((k : ViewKind) × SameKind k) ((f : Faceted) × SameFaceted f)
    ((j : Joined) × SameJoined j) ((l : Layer) × SameLayer l) ((v : View) × SameView v))
    → SameFaceted (roll-Faceted (map-Faceted _ _ _ _ _ ViewKind Faceted Joined Layer View (λ e. e.0) (λ e. e.0) (λ e. e.0) (λ e. e.0) (λ e. e.0) y))
faceted_step y around =
    let here : normal_faceted (roll-Faceted (record { facet = y.facet; columns = y.columns; spacing = y.spacing; spec = y.spec.0 })) around
    ≡ roll-Faceted (record { facet = y.facet; columns = y.columns; spacing = y.spacing; spec = normal_view y.spec.0 around }) =
    of_faceted (record { facet = y.facet; columns = y.columns; spacing = y.spacing; spec = y.spec.0 }) around in
    ap (λ f. normal_faceted f []) here
    ∙ of_faceted (record { facet = y.facet; columns = y.columns; spacing = y.spacing; spec = normal_view y.spec.0 around }) []
    ∙ ap (λ v. roll-Faceted (record { facet = y.facet; columns = y.columns; spacing = y.spacing; spec = v })) (y.spec.1 around)
    ∙ sym here

joined_step : (y : Joined-F ((k : ViewKind) × SameKind k) ((f : Faceted) × SameFaceted f)
    ((j : Joined) × SameJoined j) ((l : Layer) × SameLayer l) ((v : View) × SameView v))
    → SameJoined (roll-Joined (map-Joined _ _ _ _ _ ViewKind Faceted Joined Layer View (λ e. e.0) (λ e. e.0) (λ e. e.0) (λ e. e.0) (λ e. e.0) y))
joined_step y around =
    let views : List View = map (λ view. normal_view view around) (map (λ e. e.0) y.views) in
    let here : normal_joined (roll-Joined (record { joining = y.joining; columns = y.columns; spacing = y.spacing; views = map (λ e. e.0) y.views })) around
    ≡ roll-Joined (record { joining = y.joining; columns = y.columns; spacing = y.spacing; views = views }) =
    of_joined (record { joining = y.joining; columns = y.columns; spacing = y.spacing; views = map (λ e. e.0) y.views }) around in
    ap (λ j. normal_joined j []) here
    ∙ of_joined (record { joining = y.joining; columns = y.columns; spacing = y.spacing; views = views }) []
    ∙ ap (λ vs. roll-Joined (record { joining = y.joining; columns = y.columns; spacing = y.spacing; views = vs })) (views_again around y.views)
    ∙ sym here

view_step : (y : View-F ((k : ViewKind) × SameKind k) ((f : Faceted) × SameFaceted f)
    ((j : Joined) × SameJoined j) ((l : Layer) × SameLayer l) ((v : View) × SameView v))
    → SameView (roll-View (map-View _ _ _ _ _ ViewKind Faceted Joined Layer View (λ e. e.0) (λ e. e.0) (λ e. e.0) (λ e. e.0) (λ e. e.0) y))
view_step y around = again _ (normal_kind y.kind.0 around (head_in y)) (of_view (head_in y) y.kind.0 around) (y.kind.1 around (head_in y))

same_view : (v : View) → SameView v
same_view = ind-View SameKind SameFaceted SameJoined SameLayer SameView
    (λ x y is. subst (λ z. SameKind (roll-ViewKind z)) is (kind_step y))
    (λ x y is. subst (λ z. SameFaceted (roll-Faceted z)) is (faceted_step y))
    (λ x y is. subst (λ z. SameJoined (roll-Joined z)) is (joined_step y))
    (λ x y is. subst (λ z. SameLayer (roll-Layer z)) is (layer_step y))
    (λ x y is. subst (λ z. SameView (roll-View z)) is (view_step y))

-- each normal form is in normal form
pub normal_forms : NormalFormsAreNormal
normal_forms s = ap (λ v. record s { view = v }) (same_view s.view [])
