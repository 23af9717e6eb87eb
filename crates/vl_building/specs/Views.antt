-- Views. What stands for their data, and which parameters are theirs, goes by places: from the top on, the number of a child among its
-- parent's children.
use Rattle.std.specs.Prelude.{◌≡◌, refl, ℕ, Bool, ◌||◌, Option, Some, None, List, [], ◌∷◌, ◌++◌, find, map, codes, if◌then◌else◌}
use Rattle.std.specs.Option.{option_map, option_map_or, option_and_then, unwrap_or}
use Rattle.std.specs.List.{position_from, enumerate_from, filter_map}
use Rattle.std.specs.Str.{bytes_eq}
use Rattle.json_exact.specs.declared.json.Json.{Json}
use Rattle.json_exact.specs.declared.json.Member.{Member}
use Rattle.json_exact.specs.Inside.{items_in}
use Rattle.vl_spec.specs.declared.transforms.Transform.{Transform}
use Rattle.vl_spec.specs.declared.views.View.{View, roll-View}
use Rattle.vl_spec.specs.declared.views.ViewKind.{ViewKind}
use Rattle.vl_spec.specs.declared.views.ViewKind.TheVariants as view_kind
use Rattle.vl_spec.specs.declared.views.Unit.{Unit}
use Rattle.vl_spec.specs.declared.views.Layer.{Layer, roll-Layer}
use Rattle.vl_spec.specs.declared.views.Faceted.{Faceted, roll-Faceted}
use Rattle.vl_spec.specs.declared.views.Joined.{Joined, roll-Joined}
use Rattle.vl_spec.specs.declared.views.Joining.{Joining}
use Rattle.vl_spec.specs.declared.views.Joining.TheVariants as joining
use Rattle.vl_spec.specs.declared.views.Facet.{Facet}
use Rattle.vl_spec.specs.declared.views.Facet.TheVariants as facet
use Rattle.vl_spec.specs.declared.views.CrossFacet.{CrossFacet}
use Rattle.tree_readers.specs.Parts.{found_at, has_member, object_at, text_at, members_of, needed_members}
use Rattle.vl_building.specs.Inside.{Giving, given_by}
use Rattle.vl_building.specs.Numbers.{space_at, count_at}
use Rattle.vl_building.specs.Marks.{mark_at}
use Rattle.vl_building.specs.Channels.{channel_of, encoding_of}
use Rattle.vl_building.specs.Transforms.{transform_of}
use Rattle.vl_building.specs.Sizes.{size_at, resolve_of}

-- a place: from the top on, the number of a child among its parent's children
abbrev pub Place : Type 0
Place = List ℕ

-- what goes by places: the name of the source of a `data`, and the number of a parameter
pub record Naming : Type 0 where
  pub source_at : Place → Option (List ℕ)
  pub param_at : Place → Option ℕ

-- where a child stands
abbrev pub child : Place → ℕ → Place
child place number = place ++ number ∷ []

-- the number of the first member of a name
abbrev pub member_number : List Member → List ℕ → Option ℕ
member_number members name = position_from (λ (m : Member). bytes_eq m.name name) 0 members

-- where it stands
abbrev pub member_place : Place → List Member → List ℕ → Option Place
member_place place members name = option_map (child place) (member_number members name)

-- the name of the source of the `data` of an object
abbrev pub source_of : Naming → Place → List Member → Option (List ℕ)
source_of naming place members = option_and_then naming.source_at (member_place place members (codes "data"))

-- the same of the object under `from`
abbrev pub lookup_source : Naming → Place → List Member → Option (List ℕ)
lookup_source naming place members =
    option_and_then (λ here. source_of naming here (needed_members members (codes "from"))) (member_place place members (codes "from"))

-- the transform that an item is
abbrev pub transform_at : Naming → Place → ℕ × Json → Transform
transform_at naming place item =
    transform_of (lookup_source naming (child place item.0) (members_of item.1)) (members_of item.1)

-- those of a list at a place
abbrev pub transforms_in : Naming → List Json → Place → List Transform
transforms_in naming items place = map (transform_at naming place) (enumerate_from 0 items)

-- what a list under a name gives, by its items and its place
abbrev pub list_given : {A : Type 0} → (List Json → Place → A) → Place → List Member → List ℕ → Option A
list_given gives place members name =
    option_and_then (λ items. option_map (gives items) (member_place place members name)) (found_at items_in members name)

-- the number of the parameter that an item is
abbrev pub param_number : Naming → Place → ℕ × Json → Option ℕ
param_number naming place item = naming.param_at (child place item.0)

-- the numbers of the parameters of a list at a place
abbrev pub numbers_in : Naming → List Json → Place → List ℕ
numbers_in naming items place = filter_map (param_number naming place) (enumerate_from 0 items)

-- a member of which the first decides what a view is
unfoldable pub is_view_kind : List ℕ → Bool
is_view_kind name =
    bytes_eq name (codes "mark") || bytes_eq name (codes "layer") || bytes_eq name (codes "facet")
    || bytes_eq name (codes "hconcat") || bytes_eq name (codes "vconcat") || bytes_eq name (codes "concat")

-- what decides where none of them stands: a `spec`, or else `mark`
abbrev pub other_word : List Member → List ℕ
other_word members = if has_member members (codes "spec") then codes "facet" else codes "mark"

-- what decides: the first of them
abbrev pub view_word : List Member → List ℕ
view_word members = option_map_or (λ (m : Member). m.name) (find (λ (m : Member). is_view_kind m.name) members) (other_word members)

-- by rows and columns
unfoldable pub cross_of : List Member → CrossFacet
cross_of members = record {
  row = object_at channel_of members (codes "row");
  column = object_at channel_of members (codes "column");
}

-- how rows are parted: by rows and columns only without `field`
unfoldable pub facet_of : List Member → Facet
facet_of members =
    if has_member members (codes "field") then facet.One (channel_of members)
    else (if has_member members (codes "row") || has_member members (codes "column") then facet.Cross (cross_of members)
    else facet.One (channel_of members))

-- one mark
unfoldable pub unit_of : List Member → Unit
unit_of members = record {
  mark = mark_at members (codes "mark");
  encoding = object_at encoding_of members (codes "encoding");
}

-- views on each other
unfoldable pub layer_with : List Member → List View → Layer
layer_with members views = roll-Layer (record {
  layer = views;
  encoding = object_at encoding_of members (codes "encoding");
})

-- a view for each part of the rows
unfoldable pub faceted_with : List Member → View → Faceted
faceted_with members view = roll-Faceted (record {
  facet = facet_of (needed_members members (codes "facet"));
  columns = count_at members (codes "columns");
  spacing = space_at members (codes "spacing");
  spec = view;
})

-- views beside each other
unfoldable pub joined_with : Joining → List Member → List View → Joined
joined_with how members views = roll-Joined (record {
  joining = how;
  columns = count_at members (codes "columns");
  spacing = space_at members (codes "spacing");
  views = views;
})

-- what a value at a place is as a view, and what its items are
abbrev pub AsView : Type 0
AsView = Place → View × List View

-- a view of this kind
unfoldable pub view_with : Naming → List Member → Place → ViewKind → View
view_with naming members place kind = roll-View (record {
  name = text_at members (codes "name");
  title = text_at members (codes "title");
  data_ = source_of naming place members;
  transform = list_given (transforms_in naming) place members (codes "transform");
  params = unwrap_or (list_given (numbers_in naming) place members (codes "params")) [];
  width = size_at members (codes "width");
  height = size_at members (codes "height");
  resolve = object_at resolve_of members (codes "resolve");
  kind = kind;
})

-- a view without members
unfoldable pub no_view : View
no_view = roll-View (record {
  name = None;
  title = None;
  data_ = None;
  transform = None;
  params = [];
  width = None;
  height = None;
  resolve = None;
  kind = view_kind.Unit (record { mark = None; encoding = None });
})

-- what the first member of a name is, at its place
abbrev pub inside_at : List Member → (List ℕ → Option AsView) → Place → List ℕ → Option (View × List View)
inside_at members inside place name =
    option_and_then (λ k. option_map (λ (gives : AsView). gives (child place k)) (inside name)) (member_number members name)

-- the views that a member holds, none where it is no list
abbrev pub views_given : Option (View × List View) → List View
views_given given = option_map_or (λ (g : View × List View). g.1) given []

-- the view that a member holds, one without members where there is none
abbrev pub view_given : Option (View × List View) → View
view_given given = option_map_or (λ (g : View × List View). g.0) given no_view

-- what a view is, by the member that decides
unfoldable pub kind_by : List ℕ → List Member → (List ℕ → Option (View × List View)) → ViewKind
kind_by word members inside =
    if bytes_eq word (codes "layer") then view_kind.Layer (layer_with members (views_given (inside (codes "layer"))))
    else (if bytes_eq word (codes "facet") then view_kind.Facet (faceted_with members (view_given (inside (codes "spec"))))
    else (if bytes_eq word (codes "hconcat") then view_kind.Joined (joined_with joining.Row members (views_given (inside (codes "hconcat"))))
    else (if bytes_eq word (codes "vconcat") then view_kind.Joined (joined_with joining.Column members (views_given (inside (codes "vconcat"))))
    else (if bytes_eq word (codes "concat") then view_kind.Joined (joined_with joining.Grid members (views_given (inside (codes "concat"))))
    else view_kind.Unit (unit_of members)))))

-- a view that is an object
abbrev pub object_view : Naming → List Member → (List ℕ → Option AsView) → Place → View
object_view naming members inside place =
    view_with naming members place (kind_by (view_word members) members (inside_at members inside place))

-- the views that items at a place are
abbrev pub views_in : List AsView → Place → List View
views_in items place = map (λ (item : ℕ × AsView). (item.1 (child place item.0)).0) (enumerate_from 0 items)

-- what a value gives; one that is no object is a view without members
abbrev pub as_view_with : Naming → Giving AsView
as_view_with naming tree inside items place = (object_view naming (members_of tree) inside place, views_in items place)

-- what a value at a place is as a view, and what its items are
abbrev pub as_view : Naming → Json → AsView
as_view naming = given_by (as_view_with naming)

-- the view that a value at a place is
abbrev pub view_of : Naming → Json → Place → View
view_of naming tree place = (as_view naming tree place).0

-- the views that its items are
abbrev pub views_of : Naming → Json → Place → List View
views_of naming tree place = (as_view naming tree place).1

-- The rules at work.

-- a member of a name
member : Json → List ℕ → Member
member value name = record { name = name; value = value }

-- each source has its place for a name, and no parameter has a number
by_place : Naming
by_place = record { source_at = λ place. Some place; param_at = λ place. None }

the_first_decides : (value : Json) → view_word (member value (codes "layer") ∷ member value (codes "mark") ∷ []) ≡ codes "layer"
unfolding member is_view_kind
the_first_decides value = refl

a_spec_alone_makes_it_faceted : (value : Json) → view_word (member value (codes "spec") ∷ []) ≡ codes "facet"
unfolding member is_view_kind
a_spec_alone_makes_it_faceted value = refl

any_other_view_is_a_unit : view_word [] ≡ codes "mark"
any_other_view_is_a_unit = refl

data_goes_by_its_place : (value : Json) →
    source_of by_place (2 ∷ []) (member value (codes "mark") ∷ member value (codes "data") ∷ []) ≡ Some (2 ∷ 1 ∷ [])
unfolding member by_place
data_goes_by_its_place value = refl

no_parameter_without_a_number : (a b : Json) → numbers_in by_place (a ∷ b ∷ []) [] ≡ []
unfolding by_place
no_parameter_without_a_number a b = refl
