-- The views of a specification, each with those round it.
use Rattle.std.specs.Prelude.{ℤ, ℕ, ◌+◌, Option, List, [], ◌∷◌, ◌++◌, length}
use Rattle.vl_spec.specs.declared.channels.Encoding.{Encoding}
use Rattle.vl_spec.specs.declared.sizes.Resolve.{Resolve}
use Rattle.vl_spec.specs.declared.sizes.Size.{Size}
use Rattle.vl_spec.specs.declared.spec.VlSpec.{VlSpec}
use Rattle.vl_spec.specs.declared.transforms.Transform.{Transform}
use Rattle.vl_spec.specs.declared.views.Facet.{Facet}
use Rattle.vl_spec.specs.declared.views.Faceted.{Faceted-F}
use Rattle.vl_spec.specs.declared.views.Joined.{Joined-F}
use Rattle.vl_spec.specs.declared.views.Joining.{Joining}
use Rattle.vl_spec.specs.declared.views.Layer.{Layer-F}
use Rattle.vl_spec.specs.declared.views.Unit.{Unit}
use Rattle.vl_spec.specs.declared.views.View.{View, View-F, fold-View}
use Rattle.vl_spec.specs.declared.views.ViewKind.{ViewKind-F}
use Rattle.vl_spec.specs.declared.views.ViewKind.TheOpen as level

-- how a faceted view parts rows, without the view in it
pub record FacetAt : Type 0 where
  pub facet : Facet
  pub columns : Option ℤ
  pub spacing : Option ℤ

-- how joined views stand, without the views in it
pub record JoinedAt : Type 0 where
  pub joining : Joining
  pub columns : Option ℤ
  pub spacing : Option ℤ

-- what a view is, without the views in it: one mark, views on each other, a view for each part of the rows, or views beside each other
pub data KindAt : Type 0 where
  AUnit : Unit → KindAt
  ALayer : Option Encoding → KindAt
  AFacet : FacetAt → KindAt
  AJoined : JoinedAt → KindAt

-- A view where it stands, without the views in it. Its number counts all views of the specification, an outer one before those in it, and else in
-- the order of the text; `child` is its number among the views in the view round it. The top has the number 0.
pub record ViewAt : Type 0 where
  pub number : ℕ
  pub child : ℕ
  pub name : Option (List ℕ)
  pub title : Option (List ℕ)
  pub data_ : Option (List ℕ)
  pub transform : Option (List Transform)
  pub params : List ℕ
  pub width : Option Size
  pub height : Option Size
  pub resolve : Option Resolve
  pub kind : KindAt

-- a view with all those round it, from the top in; the view itself is the last
abbrev pub Round : Type 0
Round = List ViewAt

-- A view as all views that it brings, itself first and then those in it, each with those round it; once the views round it, its number among
-- those in the view round it, and its number among all are known.
abbrev pub Inside : Type 0
Inside = Round → ℕ → ℕ → List Round

-- views one after the other in the same view; the first has these two numbers, and the next takes its number behind all that the first brings
abbrev pub in_order : List Inside → Inside
in_order [] round child number = []
in_order (first ∷ others) round child number =
    first round child number ++ in_order others round (child + 1) (number + length (first round child number))

-- what a view is, and the views in it
pub record Opened : Type 0 where
  pub kind : KindAt
  pub inside : List Inside

-- a view where it stands, by its members and what it is
abbrev pub view_at : {A B C D E : Type 0} → View-F A B C D E → KindAt → ℕ → ℕ → ViewAt
view_at v kind child number = record {
  number = number;
  child = child;
  name = v.name;
  title = v.title;
  data_ = v.data_;
  transform = v.transform;
  params = v.params;
  width = v.width;
  height = v.height;
  resolve = v.resolve;
  kind = kind;
}

-- a view and the views in it
abbrev pub with_inside : List Inside → Round → ℕ → List Round
with_inside inside round number = round ∷ in_order inside round 0 (number + 1)

abbrev pub view_here : View-F Opened Opened Opened Opened Inside → Inside
view_here v round child number = with_inside v.kind.inside (round ++ view_at v v.kind.kind child number ∷ []) number

abbrev pub facet_at : {A B C D E : Type 0} → Faceted-F A B C D E → FacetAt
facet_at f = record { facet = f.facet; columns = f.columns; spacing = f.spacing }

abbrev pub joined_at : {A B C D E : Type 0} → Joined-F A B C D E → JoinedAt
joined_at j = record { joining = j.joining; columns = j.columns; spacing = j.spacing }

abbrev pub layer_here : Layer-F Opened Opened Opened Opened Inside → Opened
layer_here l = record { kind = ALayer l.encoding; inside = l.layer }

abbrev pub faceted_here : Faceted-F Opened Opened Opened Opened Inside → Opened
faceted_here f = record { kind = AFacet (facet_at f); inside = f.spec ∷ [] }

abbrev pub joined_here : Joined-F Opened Opened Opened Opened Inside → Opened
joined_here j = record { kind = AJoined (joined_at j); inside = j.views }

abbrev pub kind_here : ViewKind-F Opened Opened Opened Opened Inside → Opened
kind_here (level.Unit unit) = record { kind = AUnit unit; inside = [] }
kind_here (level.Layer layer) = layer
kind_here (level.Facet faceted) = faceted
kind_here (level.Joined joined) = joined

-- all views that a view brings
abbrev pub rounds_in : View → Inside
rounds_in = fold-View Opened Opened Opened Opened Inside kind_here faceted_here joined_here layer_here view_here

-- all views of a specification
abbrev pub rounds_of : VlSpec → List Round
rounds_of s = rounds_in s.view [] 0 0
