-- The views of a specification, each where it stands.
use Rattle.std.specs.Prelude.{ℕ, Option, Some, None, List, [], ◌∷◌, codes, flat_map, unwrap_or}
use Rattle.std.specs.List.{enumerate_from}
use Rattle.vl_spec.specs.declared.channels.Encoding.{Encoding}
use Rattle.vl_spec.specs.declared.spec.VlSpec.{VlSpec}
use Rattle.vl_spec.specs.declared.transforms.Transform.{Transform}
use Rattle.vl_spec.specs.declared.views.Facet.{Facet}
use Rattle.vl_spec.specs.declared.views.Faceted.{Faceted-F}
use Rattle.vl_spec.specs.declared.views.Joined.{Joined-F}
use Rattle.vl_spec.specs.declared.views.Joining.{Joining}
use Rattle.vl_spec.specs.declared.views.Joining.TheVariants as joining
use Rattle.vl_spec.specs.declared.views.Layer.{Layer-F}
use Rattle.vl_spec.specs.declared.views.View.{View, View-F, fold-View}
use Rattle.vl_spec.specs.declared.views.ViewKind.{ViewKind-F}
use Rattle.vl_spec.specs.declared.views.ViewKind.TheOpen as level
use Rattle.vl_trails.specs.Trails.{Trail, to_item, to_member}

-- A view and the trail to it, without the views in it. A unit and a layer may have an encoding, and a faceted view has a facet.
pub record ViewIn : Type 0 where
  pub trail : Trail
  pub name : Option (List ℕ)
  pub data_ : Option (List ℕ)
  pub transform : List Transform
  pub params : List ℕ
  pub encoding : Option Encoding
  pub facet : Option Facet

-- a view as all views that it brings, itself first and then those in it, by the trail to it
abbrev pub Inside : Type 0
Inside = Trail → List ViewIn

-- what a view is, and the views in it
pub record Opened : Type 0 where
  pub encoding : Option Encoding
  pub facet : Option Facet
  pub inside : Inside

-- the views of a list, of which the first has this number
abbrev pub list_from : ℕ → List Inside → Inside
list_from number views trail = flat_map (λ (item : ℕ × Inside). item.1 (to_item trail item.0)) (enumerate_from number views)

-- the views of a list
abbrev pub in_list : List Inside → Inside
in_list = list_from 0

-- the member that holds joined views
abbrev pub joined_word : Joining → List ℕ
joined_word joining.Row = codes "hconcat"
joined_word joining.Column = codes "vconcat"
joined_word joining.Grid = codes "concat"

abbrev pub layer_here : Layer-F Opened Opened Opened Opened Inside → Opened
layer_here l = record { encoding = l.encoding; facet = None; inside = λ trail. in_list l.layer (to_member trail (codes "layer")) }

abbrev pub faceted_here : Faceted-F Opened Opened Opened Opened Inside → Opened
faceted_here f = record { encoding = None; facet = Some f.facet; inside = λ trail. f.spec (to_member trail (codes "spec")) }

abbrev pub joined_here : Joined-F Opened Opened Opened Opened Inside → Opened
joined_here j = record { encoding = None; facet = None; inside = λ trail. in_list j.views (to_member trail (joined_word j.joining)) }

abbrev pub kind_here : ViewKind-F Opened Opened Opened Opened Inside → Opened
kind_here (level.Unit unit) = record { encoding = unit.encoding; facet = None; inside = λ trail. [] }
kind_here (level.Layer layer) = layer
kind_here (level.Facet faceted) = faceted
kind_here (level.Joined joined) = joined

-- a view where it stands, by its members and what it is
abbrev pub view_in : {A B C D E : Type 0} → View-F A B C D E → Option Encoding → Option Facet → Trail → ViewIn
view_in v encoding facet trail = record {
  trail = trail;
  name = v.name;
  data_ = v.data_;
  transform = unwrap_or v.transform [];
  params = v.params;
  encoding = encoding;
  facet = facet;
}

abbrev pub view_here : View-F Opened Opened Opened Opened Inside → Inside
view_here v trail = view_in v v.kind.encoding v.kind.facet trail ∷ v.kind.inside trail

-- all views that a view brings
abbrev pub views_in : View → Inside
views_in = fold-View Opened Opened Opened Opened Inside kind_here faceted_here joined_here layer_here view_here

-- all views of a specification
abbrev pub views_of : VlSpec → List ViewIn
views_of s = views_in s.view []
