-- The rules at work.
use Rattle.std.specs.Prelude.{◌≡◌, refl, ℕ, Option, Some, None, List, [], ◌∷◌, codes}
use Rattle.vl_spec.specs.declared.sizes.Resolve.{Resolve}
use Rattle.vl_spec.specs.declared.sizes.Sharing.{Sharing}
use Rattle.vl_spec.specs.declared.sizes.Sharing.TheVariants as sharing
use Rattle.vl_spec.specs.declared.views.Facet.{Facet}
use Rattle.vl_spec.specs.declared.views.Joining.TheVariants as joining
use Rattle.vl_normalize.specs.declared.codes.TheConstants.{X, Y, COLOR}
use Rattle.vl_compose.specs.declared.groups.Homed.{Homed}
use Rattle.vl_compose.specs.Rounds.{KindAt, AUnit, ALayer, AFacet, AJoined, ViewAt}
use Rattle.vl_compose.specs.Sharing.{home_of, groups_among}
use Rattle.vl_compose.specs.Views.{path_of, plot_of, source_of}

-- a view of a number, with data of a name perhaps, and perhaps a word about a channel
at : ℕ → Option (List ℕ) → Option Resolve → KindAt → ViewAt
at number source resolve kind = record {
  number = number;
  child = 0;
  name = None;
  title = None;
  data_ = source;
  transform = None;
  params = [];
  width = None;
  height = None;
  resolve = resolve;
  kind = kind;
}

-- a word about a channel
says : ℕ → Sharing → Option Resolve
says code shared = Some (record { scale = Some (record { channel = code; sharing = shared } ∷ []) })

unit : KindAt
unit = AUnit (record { mark = None; encoding = None })

layer : KindAt
layer = ALayer None

facet : Facet → KindAt
facet by = AFacet (record { facet = by; columns = None; spacing = None })

row : KindAt
row = AJoined (record { joining = joining.Row; columns = None; spacing = None })

the_top_has_no_path : path_of (at 0 None None unit ∷ []) ≡ []
unfolding at unit
the_top_has_no_path = refl

a_unit_in_two_facets : (by : Facet) → path_of (at 0 None None (facet by) ∷ at 1 None None (facet by) ∷ at 2 None None unit ∷ []) ≡ codes "/spec/spec"
unfolding at unit facet
a_unit_in_two_facets by = refl

the_inner_data_counts : source_of (at 0 (Some (codes "a")) None row ∷ at 1 (Some (codes "b")) None layer ∷ at 2 None None unit ∷ []) ≡ Some (codes "b")
unfolding at unit layer row
the_inner_data_counts = refl

layers_in_a_facet_are_one_plot : (by : Facet) →
    plot_of (at 0 None None (facet by) ∷ at 1 None None layer ∷ at 2 None None layer ∷ at 3 None None unit ∷ []) ≡ 1
unfolding at unit layer facet
layers_in_a_facet_are_one_plot by = refl

joined_views_have_x_of_their_own : home_of (at 0 None None row ∷ at 4 None None layer ∷ at 5 None None unit ∷ []) X ≡ 4
unfolding at unit layer row
joined_views_have_x_of_their_own = refl

and_share_colors : home_of (at 0 None None row ∷ at 4 None None layer ∷ at 5 None None unit ∷ []) COLOR ≡ 0
unfolding at unit layer row
and_share_colors = refl

unless_they_say_otherwise : home_of (at 0 None (says X sharing.Shared) row ∷ at 4 None (says Y sharing.Independent) layer ∷ at 5 None None unit ∷ []) X ≡ 0
unfolding at unit layer row says
unless_they_say_otherwise = refl

an_independent_layer : home_of (at 0 None (says X sharing.Shared) row ∷ at 4 None (says Y sharing.Independent) layer ∷ at 5 None None unit ∷ []) Y ≡ 5
unfolding at unit layer row says
an_independent_layer = refl

-- a unit of a number that shares a scale up to a view
shares : ℕ → ℕ → Homed
shares number home = record { number = number; home = home }

groups_stand_by_their_first : groups_among COLOR (shares 0 3 ∷ shares 1 0 ∷ shares 2 3 ∷ [])
    ≡ record { channel = COLOR; units = 0 ∷ 2 ∷ [] } ∷ record { channel = COLOR; units = 1 ∷ [] } ∷ []
unfolding shares
groups_stand_by_their_first = refl
