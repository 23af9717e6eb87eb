-- What contracts see of views and units that are lent.
use Rattle.std.specs.Prelude.{List, map}
use Rattle.vl_spec.specs.declared.views.Faceted.{Faceted, out-Faceted}
use Rattle.vl_spec.specs.declared.views.Joined.{Joined, out-Joined}
use Rattle.vl_spec.specs.declared.views.Layer.{Layer, out-Layer}
use Rattle.vl_spec.specs.declared.views.View.{View, out-View}
use Rattle.vl_spec.specs.declared.views.ViewKind.{ViewKind, ViewKind-F, out-ViewKind}
use Rattle.vl_spec.specs.declared.views.ViewKind.TheOpen as level
use Rattle.vl_compose.specs.declared.here.UnitHere.{UnitHere}
use Rattle.vl_compose.specs.declared.here.ViewHere.{ViewHere}
use Rattle.vl_compose.specs.Rounds.{KindAt, AUnit, ALayer, AFacet, AJoined, ViewAt, Round, view_at, facet_at, joined_at}
use Rattle.vl_compose.specs.Units.{UnitAt}

-- what a view is, without the views in it
abbrev pub kind_at : ViewKind-F ViewKind Faceted Joined Layer View → KindAt
kind_at (level.Unit unit) = AUnit unit
kind_at (level.Layer layer) = ALayer (out-Layer layer).encoding
kind_at (level.Facet faceted) = AFacet (facet_at (out-Faceted faceted))
kind_at (level.Joined joined) = AJoined (joined_at (out-Joined joined))

abbrev pub kind_of : ViewKind → KindAt
kind_of kind = kind_at (out-ViewKind kind)

-- a view where it stands
abbrev pub view_shown : ViewHere → ViewAt
view_shown v = view_at (out-View v.view.now) (kind_of (out-View v.view.now).kind) v.child v.number

abbrev pub round_shown : List ViewHere → Round
round_shown round = map view_shown round

-- a unit where it stands
abbrev pub unit_shown : UnitHere → UnitAt
unit_shown u = record {
  number = u.number;
  round = round_shown u.round;
  mark = u.mark.now;
  channels = map (λ c. c.now) u.channels;
}
