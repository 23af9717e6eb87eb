-- What contracts see of views that are lent.
use Rattle.std.specs.Prelude.{Option, Some, None}
use Rattle.vl_spec.specs.declared.channels.Encoding.{Encoding}
use Rattle.vl_spec.specs.declared.views.Facet.{Facet}
use Rattle.vl_spec.specs.declared.views.Faceted.{Faceted, out-Faceted}
use Rattle.vl_spec.specs.declared.views.Joined.{Joined}
use Rattle.vl_spec.specs.declared.views.Layer.{Layer, out-Layer}
use Rattle.vl_spec.specs.declared.views.View.{View, out-View}
use Rattle.vl_spec.specs.declared.views.ViewKind.{ViewKind, ViewKind-F, out-ViewKind}
use Rattle.vl_spec.specs.declared.views.ViewKind.TheOpen as level
use Rattle.vl_trails.specs.Trails.{Trail}
use Rattle.vl_names.specs.declared.views.ViewHere.{ViewHere}
use Rattle.vl_names.specs.Views.{ViewIn, view_in}

-- the encoding of a unit or a layer
abbrev pub encoding_at : ViewKind-F ViewKind Faceted Joined Layer View → Option Encoding
encoding_at (level.Unit unit) = unit.encoding
encoding_at (level.Layer layer) = (out-Layer layer).encoding
encoding_at (level.Facet faceted) = None
encoding_at (level.Joined joined) = None

-- the facet of a faceted view
abbrev pub facet_at : ViewKind-F ViewKind Faceted Joined Layer View → Option Facet
facet_at (level.Unit unit) = None
facet_at (level.Layer layer) = None
facet_at (level.Facet faceted) = Some (out-Faceted faceted).facet
facet_at (level.Joined joined) = None

-- a view at the end of a trail
abbrev pub view_at : View → Trail → ViewIn
view_at v trail = view_in (out-View v) (encoding_at (out-ViewKind (out-View v).kind)) (facet_at (out-ViewKind (out-View v).kind)) trail

abbrev pub view_shown : ViewHere → ViewIn
view_shown v = view_at v.view.now v.trail
