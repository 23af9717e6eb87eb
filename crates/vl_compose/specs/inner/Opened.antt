-- Views by what is in them.
use Rattle.std.specs.Prelude.{List, [], ◌∷◌, map}
use Rattle.vl_spec.specs.declared.views.Faceted.{Faceted, out-Faceted}
use Rattle.vl_spec.specs.declared.views.Joined.{Joined, out-Joined}
use Rattle.vl_spec.specs.declared.views.Layer.{Layer, out-Layer}
use Rattle.vl_spec.specs.declared.views.View.{View}
use Rattle.vl_spec.specs.declared.views.ViewKind.{ViewKind, ViewKind-F, out-ViewKind}
use Rattle.vl_spec.specs.declared.views.ViewKind.TheOpen as level
use Rattle.vl_compose.specs.Rounds.{Inside, rounds_in}

-- the views in a view, by what it is
abbrev pub inside_at : ViewKind-F ViewKind Faceted Joined Layer View → List Inside
inside_at (level.Unit unit) = []
inside_at (level.Layer layer) = map rounds_in (out-Layer layer).layer
inside_at (level.Facet faceted) = rounds_in (out-Faceted faceted).spec ∷ []
inside_at (level.Joined joined) = map rounds_in (out-Joined joined).views

abbrev pub inside_of : ViewKind → List Inside
inside_of kind = inside_at (out-ViewKind kind)
