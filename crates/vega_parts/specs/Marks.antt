-- What marks and groups give.
use Rattle.std.specs.Prelude.{ℕ, Bool, ◌&&◌, not, if◌then◌else◌, Option, List, [], ◌∷◌, ◌++◌, codes}
use Rattle.std.specs.Option.{option_map}
use Rattle.json_exact.specs.declared.json.Json.{Json}
use Rattle.spec_schema.specs.declared.spec_error.SpecKind.TheVariants.{Unsupported, Wrong}
use Rattle.vega_parts.specs.declared.part.Part.{Part}
use Rattle.vega_parts.specs.declared.part.Part.TheVariants as part
use Rattle.vega_parts.specs.Members.{text_at}
use Rattle.vega_parts.specs.Trails.{Trail, place_of, scope_of, object_round, is_object_itself, has_layout, is_plot, is_faceted}
use Rattle.vega_parts.specs.Names.{fault_member}

-- the name of a mark
abbrev pub name_of : Json → Option (List ℕ)
name_of tree = option_map (λ (m : ℕ × List ℕ). m.1) (text_at (codes "name") tree)

-- a mark or a group
abbrev pub mark_itself : Trail → Json → List Part
mark_itself trail tree = part.Mark (place_of trail) (scope_of trail) (name_of tree) (is_object_itself trail) ∷ []

-- the top or a group is a plot outside facets
abbrev pub is_open_plot : Trail → Bool
is_open_plot trail = is_object_itself trail && is_plot trail && not (is_faceted trail)

-- it then counts as one
abbrev pub plot_parts : Trail → List Part
plot_parts trail = if is_open_plot trail then part.Plot (place_of trail) ∷ [] else []

-- a mark other than a group beside a layout is wrong
abbrev pub beside_layout : Trail → List Part
beside_layout trail = if not (is_object_itself trail) && has_layout (object_round trail) then part.Fault (place_of trail) Wrong ∷ [] else []

-- a layout in a group under an object without one is unsupported
abbrev pub layout_in_plot : Trail → Json → List Part
layout_in_plot trail tree =
    if is_object_itself trail && not (has_layout (object_round trail)) then fault_member Unsupported (codes "layout") trail tree else []

-- the rules of a mark
abbrev pub mark_faults : Trail → Json → List Part
mark_faults trail tree = beside_layout trail ++ layout_in_plot trail tree

-- what a mark gives
abbrev pub mark_parts : Trail → Json → List Part
mark_parts trail tree = mark_itself trail tree ++ plot_parts trail ++ mark_faults trail tree
