-- What is known of the values round a value.
use Rattle.std.specs.Prelude.{ℕ, ◌==◌, Bool, false, ◌&&◌, ◌||◌, not, if◌then◌else◌, List, [], ◌∷◌, ◌++◌, length, drop, map, reverse, codes}
use Rattle.std.specs.Option.{option_map_or}
use Rattle.std.specs.List.{list_any}
use Rattle.json_exact.specs.declared.json.Json.{Json}
use Rattle.vega_schema.specs.declared.codes.TheConstants.{TOP, MARK}
use Rattle.vega_parts.specs.Members.{member_at, has_member, says_text}
use Rattle.vega_parts.specs.declared.around.Around.{Around}

-- the values round a value, from itself outwards
abbrev pub Trail : Type 0
Trail = List Around

-- a place: from the top on, the number of a child among its parent's children
abbrev pub Place : Type 0
Place = List ℕ

-- a value is a group: a mark whose type says so
abbrev pub is_group : ℕ → Json → Bool
is_group shape tree = shape == MARK && says_text (codes "type") (codes "group") tree

-- it is an object that has names: the top or a group
abbrev pub is_object : ℕ → Json → Bool
is_object shape tree = shape == TOP || is_group shape tree

-- its rows come from a facet
abbrev pub has_facet : Json → Bool
has_facet tree = option_map_or (λ (m : ℕ × Json). has_member (codes "facet") m.1) (member_at (codes "from") tree) false

-- what is noted of a value on the way down: where it stands among its parent's children, its shape, whether it is an object,
-- whether it is one with a layout, and whether it is a group with a facet
abbrev pub noted : ℕ → ℕ → Json → Around
noted number shape tree = record {
  number = number;
  shape = shape;
  object = is_object shape tree;
  layout = is_object shape tree && has_member (codes "layout") tree;
  facet = is_group shape tree && has_facet tree;
}

-- where a value stands: the numbers from the top on, without that of the top itself
abbrev pub place_of : Trail → Place
place_of trail = drop 1 (map (λ (a : Around). a.number) (reverse trail))

-- where a child of it stands
abbrev pub child : Trail → ℕ → Place
child trail number = place_of trail ++ number ∷ []

-- where a child of that child stands
abbrev pub grandchild : Trail → ℕ → ℕ → Place
grandchild trail number inner = place_of trail ++ number ∷ inner ∷ []

-- from the innermost object outwards
abbrev pub object_at : Trail → Trail
object_at [] = []
object_at (here ∷ round) = if here.object then here ∷ round else object_at round

-- from the innermost object round a value outwards; a value isn't round itself
abbrev pub object_round : Trail → Trail
object_round trail = object_at (drop 1 trail)

-- the object round a value, by its place
abbrev pub scope_of : Trail → Place
scope_of trail = place_of (object_round trail)

-- the value is an object with a layout
abbrev pub has_layout : Trail → Bool
has_layout [] = false
has_layout (here ∷ round) = here.layout

-- the value is itself the top or a group
abbrev pub is_object_itself : Trail → Bool
is_object_itself [] = false
is_object_itself (here ∷ round) = here.object

-- the value is the top
abbrev pub is_top : Trail → Bool
is_top trail = length trail == 1

-- the value is a group with a facet or stands inside one
abbrev pub is_faceted : Trail → Bool
is_faceted trail = list_any (λ (a : Around). a.facet) trail

-- an object is a plot: it has no layout, and is the top or stands under a layout
abbrev pub is_plot : Trail → Bool
is_plot trail = not (has_layout trail) && (is_top trail || has_layout (object_round trail))

-- an object stands in a plot: it is a group, and the object round it has no layout
abbrev pub is_in_plot : Trail → Bool
is_in_plot trail = not (is_top trail) && not (has_layout (object_round trail))
