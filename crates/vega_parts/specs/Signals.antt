-- What signals give.
use Rattle.std.specs.Prelude.{ℕ, ◌&&◌, if◌then◌else◌, List, [], ◌∷◌, ◌++◌, flat_map, codes}
use Rattle.std.specs.Option.{option_map_or}
use Rattle.std.specs.List.{enumerate_from}
use Rattle.json_exact.specs.declared.json.Json.{Json}
use Rattle.spec_schema.specs.declared.spec_error.SpecKind.TheVariants.{Wrong}
use Rattle.vega_parts.specs.declared.part.Part.{Part}
use Rattle.vega_parts.specs.declared.part.Given.TheVariants as give
use Rattle.vega_parts.specs.declared.part.Used.TheVariants as for_
use Rattle.vega_parts.specs.Members.{has_member, text_at, items_at}
use Rattle.vega_parts.specs.Trails.{Trail, place_of, child, grandchild, scope_of, object_round, is_top}
use Rattle.vega_parts.specs.Names.{given, fault_member, used_items}

-- the name of a signal
abbrev pub signal_name : Trail → ℕ × List ℕ → List Part
signal_name trail m = given give.Signal (scope_of trail) (place_of trail) (child trail m.0) m.1 ∷ []

-- a signal of the top that has `on` is also a store
abbrev pub store_name : Trail → Json → ℕ × List ℕ → List Part
store_name trail tree m = if has_member (codes "on") tree && is_top (object_round trail)
    then given give.Store (scope_of trail) (place_of trail) (child trail m.0) m.1 ∷ [] else []

-- the names of a signal
abbrev pub signal_names : Trail → Json → List Part
signal_names trail tree =
    option_map_or (λ (m : ℕ × List ℕ). signal_name trail m ++ store_name trail tree m) (text_at (codes "name") tree) []

-- `on` in a signal of a group is wrong
abbrev pub on_in_group : Trail → Json → List Part
on_in_group trail tree = if is_top (object_round trail) then [] else fault_member Wrong (codes "on") trail tree

-- the marks that a signal concerns stand below its object
abbrev pub mark_names : Trail → Json → List Part
mark_names trail tree =
    option_map_or (λ (m : ℕ × List Json). used_items for_.MarkBelow (object_round trail) trail m.0 m.1) (items_at (codes "marks") tree) []

-- an event selector of a signal
abbrev pub selector : Trail → ℕ → ℕ × Json → List Part
selector trail number entry = option_map_or (λ (m : ℕ × List ℕ). given give.Selector (place_of trail)
    (grandchild trail number entry.0) (grandchild trail number entry.0 ++ m.0 ∷ []) m.1 ∷ [])
    (text_at (codes "events") entry.1) []

-- those of several entries
abbrev pub selectors_in : Trail → ℕ → List Json → List Part
selectors_in trail number entries = flat_map (selector trail number) (enumerate_from 0 entries)

-- the event selectors of a signal
abbrev pub selectors : Trail → Json → List Part
selectors trail tree = option_map_or (λ (m : ℕ × List Json). selectors_in trail m.0 m.1) (items_at (codes "on") tree) []
