-- The scales that the drags of a selection invert.
use Rattle.std.specs.Prelude.{◌≡◌, refl, ℕ, ◌==◌, pos, Bool, false, not, ◌&&◌, Option, Some, None, is_some, List, [], ◌∷◌, find, slice_get, codes}
use Rattle.std.specs.Option.{option_map, option_map_or, option_or}
use Rattle.std.specs.List.{enumerate_from}
use Rattle.std.specs.Str.{bytes_eq}
use Rattle.fixed_num.specs.Ranges.{◌>>=◌}
use Rattle.scale_kit.specs.declared.scale.Scale.{Scale}
use Rattle.scale_kit.specs.declared.scale.Scale.TheVariants.{Ordinal, Linear}
use Rattle.scale_kit.specs.declared.scale.ScaleIn.{ScaleIn}
use Rattle.scale_kit.specs.declared.scale.ScaleSet.{ScaleSet}
use Rattle.selection_events.specs.declared.selection.DragOf.{DragOf}
use Rattle.selection_events.specs.Events.{Inverts}
use Rattle.vega_selections.specs.declared.selections.VgSelection.{VgSelection}

-- a scale of this name that belongs to the panel of an index
abbrev pub is_of_panel : ℕ → List ℕ → ScaleIn → Bool
is_of_panel index name s = option_map_or (λ p. p == index) s.panel false && bytes_eq s.name name

-- a scale of this name that belongs to the whole chart
abbrev pub is_of_chart : List ℕ → ScaleIn → Bool
is_of_chart name s = not (is_some s.panel) && bytes_eq s.name name

-- the scale of a name in the panel of an index: its own, or else that of the whole chart
abbrev pub scale_in : ScaleSet → ℕ → List ℕ → Option Scale
scale_in set index name =
    option_map (λ (s : ScaleIn). s.scale) (option_or (find (is_of_panel index name) set.scales) (find (is_of_chart name) set.scales))

-- whether a drag goes along a channel
abbrev pub is_along : List ℕ → ℕ × DragOf → Bool
is_along channel d = bytes_eq d.1.channel channel

-- the name of the scale that the drags of a selection invert along a channel: its names stand in the order of its channels
abbrev pub scale_name : VgSelection → List ℕ → Option (List ℕ)
scale_name v channel = find (is_along channel) (enumerate_from 0 v.selection.drag) >>= λ d. slice_get v.scales d.0

-- the scale that its drags invert in the panel of an index along a channel, whatever its name
abbrev pub inverted_by : ScaleSet → VgSelection → Inverts
inverted_by set v index name channel = scale_name v channel >>= scale_in set index

-- The rules at work.

abbrev a_scale : Option ℕ → List ℕ → Scale → ScaleIn
a_scale panel name scale = record { panel = panel; name = name; scale = scale }

abbrev no_cells : Scale
no_cells = Ordinal [] []

abbrev a_line : Scale
a_line = Linear (pos 0) (pos 1) (pos 0) (pos 1)

-- a scale of the whole chart, and in the second panel another of its name
abbrev two_scales : ScaleSet
two_scales = record { scales = a_scale None (codes "s") no_cells ∷ a_scale (Some 1) (codes "s") a_line ∷ [] }

scales_of_panels : (scale_in two_scales 0 (codes "s") ≡ Some no_cells) × (scale_in two_scales 1 (codes "s") ≡ Some a_line)
    × (scale_in two_scales 1 (codes "t") ≡ None)
scales_of_panels = (refl, refl, refl)
