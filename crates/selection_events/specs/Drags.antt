-- What drags leave in the store of a selection.
use Rattle.std.specs.Prelude.{◌≡◌, refl, ℕ, ◌*◌, ℤ, pos, ◌-ℤ◌, Bool, true, false, not, if◌then◌else◌, Option, Some, None, IfSome, List, [], ◌∷◌, map, codes}
use Rattle.std.specs.Int.{int_min, int_max}
use Rattle.std.specs.Ordering.{int_eq}
use Rattle.std.specs.Str.{bytes_eq}
use Rattle.fixed_num.specs.Number.{million, rounded, rounded_ratio, floor_quotient}
use Rattle.fixed_num.specs.Ranges.{◌>>=◌, all_found}
use Rattle.cell_value.specs.declared.state.Extent.{Extent}
use Rattle.cell_value.specs.declared.state.StoreOf.{StoreOf}
use Rattle.cell_value.specs.Row.{Cells}
use Rattle.scale_kit.specs.declared.scale.Scale.{Scale}
use Rattle.scale_kit.specs.declared.scale.Scale.TheVariants.{Linear, Time, Band, Point, Ordinal, Ramp}
use Rattle.scale_kit.specs.Lines.{cut_to}
use Rattle.scale_kit.specs.Scale.{IsScale}
use Rattle.scale_kit.specs.Places.{inverse_within}
use Rattle.scene_tree.specs.declared.scene.Panel.{Panel}
use Rattle.selection_events.specs.declared.drags.Drag.{Drag}
use Rattle.selection_events.specs.declared.drags.ChannelHere.{ChannelHere}
use Rattle.selection_events.specs.Stores.{empty_store}

-- ---- scales

-- the ends on it are instants
abbrev pub is_time : Scale → Bool
is_time (Linear d0 d1 r0 r1) = false
is_time (Time d0 d1 r0 r1) = true
is_time (Band domain inner outer r0 r1) = false
is_time (Point domain outer r0 r1) = false
is_time (Ordinal domain range) = false
is_time (Ramp time d0 d1 from to) = false

-- a linear or a time scale whose range isn't one point
abbrev pub can_invert : Scale → Bool
can_invert (Linear d0 d1 r0 r1) = not (int_eq r0 r1)
can_invert (Time d0 d1 r0 r1) = not (int_eq r0 r1)
can_invert (Band domain inner outer r0 r1) = false
can_invert (Point domain outer r0 r1) = false
can_invert (Ordinal domain range) = false
can_invert (Ramp time d0 d1 from to) = false

-- ---- extents

-- a place of the picture along one direction, from the beginning of a panel of this size on and cut to the panel
abbrev pub along : ℤ → ℤ → ℤ → ℤ
along begin size at = cut_to (pos 0, size) (at -ℤ begin)

-- the two ends of a drag along a channel, in the panel
abbrev pub ends_of : Panel → Drag → List ℕ → ℤ × ℤ
ends_of panel d channel =
    if bytes_eq channel (codes "x")
    then (along panel.x panel.width d.x1, along panel.x panel.width d.x2)
    else (along panel.y panel.height d.y1, along panel.y panel.height d.y2)

-- the extent of a channel between two numbers in either order; there is none where they are equal
abbrev pub extent_between : ChannelHere → Bool → ℤ → ℤ → Option Extent
extent_between c temporal a b =
    if int_eq a b then None
    else Some (record { channel = c.channel; field = c.field; temporal = temporal; lo = int_min a b; hi = int_max a b })

-- the extent of a channel between two places of its scale's range: both are inverted and cut to the domain
abbrev pub extent_on : ChannelHere → Scale → ℤ × ℤ → Option Extent
extent_on c s ends =
    if can_invert s then extent_between c (is_time s) (inverse_within s ends.0) (inverse_within s ends.1) else None

-- the extent of a channel in a panel; there is none where it comes to a point
abbrev pub extent_of : Panel → Drag → ChannelHere → Option Extent
extent_of panel d c = c.scale >>= λ s. extent_on c s (ends_of panel d c.channel)

-- the extents of all channels; there are none where one of them comes to a point
abbrev pub extents_of : Panel → Drag → List ChannelHere → Option (List Extent)
extents_of panel d channels = all_found (map (extent_of panel d) channels)

-- what callers ask of a channel: that its scale is one
abbrev pub HasScale : ChannelHere → Type 0
HasScale c = IfSome c.scale IsScale

-- ---- stores

-- a store with these extents since an event in a panel with this facet row, whose least unit of the selection is this; without extents it is
-- empty
abbrev pub with_extents : List ℕ → Option Cells → ℕ → Option (List Extent) → StoreOf
with_extents name facet unit None = empty_store name
with_extents name facet unit (Some []) = empty_store name
with_extents name facet unit (Some (e ∷ es)) = record { name = name; tuples = []; extents = e ∷ es; panel = facet; unit = unit }

-- a drag sets the store to the extents of its channels
abbrev pub store_dragged : List ℕ → Panel → ℕ → Drag → List ChannelHere → StoreOf
store_dragged name panel unit d channels = with_extents name panel.facet unit (extents_of panel d channels)

-- The rules at work.

-- a panel of 100 by 20 pixels at (5, 20)
abbrev a_panel : Panel
a_panel = record {
  x = pos (5 * million);
  y = pos (20 * million);
  width = pos (100 * million);
  height = pos (20 * million);
  view = Some 0;
  facet = None;
  items = [];
}

-- 0 to 10, from the left of that panel to its right
abbrev a_scale : Scale
a_scale = Linear (pos 0) (pos (10 * million)) (pos 0) (pos (100 * million))

abbrev across : Scale → ChannelHere
across s = record { channel = codes "x"; field = codes "p"; scale = Some s }

-- a drag at 30 pixels down, between two places from the left
abbrev from_to : ℕ → ℕ → Drag
from_to x1 x2 = record { x1 = pos (x1 * million); y1 = pos (30 * million); x2 = pos (x2 * million); y2 = pos (30 * million) }

abbrev from_0_to_5 : List Extent
from_0_to_5 = record { channel = codes "x"; field = codes "p"; temporal = false; lo = pos 0; hi = pos (5 * million) } ∷ []

a_drag_beyond_the_panel : (extents_of a_panel (from_to 55 0) (across a_scale ∷ []) ≡ Some from_0_to_5)
    × (extents_of a_panel (from_to 5 55) (across a_scale ∷ []) ≡ Some from_0_to_5)
unfolding rounded_ratio rounded floor_quotient
a_drag_beyond_the_panel = (refl, refl)

equal_ends : extents_of a_panel (from_to 55 55) (across a_scale ∷ []) ≡ None
unfolding rounded_ratio rounded floor_quotient
equal_ends = refl

-- the same with another channel of which the domain is one point
one_channel_comes_to_a_point : extents_of a_panel (from_to 55 5)
    (across a_scale ∷ across (Linear (pos 3) (pos 3) (pos 0) (pos (100 * million))) ∷ []) ≡ None
unfolding rounded_ratio rounded floor_quotient
one_channel_comes_to_a_point = refl

a_range_of_one_point : extents_of a_panel (from_to 55 5) (across (Linear (pos 0) (pos 1) (pos 7) (pos 7)) ∷ []) ≡ None
a_range_of_one_point = refl
