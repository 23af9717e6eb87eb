-- Where rects stand along x or y. An outer None stands for a number out of range, an inner one for a place that is lacking.
use Rattle.std.specs.Prelude.{◌≡◌, refl, ℤ, pos, negsuc, ◌-ℤ◌, ◌*◌, unsigned_abs, Option, Some, None}
use Rattle.std.specs.Option.{option_map}
use Rattle.std.specs.Int.{int_min}
use Rattle.fixed_num.specs.Number.{million, limit, rounded, floor_quotient}
use Rattle.fixed_num.specs.Ranges.{◌>>=◌, in_range}
use Rattle.mark_shapes.specs.declared.shown.Shown.{Shown}
use Rattle.mark_shapes.specs.declared.shown.Shown.TheVariants.{Absent, Lacking, Given}
use Rattle.mark_shapes.specs.declared.spans.Span.{Span}
use Rattle.mark_shapes.specs.Shown.{or_default}

-- from the lesser of two ends, as long as it is to the other
abbrev pub span_between : ℤ → ℤ → Option (Option Span)
span_between a b = option_map (λ size. Some (record { from = int_min a b; size = size })) (in_range (pos (unsigned_abs (b -ℤ a))))

-- so long from the near end
abbrev pub span_after : ℤ → Option ℤ → Option (Option Span)
span_after near None = Some None
span_after near (Some size) = Some (Some (record { from = near; size = size }))

-- so long before the far end
abbrev pub span_before : ℤ → Option ℤ → Option (Option Span)
span_before far None = Some None
span_before far (Some size) = option_map (λ from. Some (record { from = from; size = size })) (in_range (far -ℤ size))

-- so long about the middle
abbrev pub span_about : ℤ → Option ℤ → Option (Option Span)
span_about middle None = Some None
span_about middle (Some size) = do
  half ← in_range (rounded size 2)
  from ← in_range (middle -ℤ half)
  Some (Some (record { from = from; size = size }))

-- from the near end to the far end, if that is given, else so long
abbrev pub span_from : ℤ → Shown ℤ → Option ℤ → Option (Option Span)
span_from near (Given far) size = span_between near far
span_from near Lacking size = Some None
span_from near Absent size = span_after near size

-- so long before the far end, if that is given, else from 0
abbrev pub span_to : Shown ℤ → Option ℤ → Option (Option Span)
span_to (Given far) size = span_before far size
span_to Lacking size = Some None
span_to Absent size = span_after (pos 0) size

-- so long about the middle, if that is given, else by the far end
abbrev pub span_without : Shown ℤ → Shown ℤ → Option ℤ → Option (Option Span)
span_without far (Given middle) size = span_about middle size
span_without far Lacking size = Some None
span_without far Absent size = span_to far size

-- Where a mark stands along one direction, by the channels of its near and its far end, its middle and its size, of which an absent size is
-- 0. Both ends, in either order, go before one end and a size, these before the middle and a size, these before the far end and a size.
abbrev pub span_of : Shown ℤ → Shown ℤ → Shown ℤ → Shown ℤ → Option (Option Span)
span_of (Given near) far middle size = span_from near far (or_default (pos 0) size)
span_of Lacking far middle size = Some None
span_of Absent far middle size = span_without far middle (or_default (pos 0) size)

-- The rules at work, in millionths.

-- the bar of 28 from its place to the base; two ends in either order
two_ends : (span_of (Given (pos 98181818)) (Given (pos (200 * million))) Absent Absent
    ≡ Some (Some (record { from = pos 98181818; size = pos 101818182 })))
    × (span_of (Given (pos 60)) (Given (pos 20)) (Given (pos 7)) (Given (pos 5)) ≡ Some (Some (record { from = pos 20; size = pos 40 })))
two_ends = (refl, refl)

-- with a size: from one end, about the middle, before the far end, from 0
with_a_size : (span_of (Given (pos 60)) Absent (Given (pos 7)) (Given (pos 5)) ≡ Some (Some (record { from = pos 60; size = pos 5 })))
    × (span_of Absent (Given (pos 20)) (Given (pos 7)) (Given (pos 5)) ≡ Some (Some (record { from = pos 4; size = pos 5 })))
    × (span_of Absent (Given (pos 20)) Absent (Given (pos 5)) ≡ Some (Some (record { from = pos 15; size = pos 5 })))
    × (span_of Absent Absent Absent (Given (negsuc 4)) ≡ Some (Some (record { from = pos 0; size = negsuc 4 })))
unfolding rounded floor_quotient
with_a_size = (refl, refl, refl, refl)

-- without a size it is 0
without_a_size : (span_of (Given (pos 60)) Absent Absent Absent ≡ Some (Some (record { from = pos 60; size = pos 0 })))
    × (span_of Absent Absent Absent Absent ≡ Some (Some (record { from = pos 0; size = pos 0 })))
without_a_size = (refl, refl)

-- a place that is needed and lacking leaves none; one that isn't needed doesn't matter
lacking_places : (span_of Lacking (Given (pos 20)) Absent (Given (pos 5)) ≡ Some None) × (span_of (Given (pos 60)) Lacking Absent Absent ≡ Some None)
    × (span_of (Given (pos 60)) Absent Absent Lacking ≡ Some None)
    × (span_of (Given (pos 60)) (Given (pos 20)) Lacking Lacking ≡ Some (Some (record { from = pos 20; size = pos 40 })))
lacking_places = (refl, refl, refl, refl)

-- a size out of range
too_long : span_of (Given (negsuc 0)) (Given (pos limit)) Absent Absent ≡ None
too_long = refl
