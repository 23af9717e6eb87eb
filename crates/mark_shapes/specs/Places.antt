-- Where marks that have one place stand along x or y.
use Rattle.std.specs.Prelude.{◌≡◌, refl, ℤ, pos, Option, Some, None}
use Rattle.mark_shapes.specs.declared.shown.Shown.{Shown}
use Rattle.mark_shapes.specs.declared.shown.Shown.TheVariants.{Absent, Lacking, Given}
use Rattle.mark_shapes.specs.Shown.{or_default}

-- at the near end, if that is given, else at the middle, else at 0
abbrev pub place_of : Shown ℤ → Shown ℤ → Option ℤ
place_of (Given near) middle = Some near
place_of Lacking middle = None
place_of Absent middle = or_default (pos 0) middle

-- The rules at work.

one_place_of_two : (place_of (Given (pos 7)) (Given (pos 9)) ≡ Some (pos 7)) × (place_of Absent (Given (pos 9)) ≡ Some (pos 9))
    × (place_of Absent Absent ≡ Some (pos 0))
one_place_of_two = (refl, refl, refl)

-- a place that counts and lacks leaves none; one that doesn't count doesn't matter
lacking_places : (place_of Lacking (Given (pos 9)) ≡ None) × (place_of Absent Lacking ≡ None) × (place_of (Given (pos 7)) Lacking ≡ Some (pos 7))
lacking_places = (refl, refl, refl)
