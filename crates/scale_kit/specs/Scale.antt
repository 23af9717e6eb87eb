-- What callers ask of scales.
use Rattle.std.specs.Prelude.{◌≡◌, ◌≢◌, ◌*◌, ◌^◌, [], ℤ, pos, ◌≤ℤ◌, IsTrue}
use Rattle.std.specs.List.{All}
use Rattle.fixed_num.specs.Number.{million}
use Rattle.time_calc.specs.Instants.{stands_for_instant}
use Rattle.scale_kit.specs.declared.scale.Scale.{Scale}
use Rattle.scale_kit.specs.declared.scale.Scale.TheVariants.{Linear, Time, Band, Point, Ordinal, Ramp}
use Rattle.scale_kit.specs.declared.scale.ScaleIn.{ScaleIn}
use Rattle.scale_kit.specs.declared.scale.ScaleSet.{ScaleSet}

-- a padding is from 0 to 1, in steps
abbrev pub IsPadding : ℤ → Type 0
IsPadding padding = (pos 0 ≤ℤ padding) × (padding ≤ℤ pos million)

-- an end of a range is from 0 to 10^11 pixels
abbrev pub IsPixel : ℤ → Type 0
IsPixel end = (pos 0 ≤ℤ end) × (end ≤ℤ pos (10 ^ 11 * million))

-- both ends of a range
abbrev pub IsRange : ℤ × ℤ → Type 0
IsRange range = IsPixel range.0 × IsPixel range.1

-- the ends of a domain of instants are instants in range
abbrev pub AreInstants : ℤ × ℤ → Type 0
AreInstants domain = IsTrue (stands_for_instant domain.0) × IsTrue (stands_for_instant domain.1)

-- What every caller asks of a scale: the ends of a continuous domain stand in order, and are instants in range where the scale is one of
-- time; the ends of a range are from 0 to 10^11; paddings are from 0 to 1; only an empty domain has an empty range.
abbrev pub IsScale : Scale → Type 0
IsScale (Linear d0 d1 r0 r1) = (d0 ≤ℤ d1) × IsRange (r0, r1)
IsScale (Time d0 d1 r0 r1) = (d0 ≤ℤ d1) × AreInstants (d0, d1) × IsRange (r0, r1)
IsScale (Band domain inner outer r0 r1) = IsPadding inner × IsPadding outer × IsRange (r0, r1)
IsScale (Point domain outer r0 r1) = IsPadding outer × IsRange (r0, r1)
IsScale (Ordinal domain range) = range ≡ [] → domain ≡ []
IsScale (Ramp time d0 d1 from to) = (d0 ≤ℤ d1) × (IsTrue time → AreInstants (d0, d1))

-- each scale of a set is one
abbrev pub AreScales : ScaleSet → Type 0
AreScales set = All (λ (scale : ScaleIn). IsScale scale.scale) set.scales

-- a scale of bands
abbrev pub HasBands : Scale → Type 0
HasBands (Linear d0 d1 r0 r1) = ⊥
HasBands (Time d0 d1 r0 r1) = ⊥
HasBands (Band domain inner outer r0 r1) = Unit {0}
HasBands (Point domain outer r0 r1) = Unit {0}
HasBands (Ordinal domain range) = ⊥
HasBands (Ramp time d0 d1 from to) = ⊥

-- a scale that lays its domain over a range of places
abbrev pub HasRange : Scale → Type 0
HasRange (Linear d0 d1 r0 r1) = Unit {0}
HasRange (Time d0 d1 r0 r1) = Unit {0}
HasRange (Band domain inner outer r0 r1) = Unit {0}
HasRange (Point domain outer r0 r1) = Unit {0}
HasRange (Ordinal domain range) = ⊥
HasRange (Ramp time d0 d1 from to) = ⊥

-- a scale that can be inverted: a linear or a time scale whose range isn't one point
abbrev pub HasInverse : Scale → Type 0
HasInverse (Linear d0 d1 r0 r1) = r0 ≢ r1
HasInverse (Time d0 d1 r0 r1) = r0 ≢ r1
HasInverse (Band domain inner outer r0 r1) = ⊥
HasInverse (Point domain outer r0 r1) = ⊥
HasInverse (Ordinal domain range) = ⊥
HasInverse (Ramp time d0 d1 from to) = ⊥
