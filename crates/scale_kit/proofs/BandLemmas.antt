-- Widths of bands.
use Rattle.std.proofs.Common.{◌≡◌, refl, pos, true, false, int_lt, unsigned_abs, ◌-ℤ◌, ◌*ℤ◌}
use Rattle.std.specs.Prelude.{◌==◌}
use Rattle.fixed_num.specs.Number.{million, rounded}
use Rattle.scale_kit.specs.declared.bands.Bands.{Bands}
use Rattle.scale_kit.specs.Bands.{band_steps, width_of_band}

-- the width where there is a band and the steps are positive
pub width_of_some : (b : Bands) → (b.count == 0) ≡ false → int_lt (pos 0) (band_steps b) ≡ true
    → width_of_band b ≡ rounded (pos (unsigned_abs (b.r1 -ℤ b.r0)) *ℤ (pos million -ℤ b.inner)) (unsigned_abs (band_steps b))
width_of_some b some up = rw some (rw up refl)
