-- What holds of bins.
use Rattle.std.specs.Prelude.{pos, ◌+ℤ◌, ◌<ℤ◌, ◌≤ℤ◌}
use Rattle.plain_bins.specs.declared.bins.Bins.{Bins}

-- a bin has some width, and there is room for one
pub record AreBins (bins : Bins) : Type 0 where
  pub above_zero : pos 0 <ℤ bins.step
  pub room : (bins.start +ℤ bins.step) ≤ℤ bins.stop
