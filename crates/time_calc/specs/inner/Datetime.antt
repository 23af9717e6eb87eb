-- Bounds of whole numbers, by powers of ten. No public clause cites this.
use Rattle.std.specs.Prelude.{ℕ, ◌^◌, ℤ, pos, neg_ℤ, ◌≤ℤ◌}

-- a number is from -10^k to 10^k
abbrev pub IsWithin : ℕ → ℤ → Type 0
IsWithin k n = (neg_ℤ (pos (10 ^ k)) ≤ℤ n) × (n ≤ℤ pos (10 ^ k))
