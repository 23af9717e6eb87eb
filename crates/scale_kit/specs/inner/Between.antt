-- What lies between two ends, in either order, both included.
use Rattle.std.specs.Prelude.{ℕ, ◌<◌, ℤ, ◌≤ℤ◌, Option, IfSome}

pub record IsBetween (from to z : ℤ) : Type 0 where
  pub up : from ≤ℤ to → (from ≤ℤ z) × (z ≤ℤ to)
  pub down : to ≤ℤ from → (to ≤ℤ z) × (z ≤ℤ from)

-- an index, if there is one, is below a bound
abbrev pub IsBelow : ℕ → Option ℕ → Type 0
IsBelow bound index = IfSome index (λ k. k < bound)
