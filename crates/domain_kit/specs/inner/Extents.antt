-- The extent of numbers as it is found in one pass.
use Rattle.std.specs.Prelude.{ℤ, Option, Some, None, List}
use Rattle.std.specs.Int.{int_min, int_max}
use Rattle.tick_kit.specs.Domains.{least, greatest, extent_of}

-- the ends of the numbers so far, with one that may be there
abbrev pub with_number : Option (ℤ × ℤ) → Option ℤ → Option (ℤ × ℤ)
with_number ends None = ends
with_number None (Some n) = Some (n, n)
with_number (Some ends) (Some n) = Some (int_min ends.0 n, int_max ends.1 n)

-- the extent of the numbers so far and of others
abbrev pub extent_behind : Option (ℤ × ℤ) → List ℤ → ℤ × ℤ
extent_behind None ns = extent_of ns
extent_behind (Some ends) ns = (least ends.0 ns, greatest ends.1 ns)
