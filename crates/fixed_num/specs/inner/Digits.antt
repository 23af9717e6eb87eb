-- Digits read one after another, and digits that are cut off.
use Rattle.std.specs.Prelude.{ℕ, ◌+◌, ◌*◌, ◌^◌, ◌++◌, List, length, ℤ, nat_lt, nat_le, Bool, if◌then◌else◌}
use Rattle.fixed_num.specs.Number.{signed, rounded}
use Rattle.fixed_num.specs.JsonNumber.{number_of}

-- the number that digits make after a number
abbrev pub number_after : ℕ → List ℕ → ℕ
number_after n ds = n * 10 ^ length ds + number_of ds

-- digits after a point reach the middle, or below zero pass it
unfoldable pub rounds_away : Bool → List ℕ → Bool
rounds_away minus ds = if minus then nat_lt (10 ^ length ds) (2 * number_of ds) else nat_le (10 ^ length ds) (2 * number_of ds)

-- a number of the digits kept and the digits cut off, rounded where it is cut
unfoldable pub rounded_at : Bool → List ℕ → List ℕ → ℤ
rounded_at minus kept cut = rounded (signed minus (number_of (kept ++ cut))) (10 ^ length cut)
