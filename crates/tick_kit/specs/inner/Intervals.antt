-- What is asked of a list of intervals. No public clause cites this.
use Rattle.std.specs.Prelude.{◌*◌, ◌^◌, nat_le, Bool, true, ◌&&◌, List, [], ◌∷◌}
use Rattle.tick_kit.specs.declared.intervals.Interval.{Interval}

-- no product of the lengths of neighbours is above 3 * 10^20
abbrev pub are_close : Interval → List Interval → Bool
are_close a [] = true
are_close a (b ∷ longer) = nat_le (a.length * b.length) (3 * 10 ^ 20) && are_close b longer
