use Rattle.std.proofs.Common.{◌≡◌, ◌+◌, ◌<◌, ◌≤◌, ◌^◌, ◌++◌, ◌∷◌, take}
use Rattle.fixed_num.specs.Decimal.{fraction_digits}
use Rattle.fixed_num.proofs.decimal.put_fraction.Given as goal

abbrev pub invariant-loop-rest : goal.invariant-loop-rest
invariant-loop-rest l =
    record {
      room : l.end + l.places ≡ l.at + 7;
      below : l.rest < 10 ^ l.places;
      written : take l.end l.buf ++ fraction_digits l.places l.rest ≡ take l.at l.fn.buf ++ 46 ∷ fraction_digits 6 l.fraction;
      six : l.places ≤ 6;
    }

abbrev pub decreases-loop-rest : goal.decreases-loop-rest
decreases-loop-rest l = l.places
