-- Where a place lies beyond a panel, so far that its distance is out of range.
use Rattle.std.proofs.Common.{◌≡◌, ℤ, pos, ◌-ℤ◌, ◌<ℤ◌, ◌≤ℤ◌, arith}
use Rattle.std.proofs.lemmas.Int.{ints}
use Rattle.std.specs.Int.{int_max}
use Rattle.fixed_num.specs.Number.{IsNumber}
use Rattle.selection_events.specs.Drags.{along}

pub before_panel : (begin size at : ℤ) → at <ℤ begin → pos 0 ≡ along begin size at
before_panel begin size at less = grind (arith, ints)

pub behind_panel : (begin size at : ℤ) → IsNumber begin → IsNumber size → IsNumber at → begin ≤ℤ at → (IsNumber (at -ℤ begin) → ⊥)
    → int_max (pos 0) size ≡ along begin size at
behind_panel begin size at from long there right out = grind (arith, ints)
