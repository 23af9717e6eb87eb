-- Parts of instants as numbers.
use Rattle.std.proofs.Common.{◌≡◌, ℤ, pos, ◌*ℤ◌, Some, None, option_map, if◌then◌else◌, IsTrue, ap}
use Rattle.fixed_num.specs.Number.{million}
use Rattle.case_table.specs.declared.unit.PartOf.{PartOf}
use Rattle.time_calc.specs.Instants.{instant_at, stands_for_instant}
use Rattle.time_calc.specs.Parts.{part_of, part}
use Rattle.tick_kit.specs.TimeTicks.{whole_milliseconds}

-- a number that stands for an instant has it
pub instant_there : (number : ℤ) → IsTrue (stands_for_instant number) → instant_at number ≡ Some (whole_milliseconds number)
instant_there number h = ap (λ b. if b then Some (whole_milliseconds number) else None) h

pub part_there : (number : ℤ) (p : PartOf) → IsTrue (stands_for_instant number)
    → part number p ≡ Some (pos (part_of (whole_milliseconds number) p) *ℤ pos million)
part_there number p h = ap (option_map (λ instant. pos (part_of instant p) *ℤ pos million)) (instant_there number h)
