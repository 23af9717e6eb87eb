use Rattle.std.proofs.Common.{◌≡◌, drop}
use Rattle.time_calc.specs.TimeUnits.{keeps}
use Rattle.unit_plan.proofs.starts.keeps.Given as goal

abbrev pub invariant-loop-one : goal.invariant-loop-one
invariant-loop-one l = keeps (drop l.one-index l.kept) l.part ≡ keeps l.kept l.part
