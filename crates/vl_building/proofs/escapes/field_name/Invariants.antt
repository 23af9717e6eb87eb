use Rattle.vl_building.proofs.EscapeLemmas.{Walked}
use Rattle.vl_building.proofs.escapes.field_name.Given as goal

abbrev pub invariant-loop-c : goal.invariant-loop-c
invariant-loop-c l = Walked l.out l.waits l.yielded
