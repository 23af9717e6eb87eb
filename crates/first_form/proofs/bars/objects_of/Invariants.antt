use Rattle.std.proofs.Common.{◌≡◌, ◌++◌, map, drop}
use Rattle.first_form.specs.Opening.{value_object}
use Rattle.first_form.proofs.bars.objects_of.Given as goal

abbrev pub invariant-loop-value : goal.invariant-loop-value
invariant-loop-value l = l.objects ++ map (value_object l.x l.y) (drop l.value-index l.values) ≡ map (value_object l.x l.y) l.values
