use Rattle.std.proofs.Common.{◌≡◌}
use Rattle.std.specs.Vec.Iter.{into_iter_items}
use Rattle.json_exact.specs.Path.{member_value}
use Rattle.play_script.proofs.values.member_of.Given as goal

abbrev pub invariant-loop-member : goal.invariant-loop-member
invariant-loop-member l = member_value (into_iter_items l.member-iterator) l.name ≡ member_value l.fn.members l.name
