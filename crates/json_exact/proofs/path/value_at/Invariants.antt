use Rattle.std.proofs.Common.{◌≡◌, drop}
use Rattle.std.specs.Option.{option_and_then}
use Rattle.json_exact.specs.Path.{name_of, member_value}
use Rattle.json_exact.proofs.path.value_at.Given as goal

abbrev pub invariant-loop-member : goal.invariant-loop-member
invariant-loop-member l = option_and_then (member_value (drop l.member-index l.members)) (name_of l.word)
    ≡ option_and_then (member_value l.members) (name_of l.word)
