use Rattle.std.proofs.Common.{◌≡◌, take}
use Rattle.mark_encode.specs.Groups.{last_named}
use Rattle.mark_encode.proofs.groups.last_named.Given as goal

abbrev pub invariant-loop-at : goal.invariant-loop-at
invariant-loop-at l = last_named (take l.at l.cells) l.name ≡ last_named l.cells l.name
