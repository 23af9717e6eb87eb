use Rattle.std.proofs.Common.{◌≡◌, drop}
use Rattle.std.specs.List.{find}
use Rattle.need_graph.specs.Needs.{needs_itself}
use Rattle.need_graph.proofs.first.first_in_need_of_itself.Given as goal

abbrev pub invariant-loop-v : goal.invariant-loop-v
invariant-loop-v l = find (needs_itself l.needs) (drop l.v-index l.candidates) ≡ find (needs_itself l.needs) l.candidates
