use Rattle.std.proofs.Common.{◌≡◌, drop, map}
use Rattle.param_flow.specs.Commands.{has_only}
use Rattle.play_script.proofs.values.has_only.Given as goal

abbrev pub invariant-loop-member : goal.invariant-loop-member
invariant-loop-member l =
    has_only (map (λ k. k.now) l.names) (drop l.member-index l.members) ≡ has_only (map (λ k. k.now) l.names) l.members
