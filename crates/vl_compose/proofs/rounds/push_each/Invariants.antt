use Rattle.std.proofs.Common.{◌≡◌, ◌++◌, drop, map}
use Rattle.vl_compose.proofs.rounds.push_each.Given as goal

abbrev pub invariant-loop-transform : goal.invariant-loop-transform
invariant-loop-transform l = map (λ t. t.now) l.transforms ++ drop l.transform-index l.own ≡ map (λ t. t.now) l.fn.transforms ++ l.own
