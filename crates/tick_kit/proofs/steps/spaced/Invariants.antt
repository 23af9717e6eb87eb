use Rattle.std.proofs.Common.{◌≡◌, ◌*◌, ◌^◌, ◌≤◌, None, find}
use Rattle.tick_kit.specs.Steps.{steps_below}
use Rattle.tick_kit.proofs.StepLemmas.{is_taken}
use Rattle.tick_kit.proofs.steps.spaced.Given as goal

abbrev pub invariant-loop-turn : goal.invariant-loop-turn
invariant-loop-turn l = record {
  power : l.power ≡ 10 ^ l._turn;
  parts : l.power * l.count ≤ 2 ^ 96;
  none : find (is_taken l.span l.count) (steps_below l._turn) ≡ None;
}
