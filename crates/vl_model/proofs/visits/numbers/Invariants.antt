use Rattle.std.proofs.Common.{◌≡◌, take, map}
use Rattle.vl_model.proofs.visits.numbers.Given as goal

abbrev pub invariant-loop-around : goal.invariant-loop-around
invariant-loop-around l = l.place ≡ map (λ a. a.number) (take l.around-index l.trail)
