use Rattle.std.proofs.Common.{◌≡◌, drop}
use Rattle.vega_signals.specs.inner.Places.{number_under, sets_stand}
use Rattle.vega_signals.proofs.placed.sets_stand.Given as goal

abbrev pub invariant-loop-set : goal.invariant-loop-set
invariant-loop-set l =
    sets_stand (number_under l.places) l.most (number_under l.lists) (drop l.set-index l.sets)
    ≡ sets_stand (number_under l.places) l.most (λ name. 0) l.sets
