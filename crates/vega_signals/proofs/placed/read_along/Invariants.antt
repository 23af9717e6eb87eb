use Rattle.std.proofs.Common.{◌≡◌, drop}
use Rattle.vega_signals.specs.inner.Places.{number_under, read_along}
use Rattle.vega_signals.proofs.placed.read_along.Given as goal

abbrev pub invariant-loop-transform : goal.invariant-loop-transform
invariant-loop-transform l =
    read_along (number_under l.places) l.most (number_under l.lists) (drop l.transform-index l.transforms) l.read
    ≡ read_along (number_under l.places) l.most (number_under l.lists) l.transforms l.before
