use Rattle.std.proofs.Common.{◌≡◌, ◌++◌, map}
use Rattle.view_layout.specs.Layout.{places_in}
use Rattle.view_layout.specs.inner.Plans.{places_of}
use Rattle.view_layout.proofs.plan.+placing.Given as goal

abbrev pub invariant-place_each-loop-cell : goal.invariant-place_each-loop-cell
invariant-place_each-loop-cell l =
    l.out ++ places_in (map places_of l.cell-iterator.a.rest.now) l.cell-iterator.b.rest.now l.x l.y
    ≡ l.initial.out ++ places_in (map places_of l.cells) l.corners l.x l.y
