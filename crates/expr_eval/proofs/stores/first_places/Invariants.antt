use Rattle.std.proofs.Common.{◌≤◌, length, drop}
use Rattle.expr_eval.specs.inner.Stores.{LeadsTo}
use Rattle.expr_eval.proofs.stores.first_places.Given as goal

abbrev pub invariant-loop-left : goal.invariant-loop-left
invariant-loop-left l = (l.left ≤ length l.stores) × LeadsTo l.places l.stores (drop l.left l.stores)

abbrev pub decreases-loop-left : goal.decreases-loop-left
decreases-loop-left l = l.left
