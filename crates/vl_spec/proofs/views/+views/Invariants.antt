use Rattle.std.proofs.Common.{◌≡◌, ◌++◌, take}
use Rattle.vl_spec.proofs.views.+views.Given as goal

abbrev pub invariant-push_copies-loop-view : goal.invariant-push_copies-loop-view
invariant-push_copies-loop-view l = l.out ≡ l.fn.out ++ take l.view-index l.views
