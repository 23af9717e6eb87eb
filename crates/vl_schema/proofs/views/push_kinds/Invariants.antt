use Rattle.std.proofs.Common.{◌≡◌, ◌++◌, take, map}
use Rattle.vl_schema.specs.inner.Tables.{view_of}
use Rattle.vl_schema.proofs.views.push_kinds.Given as goal

abbrev pub invariant-loop-kind : goal.invariant-loop-kind
invariant-loop-kind l = l.out ≡ l.fn.out ++ map (view_of l.object l.top) (take l.kind-index l.kinds)
