use Rattle.std.proofs.Common.{◌≡◌, ◌++◌, drop}
use Rattle.vl_names.specs.Circles.{needs_among}
use Rattle.vl_names.specs.inner.Looked.{named_by}
use Rattle.vl_names.proofs.circles.needs_among.Given as goal

abbrev pub invariant-loop-param : goal.invariant-loop-param
invariant-loop-param l = l.needs ++ needs_among (named_by l.index) (drop l.param-index l.params) ≡ needs_among (named_by l.index) l.params
