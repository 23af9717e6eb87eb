use Rattle.std.proofs.Common.{◌≡◌, ◌++◌, drop, map}
use Rattle.std.specs.List.{filter_map}
use Rattle.vl_names.specs.inner.Looked.{named_by}
use Rattle.vl_names.proofs.circles.all_named.Given as goal

abbrev pub invariant-loop-name : goal.invariant-loop-name
invariant-loop-name l = l.out ++ filter_map (named_by l.index) (map (λ n. n.now) (drop l.name-index l.names))
    ≡ filter_map (named_by l.index) (map (λ n. n.now) l.names)
