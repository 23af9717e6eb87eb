use Rattle.std.proofs.Common.{◌≡◌, ◌-◌, ◌++◌, map}
use Rattle.std.specs.List.{range_with_len}
use Rattle.view_layout.specs.Grid.{greatest, every, columns_of}
use Rattle.view_layout.proofs.spans.columns_of.Given as goal

abbrev pub invariant-loop-k : goal.invariant-loop-k
invariant-loop-k l =
    l.out ++ map (λ k. greatest (every l.n k l.spans)) (range_with_len l.k (l.k-end - l.k)) ≡ columns_of l.n l.spans
