use Rattle.std.proofs.Common.{◌≡◌, drop}
use Rattle.std.specs.Prelude.{filter_map, slice_get}
use Rattle.vega_rules.specs.inner.Counted.{counted_by}
use Rattle.vega_rules.proofs.limits.one_behind.Given as goal

-- the one behind those that are left
abbrev pub invariant-loop-part : goal.invariant-loop-part
invariant-loop-part l =
    slice_get (filter_map (counted_by l.what) (drop l.part-index l.parts)) l.left ≡ slice_get (filter_map (counted_by l.what) l.parts) 32
