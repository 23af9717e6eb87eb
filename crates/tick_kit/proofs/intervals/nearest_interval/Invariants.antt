use Rattle.std.proofs.Common.{◌≡◌, drop, IsTrue}
use Rattle.tick_kit.specs.Intervals.{nearest_interval}
use Rattle.tick_kit.specs.inner.Intervals.{are_close}
use Rattle.tick_kit.proofs.intervals.nearest_interval.Given as goal

abbrev pub invariant-loop-b : goal.invariant-loop-b
invariant-loop-b l = record {
  close : IsTrue (are_close l.a (drop l.b-index l.longer));
  same : nearest_interval l.span l.count l.a (drop l.b-index l.longer) ≡ nearest_interval l.span l.count l.fn.first l.longer;
}
