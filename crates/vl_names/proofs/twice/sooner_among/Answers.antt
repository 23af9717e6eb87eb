use Rattle.std.proofs.Common.{arith}
use Rattle.vl_trails.specs.Faults.{wrong_if}
use Rattle.vl_names.specs.Twice.{is_repeated}
use Rattle.vl_names.specs.inner.First.{place_under}
use Rattle.vl_names.proofs.LoopLemmas.{one_step}
use Rattle.vl_names.proofs.twice.sooner_among.Goals as goal

pub loop-given-preserved : goal.loop-given-preserved
loop-given-preserved c =
    one_step c.args.tree.now (λ g. wrong_if (is_repeated c.args.tree.now (place_under c.args.firsts.now) g) g.trail) c.args.all.now
    c.loop-given.given-index c.given-item.result c.loop-given.so_far _ _ (omega arith) c.given-item.is c.in_ok-so_far.ensures c.loop-given.invariant
