use Rattle.std.proofs.Common.{arith}
use Rattle.vl_names.specs.inner.Shown.{view_shown}
use Rattle.vl_rules.specs.Views.{faults_of_view}
use Rattle.vl_rules.proofs.LoopLemmas.{one_shown}
use Rattle.vl_rules.proofs.views.sooner_views.Goals as goal

pub loop-here-preserved : goal.loop-here-preserved
loop-here-preserved c =
    one_shown c.args.tree.now view_shown (faults_of_view c.args.tree.now c.args.first.now c.args.params.now c.args.offers.now)
    c.args.views.now c.loop-here.here-index c.here-item.result
    c.loop-here.so_far c.in_ok-so_far.so_far _ (omega arith) c.here-item.is c.in_ok-so_far.ensures c.loop-here.invariant
