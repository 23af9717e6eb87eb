use Rattle.std.proofs.Common.{arith}
use Rattle.vl_names.specs.Unknown.{view_faults}
use Rattle.vl_names.specs.inner.Looked.{known_shown}
use Rattle.vl_names.specs.inner.Shown.{view_shown}
use Rattle.vl_names.proofs.LoopLemmas.{one_shown}
use Rattle.vl_names.proofs.unknown.sooner_unknown.Goals as goal

pub loop-here-preserved : goal.loop-here-preserved
loop-here-preserved c =
    one_shown c.args.tree.now view_shown (view_faults (known_shown c.args.known.now)) c.args.views.now c.loop-here.here-index c.here-item.result
    c.loop-here.so_far _ _ (omega arith) c.here-item.is c.in_ok-so_far.ensures c.loop-here.invariant
