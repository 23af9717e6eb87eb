use Rattle.std.proofs.Common.{◌&&◌, length, refl}
use Rattle.scene_tree.specs.Hits.{has_key, holds_point}
use Rattle.scene_tree.proofs.RunLemmas.{run_here, run_before}
use Rattle.scene_tree.proofs.hits.last_hit_among.Goals as goal

pub returns-in-Some : goal.returns-in-Some
returns-in-Some c =
    run_here (λ item. has_key item && holds_point item.shape c.args.x c.args.y) c.runs-runs.result.now c.loop-at.at c.index-runs-at.result
    c.as_slice-run.result.now c.loop-at.before (length c.as_slice-run.result.now) _ c.loop-at-test.true c.loop-at.auto.at c.index-runs-at.is
    c.as_slice-run.ensures refl c.loop-at.invariant c.in-Some.item c.in-Some.ensures.value

pub loop-at-preserved : goal.loop-at-preserved
loop-at-preserved c =
    run_before (λ item. has_key item && holds_point item.shape c.args.x c.args.y) c.runs-runs.result.now c.loop-at.at c.index-runs-at.result
    c.as_slice-run.result.now c.loop-at.before (length c.as_slice-run.result.now) _ c.loop-at-test.true c.loop-at.auto.at c.index-runs-at.is
    c.as_slice-run.ensures refl c.loop-at.invariant c.in_default.ensures.value
