use Rattle.plot_scenes.specs.Legends.{block_shown}
use Rattle.guide_kit.proofs.AllLemmas.{begun, stopped}
use Rattle.plot_scenes.proofs.legends.blocks_in.Goals as goal

pub loop-shown-init : goal.loop-shown-init
loop-shown-init c = begun _ c.new-blocks.result c.new-blocks.ensures

pub returns-in-Err : goal.returns-in-Err
returns-in-Err c =
    stopped block_shown c.args.legends.now c.loop-shown.shown-index _ c.loop-shown.blocks _ c.in-Err.error c.loop-shown-test.true
    c.shown-item.is c.loop-shown.invariant c.in-Err.ensures
