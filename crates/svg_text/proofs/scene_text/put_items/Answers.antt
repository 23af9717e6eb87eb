use Rattle.svg_text.specs.SceneText.{item_text}
use Rattle.svg_text.proofs.Steps.{prints_nothing, prints_item, prints_to_item, prints_all}
use Rattle.svg_text.proofs.scene_text.put_items.Goals as goal

pub loop-item-init : goal.loop-item-init
loop-item-init g c = prints_nothing c.args.out.now c.args.page.now _

pub returns-in_err-put_item : goal.returns-in_err-put_item
returns-in_err-put_item g c = prints_to_item item_text c.args.items.now c.loop-item.item-index c.item-item.result c.loop-item-test.true
    c.item-item.is c.from_residual.ensures.0 c.loop-item.invariant c.in_err-put_item.ensures

pub loop-item-preserved : goal.loop-item-preserved
loop-item-preserved g c = prints_item item_text c.args.items.now c.loop-item.item-index c.item-item.result c.loop-item-test.true
    c.item-item.is c.loop-item.invariant c.in_ok-put_item.ensures

pub returns : goal.returns
returns g c = prints_all item_text c.args.items.now c.loop-item.item-index c.loop-item-test.false c.loop-item.invariant
