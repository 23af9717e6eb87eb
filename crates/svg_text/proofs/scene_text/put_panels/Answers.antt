use Rattle.svg_text.specs.SceneText.{panel_text}
use Rattle.svg_text.proofs.Steps.{prints_nothing, prints_item, prints_to_item, prints_all}
use Rattle.svg_text.proofs.scene_text.put_panels.Goals as goal

pub loop-panel-init : goal.loop-panel-init
loop-panel-init g c = prints_nothing c.args.out.now c.args.page.now _

pub returns-in_err-put_panel : goal.returns-in_err-put_panel
returns-in_err-put_panel g c =
    prints_to_item panel_text c.args.panels.now c.loop-panel.panel-index c.panel-item.result c.loop-panel-test.true c.panel-item.is
    c.from_residual.ensures.0 c.loop-panel.invariant c.in_err-put_panel.ensures

pub loop-panel-preserved : goal.loop-panel-preserved
loop-panel-preserved g c = prints_item panel_text c.args.panels.now c.loop-panel.panel-index c.panel-item.result c.loop-panel-test.true
    c.panel-item.is c.loop-panel.invariant c.in_ok-put_panel.ensures

pub returns : goal.returns
returns g c = prints_all panel_text c.args.panels.now c.loop-panel.panel-index c.loop-panel-test.false c.loop-panel.invariant
