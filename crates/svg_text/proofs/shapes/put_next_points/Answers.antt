use Rattle.std.proofs.Common.{◌++◌}
use Rattle.std.specs.Prelude.{codes}
use Rattle.svg_text.specs.SceneText.{point_text}
use Rattle.svg_text.proofs.Steps.{prints_nothing, prints_item, prints_to_item, prints_all}
use Rattle.svg_text.proofs.shapes.put_next_points.Goals as goal

pub loop-point-init : goal.loop-point-init
loop-point-init g c = prints_nothing c.args.out.now c.args.page.now _

pub returns-in_err-put_next_point : goal.returns-in_err-put_next_point
returns-in_err-put_next_point g c =
    prints_to_item (λ p. codes " " ++ point_text p) c.args.points.now c.loop-point.point-index c.point-item.result c.loop-point-test.true
    c.point-item.is c.from_residual.ensures.0 c.loop-point.invariant c.in_err-put_next_point.ensures

pub loop-point-preserved : goal.loop-point-preserved
loop-point-preserved g c = prints_item (λ p. codes " " ++ point_text p) c.args.points.now c.loop-point.point-index c.point-item.result
    c.loop-point-test.true c.point-item.is c.loop-point.invariant c.in_ok-put_next_point.ensures

pub returns : goal.returns
returns g c = prints_all (λ p. codes " " ++ point_text p) c.args.points.now c.loop-point.point-index c.loop-point-test.false
    c.loop-point.invariant
