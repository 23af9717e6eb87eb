use Rattle.std.proofs.Common.{◌++◌, ◌∙◌, drop, ap}
use Rattle.std.specs.Prelude.{codes}
use Rattle.std.specs.List.{flat_map}
use Rattle.svg_text.specs.SceneText.{point_text}
use Rattle.svg_text.proofs.Steps.{prints_no_text, prints_begun, prints_same, prints_then, no_points, first_and_others, others_are}
use Rattle.svg_text.proofs.shapes.put_points.Goals as goal

pub returns-in_default : goal.returns-in_default
returns-in_default g c = prints_no_text c.args.out.now c.args.page.now _ (no_points c.args.points.now c.in_default.len_below)

pub returns-in_err-put_point : goal.returns-in_err-put_point
returns-in_err-put_point g c =
    prints_begun (flat_map (λ p. codes " " ++ point_text p) (drop 1 c.args.points.now)) _
    (first_and_others c.args.points.now c.first-item.result c.in-len1-up.len_at_least c.first-item.is)
    c.from_residual.ensures.0 c.in_err-put_point.ensures

pub returns : goal.returns
returns g c =
    let points = c.args.points.now in
    let first = c.first-item.result in
    let others = ap (λ ps. point_text first ++ flat_map (λ p. codes " " ++ point_text p) ps) (others_are points) in
    prints_same (others ∙ first_and_others points first c.in-len1-up.len_at_least c.first-item.is)
    (prints_then c.in_ok-put_point.ensures c.put_next_points.ensures)
