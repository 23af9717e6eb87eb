use Rattle.std.proofs.Common.{List, Option, subst}
use Rattle.scene_tree.specs.declared.scene.Item.{Item}
use Rattle.expr_eval.specs.Answers.{Evaluates}
use Rattle.mark_encode.specs.Channels.{channel_values}
use Rattle.mark_encode.proofs.ShapeLemmas.{same_items}
use Rattle.mark_encode.proofs.items.items_for.Goals as goal

pub returns : goal.returns
returns g c =
    let P : Option (List Item) → Type 0 = λ given. Evaluates c.row_items-items.result given in
    subst P
    (same_items c.in_ok-mark.mark c.args.type_ c.args.unit c.args.plot.now.width c.args.plot.now.height
    (channel_values c.args.plot.now.scales.now c.args.sets.now)
    (g.P.ParamReader.values c.args.params.now) c.args.rows.now c.in_ok-mark.ensures)
    c.row_items-items.ensures
