use Rattle.std.proofs.Common.{◌++◌, append_assoc, sym, ap}
use Rattle.std.specs.Prelude.{codes}
use Rattle.std.specs.List.{flat_map}
use Rattle.svg_text.specs.SceneText.{item_text, origin_text}
use Rattle.svg_text.proofs.Runs.{items_text}
use Rattle.svg_text.proofs.Steps.{prints_begun, prints_same, prints_then}
use Rattle.svg_text.proofs.scene_text.put_panel.Goals as goal

pub returns-in_err-put_origin : goal.returns-in_err-put_origin
returns-in_err-put_origin g c =
    prints_begun (flat_map item_text c.args.panel.now.items ++ codes "</g>\n") _
    (sym (append_assoc (origin_text c.args.panel.now.x c.args.panel.now.y) (flat_map item_text c.args.panel.now.items)
    (codes "</g>\n"))) c.from_residual.ensures.0 c.in_err-put_origin.ensures

pub returns-in_err-put_runs : goal.returns-in_err-put_runs
returns-in_err-put_runs g c =
    prints_begun (codes "</g>\n") _
    (ap (λ t. (origin_text c.args.panel.now.x c.args.panel.now.y ++ t) ++ codes "</g>\n") (items_text c.runs.result.now c.args.panel.now.items c.runs.ensures))
    c.from_residual-in_err-put_runs.ensures.0 (prints_then c.in_ok-put_origin.ensures c.in_err-put_runs.ensures)

pub returns : goal.returns
returns g c =
    prints_same
    (ap (λ t. (origin_text c.args.panel.now.x c.args.panel.now.y ++ t) ++ codes "</g>\n") (items_text c.runs.result.now c.args.panel.now.items c.runs.ensures))
    (prints_then (prints_then c.in_ok-put_origin.ensures c.in_ok-put_runs.ensures) c.put_text.ensures)
