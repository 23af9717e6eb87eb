use Rattle.std.proofs.Common.{Option, false, subst}
use Rattle.cell_value.specs.Datum.{cell_at}
use Rattle.expr_eval.specs.Answers.{Evaluates}
use Rattle.scene_tree.specs.declared.shape.Shape.{Shape}
use Rattle.mark_encode.specs.Values.{number_shown, color_shown}
use Rattle.mark_encode.specs.Places.{place_for}
use Rattle.mark_encode.specs.inner.Scaled.{scaled_all}
use Rattle.mark_encode.specs.inner.Kinds.{place_values}
use Rattle.mark_encode.proofs.FixedLemmas.{symbol_by_shown}
use Rattle.mark_encode.proofs.symbols.symbol_for.Goals as goal

pub returns : goal.returns
returns g c =
    let P : Option (Option Shape) → Type 0 = λ given. Evaluates c.symbol_when.result given in
    let cells = cell_at c.args.row.now in
    let values = g.P.ParamReader.values c.args.params.now in
    subst P
    (symbol_by_shown (place_for cells values (place_values c.args.symbol.now.across)) (place_for cells values (place_values c.args.symbol.now.down))
    (number_shown false cells values (scaled_all c.args.symbol.now.size.values)) (color_shown cells values (scaled_all c.args.symbol.now.shape.values)))
    c.symbol_when.ensures
