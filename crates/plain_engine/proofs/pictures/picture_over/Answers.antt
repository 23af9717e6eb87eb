use Rattle.std.proofs.Common.{map, sym, ap, ◌∙◌}
use Rattle.cell_value.specs.State.{dataset_of}
use Rattle.expr_eval.specs.Stores.{values_of_stores}
use Rattle.scene_tree.specs.Outcome.{◌>>=◌}
use Rattle.vega_charts.specs.Charts.{drawing_of}
use Rattle.vega_meaning.specs.Charts.{picture_of}
use Rattle.plain_engine.proofs.PictureLemmas.{picture_answered, picture_drawn, scales_drawn}
use Rattle.plain_engine.proofs.pictures.picture_over.Goals as goal

pub brushed-requires : goal.brushed-requires
brushed-requires c =
    c.laws_of_drawings.ensures.sound c.args.g.now (values_of_stores c.in_ok-read.read) c.args.params.now (map dataset_of c.args.sources.now) c.in-Ok.drawing
    c.requires.kept c.in-Ok.ensures

pub returns-in-Ok-clause-drawn : goal.returns-in-Ok-clause-drawn
returns-in-Ok-clause-drawn c =
    let g = c.args.g.now in
    let sources = map dataset_of c.args.sources.now in
    picture_drawn g c.args.stores.now c.in-Ok.drawing (drawing_of g (values_of_stores c.args.stores.now) c.args.params.now sources) c.brushed.result
    ((λ i. drawing_of g (values_of_stores (sym c.in_ok-read.ensures i)) c.args.params.now sources) ∙ c.in-Ok.ensures)
    (picture_answered g c.args.stores.now c.in-Ok.drawing c.brushed.result c.brushed.ensures.drawn c.brushed.ensures.scales)

pub returns-in-Ok-clause-scales : goal.returns-in-Ok-clause-scales
returns-in-Ok-clause-scales c =
    let g = c.args.g.now in
    let sources = map dataset_of c.args.sources.now in
    scales_drawn g c.args.stores.now c.in-Ok.drawing (drawing_of g (values_of_stores c.args.stores.now) c.args.params.now sources) c.brushed.result
    ((λ i. drawing_of g (values_of_stores (sym c.in_ok-read.ensures i)) c.args.params.now sources) ∙ c.in-Ok.ensures)
    c.brushed.ensures.scales

pub returns-in-Err-Overflow-clause-drawn : goal.returns-in-Err-Overflow-clause-drawn
returns-in-Err-Overflow-clause-drawn c =
    let g = c.args.g.now in
    let sources = map dataset_of c.args.sources.now in
    let out = rw c.in-Err-Overflow.field-0-is at c.in-Err-Overflow.ensures in
    ap (λ o. o >>= picture_of g c.args.stores.now)
    ((λ i. drawing_of g (values_of_stores (sym c.in_ok-read.ensures i)) c.args.params.now sources) ∙ out)

pub returns-in-Err-Panels-clause-drawn : goal.returns-in-Err-Panels-clause-drawn
returns-in-Err-Panels-clause-drawn c =
    let g = c.args.g.now in
    let sources = map dataset_of c.args.sources.now in
    let many = rw c.in-Err-Panels.field-0-is at c.in-Err-Panels.ensures in
    rw c.in-Err-Panels.field-0-is
    (ap (λ o. o >>= picture_of g c.args.stores.now)
    ((λ i. drawing_of g (values_of_stores (sym c.in_ok-read.ensures i)) c.args.params.now sources) ∙ many))
