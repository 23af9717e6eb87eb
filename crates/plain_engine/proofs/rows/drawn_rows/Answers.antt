use Rattle.std.proofs.Common.{◌≡◌, ℕ, map, sym, subst, ◌∙◌}
use Rattle.cell_value.specs.State.{dataset_of}
use Rattle.expr_eval.specs.Stores.{values_of_stores}
use Rattle.vega_charts.specs.Charts.{drawing_of}
use Rattle.vega_meaning.specs.UnitRows.{unit_rows}
use Rattle.plain_engine.specs.inner.Drawn.{IsDrawnOver}
use Rattle.plain_engine.specs.inner.Rows.{told}
use Rattle.plain_engine.proofs.TopLemmas.{not_stopped}
use Rattle.plain_engine.proofs.rows.drawn_rows.Goals as goal

pub returns-in-Ok : goal.returns-in-Ok
returns-in-Ok c =
    let g = c.args.g.now in
    let sources = map dataset_of c.args.sources.now in
    subst (λ stores. (unit : ℕ) → told c.in-Ok.rows unit ≡ unit_rows g (values_of_stores stores) c.args.params.now sources unit) c.in_ok-read.ensures
    (c.in-Ok.ensures.rows
    (subst (λ stores. IsDrawnOver g (values_of_stores stores) c.args.params.now sources) (sym c.in_ok-read.ensures) c.requires.drawn))

pub unreachable-requires : goal.unreachable-requires
unreachable-requires c =
    let g = c.args.g.now in
    let sources = map dataset_of c.args.sources.now in
    let stops = rw c.in-Err-Overflow.field-0-is at c.in-Err-Overflow.ensures.stops in
    not_stopped g (values_of_stores c.args.stores.now) c.args.params.now sources c.requires.drawn
    ((λ i. drawing_of g (values_of_stores (sym c.in_ok-read.ensures i)) c.args.params.now sources) ∙ stops)
