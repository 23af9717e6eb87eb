use Rattle.std.proofs.Common.{map, sym, subst}
use Rattle.std.specs.Prelude.{IfOk}
use Rattle.std.specs.Result.{result_map_both}
use Rattle.cell_value.specs.State.{dataset_of}
use Rattle.expr_eval.specs.Stores.{values_of_stores}
use Rattle.vega_lists.specs.Held.{AreSources}
use Rattle.vega_lists.proofs.StateLemmas.{sources_of_state}
use Rattle.vega_charts.specs.Charts.{drawing_of}
use Rattle.vega_meaning.specs.Answers.{Draws}
use Rattle.vega_meaning.specs.Charts.{picture_over}
use Rattle.plain_engine.specs.inner.Pictures.{shown, HasScales}
use Rattle.plain_engine.proofs.PictureLemmas.{same_error}
use Rattle.plain_engine.proofs.pictures.picture_of_state.Goals as goal

pub picture_over-requires-clause-sources : goal.picture_over-requires-clause-sources
picture_over-requires-clause-sources c = subst AreSources (sym c.as_slice.ensures) (sources_of_state c.args.st.now c.requires.state)

pub returns-clause-drawn : goal.returns-clause-drawn
returns-clause-drawn c =
    subst (λ outcome. Draws outcome (result_map_both (shown c.args.g.now) same_error c.picture_over.result))
    (λ i. picture_over c.args.g.now (map dataset_of (c.as_slice.ensures i)) (c.as_slice-2.ensures i) (c.as_slice-3.ensures i)) c.picture_over.ensures.drawn

pub returns-clause-scales : goal.returns-clause-scales
returns-clause-scales c =
    subst (λ outcome. IfOk c.picture_over.result (HasScales outcome))
    (λ i. drawing_of c.args.g.now (values_of_stores (c.as_slice-3.ensures i)) (c.as_slice-2.ensures i) (map dataset_of (c.as_slice.ensures i)))
    c.picture_over.ensures.scales
