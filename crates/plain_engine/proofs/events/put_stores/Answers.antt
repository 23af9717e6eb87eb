use Rattle.std.proofs.Common.{map, sym, ap, subst, ◌∙◌}
use Rattle.cell_value.specs.State.{dataset_of}
use Rattle.param_flow.specs.Machine.{reply_to_chart}
use Rattle.vega_lists.specs.Held.{AreSources}
use Rattle.vega_lists.proofs.StateLemmas.{sources_of_state}
use Rattle.vega_meaning.specs.Charts.{picture_over}
use Rattle.plain_engine.specs.inner.Sources.{IsDrawingOf}
use Rattle.plain_engine.proofs.EventLemmas.{kept_stored}
use Rattle.plain_engine.proofs.events.put_stores.Goals as goal

pub picture_over-requires-clause-sources : goal.picture_over-requires-clause-sources
picture_over-requires-clause-sources c = subst AreSources (sym c.as_slice.ensures) (sources_of_state c.args.st.now c.requires.kept.is)

pub picture_over-requires-clause-kept : goal.picture_over-requires-clause-kept
picture_over-requires-clause-kept c = c.requires.kept.rules

pub returns-in-Ok-clause-kept : goal.returns-in-Ok-clause-kept
returns-in-Ok-clause-kept c =
    let st = c.args.st.now in
    kept_stored c.args.g.now st c.args.drawing.now c.in-Ok.drawn c.args.stores c.requires.kept c.requires.stores
    (subst (λ sources. IsDrawingOf c.args.g.now (map dataset_of sources) st.params c.args.stores c.in-Ok.drawn) c.as_slice.ensures
    (subst (λ params. IsDrawingOf c.args.g.now (map dataset_of c.as_slice.result.now) params c.args.stores c.in-Ok.drawn) c.as_slice-2.ensures
    (subst (λ stores. IsDrawingOf c.args.g.now (map dataset_of c.as_slice.result.now) c.as_slice-2.result.now stores c.in-Ok.drawn) c.as_slice-3.ensures
    (record { picture = c.in-Ok.ensures.drawn; scales = c.in-Ok.ensures.scales }))))

pub returns-in-Ok-clause-reply : goal.returns-in-Ok-clause-reply
returns-in-Ok-clause-reply c =
    sym (ap reply_to_chart
    ((λ i. picture_over c.args.g.now (map dataset_of (sym c.as_slice.ensures i)) (sym c.as_slice-2.ensures i) (sym c.as_slice-3.ensures i))
    ∙ c.in-Ok.ensures.drawn))

pub returns-in-Err-Overflow-clause-reply : goal.returns-in-Err-Overflow-clause-reply
returns-in-Err-Overflow-clause-reply c =
    let out = rw c.in-Err-Overflow.field-0-is at c.in-Err-Overflow.ensures.drawn in
    sym (ap reply_to_chart
    ((λ i. picture_over c.args.g.now (map dataset_of (sym c.as_slice.ensures i)) (sym c.as_slice-2.ensures i) (sym c.as_slice-3.ensures i)) ∙ out))

pub returns-in-Err-Panels-clause-reply : goal.returns-in-Err-Panels-clause-reply
returns-in-Err-Panels-clause-reply c =
    let many = rw c.in-Err-Panels.field-0-is at c.in-Err-Panels.ensures.drawn in
    sym (ap reply_to_chart
    ((λ i. picture_over c.args.g.now (map dataset_of (sym c.as_slice.ensures i)) (sym c.as_slice-2.ensures i) (sym c.as_slice-3.ensures i)) ∙ many))
