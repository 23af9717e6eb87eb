use Rattle.std.proofs.Common.{ℕ, ◌+◌, Some, length, map, arith, sym, ap, subst, ◌∙◌}
use Rattle.cell_value.specs.declared.state.ChartState.{ChartState}
use Rattle.cell_value.specs.State.{dataset_of, state_of}
use Rattle.vega_meaning.specs.Semantics.{signals_in}
use Rattle.plain_engine.specs.inner.Kept.{IsKept}
use Rattle.plain_engine.specs.inner.Sources.{sources_changed, reply_at, IsDrawingOf}
use Rattle.plain_engine.proofs.Places.{whole}
use Rattle.plain_engine.proofs.Replies.{kept_done, kept_same}
use Rattle.plain_engine.proofs.sources.change_source.Goals as goal

pub returns-in-Ok-Done-clause-kept : goal.returns-in-Ok-Done-clause-kept
returns-in-Ok-Done-clause-kept c =
    let g = c.args.g.now in
    let st = c.args.st.now in
    let index = c.args.index in
    let change = c.args.change.now in
    let held = c.change_rows-result.new.drawing in
    let items = c.deref_mut.ensures.value ∙ c.into_vec-sources.ensures ∙ c.replace.ensures.value in
    let params = c.as_slice.ensures in
    let stores = c.as_slice-2.ensures in
    let given = c.as_slice-3.ensures ∙ c.in_ok-signals.ensures in
    let signals = signals_in g (state_of st) in
    let value = ap length c.deref_mut.ensures.value in
    let same = c.change_rows-result.auto.sources in
    let long = c.deref_mut.ensures.len in
    let placed = c.from_vec.ensures
    ∙ whole c.into_vec-sources.result.len c.change_rows-result.new.sources c.into_vec-sources.result.items (same ∙ value)
    (omega (arith, long, value)) in
    let replied = rw c.in-Ok-Done.field-0-is at c.in-Ok-Done.ensures.reply in
    let changed = rw c.in-Ok-Done.field-0-is at c.in-Ok-Done.ensures.sources in
    let drawn = rw c.in-Ok-Done.field-0-is at c.in-Ok-Done.ensures.drawn in
    let here = subst (λ sources. IsDrawingOf g (map dataset_of sources) st.params st.stores held) (sym placed)
    (subst (λ params. IsDrawingOf g (map dataset_of c.change_rows-result.new.sources) params st.stores held) params
    (subst (λ stores. IsDrawingOf g (map dataset_of c.change_rows-result.new.sources) c.as_slice.result.now stores held) stores drawn)) in
    let now : ℕ → Type 0 = λ more. (let now : ChartState = record {
      next_id = st.next_id + more;
      sources = c.from_vec.result;
      params = st.params;
      stores = st.stores;
    } in
    IsKept g now held) in
    subst now (sym c.len.ensures)
    (kept_done g st c.args.drawing.now signals index change c.requires.within c.requires.kept c.from_vec.result held
    ((λ i. sources_changed (sym stores i) st.next_id (sym given i) (map dataset_of (sym items i)) index change) ∙ changed
    ∙ ap (λ sources. Some (map dataset_of sources)) (sym placed))
    (replied ∙ (λ i. reply_at g (stores i) st.next_id (params i) (given i) (map dataset_of (items i)) index change))
    here)

pub returns-in-Ok-Refused-clause-kept : goal.returns-in-Ok-Refused-clause-kept
returns-in-Ok-Refused-clause-kept c =
    let items = c.deref_mut.ensures.value ∙ c.into_vec-sources.ensures ∙ c.replace.ensures.value in
    let value = ap length c.deref_mut.ensures.value in
    let same = c.change_rows-result.auto.sources in
    let long = c.deref_mut.ensures.len in
    let placed = c.from_vec.ensures
    ∙ whole c.into_vec-sources.result.len c.change_rows-result.new.sources c.into_vec-sources.result.items (same ∙ value)
    (omega (arith, long, value)) in
    let left = rw c.in-Ok-Refused.field-0-is at c.in-Ok-Refused.ensures.sources in
    let shown = rw c.in-Ok-Refused.field-0-is at c.in-Ok-Refused.ensures.drawn in
    kept_same c.args.g.now c.args.st.now c.args.drawing.now c.change_rows-result.new.drawing c.from_vec.result c.requires.kept (placed ∙ left ∙ items) shown

pub returns-clause-kept : goal.returns-clause-kept
returns-clause-kept c =
    let items = c.deref_mut.ensures.value ∙ c.into_vec-sources.ensures ∙ c.replace.ensures.value in
    let value = ap length c.deref_mut.ensures.value in
    let same = c.change_rows-result.auto.sources in
    let long = c.deref_mut.ensures.len in
    let placed = c.from_vec.ensures
    ∙ whole c.into_vec-sources.result.len c.change_rows-result.new.sources c.into_vec-sources.result.items (same ∙ value)
    (omega (arith, long, value)) in
    let stayed = c.in-Err.ensures.kept in
    kept_same c.args.g.now c.args.st.now c.args.drawing.now c.change_rows-result.new.drawing c.from_vec.result c.requires.kept
    (placed ∙ stayed.0 ∙ items) stayed.1
