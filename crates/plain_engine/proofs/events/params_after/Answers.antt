use Rattle.std.proofs.Common.{◌≡◌, Some, map, sym, ap, ◌∙◌, subst}
use Rattle.cell_value.specs.State.{dataset_of, state_of}
use Rattle.cell_value.specs.declared.state.Params.{Params}
use Rattle.expr_eval.specs.Stores.{values_of_stores}
use Rattle.scene_tree.specs.Outcome.{Outcome, Drawn}
use Rattle.plot_scenes.specs.declared.scenes.Drawing.{Drawing}
use Rattle.param_flow.specs.Machine.{state_by, with_stores}
use Rattle.vega_lists.specs.Held.{AreSources}
use Rattle.vega_lists.proofs.StateLemmas.{sources_of_state}
use Rattle.vega_selections.specs.Selections.{selections_of}
use Rattle.vega_events.specs.Events.{params_after}
use Rattle.vega_charts.specs.Charts.{drawing_of}
use Rattle.vega_meaning.specs.Semantics.{vega_semantics}
use Rattle.vega_meaning.specs.UnitRows.{unit_rows}
use Rattle.plain_engine.specs.inner.Kept.{MayBeStores}
use Rattle.plain_engine.specs.inner.Rows.{told}
use Rattle.plain_engine.proofs.EventLemmas.{ok_more, all_told, is_drawn, scales_held, items_held, state_after_is, stores_after_are}
use Rattle.plain_engine.proofs.events.params_after.Goals as goal

pub drawn_rows-requires-clause-kept : goal.drawn_rows-requires-clause-kept
drawn_rows-requires-clause-kept c = c.requires.rules

pub drawn_rows-requires-clause-sources : goal.drawn_rows-requires-clause-sources
drawn_rows-requires-clause-sources c = subst AreSources (sym c.as_slice.ensures) (sources_of_state c.args.st.now c.requires.is)

pub drawn_rows-requires-clause-drawn : goal.drawn_rows-requires-clause-drawn
drawn_rows-requires-clause-drawn c =
    subst (λ (o : Outcome Drawing). (drawing : Drawing) × (o ≡ Drawn drawing))
    (λ i. drawing_of c.args.g.now (values_of_stores (sym c.as_slice-3.ensures i)) (sym c.as_slice-2.ensures i) (map dataset_of (sym c.as_slice.ensures i)))
    (is_drawn c.args.g.now c.args.st.now c.args.drawing.now c.requires)

pub params_counted-requires-clause-scales : goal.params_counted-requires-clause-scales
params_counted-requires-clause-scales c =
    scales_held c.args.g.now c.args.st.now c.args.drawing.now c.requires c.laws_of_drawings.ensures.sound

pub params_counted-requires-clause-items : goal.params_counted-requires-clause-items
params_counted-requires-clause-items c =
    items_held c.args.g.now c.args.st.now c.args.drawing.now c.requires c.law_of_items.ensures (λ unit. Some (told c.in_ok-rows.rows.rows unit))
    (λ unit. ap Some (c.in_ok-rows.ensures unit
    ∙ (λ i. unit_rows c.args.g.now (values_of_stores (c.as_slice-3.ensures i)) (c.as_slice-2.ensures i) (map dataset_of (c.as_slice.ensures i)) unit)))

pub params_counted-requires-clause-known : goal.params_counted-requires-clause-known
params_counted-requires-clause-known c = all_told (selections_of c.args.g.now)

pub returns-clause-state : goal.returns-clause-state
returns-clause-state c =
    let g = c.args.g.now in
    let st = c.args.st.now in
    let held = c.args.drawing.now in
    let e = c.args.e.now in
    ok_more (λ (after : Params). after ≡ params_after g c.in_ok-now.now held.scales held.scene (λ unit. Some (told c.in_ok-rows.rows.rows unit)) e)
    (λ (after : Params). with_stores (state_of st) after.stores ≡ state_by (vega_semantics g) (state_of st) e) c.params_counted.result
    (λ after is. state_after_is g st held c.requires c.events_are_of_stores.ensures e after (λ unit. Some (told c.in_ok-rows.rows.rows unit)) c.in_ok-now.now
    (λ unit. ap Some (c.in_ok-rows.ensures unit
    ∙ (λ i. unit_rows g (values_of_stores (c.as_slice-3.ensures i)) (c.as_slice-2.ensures i) (map dataset_of (c.as_slice.ensures i)) unit)))
    c.in_ok-now.ensures is)
    c.params_counted.ensures

pub returns-clause-stores : goal.returns-clause-stores
returns-clause-stores c =
    let g = c.args.g.now in
    let st = c.args.st.now in
    let held = c.args.drawing.now in
    let e = c.args.e.now in
    ok_more (λ (after : Params). after ≡ params_after g c.in_ok-now.now held.scales held.scene (λ unit. Some (told c.in_ok-rows.rows.rows unit)) e)
    (λ (after : Params). MayBeStores g after.stores) c.params_counted.result
    (λ after is. stores_after_are g st held c.requires c.events_are_of_stores.ensures e after (λ unit. Some (told c.in_ok-rows.rows.rows unit)) c.in_ok-now.now
    (λ unit. ap Some (c.in_ok-rows.ensures unit
    ∙ (λ i. unit_rows g (values_of_stores (c.as_slice-3.ensures i)) (c.as_slice-2.ensures i) (map dataset_of (c.as_slice.ensures i)) unit)))
    c.in_ok-now.ensures is c.laws_of_drawings.ensures.mean c.stores_are_kept.ensures.clicks c.stores_are_kept.ensures.toggles
    c.stores_are_kept.ensures.clears c.stores_are_kept.ensures.drags)
    c.params_counted.ensures
