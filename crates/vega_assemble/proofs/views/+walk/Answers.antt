use Rattle.std.proofs.Common.{◌≡◌, subst, sym}
use Rattle.std.specs.Prelude.{IfOk}
use Rattle.vega_assemble.specs.Made.{MadeView}
use Rattle.vega_assemble.specs.inner.Holders.{opened}
use Rattle.vega_assemble.proofs.ViewLemmas.{plot_is, grid_is, one_view}
use Rattle.vega_assemble.proofs.views.+walk.Goals as goal

pub view_made-returns-in-Plot : goal.view_made-returns-in-Plot
view_made-returns-in-Plot t c =
    let all : MadeView → Type 0 = λ v. IfOk c.plot_at.result (λ made. made ≡ opened v) in
    subst all (sym (plot_is c.args.stem.now c.args.p.now c.args.view.now _ _ c.in-Plot.is)) c.plot_at.ensures

pub view_made-returns-in-Grid : goal.view_made-returns-in-Grid
view_made-returns-in-Grid t c =
    let all : MadeView → Type 0 = λ v. IfOk c.grid_at.result (λ made. made ≡ opened v) in
    subst all (sym (grid_is c.args.stem.now c.args.p.now c.args.view.now _ _ c.as_slice.result.now _ c.in-Grid.is c.as_slice.ensures)) c.grid_at.ensures

pub joined-loop-view-preserved : goal.joined-loop-view-preserved
joined-loop-view-preserved t c =
    one_view c.args.stem.now c.args.p.now c.args.views.now c.loop-view.view-index c.view-item.result c.in_ok-made.made _ c.loop-view.out _ _
    c.loop-view-test.true c.view-item.is c.in_ok-made.ensures c.as_group.ensures c.in_ok-push.ensures.ok c.loop-view.invariant
