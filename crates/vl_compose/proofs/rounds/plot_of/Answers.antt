use Rattle.std.proofs.Common.{◌-◌, ◌≤◌, sym, length, ◌∙◌, arith}
use Rattle.vl_compose.specs.Shown.{view_shown}
use Rattle.vl_compose.specs.Views.{parts_plots}
use Rattle.vl_compose.proofs.BehindLemmas.{back, stops}
use Rattle.vl_compose.proofs.rounds.plot_of.Goals as goal

pub returns-then-parts_plots : goal.returns-then-parts_plots
returns-then-parts_plots c = c.number_at.ensures
    ∙ stops view_shown (λ v. parts_plots v.kind) c.args.round.now c.loop-place.place c.index-round-place.result c.loop-place-test.true
    c.loop-place.invariant.0 (sym c.parts_plots.ensures ∙ c.if-parts_plots.true) c.loop-place.invariant.1

pub loop-place-preserved : goal.loop-place-preserved
loop-place-preserved c =
    let within : c.loop-place.place ≤ length c.args.round.now = c.loop-place.invariant.0 in
    let less : c.loop-place.place - 1 ≤ length c.args.round.now = omega arith in (
      less,
      back view_shown (λ v. parts_plots v.kind) c.args.round.now c.loop-place.place c.index-round-place.result c.loop-place-test.true
          within (sym c.parts_plots.ensures ∙ c.if-parts_plots.false) c.loop-place.invariant.1,
    )
