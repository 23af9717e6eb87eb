use Rattle.std.proofs.Common.{◌-◌, ◌≤◌, sym, ap, length, ◌∙◌, arith}
use Rattle.vl_compose.specs.Shown.{view_shown}
use Rattle.vl_compose.specs.Sharing.{separates}
use Rattle.vl_compose.proofs.BehindLemmas.{back, stops}
use Rattle.vl_compose.proofs.sharing.home_of.Goals as goal

pub returns-then-separates : goal.returns-then-separates
returns-then-separates c = c.number_at.ensures
    ∙ stops view_shown (separates c.args.code) c.args.round.now c.loop-place.place c.index-round-place.result c.loop-place-test.true
    c.loop-place.invariant.0 (ap (λ x. separates c.args.code (view_shown x)) (sym c.index-round-place.is)
    ∙ sym c.separates.ensures ∙ c.if-separates.true) c.loop-place.invariant.1

pub loop-place-preserved : goal.loop-place-preserved
loop-place-preserved c =
    let within : c.loop-place.place ≤ length c.args.round.now = c.loop-place.invariant.0 in
    let less : c.loop-place.place - 1 ≤ length c.args.round.now = omega arith in (
      less,
      back view_shown (separates c.args.code) c.args.round.now c.loop-place.place c.index-round-place.result c.loop-place-test.true
          within (ap (λ x. separates c.args.code (view_shown x)) (sym c.index-round-place.is) ∙ sym c.separates.ensures ∙ c.if-separates.false)
          c.loop-place.invariant.1,
    )
