use Rattle.std.proofs.Common.{◌<◌, ◌≤◌, arith}
use Rattle.tick_kit.specs.Steps.{span_of}
use Rattle.tick_kit.proofs.TimeTickLemmas.{ended, one_more, none_after}
use Rattle.tick_kit.proofs.boundaries.push_boundaries.Goals as goal

pub returns-in_default : goal.returns-in_default
returns-in_default c =
    let is = c.span_between-turn-end.ensures.value in
    let inside : c.loop-turn._turn < span_of (c.args.lo, c.args.hi) = omega (arith, is) in
    ended (span_of (c.args.lo, c.args.hi)) c.loop-turn._turn c.args.unit c.args.n c.args.hi c.loop-turn.at _ _ inside c.in_default.ensures
    c.loop-turn.invariant

pub loop-turn-preserved : goal.loop-turn-preserved
loop-turn-preserved c =
    let is = c.span_between-turn-end.ensures.value in
    let inside : c.loop-turn._turn < span_of (c.args.lo, c.args.hi) = omega (arith, is) in
    one_more (span_of (c.args.lo, c.args.hi)) c.loop-turn._turn c.args.unit c.args.n c.args.hi c.loop-turn.at c.in-Some.boundary _ _ _ inside
    c.in-Some.ensures c.loop-turn.invariant c.in_ok-push.ensures.ok

pub returns : goal.returns
returns c =
    let is = c.span_between-turn-end.ensures.value in
    let past : span_of (c.args.lo, c.args.hi) ≤ c.loop-turn._turn = omega (arith, is) in
    none_after (span_of (c.args.lo, c.args.hi)) c.loop-turn._turn c.args.unit c.args.n c.args.hi c.loop-turn.at _ _ past c.loop-turn.invariant
