-- The nearest object that has the name is found first.
use Rattle.std.proofs.Common.{◌≡◌, None, Some, sym, ◌∙◌, arith, take}
use Rattle.vega_rules.specs.Resolved.{given_in}
use Rattle.vega_rules.proofs.FrontLemmas.{found_first, found_later, found_top}
use Rattle.vega_rules.proofs.resolve.nearest.Goals as goal

pub returns-in-Some : goal.returns-in-Some
returns-in-Some c =
    let look = given_in c.args.parts.now c.args.how c.args.name.now in
    let some : look (take c.loop-left.left c.args.scope.now) ≡ Some c.in-Some.found.now = sym (rw c.in-Some.is at c.given_in.ensures) in
    sym (found_first look (take c.loop-left.left c.args.scope.now) c.in-Some.found.now some) ∙ c.loop-left.invariant.same

pub loop-left-preserved : goal.loop-left-preserved
loop-left-preserved c =
    let look = given_in c.args.parts.now c.args.how c.args.name.now in
    let none : look (take c.loop-left.left c.args.scope.now) ≡ None = sym (rw c.in_default.is at c.given_in.ensures) in
    record {
      within = omega arith;
      same = found_later look c.args.scope.now _ c.loop-left.left _ (omega arith) (omega arith) none c.loop-left.invariant.same;
    }

pub returns : goal.returns
returns c =
    let look = given_in c.args.parts.now c.args.how c.args.name.now in
    c.given_in-2.ensures ∙ found_top look c.args.scope.now c.loop-left.left _ (omega arith) c.loop-left.invariant.same
