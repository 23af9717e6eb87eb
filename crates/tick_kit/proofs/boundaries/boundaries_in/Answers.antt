use Rattle.std.proofs.Common.{◌≡◌, List, ℤ, IfOk, subst}
use Rattle.tick_kit.proofs.BoundaryLemmas.{on_the_way}
use Rattle.tick_kit.proofs.boundaries.boundaries_in.Goals as goal

pub returns : goal.returns
returns c =
    let asked = c.requires in
    let P : List ℤ → Type 0 = λ all. IfOk c.boundaries_on_the_way.result (λ ticks. ticks ≡ all) in
    subst P (on_the_way c.args.unit c.args.n (c.args.lo, c.args.hi) asked.some asked.ordered asked.first asked.last) c.boundaries_on_the_way.ensures
