use Rattle.std.proofs.Common.{true, false, ◌∙◌}
use Rattle.vega_rules.proofs.PlacedLemmas.{by_extent}
use Rattle.vega_rules.proofs.cycles.fault_place.Goals as goal

pub returns-then-branch : goal.returns-then-branch
returns-then-branch c =
    by_extent c.args.parts.now c.args.places.now c.args.name.now c.requires true
    (let e = c.in_ok-is_extent.ensures in let t = c.if-branch.true in cc)

pub returns-else-branch : goal.returns-else-branch
returns-else-branch c =
    let e = c.in_ok-is_extent.ensures in
    let t = c.if-branch.false in
    let u = c.update_of.ensures in
    u ∙ by_extent c.args.parts.now c.args.places.now c.args.name.now c.requires false (cc)
