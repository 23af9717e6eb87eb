use Rattle.std.proofs.Common.{◌≤◌, length, map, arith}
use Rattle.std.proofs.lemmas.List.{length-map}
use Rattle.vl_rules.specs.inner.Found.{most_found}
use Rattle.vl_rules.specs.inner.Shown.{marked_shown}
use Rattle.vl_rules.proofs.FrontLemmas.{take_enough}
use Rattle.vl_rules.proofs.marked.push_unit.Goals as goal

pub returns-else-len-lt-MOST_FOUND : goal.returns-else-len-lt-MOST_FOUND
returns-else-len-lt-MOST_FOUND c =
    let many = length-map c.args.units.now marked_shown in
    let past = c.if-len-lt-MOST_FOUND.false in
    let size = c.len.ensures in
    let enough : most_found ≤ length (map marked_shown c.args.units.now) = omega arith in
    take_enough most_found _ _ enough
