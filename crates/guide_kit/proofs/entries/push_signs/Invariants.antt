use Rattle.std.proofs.Common.{◌≡◌, ◌++◌, drop}
use Rattle.std.specs.List.{enumerate_from, filter_map}
use Rattle.guide_kit.specs.Legends.{sign_item}
use Rattle.guide_kit.proofs.entries.push_signs.Given as goal

abbrev pub invariant-loop-number : goal.invariant-loop-number
invariant-loop-number l =
    let item = sign_item l.color l.rows l.top in
    l.items ++ filter_map item (enumerate_from l.number (drop l.number l.entries)) ≡ l.fn.items ++ filter_map item (enumerate_from 0 l.entries)
