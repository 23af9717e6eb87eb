use Rattle.std.proofs.Common.{◌≡◌, ◌++◌, drop, map}
use Rattle.std.specs.List.{enumerate_from}
use Rattle.guide_kit.specs.Legends.{label_item}
use Rattle.guide_kit.proofs.entries.push_labels.Given as goal

abbrev pub invariant-loop-number : goal.invariant-loop-number
invariant-loop-number l =
    let item = label_item l.rows l.top in
    l.items ++ map item (enumerate_from l.number (drop l.number l.entries)) ≡ l.fn.items ++ map item (enumerate_from 0 l.entries)
