use Rattle.std.proofs.Common.{◌≡◌, map, drop}
use Rattle.fixed_num.specs.Ranges.{all_found}
use Rattle.fixed_num.proofs.FoundLemmas.{after}
use Rattle.guide_kit.specs.Legends.{entry_of}
use Rattle.guide_kit.proofs.entries.entries_at.Given as goal

abbrev pub invariant-loop-cell : goal.invariant-loop-cell
invariant-loop-cell l =
    let entry = entry_of l.kind l.s l.shows l.format in
    all_found (map entry l.cells) ≡ after l.entries (all_found (map entry (drop l.cell-index l.cells)))
