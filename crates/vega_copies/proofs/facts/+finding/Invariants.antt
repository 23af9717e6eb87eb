use Rattle.std.proofs.Common.{drop, take}
use Rattle.std.specs.List.{AllZip}
use Rattle.vega_spec.specs.declared.spec.VgMark.{out-VgMark}
use Rattle.vega_copies.specs.inner.FactsMade.{CopyHasFacts}
use Rattle.vega_copies.specs.inner.Made.{levels_behind}
use Rattle.vega_copies.proofs.FactsLemmas.{FactsLeft}
use Rattle.vega_copies.proofs.facts.+finding.Given as goal

abbrev pub invariant-facts_inside-loop-mark : goal.invariant-facts_inside-loop-mark
invariant-facts_inside-loop-mark l = FactsLeft l.names l.marks l.made (drop l.mark-index l.marks) (drop l.at l.made) l.facts

abbrev pub invariant-facts_of_group-loop-copy : goal.invariant-facts_of_group-loop-copy
invariant-facts_of_group-loop-copy l =
    AllZip (CopyHasFacts l.names.stores.now l.names.sources.now (levels_behind l.names.levels.now) (out-VgMark l.mark)) (take l.copy-index l.copies) l.facts
