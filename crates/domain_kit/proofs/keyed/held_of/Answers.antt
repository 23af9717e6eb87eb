use Rattle.domain_kit.proofs.HeldLemmas.{held_more}
use Rattle.domain_kit.proofs.keyed.held_of.Goals as goal

pub loop-entry-init : goal.loop-entry-init
loop-entry-init c = λ i key. c.none_held-held.ensures key i

pub loop-entry-preserved : goal.loop-entry-preserved
loop-entry-preserved c =
    held_more c.args.entries.now c.loop-entry.entry-index _ c.loop-entry.held c.hold.new.held c.loop-entry-test.true c.entry-item.is
    c.in_ok-hold.ensures c.loop-entry.invariant
