use Rattle.plain_groups.proofs.MemberLemmas.{member_added, length_added}
use Rattle.plain_groups.proofs.places.members.Goals as goal

pub loop-at-preserved : goal.loop-at-preserved
loop-at-preserved c = record {
  len = length_added c.args.leaders.now c.loop-at.at c.loop-at.lists.items c.add.new.lists.items _ c.loop-at.invariant.len c.in_ok-add.ensures;
  value =
      member_added c.args.leaders.now c.loop-at.at c.loop-at.lists.items c.add.new.lists.items
      c.loop-at-test.true (c.requires c.loop-at.at 0 c.loop-at-test.true)
      c.loop-at.invariant.len c.in_ok-add.ensures c.loop-at.invariant.value;
}
