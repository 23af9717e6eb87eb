use Rattle.std.proofs.Common.{◌∙◌}
use Rattle.plain_facets.proofs.ListLemmas.{members_more}
use Rattle.plain_facets.proofs.homes.members_of.Goals as goal

pub loop-at-preserved : goal.loop-at-preserved
loop-at-preserved c = record {
  len = c.in_ok-add.ensures.len ∙ c.loop-at.invariant.len;
  value = members_more c.args.homes.now c.loop-at.at c.args.copies c.loop-at.lists.items c.add.new.lists.items
      c.loop-at-test.true c.loop-at.invariant.len c.in_ok-add.ensures.value c.loop-at.invariant.value;
}
