use Rattle.plain_orders.specs.inner.Ranks.{AreDealt}
use Rattle.plain_orders.proofs.partitions.dealt.Given as goal

abbrev pub invariant-loop-place : goal.invariant-loop-place
invariant-loop-place l = AreDealt l.homes l.order l.place-index l.lists.items l.ranks
