use Rattle.std.proofs.Common.{◌<◌, length, get_or, arith}
use Rattle.plain_orders.proofs.RankLemmas.{dealt_more, dealt_none}
use Rattle.plain_orders.proofs.partitions.dealt.Goals as goal

pub loop-place-init : goal.loop-place-init
loop-place-init c = dealt_none c.args.homes.now c.args.order.now _ _ c.in_ok-lists.ensures c.in_ok-ranks.ensures

pub add-requires : goal.add-requires
add-requires c =
    let inside : get_or c.args.order.now c.loop-place.place-index 0 < length c.args.homes.now =
    c.requires.order c.loop-place.place-index 0 c.loop-place-test.true in
    let home : get_or c.args.homes.now (get_or c.args.order.now c.loop-place.place-index 0) 0 < length c.args.homes.now =
    c.requires.homes (get_or c.args.order.now c.loop-place.place-index 0) 0 inside in
    omega (arith, home, c.loop-place.invariant.lists_long)

pub set-requires : goal.set-requires
set-requires c =
    let inside : get_or c.args.order.now c.loop-place.place-index 0 < length c.args.homes.now =
    c.requires.order c.loop-place.place-index 0 c.loop-place-test.true in
    omega (arith, inside, c.loop-place.invariant.ranks_long)

pub loop-place-preserved : goal.loop-place-preserved
loop-place-preserved c =
    let inside : get_or c.args.order.now c.loop-place.place-index 0 < length c.args.homes.now =
    c.requires.order c.loop-place.place-index 0 c.loop-place-test.true in
    dealt_more c.args.homes.now c.args.order.now c.loop-place.place-index c.loop-place-test.true _ _ _ _ c.in_ok-rank.rank
    (c.requires.homes (get_or c.args.order.now c.loop-place.place-index 0) 0 inside) inside
    c.in_ok-rank.ensures.lists c.in_ok-rank.ensures.rank c.set.ensures c.loop-place.invariant
