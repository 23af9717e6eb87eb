use Rattle.std.proofs.Common.{◌<◌, length, All, ◌∙◌, ap, sym, subst}
use Rattle.plain_orders.proofs.PartitionLemmas.{partitions_told, places_inside, homes_are_long}
use Rattle.plain_orders.proofs.partitions.partitions_of.Goals as goal

pub dealt-requires-clause-homes : goal.dealt-requires-clause-homes
dealt-requires-clause-homes c =
    let rows = c.args.rows.now in
    subst (λ m. All (λ home. home < m) c.as_slice.result.now)
    (sym (ap length (c.as_slice.ensures ∙ c.in_ok-homes.ensures.value) ∙ homes_are_long rows c.requires c.args.groupby.now c.args.sort.now))
    (subst (All (λ home. home < length rows)) (sym c.as_slice.ensures) c.in_ok-homes.ensures.within)

pub dealt-requires-clause-order : goal.dealt-requires-clause-order
dealt-requires-clause-order c =
    places_inside c.args.rows.now c.requires c.args.groupby.now c.args.sort.now c.in_ok-homes.homes c.as_slice.result.now
    c.as_slice-2.result.now c.in_ok-homes.ensures.value c.as_slice.ensures (c.as_slice-2.ensures ∙ c.in_ok-order.ensures)

pub returns : goal.returns
returns c =
    partitions_told c.args.rows.now c.requires c.args.groupby.now c.args.sort.now c.in_ok-homes.homes c.as_slice.result.now
    c.as_slice-2.result.now _ _ c.in_ok-homes.ensures.value c.as_slice.ensures (c.as_slice-2.ensures ∙ c.in_ok-order.ensures)
    c.in_ok-found.ensures
