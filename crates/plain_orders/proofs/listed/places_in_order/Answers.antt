use Rattle.plain_orders.proofs.ListedLemmas.{value_told, within_told}
use Rattle.plain_orders.proofs.listed.places_in_order.Goals as goal

pub returns : goal.returns
returns c = record {
  value = value_told c.args.sort.now c.args.rows.now c.requires c.ordered_behind.result c.ordered_behind.ensures;
  within = within_told c.args.sort.now c.args.rows.now c.requires c.ordered_behind.result c.ordered_behind.ensures;
}
