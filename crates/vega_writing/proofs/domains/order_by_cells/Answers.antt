use Rattle.vega_writing.specs.Domains.{domain_order_tree}
use Rattle.vega_writing.proofs.domains.order_by_cells.Goals as goal

pub returns : goal.returns
unfolding domain_order_tree
returns c = c.object.ensures _ (c.with_if-slots.ensures _ c.no_slots-slots.ensures)
