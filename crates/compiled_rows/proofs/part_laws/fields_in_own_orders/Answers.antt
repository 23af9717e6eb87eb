use Rattle.compiled_rows.proofs.PanelLemmas.{fields_in_own_orders}
use Rattle.compiled_rows.proofs.part_laws.fields_in_own_orders.Goals as goal

pub returns : goal.returns
returns c = fields_in_own_orders
