use Rattle.compiled_rows.proofs.PanelLemmas.{panels_in_own_orders}
use Rattle.compiled_rows.proofs.part_laws.panels_in_own_orders.Goals as goal

pub returns : goal.returns
returns c = panels_in_own_orders
