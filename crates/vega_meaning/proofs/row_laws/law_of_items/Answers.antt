use Rattle.vega_meaning.proofs.ItemRows.{items_have_rows}
use Rattle.vega_meaning.proofs.row_laws.law_of_items.Goals as goal

pub returns : goal.returns
returns c = items_have_rows
