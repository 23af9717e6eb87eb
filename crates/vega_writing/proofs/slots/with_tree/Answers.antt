use Rattle.std.proofs.Common.{Some}
use Rattle.vega_writing.proofs.slots.with_tree.Goals as goal

pub returns : goal.returns
returns c made value before given = c.with_tree_if.ensures made (Some value) before (c.there.ensures value given)
