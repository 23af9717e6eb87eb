-- Marks whose channels are prepared.
use Rattle.std.specs.Prelude.{ℕ, Option}
use Rattle.cell_value.specs.Datum.{Datum}
use Rattle.expr_eval.specs.Values.{Values}
use Rattle.scene_tree.specs.declared.scene.Item.{Item}
use Rattle.mark_encode.specs.declared.items.MarkChannels.{MarkChannels}
use Rattle.mark_encode.specs.Items.{item_by}
use Rattle.mark_encode.specs.inner.Kinds.{look_values}
use Rattle.mark_encode.specs.inner.Shapes.{shape_by}

-- the item of a row, by the prepared channels of its mark
abbrev pub item_of_row : MarkChannels → ℕ → Values → Datum → Option (Option Item)
item_of_row m unit values = item_by m.type_ unit (shape_by m.shape) (look_values m.looks) values
