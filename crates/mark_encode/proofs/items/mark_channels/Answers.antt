use Rattle.mark_encode.specs.Items.{item_by}
use Rattle.mark_encode.proofs.items.mark_channels.Goals as goal

pub returns : goal.returns
returns c =
    λ unit values row i. item_by (c.in_ok-mark.ensures.type_is i) unit (c.in_ok-mark.ensures.shape i) (c.in_ok-mark.ensures.looks i) values row
