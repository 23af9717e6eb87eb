use Rattle.std.proofs.Common.{◌∙◌, subst}
use Rattle.plain_windows.specs.inner.Firsts.{AreFirsts}
use Rattle.plain_windows.proofs.aids.firsts_aid.Goals as goal

pub returns : goal.returns
returns c =
    (c.requires.op, subst (λ cells. AreFirsts cells c.in_ok-firsts.field-0) (c.as_slice.ensures ∙ c.in_ok-cells.ensures) c.in_ok-firsts.ensures)
