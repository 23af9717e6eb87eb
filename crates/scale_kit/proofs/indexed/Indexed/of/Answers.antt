use Rattle.std.proofs.Common.{subst}
use Rattle.scale_kit.specs.inner.Index.{IsPlaceIndexFrom}
use Rattle.scale_kit.proofs.indexed.Indexed.of.Goals as goal

pub invariant_of-result : goal.invariant_of-result
invariant_of-result c = (c.requires, subst (IsPlaceIndexFrom c.in_ok-index.field-0 0) c.domain_cells.ensures c.in_ok-index.ensures)
