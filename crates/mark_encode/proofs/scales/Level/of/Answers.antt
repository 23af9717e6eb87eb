use Rattle.std.proofs.Common.{sym, subst}
use Rattle.mark_encode.specs.inner.Scales.{FindsScales}
use Rattle.mark_encode.proofs.scales.Level.of.Goals as goal

pub invariant_of-result : goal.invariant_of-result
invariant_of-result c =
    subst (FindsScales c.in_ok-first_places.field-0 c.in_ok-all_indexed.field-0) c.as_slice-scales.ensures
    (subst (λ scales. FindsScales c.in_ok-first_places.field-0 scales c.as_slice-scales.result.now) (sym c.in_ok-all_indexed.ensures)
    c.in_ok-first_places.ensures)
