use Rattle.std.proofs.Common.{◌∙◌, ap}
use Rattle.plain_windows.specs.inner.Totals.{no_total, totals_from}
use Rattle.plain_windows.proofs.aids.totals_aid.Goals as goal

pub returns : goal.returns
returns c = record {
  are = c.in_ok-totals.ensures.value ∙ ap (totals_from no_total) (c.as_slice.ensures ∙ c.in_ok-cells.ensures);
  small = c.in_ok-totals.ensures.bound;
}
