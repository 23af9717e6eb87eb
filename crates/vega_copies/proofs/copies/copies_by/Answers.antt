use Rattle.std.proofs.Common.{map, ap, ◌∙◌}
use Rattle.vega_copies.specs.Facets.{copy_with}
use Rattle.vega_copies.specs.inner.Copied.{scope_at}
use Rattle.vega_copies.proofs.copies.copies_by.Goals as goal

pub returns : goal.returns
returns c = record {
  copies =
      c.in_ok-copies_of_cells.ensures
      ∙ ap (map (copy_with (scope_at c.args.names.now) c.args.facet.now)) (c.as_slice.ensures ∙ c.in_ok-cells.ensures.copies);
  across = c.in_ok-cells.ensures.across;
}
