use Rattle.std.proofs.Common.{min, sym, ap, ◌∙◌}
use Rattle.vega_copies.specs.Facets.{divided_by, rows_divided}
use Rattle.vega_copies.specs.inner.Copied.{scope_at}
use Rattle.vega_copies.specs.inner.Counted.{most_counted}
use Rattle.vega_copies.proofs.PanelLemmas.{all_cells, copies_long}
use Rattle.vega_copies.proofs.copies.count_all_by.Goals as goal

pub returns : goal.returns
returns c =
    let sort = c.args.sort.now in
    let facet = c.args.facet.now in
    all_cells (divided_by sort facet) (rows_divided (scope_at c.args.names.now) facet) c.in_ok-cells.cells.with_rows c.in_ok-cells.cells.without_rows _
    c.len.result c.in_ok-cells.ensures.with_rows c.in_ok-cells.ensures.without_rows c.len.ensures c.saturating_add.ensures
    ∙ ap (λ n. min n most_counted) (sym (copies_long (scope_at c.args.names.now) sort facet))
