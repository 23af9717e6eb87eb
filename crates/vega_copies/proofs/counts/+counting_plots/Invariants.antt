use Rattle.std.proofs.Common.{◌≡◌, map, drop}
use Rattle.std.specs.List.{All}
use Rattle.std.specs.Vec.Iter.{into_iter_items}
use Rattle.cell_value.specs.State.{dataset_of}
use Rattle.plain_facets.specs.Laws.{total}
use Rattle.vega_spec.specs.declared.spec.VgMark.{out-VgMark}
use Rattle.vega_copies.specs.Panels.{plots_in_facets}
use Rattle.vega_copies.specs.inner.Levels.{names_at}
use Rattle.vega_copies.specs.inner.Outlined.{marks_of}
use Rattle.vega_copies.specs.inner.Copied.{copy_seen, IsCopy}
use Rattle.vega_copies.specs.inner.Counted.{counted, plots_of_all}
use Rattle.vega_copies.proofs.CountLemmas.{counted_from, plots_alone, plots_held}
use Rattle.vega_copies.proofs.counts.+counting_plots.Given as goal

abbrev pub invariant-count_plots-loop-mark : goal.invariant-count_plots-loop-mark
invariant-count_plots-loop-mark l =
    counted_from l.plots (map (plots_alone (map dataset_of l.names.sources.now) l.in_facet l.in_grid
    (names_at l.names.stores.now l.names.sources.now l.names.levels.now)) (drop l.mark-index l.marks))
    ≡ counted (plots_in_facets (map dataset_of l.names.sources.now) (marks_of l.marks) l.in_facet
    l.in_grid (names_at l.names.stores.now l.names.sources.now l.names.levels.now))

abbrev pub invariant-count_of_copies-loop-copy : goal.invariant-count_of_copies-loop-copy
invariant-count_of_copies-loop-copy l = record {
  counts : counted_from l.plots (map (plots_held (map dataset_of l.names.sources.now) l.in_facet l.in_grid (out-VgMark l.mark)
      (names_at l.names.stores.now l.names.sources.now l.names.levels.now)) (into_iter_items l.copy-iterator))
      ≡ counted (total (plots_of_all (map dataset_of l.names.sources.now) l.in_facet l.in_grid
      (out-VgMark l.mark) (names_at l.names.stores.now l.names.sources.now l.names.levels.now)
      (map copy_seen l.fn.copies)));
  copies : All (IsCopy l.names (out-VgMark l.mark)) (into_iter_items l.copy-iterator);
}
