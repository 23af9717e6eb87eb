use Rattle.std.proofs.Common.{rules, arith, ℕ, Err, ◌≡◌, ◌≤◌, ◌∷◌, min, length, map, sym, ap, ◌∙◌, subst}
use denote.Param.Weighed.{most, at_most}
use Rattle.std.specs.List.{All}
use Rattle.std.specs.Vec.Iter.{into_iter_items}
use Rattle.std.proofs.lemmas.List.Elements.{All-head, All-tail}
use Rattle.cell_value.specs.State.{dataset_of}
use Rattle.expr_eval.specs.Answers.{Evaluates}
use Rattle.vega_spec.specs.declared.spec.Group.{out-Group}
use Rattle.vega_spec.specs.declared.spec.VgMark.{out-VgMark}
use Rattle.vega_spec.proofs.spec.VgMark.TheLaws.{the_size}
use Rattle.vega_copies.specs.inner.Copied.{copies_with_facet, scope_at, IsCopy}
use Rattle.vega_copies.specs.inner.Counted.{counted, is_panel, most_counted, plots_inside, plots_of_copy, rows_with_facet, bare_with_facet}
use Rattle.vega_copies.specs.inner.Counted.{parts_of_bare, bare_copy}
use Rattle.vega_copies.specs.inner.Levels.{rows_at, names_at, names_with_level}
use Rattle.vega_copies.specs.inner.Made.{levels_behind}
use Rattle.vega_copies.specs.inner.Outlined.{marks_in}
use Rattle.vega_copies.proofs.BareLemmas.{bare_is_copy}
use Rattle.vega_copies.proofs.CopyLemmas.{with_rows_sound}
use Rattle.vega_copies.proofs.StandLemmas.{levels_entered, names_entered, stand_inside}
use Rattle.vega_copies.proofs.CountLemmas.{counted_from, marks_count, plots_alone, plots_held, more_at, one_more, stand_at, copy_stops}
use Rattle.vega_copies.proofs.CountLemmas.{stops_counted, copy_counts, with_itself, none_with_itself}
use Rattle.vega_copies.proofs.MadeLemmas.{stand_with}
use Rattle.vega_copies.proofs.PanelLemmas.{copies_count, group_counts, alike_plots, each_plots, each_stops, with_each_bare, bare_stops}
use Rattle.vega_copies.proofs.counts.+counting_plots.Goals as goal

-- ---- marks one after the other

pub count_plots-loop-mark-init : goal.count_plots-loop-mark-init
count_plots-loop-mark-init t c =
    marks_count (map dataset_of c.args.names.now.sources.now) c.args.in_facet c.args.in_grid
    (names_at c.args.names.now.stores.now c.args.names.now.sources.now c.args.names.now.levels.now) c.args.marks.now

pub count_plots-count_of_mark-requires : goal.count_plots-count_of_mark-requires
count_plots-count_of_mark-requires t c =
    let no_deeper : the_size c.mark-item.result ≤ most the_size c.args.marks.now =
    subst (λ m. the_size m ≤ most the_size c.args.marks.now) (sym c.mark-item.is)
    (at_most the_size c.args.marks.now c.loop-mark.mark-index c.mark-item.result c.loop-mark-test.true) in (
      search (rules, no_deeper, c.decreases),
      (
        c.requires.names,
        stand_at (rows_at c.args.names.now.sources.now c.args.names.now.levels.now) c.args.marks.now c.loop-mark.mark-index c.mark-item.result c.requires.marks
            c.loop-mark-test.true c.mark-item.is,
      ),
    )

pub count_plots-loop-mark-preserved : goal.count_plots-loop-mark-preserved
count_plots-loop-mark-preserved t c =
    let names = c.args.names.now in
    more_at (plots_alone (map dataset_of names.sources.now) c.args.in_facet c.args.in_grid (names_at names.stores.now names.sources.now names.levels.now))
    c.args.marks.now c.loop-mark.mark-index c.mark-item.result c.loop-mark-test.true c.mark-item.is c.loop-mark.plots c.in-Ok.found _ _
    c.in-Ok.ensures c.saturating_add-plots.ensures c.loop-mark.invariant

-- ---- a group

pub count_of_group-returns-then-are_alike : goal.count_of_group-returns-then-are_alike
count_of_group-returns-then-are_alike t c =
    group_counts (map dataset_of c.args.names.now.sources.now) c.args.mark.now c.args.in_facet c.args.in_grid
    (names_at c.args.names.now.stores.now c.args.names.now.sources.now c.args.names.now.levels.now)
    c.requires.group c.is_deeper-deeper.result c.count_of_alike.result
    c.is_deeper-deeper.ensures c.count_of_alike.ensures

pub count_of_group-returns-else-are_alike : goal.count_of_group-returns-else-are_alike
count_of_group-returns-else-are_alike t c =
    group_counts (map dataset_of c.args.names.now.sources.now) c.args.mark.now c.args.in_facet c.args.in_grid
    (names_at c.args.names.now.stores.now c.args.names.now.sources.now c.args.names.now.levels.now)
    c.requires.group c.is_deeper-deeper.result c.count_of_each.result
    c.is_deeper-deeper.ensures c.count_of_each.ensures

pub count_of_alike-returns : goal.count_of_alike-returns
count_of_alike-returns t c =
    let names = c.args.names.now in
    let m = out-VgMark c.args.mark.now in
    subst (Evaluates c.count_with_bare.result)
    (alike_plots (map dataset_of names.sources.now) c.args.mark.now c.args.in_facet
    c.args.in_grid (names_at names.stores.now names.sources.now names.levels.now)
    c.in_ok-copies.copies c.requires.alike
    (c.in_ok-copies.ensures ∙ ap (λ facet. min (length (copies_with_facet (scope_at names) m.sort facet)) most_counted) c.facet_in.ensures))
    c.count_with_bare.ensures

pub count_of_each-count_of_copies-requires : goal.count_of_each-count_of_copies-requires
count_of_each-count_of_copies-requires t c = (
  search rules,
  (
    c.requires.names,
    (
      c.requires.marks,
      (
        with_rows_sound c.args.names.now (out-VgMark c.args.mark.now) c.requires.names
            c.in_ok-with_rows.field-0.with_rows
            (c.in_ok-with_rows.ensures.with_rows
            ∙ ap (rows_with_facet (scope_at c.args.names.now) (out-VgMark c.args.mark.now).sort) c.facet_in.ensures),
        c.requires.group,
      ),
    ),
  ),
)

pub count_of_each-returns-in-Ok : goal.count_of_each-returns-in-Ok
count_of_each-returns-in-Ok t c =
    let names = c.args.names.now in
    let m = out-VgMark c.args.mark.now in
    subst (Evaluates c.count_with_bare.result)
    (each_plots (map dataset_of names.sources.now) c.args.mark.now c.args.in_facet c.args.in_grid (names_at names.stores.now names.sources.now names.levels.now)
    c.in_ok-with_rows.field-0.with_rows (c.in_ok-with_rows.ensures.with_rows ∙ ap (rows_with_facet (scope_at names) m.sort) c.facet_in.ensures)
    c.in_ok-with_rows.field-0.without_rows c.in-Ok.plots
    (c.in_ok-with_rows.ensures.without_rows ∙ ap (λ facet. min (bare_with_facet (scope_at names) m.sort facet) most_counted) c.facet_in.ensures)
    c.in-Ok.ensures)
    c.count_with_bare.ensures

pub count_of_each-returns-in-Err : goal.count_of_each-returns-in-Err
count_of_each-returns-in-Err t c =
    let names = c.args.names.now in
    each_stops (map dataset_of names.sources.now) c.args.mark.now c.args.in_facet c.args.in_grid (names_at names.stores.now names.sources.now names.levels.now)
    c.in_ok-with_rows.field-0.with_rows
    (c.in_ok-with_rows.ensures.with_rows ∙ ap (rows_with_facet (scope_at names) (out-VgMark c.args.mark.now).sort) c.facet_in.ensures) c.in-Err.error
    c.in-Err.ensures

-- ---- copies one after the other

pub count_of_copies-loop-copy-init : goal.count_of_copies-loop-copy-init
count_of_copies-loop-copy-init t c =
    let names = c.args.names.now in
    let items : into_iter_items c.into_iter-copy-iterator.result ≡ c.args.copies =
    c.into_iter-copy-iterator.ensures.into_iter_gives.0 ∙ c.into_vec-copy-items.ensures in
    record {
      counts =
          ap (λ copies. counted_from 0 (map (plots_held (map dataset_of names.sources.now) c.args.in_facet c.args.in_grid (out-VgMark c.args.mark.now)
          (names_at names.stores.now names.sources.now names.levels.now)) copies)) items
          ∙ copies_count (map dataset_of names.sources.now) c.args.in_facet c.args.in_grid (out-VgMark c.args.mark.now)
          (names_at names.stores.now names.sources.now names.levels.now) c.args.copies;
      copies = subst (All (IsCopy names (out-VgMark c.args.mark.now))) (sym items) c.requires.copies;
    }

pub count_of_copies-count_of_copy-requires : goal.count_of_copies-count_of_copy-requires
count_of_copies-count_of_copy-requires t c = (
  search rules,
  (
    c.requires.names,
    (
      c.requires.marks,
      (
        All-head (IsCopy c.args.names.now (out-VgMark c.args.mark.now)) c.in-Some.copy (into_iter_items c.next.new.self)
            (subst (All (IsCopy c.args.names.now (out-VgMark c.args.mark.now))) c.in-Some.ensures.steps.0 c.loop-copy.invariant.copies),
        c.requires.group,
      ),
    ),
  ),
)

pub count_of_copies-loop-copy-preserved : goal.count_of_copies-loop-copy-preserved
count_of_copies-loop-copy-preserved t c =
    let names = c.args.names.now in
    let m = out-VgMark c.args.mark.now in
    let sources = map dataset_of names.sources.now in
    record {
      counts =
          ap (λ k. counted_from k (map (plots_held sources c.args.in_facet c.args.in_grid m
          (names_at names.stores.now names.sources.now names.levels.now)) (into_iter_items c.next.new.self))) c.saturating_add-plots.ensures
          ∙ one_more c.loop-copy.plots c.in-Ok.found
          (plots_held sources c.args.in_facet c.args.in_grid m (names_at names.stores.now names.sources.now names.levels.now) c.in-Some.copy)
          (map (plots_held sources c.args.in_facet c.args.in_grid m (names_at names.stores.now names.sources.now names.levels.now))
          (into_iter_items c.next.new.self)) _ c.in-Ok.ensures
          (ap (λ copies. counted_from c.loop-copy.plots (map (plots_held sources c.args.in_facet c.args.in_grid m
          (names_at names.stores.now names.sources.now names.levels.now)) copies)) (sym c.in-Some.ensures.steps.0)
          ∙ c.loop-copy.invariant.counts);
      copies =
          All-tail (IsCopy names m) c.in-Some.copy (into_iter_items c.next.new.self)
          (subst (All (IsCopy names m)) c.in-Some.ensures.steps.0 c.loop-copy.invariant.copies);
    }

-- ---- copies without rows

pub count_with_bare-count_of_copy-requires : goal.count_with_bare-count_of_copy-requires
count_with_bare-count_of_copy-requires t c = (
  search rules,
  (
    c.requires.names,
    (
      c.requires.marks,
      (
        bare_is_copy c.args.names.now (out-VgMark c.args.mark.now) _ (c.in_ok-copy.ensures.parts ∙ ap parts_of_bare c.facet_in.ensures),
        c.requires.group,
      ),
    ),
  ),
)

pub count_with_bare-returns-in-Ok : goal.count_with_bare-returns-in-Ok
count_with_bare-returns-in-Ok t c =
    let names = c.args.names.now in
    with_each_bare c.args.plots c.args.copies c.in-Ok.each _ _ _ (omega arith)
    (ap (λ copy. counted (plots_of_copy (map dataset_of names.sources.now) c.args.in_facet c.args.in_grid (out-VgMark c.args.mark.now)
    (names_at names.stores.now names.sources.now names.levels.now) copy)) (sym (c.in_ok-copy.ensures.seen ∙ ap bare_copy c.facet_in.ensures)) ∙ c.in-Ok.ensures)
    c.saturating_mul.ensures c.saturating_add.ensures

pub count_with_bare-returns-in-Err : goal.count_with_bare-returns-in-Err
count_with_bare-returns-in-Err t c =
    let names = c.args.names.now in
    bare_stops c.args.plots c.args.copies _ c.in-Err.error (omega arith)
    (subst (λ copy. Evaluates {X = ℕ} (Err c.in-Err.error) (counted (plots_of_copy (map dataset_of names.sources.now) c.args.in_facet c.args.in_grid
    (out-VgMark c.args.mark.now) (names_at names.stores.now names.sources.now names.levels.now) copy))) (c.in_ok-copy.ensures.seen ∙ ap bare_copy c.facet_in.ensures)
    c.in-Err.ensures)

-- ---- a copy

pub count_of_copy-returns-in-Err : goal.count_of_copy-returns-in-Err
count_of_copy-returns-in-Err t c =
    stops_counted _ c.in-Err.error
    (copy_stops c.args.outer.now c.args.mark.now c.args.copy c.args.in_facet c.args.in_grid c.in-Err.error c.in-Err.ensures.value)

pub count_of_copy-count_with_level-plots-requires : goal.count_of_copy-count_with_level-plots-requires
count_of_copy-count_with_level-plots-requires t c = (
  search rules,
  (
    c.requires.names,
    (
      c.in-Ok.ensures.rows,
      stand_inside c.args.outer.now c.in-Ok.level c.args.mark.now c.args.copy c.requires.group c.requires.marks c.requires.copy c.in-Ok.ensures.folds,
    ),
  ),
)

pub count_of_copy-returns-in-Ok : goal.count_of_copy-returns-in-Ok
count_of_copy-returns-in-Ok t c =
    copy_counts c.args.outer.now c.args.mark.now c.args.copy c.args.in_facet c.args.in_grid c.in-Ok.level c.in-Ok.ensures.value
    c.count_with_level-plots.result c.count_with_level-plots.ensures

-- what a copy is itself, and what stands in it

pub count_with_level-returns-in-Ok : goal.count_with_level-returns-in-Ok
count_with_level-returns-in-Ok t c =
    with_itself (is_panel c.args.in_facet c.args.in_grid (out-VgMark c.args.mark.now))
    (plots_inside (map dataset_of c.args.outer.now.sources.now) c.args.in_facet
    (out-VgMark c.args.mark.now) (names_with_level c.args.outer.now c.args.level.now))
    c.in-Ok.plots _ _ c.in-Ok.ensures c.plot_itself.ensures c.saturating_add.ensures

pub count_with_level-returns-in-Err : goal.count_with_level-returns-in-Err
count_with_level-returns-in-Err t c =
    none_with_itself (is_panel c.args.in_facet c.args.in_grid (out-VgMark c.args.mark.now))
    (plots_inside (map dataset_of c.args.outer.now.sources.now) c.args.in_facet
    (out-VgMark c.args.mark.now) (names_with_level c.args.outer.now c.args.level.now))
    c.in-Err.error c.in-Err.ensures

-- ---- one more level of names

pub count_under-count_inside-requires : goal.count_under-count_inside-requires
count_under-count_inside-requires t c =
    let more : levels_behind c.as_slice.result.now ≡ c.args.level.now ∷ levels_behind c.args.outer.now.levels.now =
    ap levels_behind c.as_slice.ensures ∙ c.in_ok-levels.ensures in (
      search rules,
      (
        levels_entered c.args.outer.now c.args.level.now c.as_slice.result.now more c.requires.names c.requires.rows,
        stand_with c.args.outer.now c.args.level.now c.as_slice.result.now (marks_in (out-Group (out-VgMark c.args.mark.now).group)) more c.requires.marks,
      ),
    )

pub count_under-returns : goal.count_under-returns
count_under-returns t c =
    let more : levels_behind c.as_slice.result.now ≡ c.args.level.now ∷ levels_behind c.args.outer.now.levels.now =
    ap levels_behind c.as_slice.ensures ∙ c.in_ok-levels.ensures in
    subst (λ names. Evaluates c.count_inside.result
    (counted (plots_inside (map dataset_of c.args.outer.now.sources.now) c.args.in_facet (out-VgMark c.args.mark.now) names)))
    (names_entered c.args.outer.now c.args.level.now c.as_slice.result.now more) c.count_inside.ensures
