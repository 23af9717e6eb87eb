use Rattle.std.proofs.Common.{rules, ◌≡◌, ◌≤◌, ◌+◌, ◌||◌, [], ◌∷◌, ◌++◌, map, take, is_some, sym, ap, ◌∙◌, subst}
use denote.Param.Weighed.{most, at_most}
use Rattle.std.specs.List.{All, AllZip}
use Rattle.std.specs.Vec.Iter.{into_iter_items}
use Rattle.std.proofs.lemmas.List.Elements.{All-nil, All-head, All-tail, All-push}
use Rattle.cell_value.specs.State.{dataset_of}
use Rattle.vega_lists.specs.Held.{scope_read}
use Rattle.vega_spec.specs.declared.spec.Group.{out-Group}
use Rattle.vega_spec.specs.declared.spec.VgMark.{VgMark, out-VgMark}
use Rattle.vega_spec.proofs.spec.VgMark.TheLaws.{the_size}
use Rattle.vega_copies.specs.declared.made.CopiesMade.{CopiesMade, roll-CopiesMade, out-roll-CopiesMade}
use Rattle.vega_copies.specs.declared.made.CopyMade.{roll-CopyMade, out-roll-CopyMade}
use Rattle.vega_copies.specs.Facets.{copies_of}
use Rattle.vega_copies.specs.Outlines.{facet_in}
use Rattle.vega_copies.specs.inner.Copied.{across_with_facet, copies_with_facet, copy_seen, scope_at, IsCopy}
use Rattle.vega_copies.specs.inner.Counted.{plots_inside, Stops}
use Rattle.vega_copies.specs.inner.Levels.{rows_at, names_at}
use Rattle.vega_copies.specs.inner.Made.{levels_behind, made_seen, IsCopyMade, OneMade}
use Rattle.vega_copies.specs.inner.Outlined.{marks_in, group_object}
use Rattle.vega_copies.proofs.CopyLemmas.{copies_sound}
use Rattle.vega_copies.proofs.FoundLemmas.{added, added_both, not_added}
use Rattle.vega_copies.proofs.StandLemmas.{levels_entered, names_entered, stand_inside}
use Rattle.vega_copies.proofs.CountLemmas.{mark_stops, stand_at, copy_stops, inside_stops}
use Rattle.vega_copies.proofs.PanelLemmas.{one_copy_stops}
use Rattle.vega_copies.proofs.MadeLemmas.{copy_made, group_made, none_left, seen_next, seen_end, stand_with, zip_more}
use Rattle.vega_copies.proofs.made.+making.Goals as goal

-- ---- marks one after the other

pub made_in-made_of_mark-requires : goal.made_in-made_of_mark-requires
made_in-made_of_mark-requires t c =
    let no_deeper : the_size c.mark-item.result ≤ most the_size c.args.marks.now =
    subst (λ m. the_size m ≤ most the_size c.args.marks.now) (sym c.mark-item.is)
    (at_most the_size c.args.marks.now c.loop-mark.mark-index c.mark-item.result c.loop-mark-test.true) in (
      search (rules, no_deeper, c.decreases),
      (
        c.requires.names,
        stand_at (rows_at c.args.names.now.sources.now c.args.names.now.levels.now) c.args.marks.now c.loop-mark.mark-index c.mark-item.result c.requires.marks
            c.loop-mark-test.true c.mark-item.is,
      ),
    )

pub made_in-loop-mark-preserved : goal.made_in-loop-mark-preserved
made_in-loop-mark-preserved t c =
    let names = c.args.names.now in
    let one : VgMark → CopiesMade → Type 0 = OneMade names.stores.now names.sources.now (levels_behind names.levels.now) in
    let found = added c.made_of_mark.result c.loop-mark.made _ (one c.mark-item.result) _ c.in-Ok.ensures c.made_of_mark.ensures.made in
    subst (AllZip one (take (c.loop-mark.mark-index + 1) c.args.marks.now)) (sym found.2)
    (zip_more one c.args.marks.now c.loop-mark.made c.loop-mark.mark-index c.mark-item.result found.0 c.loop-mark-test.true c.mark-item.is
    c.loop-mark.invariant found.1)

pub made_in-returns-in-Err-clause-stops : goal.made_in-returns-in-Err-clause-stops
made_in-returns-in-Err-clause-stops t c =
    let names = c.args.names.now in
    λ in_facet in_grid.
    mark_stops (map dataset_of names.sources.now) in_facet in_grid
    (names_at names.stores.now names.sources.now names.levels.now) c.args.marks.now c.loop-mark.mark-index c.mark-item.result
    c.in-Err.error c.loop-mark-test.true c.mark-item.is
    (not_added c.made_of_mark.result _ _ _ c.in-Err.error c.in-Err.ensures (c.made_of_mark.ensures.stops in_facet in_grid))

-- ---- the copies of a group

pub made_of_group-loop-copy-init : goal.made_of_group-loop-copy-init
made_of_group-loop-copy-init t c =
    let names = c.args.names.now in
    let items : into_iter_items c.into_iter-copy-iterator.result ≡ c.in_ok-copies.field-0.copies =
    c.into_iter-copy-iterator.ensures.into_iter_gives.0 ∙ c.into_vec-copy-items.ensures in
    let none : c.in_ok-made.made ≡ [] = search rules in
    let m = out-VgMark c.args.mark.now in
    let all = c.in_ok-copies.ensures.copies ∙ ap (copies_with_facet (scope_at names) m.sort) c.facet_in.ensures in
    record {
      copies = subst (All (IsCopy names (out-VgMark c.args.mark.now))) (sym items)
          (copies_sound names (out-VgMark c.args.mark.now) c.requires.names c.in_ok-copies.field-0.copies all);
      seen =
          (λ i. map made_seen (none i) ++ map copy_seen (items i)) ∙ all;
      made =
          subst (All (IsCopyMade names.stores.now names.sources.now (levels_behind names.levels.now) (out-VgMark c.args.mark.now))) (sym none)
          (All-nil (IsCopyMade names.stores.now names.sources.now (levels_behind names.levels.now) (out-VgMark c.args.mark.now)));
    }

pub made_of_group-made_copy-requires : goal.made_of_group-made_copy-requires
made_of_group-made_copy-requires t c = (
  search rules,
  (
    c.requires.names,
    (
      c.requires.marks,
      (
        All-head (IsCopy c.args.names.now (out-VgMark c.args.mark.now)) c.in-Some.copy (into_iter_items c.next.new.self)
            (subst (All (IsCopy c.args.names.now (out-VgMark c.args.mark.now))) c.in-Some.ensures.steps.0 c.loop-copy.invariant.copies),
        c.requires.group,
      ),
    ),
  ),
)

pub made_of_group-loop-copy-preserved : goal.made_of_group-loop-copy-preserved
made_of_group-loop-copy-preserved t c =
    let names = c.args.names.now in
    let m = out-VgMark c.args.mark.now in
    let one = IsCopyMade names.stores.now names.sources.now (levels_behind names.levels.now) m in
    let found =
    added_both c.made_copy.result c.loop-copy.made _ (λ found. made_seen found ≡ copy_seen c.in-Some.copy) one _ c.in-Ok.ensures c.made_copy.ensures.seen
    c.made_copy.ensures.made in
    record {
      copies =
          All-tail (IsCopy names m) c.in-Some.copy (into_iter_items c.next.new.self)
          (subst (All (IsCopy names m)) c.in-Some.ensures.steps.0 c.loop-copy.invariant.copies);
      seen =
          seen_next (copies_of (scope_read (rows_at names.sources.now names.levels.now)) (group_object 0 m)) c.loop-copy.made c.push_found.new.list found.0
          (into_iter_items c.loop-copy.copy-iterator) (into_iter_items c.next.new.self) c.in-Some.copy c.in-Some.ensures.steps.0 found.3
          found.1 c.loop-copy.invariant.seen;
      made = subst (All one) (sym found.3) (All-push one c.loop-copy.made found.0 c.loop-copy.invariant.made found.2);
    }

pub made_of_group-returns-in-Err-clause-stops : goal.made_of_group-returns-in-Err-clause-stops
made_of_group-returns-in-Err-clause-stops t c =
    let names = c.args.names.now in
    let m = out-VgMark c.args.mark.now in
    λ in_facet in_grid.
    one_copy_stops (map dataset_of names.sources.now) c.args.mark.now in_facet in_grid
    (names_at names.stores.now names.sources.now names.levels.now) c.requires.group
    (map made_seen c.loop-copy.made) (copy_seen c.in-Some.copy) (map copy_seen (into_iter_items c.next.new.self)) c.in-Err.error
    (ap (λ copies. map made_seen c.loop-copy.made ++ map copy_seen copies) (sym c.in-Some.ensures.steps.0) ∙ c.loop-copy.invariant.seen)
    (not_added c.made_copy.result _ _ _ c.in-Err.error c.in-Err.ensures (c.made_copy.ensures.stops (in_facet || is_some (facet_in m.from)) in_grid))

pub made_of_group-returns-clause-made : goal.made_of_group-returns-clause-made
made_of_group-returns-clause-made t c =
    let names = c.args.names.now in
    let m = out-VgMark c.args.mark.now in
    group_made names c.args.mark.now (roll-CopiesMade (record { copies = c.loop-copy.made; across = c.in_ok-copies.field-0.across }))
    (record { copies = c.loop-copy.made; across = c.in_ok-copies.field-0.across })
    (out-roll-CopiesMade (record { copies = c.loop-copy.made; across = c.in_ok-copies.field-0.across })) c.requires.group
    (seen_end (copies_of (scope_read (rows_at names.sources.now names.levels.now)) (group_object 0 m))
    c.loop-copy.made (into_iter_items c.loop-copy.copy-iterator)
    (none_left c.loop-copy.copy-iterator c.in-None.ensures.steps.0) c.loop-copy.invariant.seen)
    (c.in_ok-copies.ensures.across ∙ ap (across_with_facet (scope_at names) m.sort) c.facet_in.ensures) c.loop-copy.invariant.made

-- ---- a copy

pub made_copy-returns-in-Err-clause-stops : goal.made_copy-returns-in-Err-clause-stops
made_copy-returns-in-Err-clause-stops t c =
    λ in_facet in_grid. copy_stops c.args.outer.now c.args.mark.now c.args.copy in_facet in_grid c.in-Err.error c.in-Err.ensures.value

pub made_copy-made_under-requires : goal.made_copy-made_under-requires
made_copy-made_under-requires t c = (
  search rules,
  (
    c.requires.names,
    (
      c.in-Ok.ensures.rows,
      stand_inside c.args.outer.now c.in-Ok.level c.args.mark.now c.args.copy c.requires.group c.requires.marks c.requires.copy c.in-Ok.ensures.folds,
    ),
  ),
)

pub made_copy-returns-in-Ok-made_under-clause-made : goal.made_copy-returns-in-Ok-made_under-clause-made
made_copy-returns-in-Ok-made_under-clause-made t c =
    copy_made c.args.outer.now c.args.mark.now c.args.copy
    (roll-CopyMade (record { cells = c.args.copy.cells; level = c.in-Ok.level; inside = c.in-Ok-made_under.inside }))
    (record { cells = c.args.copy.cells; level = c.in-Ok.level; inside = c.in-Ok-made_under.inside })
    (out-roll-CopyMade (record { cells = c.args.copy.cells; level = c.in-Ok.level; inside = c.in-Ok-made_under.inside })) c.in-Ok.ensures.value
    (λ i. record { cells = c.args.copy.cells; parts = map dataset_of (c.in-Ok.ensures.parts i) }) c.in-Ok.ensures.rows
    (stand_inside c.args.outer.now c.in-Ok.level c.args.mark.now c.args.copy c.requires.group c.requires.marks c.requires.copy c.in-Ok.ensures.folds)
    c.in-Ok-made_under.ensures.made

pub made_copy-returns-in-Err-made_under-clause-stops : goal.made_copy-returns-in-Err-made_under-clause-stops
made_copy-returns-in-Err-made_under-clause-stops t c =
    λ in_facet in_grid.
    inside_stops c.args.outer.now c.args.mark.now c.args.copy in_facet in_grid c.in-Ok.level c.in-Ok.ensures.value c.in-Err-made_under.error
    (c.in-Err-made_under.ensures.stops in_facet)

-- ---- one more level of names

pub made_under-made_inside-requires : goal.made_under-made_inside-requires
made_under-made_inside-requires t c =
    let more : levels_behind c.as_slice.result.now ≡ c.args.level.now ∷ levels_behind c.args.outer.now.levels.now =
    ap levels_behind c.as_slice.ensures ∙ c.in_ok-levels.ensures in (
      search rules,
      (
        levels_entered c.args.outer.now c.args.level.now c.as_slice.result.now more c.requires.names c.requires.rows,
        stand_with c.args.outer.now c.args.level.now c.as_slice.result.now (marks_in (out-Group (out-VgMark c.args.mark.now).group)) more c.requires.marks,
      ),
    )

pub made_under-returns-clause-stops : goal.made_under-returns-clause-stops
made_under-returns-clause-stops t c =
    let more : levels_behind c.as_slice.result.now ≡ c.args.level.now ∷ levels_behind c.args.outer.now.levels.now =
    ap levels_behind c.as_slice.ensures ∙ c.in_ok-levels.ensures in
    λ in_facet.
    subst (λ names. Stops c.made_inside.result (plots_inside (map dataset_of c.args.outer.now.sources.now) in_facet (out-VgMark c.args.mark.now) names))
    (names_entered c.args.outer.now c.args.level.now c.as_slice.result.now more) (c.made_inside.ensures.stops in_facet)
