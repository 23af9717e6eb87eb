use Rattle.std.proofs.Common.{rules, ◌≡◌, ◌≤◌, ◌<◌, ◌+◌, ◌∷◌, ◌++◌, map, drop, refl, sym, ap, ◌∙◌, subst, arith}
use denote.Param.Weighed.{most, at_most}
use Rattle.std.specs.Prelude.{OnOk}
use Rattle.std.specs.List.{All}
use Rattle.std.proofs.lemmas.List.{drop_all}
use Rattle.vega_lists.specs.Held.{scope_read}
use Rattle.vega_spec.specs.declared.spec.Group.{out-Group}
use Rattle.vega_spec.specs.declared.spec.VgMark.{out-VgMark, size-VgMark}
use Rattle.vega_spec.proofs.spec.VgMark.TheLaws.{the_size}
use Rattle.vega_copies.specs.declared.made.CopyMade.{out-CopyMade}
use Rattle.vega_copies.specs.inner.Made.{levels_behind, HaveCopies, IsCopyMade}
use Rattle.vega_copies.specs.inner.Outlined.{marks_in, marks_of, plain_of}
use Rattle.vega_copies.proofs.DepthLemmas.{inside_smaller}
use Rattle.vega_copies.proofs.FactsLemmas.{at_index}
use Rattle.vega_copies.proofs.MadeLemmas.{each_copy_made, copies_in_made, levels_in_made}
use Rattle.vega_copies.proofs.StandLemmas.{rows_are_under}
use Rattle.plain_engine.specs.inner.Rows.{entries_of, entries_of_copies, entries_of_copy, entries_of_mark, seen}
use Rattle.plain_engine.proofs.RowLemmas.{part_pushed, parts_ended, group_entries, plain_entries, entries_ended, one_within, one_is_few}
use Rattle.plain_engine.proofs.RowLemmas.{one_stands, one_is_made, one_more, inside_few}
use Rattle.plain_engine.proofs.rows.+listing.Goals as goal

-- ---- marks one after the other

pub push_inside-loop-mark-init : goal.push_inside-loop-mark-init
push_inside-loop-mark-init t c = record { stand = c.requires.marks; few = c.requires.few; entries = refl }

pub push_inside-bounds-made-at : goal.push_inside-bounds-made-at
push_inside-bounds-made-at t c =
    one_within c.args.names.now _ c.args.marks.now c.args.made.now c.loop-mark.mark-index c.mark-item.result c.loop-mark.at _ _ c.loop-mark-test.true
    c.mark-item.is c.loop-mark.invariant

pub push_inside-push_mark-requires : goal.push_inside-push_mark-requires
push_inside-push_mark-requires t c =
    let smaller : the_size c.mark-item.result ≤ most the_size c.args.marks.now =
    subst (λ m. the_size m ≤ most the_size c.args.marks.now) (sym c.mark-item.is)
    (at_most the_size c.args.marks.now c.loop-mark.mark-index c.mark-item.result c.loop-mark-test.true) in (
      search (rules, smaller, c.decreases),
      (
        c.requires.names,
        (
          one_stands c.args.names.now _ c.args.marks.now c.args.made.now c.loop-mark.mark-index c.mark-item.result c.loop-mark.at _ _ c.loop-mark-test.true
              c.mark-item.is c.loop-mark.invariant c.index-made-at.result c.index-made-at.is,
          (
            one_is_made c.args.names.now _ c.args.marks.now c.args.made.now c.loop-mark.mark-index c.mark-item.result c.loop-mark.at _ _ c.loop-mark-test.true
                c.mark-item.is c.loop-mark.invariant c.index-made-at.result c.index-made-at.is,
            one_is_few c.args.names.now _ c.args.marks.now c.args.made.now c.loop-mark.mark-index c.mark-item.result c.loop-mark.at _ _ c.loop-mark-test.true
                c.mark-item.is c.loop-mark.invariant,
          ),
        ),
      ),
    )

pub push_inside-count_marks_of-unit-requires : goal.push_inside-count_marks_of-unit-requires
push_inside-count_marks_of-unit-requires t c =
    let few =
    one_is_few c.args.names.now _ c.args.marks.now c.args.made.now c.loop-mark.mark-index c.mark-item.result c.loop-mark.at _ _ c.loop-mark-test.true
    c.mark-item.is c.loop-mark.invariant in
    record { few = omega (arith, few) }

pub push_inside-overflow_add-unit : goal.push_inside-overflow_add-unit
push_inside-overflow_add-unit t c =
    let few =
    one_is_few c.args.names.now _ c.args.marks.now c.args.made.now c.loop-mark.mark-index c.mark-item.result c.loop-mark.at _ _ c.loop-mark-test.true
    c.mark-item.is c.loop-mark.invariant in
    let counted = c.count_marks_of-unit.ensures in
    omega (arith, few, counted)

pub push_inside-loop-mark-preserved : goal.push_inside-loop-mark-preserved
push_inside-loop-mark-preserved t c =
    one_more c.args.names.now _ c.args.marks.now c.args.made.now c.loop-mark.mark-index c.mark-item.result c.loop-mark.at _ _ c.loop-mark-test.true
    c.mark-item.is c.loop-mark.invariant c.index-made-at.result c.index-made-at.is (c.loop-mark.unit + c.count_marks_of-unit.result)
    (map seen c.push_mark.new.out) (ap (λ n. c.loop-mark.unit + n) c.count_marks_of-unit.ensures) c.in_ok-push_mark.ensures

pub push_inside-returns : goal.push_inside-returns
push_inside-returns t c =
    entries_ended c.args.names.now _ c.args.marks.now c.args.made.now (drop c.loop-mark.mark-index c.args.marks.now) (drop c.loop-mark.at c.args.made.now) _ _
    (drop_all c.loop-mark.mark-index c.args.marks.now c.loop-mark-test.false) c.loop-mark.invariant

-- ---- a mark

pub push_mark-push_copies-requires : goal.push_mark-push_copies-requires
push_mark-push_copies-requires t c = (
  search rules,
  (c.requires.names, (c.requires.marks, (c.requires.made, (c.requires.few, sym c.is_group.ensures ∙ c.if-is_group.true)))),
)

pub push_mark-returns-then-is_group : goal.push_mark-returns-then-is_group
push_mark-returns-then-is_group t c =
    let names = c.args.names.now in
    subst (λ entries. OnOk c.push_copies.result (map seen c.push_copies.new.out ≡ map seen c.args.out.now ++ entries))
    (sym (group_entries names.sources.now (levels_behind names.levels.now) c.args.mark.now c.args.unit c.args.made.now
    (sym c.is_group.ensures ∙ c.if-is_group.true))) c.push_copies.ensures

pub push_mark-returns-else-is_group : goal.push_mark-returns-else-is_group
push_mark-returns-else-is_group t c =
    let names = c.args.names.now in
    subst (λ entries. OnOk c.push_listed.result (map seen c.push_listed.new.out ≡ map seen c.args.out.now ++ entries))
    (ap (λ rows. entries_of_mark c.args.unit (plain_of (out-VgMark c.args.mark.now)) (scope_read rows)) (rows_are_under names.sources.now names.levels.now)
    ∙ sym (plain_entries names.sources.now (levels_behind names.levels.now) c.args.mark.now c.args.unit c.args.made.now
    (sym c.is_group.ensures ∙ c.if-is_group.false))) c.push_listed.ensures

-- ---- the copies of a group

pub push_copies-loop-copy-init : goal.push_copies-loop-copy-init
push_copies-loop-copy-init t c = refl

pub push_copies-push_copy-requires : goal.push_copies-push_copy-requires
push_copies-push_copy-requires t c =
    let one = IsCopyMade c.args.names.now.stores.now c.args.names.now.sources.now (levels_behind c.args.names.now.levels.now) (out-VgMark c.args.mark.now) in (
      search rules,
      (
        c.requires.names,
        (
          c.requires.marks,
          (
            at_index one c.as_slice-copies.result.now c.loop-copy.copy-index c.copy-item.result
                (subst (All one) (sym c.as_slice-copies.ensures)
                (each_copy_made c.args.names.now.stores.now c.args.names.now.sources.now
                c.args.names.now.levels.now c.args.mark.now c.args.made.now c.requires.group c.requires.made))
                c.loop-copy-test.true c.copy-item.is,
            (c.requires.few, c.requires.group),
          ),
        ),
      ),
    )

pub push_copies-loop-copy-preserved : goal.push_copies-loop-copy-preserved
push_copies-loop-copy-preserved t c =
    let names = c.args.names.now in
    let each = entries_of_copy names.sources.now c.args.unit (out-VgMark c.args.mark.now) (levels_behind names.levels.now) in
    part_pushed each c.as_slice-copies.result.now c.loop-copy.copy-index c.copy-item.result (map seen c.loop-copy.out) (map seen c.push_copy.new.out)
    (map seen c.args.out.now
    ++ entries_of_copies names.sources.now c.args.unit (out-VgMark c.args.mark.now) (levels_behind names.levels.now) c.as_slice-copies.result.now)
    c.loop-copy-test.true c.copy-item.is c.loop-copy.invariant c.in_ok-push_copy.ensures

pub push_copies-returns : goal.push_copies-returns
push_copies-returns t c =
    let names = c.args.names.now in
    let each = entries_of_copy names.sources.now c.args.unit (out-VgMark c.args.mark.now) (levels_behind names.levels.now) in
    parts_ended each (drop c.loop-copy.copy-index c.as_slice-copies.result.now) (map seen c.loop-copy.out)
    (map seen c.args.out.now
    ++ entries_of_copies names.sources.now c.args.unit (out-VgMark c.args.mark.now) (levels_behind names.levels.now) c.as_slice-copies.result.now)
    (drop_all c.loop-copy.copy-index c.as_slice-copies.result.now c.loop-copy-test.false) c.loop-copy.invariant
    ∙ ap (λ copies. map seen c.args.out.now
    ++ entries_of_copies names.sources.now c.args.unit (out-VgMark c.args.mark.now) (levels_behind names.levels.now) copies) c.as_slice-copies.ensures

-- ---- a copy

pub push_copy-push_entered-requires : goal.push_copy-push_entered-requires
push_copy-push_entered-requires t c =
    let outer = c.args.outer.now in
    let m = c.args.mark.now in
    let more : levels_behind c.as_slice.result.now ≡ (out-CopyMade c.args.copy.now).level ∷ levels_behind outer.levels.now =
    ap levels_behind c.as_slice.ensures ∙ c.in_ok-levels.ensures in (
      search rules,
      (
        levels_in_made outer.stores.now outer.sources.now outer.levels.now m c.args.copy.now c.requires.copy c.as_slice.result.now more c.requires.names,
        (
          copies_in_made outer.stores.now outer.sources.now outer.levels.now m c.args.copy.now c.requires.copy c.as_slice.result.now more
              (out-CopyMade c.args.copy.now).inside refl c.requires.group c.requires.marks,
          (c.requires.few, c.requires.group),
        ),
      ),
    )

pub push_copy-returns : goal.push_copy-returns
push_copy-returns t c =
    let outer = c.args.outer.now in
    let more : levels_behind c.as_slice.result.now ≡ (out-CopyMade c.args.copy.now).level ∷ levels_behind outer.levels.now =
    ap levels_behind c.as_slice.ensures ∙ c.in_ok-levels.ensures in
    subst (λ levels. OnOk c.push_entered.result (map seen c.push_entered.new.out ≡ map seen c.args.out.now
    ++ entries_of outer.sources.now c.args.unit (marks_of (marks_in (out-Group (out-VgMark c.args.mark.now).group))) levels
    (out-CopyMade c.args.copy.now).inside)) more c.push_entered.ensures

pub push_entered-push_inside-requires : goal.push_entered-push_inside-requires
push_entered-push_inside-requires t c =
    let smaller : most size-VgMark (marks_in (out-Group (out-VgMark c.args.mark.now).group)) < size-VgMark c.args.mark.now = inside_smaller c.args.mark.now in
    let handed : most size-VgMark c.marks_in.result.now < size-VgMark c.args.mark.now =
    subst (λ marks. most size-VgMark marks < size-VgMark c.args.mark.now) (sym c.marks_in.ensures) smaller in (
      omega (arith, handed),
      (
        c.requires.names,
        (
          subst (HaveCopies c.args.stores.now c.args.sources.now c.args.levels.now c.marks_in.result.now) (sym c.as_slice.ensures)
              (subst (λ marks. HaveCopies c.args.stores.now c.args.sources.now c.args.levels.now marks (out-CopyMade c.args.copy.now).inside)
              (sym c.marks_in.ensures) c.requires.marks),
          inside_few c.args.mark.now c.marks_in.result.now c.args.unit c.requires.group c.marks_in.ensures c.requires.few,
        ),
      ),
    )

pub push_entered-returns : goal.push_entered-returns
push_entered-returns t c =
    subst (λ entries. OnOk c.push_inside.result (map seen c.push_inside.new.out ≡ map seen c.args.out.now ++ entries))
    (λ i. entries_of c.args.sources.now c.args.unit (marks_of (c.marks_in.ensures i)) (levels_behind c.args.levels.now) (c.as_slice.ensures i))
    c.push_inside.ensures
