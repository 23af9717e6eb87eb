use Rattle.std.proofs.Common.{rules, ◌≡◌, ◌≤◌, ◌<◌, arith, ◌+◌, ◌∷◌, [], map, take, drop, refl, sym, ap, ◌∙◌, subst}
use denote.Param.Weighed.{most, at_most}
use Rattle.std.specs.List.{All, AllZip}
use Rattle.std.proofs.lemmas.List.{drop_all, take_all}
use Rattle.cell_value.specs.State.{dataset_of}
use Rattle.vega_spec.specs.declared.spec.Group.{out-Group}
use Rattle.vega_spec.specs.declared.spec.VgMark.{out-VgMark, size-VgMark}
use Rattle.vega_spec.proofs.spec.VgMark.TheLaws.{the_size}
use Rattle.vega_copies.specs.declared.facts.CopyFacts.{CopyFacts}
use Rattle.vega_copies.specs.declared.facts.MarkFacts.{MarkFacts, MarkFacts-F, roll-MarkFacts, out-roll-MarkFacts}
use Rattle.vega_copies.specs.declared.made.CopiesMade.{out-CopiesMade}
use Rattle.vega_copies.specs.declared.made.CopyMade.{out-CopyMade}
use Rattle.vega_copies.specs.Outlines.{object_here}
use Rattle.vega_copies.specs.Facts.{CopyFound}
use Rattle.vega_copies.specs.inner.Counted.{Stops}
use Rattle.vega_copies.specs.inner.FactsMade.{CopyHasFacts, OneHasFacts}
use Rattle.vega_copies.specs.inner.Levels.{rows_at, names_at}
use Rattle.vega_copies.specs.inner.Made.{levels_behind, HaveCopies, IsCopyMade}
use Rattle.vega_copies.specs.inner.Outlined.{marks_in, marks_of}
use Rattle.vega_copies.proofs.FactsLemmas.{none_begun, facts_ended, one_within, one_stands, one_is_made, one_stops, one_more_found}
use Rattle.vega_copies.proofs.FactsLemmas.{own_lost, answer_stops, answer_has, group_of, plain_has, at_index, one_copy_stops, entered_is, entered_has}
use Rattle.vega_copies.proofs.DepthLemmas.{inside_smaller}
use Rattle.vega_copies.proofs.FoundLemmas.{added, not_added}
use Rattle.vega_copies.proofs.MadeLemmas.{zip_more, each_copy_made, copies_in_made, levels_in_made}
use Rattle.vega_copies.proofs.StandLemmas.{object_kept, object_alone}
use Rattle.vega_copies.proofs.facts.+finding.Goals as goal

-- ---- marks one after the other

pub facts_inside-loop-mark-init : goal.facts_inside-loop-mark-init
facts_inside-loop-mark-init t c = none_begun c.args.names.now c.args.marks.now c.args.made.now c.in_ok-facts.facts c.in_ok-facts.ensures c.requires.marks

pub facts_inside-bounds-made-at : goal.facts_inside-bounds-made-at
facts_inside-bounds-made-at t c =
    one_within c.args.names.now c.args.marks.now c.args.made.now c.loop-mark.mark-index c.mark-item.result c.loop-mark.at _ c.loop-mark-test.true c.mark-item.is
    c.loop-mark.invariant

pub facts_inside-facts_of_mark-requires : goal.facts_inside-facts_of_mark-requires
facts_inside-facts_of_mark-requires t c =
    let smaller : the_size c.mark-item.result ≤ most the_size c.args.marks.now =
    subst (λ m. the_size m ≤ most the_size c.args.marks.now) (sym c.mark-item.is)
    (at_most the_size c.args.marks.now c.loop-mark.mark-index c.mark-item.result c.loop-mark-test.true) in (
      search (rules, smaller, c.decreases),
      (
        c.requires.names,
        (
          one_stands c.args.names.now c.args.marks.now c.args.made.now c.loop-mark.mark-index c.mark-item.result c.loop-mark.at _ c.loop-mark-test.true
              c.mark-item.is c.loop-mark.invariant c.index-made-at.result c.index-made-at.is,
          one_is_made c.args.names.now c.args.marks.now c.args.made.now c.loop-mark.mark-index c.mark-item.result c.loop-mark.at _ c.loop-mark-test.true
              c.mark-item.is c.loop-mark.invariant c.index-made-at.result c.index-made-at.is,
        ),
      ),
    )

pub facts_inside-returns-in-Err-clause-stops : goal.facts_inside-returns-in-Err-clause-stops
facts_inside-returns-in-Err-clause-stops t c =
    one_stops c.args.names.now c.args.marks.now c.args.made.now c.loop-mark.mark-index c.mark-item.result c.loop-mark.at _ c.loop-mark-test.true c.mark-item.is
    c.loop-mark.invariant c.index-made-at.result c.index-made-at.is c.in-Err.error
    (not_added c.facts_of_mark.result _ _ _ c.in-Err.error c.in-Err.ensures c.facts_of_mark.ensures.stops)

pub facts_inside-loop-mark-preserved : goal.facts_inside-loop-mark-preserved
facts_inside-loop-mark-preserved t c =
    let names = c.args.names.now in
    let found =
    added c.facts_of_mark.result c.loop-mark.facts _
    (OneHasFacts names.stores.now names.sources.now (levels_behind names.levels.now) c.mark-item.result c.index-made-at.result) _ c.in-Ok.ensures
    c.facts_of_mark.ensures.facts in
    one_more_found names c.args.marks.now c.args.made.now c.loop-mark.mark-index c.mark-item.result c.loop-mark.at _ c.loop-mark-test.true
    c.mark-item.is c.loop-mark.invariant c.index-made-at.result c.index-made-at.is found.0 _ found.1 found.2

pub facts_inside-returns-clause-facts : goal.facts_inside-returns-clause-facts
facts_inside-returns-clause-facts t c =
    facts_ended c.args.names.now c.args.marks.now c.args.made.now (drop c.loop-mark.mark-index c.args.marks.now) (drop c.loop-mark.at c.args.made.now)
    c.loop-mark.facts (drop_all c.loop-mark.mark-index c.args.marks.now c.loop-mark-test.false) c.loop-mark.invariant

-- ---- a mark

pub facts_of_mark-returns-else-is_group-clause-facts : goal.facts_of_mark-returns-else-is_group-clause-facts
facts_of_mark-returns-else-is_group-clause-facts t c =
    plain_has c.args.names.now.stores.now c.args.names.now.sources.now
    (levels_behind c.args.names.now.levels.now) c.args.mark.now c.args.made.now c.no_facts.result
    (sym c.is_group.ensures ∙ c.if-is_group.false) c.no_facts.ensures

-- ---- the copies of a group

pub facts_of_group-loop-copy-init : goal.facts_of_group-loop-copy-init
facts_of_group-loop-copy-init t c =
    subst (AllZip (CopyHasFacts c.args.names.now.stores.now c.args.names.now.sources.now
    (levels_behind c.args.names.now.levels.now) (out-VgMark c.args.mark.now)) [])
    (sym c.in_ok-facts.ensures) tt

pub facts_of_group-facts_of_copy-requires : goal.facts_of_group-facts_of_copy-requires
facts_of_group-facts_of_copy-requires t c =
    let one = IsCopyMade c.args.names.now.stores.now c.args.names.now.sources.now (levels_behind c.args.names.now.levels.now) (out-VgMark c.args.mark.now) in (
      search rules,
      (
        c.requires.names,
        (
          c.requires.marks,
          (
            at_index one c.as_slice-copies.result.now c.loop-copy.copy-index c.copy-item.result
                (subst (All one) (sym c.as_slice-copies.ensures)
                (each_copy_made c.args.names.now.stores.now c.args.names.now.sources.now
                c.args.names.now.levels.now c.args.mark.now c.args.made.now c.requires.group c.requires.made))
                c.loop-copy-test.true c.copy-item.is,
            c.requires.group,
          ),
        ),
      ),
    )

pub facts_of_group-returns-in-Err-clause-stops : goal.facts_of_group-returns-in-Err-clause-stops
facts_of_group-returns-in-Err-clause-stops t c =
    one_copy_stops c.args.names.now c.args.mark.now c.args.made.now c.requires.group c.requires.made c.as_slice-copies.result.now c.as_slice-copies.ensures
    c.loop-copy.copy-index c.copy-item.result c.loop-copy-test.true c.copy-item.is c.in-Err.error
    (not_added c.facts_of_copy.result _ _ _ c.in-Err.error c.in-Err.ensures c.facts_of_copy.ensures.stops)

pub facts_of_group-loop-copy-preserved : goal.facts_of_group-loop-copy-preserved
facts_of_group-loop-copy-preserved t c =
    let has = CopyHasFacts c.args.names.now.stores.now c.args.names.now.sources.now (levels_behind c.args.names.now.levels.now) (out-VgMark c.args.mark.now) in
    let found = added c.facts_of_copy.result c.loop-copy.facts _ (has c.copy-item.result) _ c.in-Ok.ensures c.facts_of_copy.ensures.facts in
    subst (AllZip has (take (c.loop-copy.copy-index + 1) c.as_slice-copies.result.now)) (sym found.2)
    (zip_more has c.as_slice-copies.result.now c.loop-copy.facts c.loop-copy.copy-index c.copy-item.result found.0 c.loop-copy-test.true c.copy-item.is
    c.loop-copy.invariant found.1)

pub facts_of_group-returns-clause-facts : goal.facts_of_group-returns-clause-facts
facts_of_group-returns-clause-facts t c =
    let has = CopyHasFacts c.args.names.now.stores.now c.args.names.now.sources.now (levels_behind c.args.names.now.levels.now) (out-VgMark c.args.mark.now) in
    let parts : MarkFacts-F CopyFacts MarkFacts = record { copies = c.loop-copy.facts; across = (out-CopiesMade c.args.made.now).across } in
    group_of c.args.names.now.stores.now c.args.names.now.sources.now
    (levels_behind c.args.names.now.levels.now) c.args.mark.now c.args.made.now (roll-MarkFacts parts) parts
    (out-roll-MarkFacts parts) c.requires.group
    (subst (λ copies. AllZip has copies c.loop-copy.facts) c.as_slice-copies.ensures
    (subst (λ copies. AllZip has copies c.loop-copy.facts) (take_all c.loop-copy.copy-index c.as_slice-copies.result.now c.loop-copy-test.false)
    c.loop-copy.invariant)) refl

-- ---- a copy of a group

pub facts_of_copy-facts_entered-requires : goal.facts_of_copy-facts_entered-requires
facts_of_copy-facts_entered-requires t c =
    let outer = c.args.outer.now in
    let m = c.args.mark.now in
    let more : levels_behind c.as_slice.result.now ≡ (out-CopyMade c.args.copy.now).level ∷ levels_behind outer.levels.now =
    ap levels_behind c.as_slice.ensures ∙ c.in_ok-levels.ensures in (
      search rules,
      (
        levels_in_made outer.stores.now outer.sources.now outer.levels.now m c.args.copy.now c.requires.copy c.as_slice.result.now more c.requires.names,
        (
          object_alone 0 m (object_kept (rows_at outer.sources.now outer.levels.now) 0 m c.requires.group c.requires.marks),
          copies_in_made outer.stores.now outer.sources.now outer.levels.now m c.args.copy.now c.requires.copy c.as_slice.result.now more
              (out-CopyMade c.args.copy.now).inside refl c.requires.group c.requires.marks,
        ),
      ),
    )

pub facts_of_copy-returns-clause-stops : goal.facts_of_copy-returns-clause-stops
facts_of_copy-returns-clause-stops t c =
    let outer = c.args.outer.now in
    let more : levels_behind c.as_slice.result.now ≡ (out-CopyMade c.args.copy.now).level ∷ levels_behind outer.levels.now =
    ap levels_behind c.as_slice.ensures ∙ c.in_ok-levels.ensures in
    subst (Stops {X = CopyFacts} {Y = CopyFound} c.facts_entered.result)
    (sym (entered_is outer.stores.now outer.sources.now outer.levels.now c.args.mark.now c.args.copy.now c.requires.copy c.as_slice.result.now more))
    c.facts_entered.ensures.stops

pub facts_of_copy-returns-clause-facts : goal.facts_of_copy-returns-clause-facts
facts_of_copy-returns-clause-facts t c =
    let outer = c.args.outer.now in
    let more : levels_behind c.as_slice.result.now ≡ (out-CopyMade c.args.copy.now).level ∷ levels_behind outer.levels.now =
    ap levels_behind c.as_slice.ensures ∙ c.in_ok-levels.ensures in
    entered_has outer.stores.now outer.sources.now outer.levels.now c.args.mark.now
    c.args.copy.now c.requires.copy c.as_slice.result.now more c.facts_entered.result
    c.facts_entered.ensures.facts

pub facts_entered-facts_inside-requires : goal.facts_entered-facts_inside-requires
facts_entered-facts_inside-requires t c =
    let smaller : most size-VgMark (marks_in (out-Group (out-VgMark c.args.mark.now).group)) < size-VgMark c.args.mark.now = inside_smaller c.args.mark.now in
    let handed : most size-VgMark c.marks_in.result.now < size-VgMark c.args.mark.now =
    subst (λ marks. most size-VgMark marks < size-VgMark c.args.mark.now) (sym c.marks_in.ensures) smaller in (
      omega (arith, handed),
      (
        c.requires.names,
        subst (HaveCopies c.args.stores.now c.args.sources.now c.args.levels.now c.marks_in.result.now) (sym c.as_slice-in-Ok.ensures)
            (subst (λ marks. HaveCopies c.args.stores.now c.args.sources.now c.args.levels.now marks (out-CopyMade c.args.copy.now).inside)
            (sym c.marks_in.ensures) c.requires.marks),
      ),
    )

pub facts_entered-returns-in-Ok-clause-stops : goal.facts_entered-returns-in-Ok-clause-stops
facts_entered-returns-in-Ok-clause-stops t c =
    let m = out-VgMark c.args.mark.now in
    answer_stops c.args.stores.now c.args.sources.now (object_here (out-Group m.group)) c.args.levels.now
    c.in-Ok.own c.facts_inside.result (out-CopyMade c.args.copy.now).cells
    (marks_in (out-Group m.group)) c.marks_in.result.now c.marks_in.ensures c.facts_over.result c.facts_over.ensures c.facts_inside.ensures.stops

pub facts_entered-returns-in-Ok-clause-facts : goal.facts_entered-returns-in-Ok-clause-facts
facts_entered-returns-in-Ok-clause-facts t c =
    let m = out-VgMark c.args.mark.now in
    let copy = out-CopyMade c.args.copy.now in
    answer_has c.args.stores.now c.args.sources.now (object_here (out-Group m.group)) c.args.levels.now c.in-Ok.own c.facts_inside.result copy.cells
    (marks_in (out-Group m.group)) c.marks_in.result.now c.marks_in.ensures c.facts_over.result c.facts_over.ensures copy.level.signals c.as_slice.result.now
    c.as_slice.ensures copy.inside c.as_slice-in-Ok.result.now c.as_slice-in-Ok.ensures c.in-Ok.ensures.own c.facts_inside.ensures.facts

pub facts_entered-returns-in-Err-clause-stops : goal.facts_entered-returns-in-Err-clause-stops
facts_entered-returns-in-Err-clause-stops t c =
    let m = out-VgMark c.args.mark.now in
    own_lost (map dataset_of c.args.sources.now) (out-CopyMade c.args.copy.now).cells
    (object_here (out-Group m.group)) (marks_of (marks_in (out-Group m.group)))
    (names_at c.args.stores.now c.args.sources.now c.args.levels.now) c.in-Err.error c.in-Err.ensures.stops
