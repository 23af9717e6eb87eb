use Rattle.std.proofs.Common.{◌++◌, map, sym, ◌∙◌, subst}
use Rattle.vega_copies.specs.inner.Made.{levels_behind, HaveCopies}
use Rattle.vega_copies.specs.inner.Outlined.{marks_of}
use Rattle.plain_engine.specs.inner.Rows.{entries_of, seen}
use Rattle.plain_engine.proofs.RowLemmas.{few_on_top, tells_rows}
use Rattle.plain_engine.proofs.rows.rows_of_made.Goals as goal

pub push_inside-requires-clause-marks : goal.push_inside-requires-clause-marks
push_inside-requires-clause-marks c =
    let names = c.args.names.now in
    subst (λ marks. HaveCopies names.stores.now names.sources.now names.levels.now marks c.args.made.now) (sym c.marks_in.ensures) c.requires.marks

pub push_inside-requires-clause-few : goal.push_inside-requires-clause-few
push_inside-requires-clause-few c = few_on_top c.args.g.now c.marks_in.result.now c.requires.kept c.marks_in.ensures

pub returns : goal.returns
returns c =
    let names = c.args.names.now in
    tells_rows names c.args.g.now c.args.made.now c.push_inside.new.out c.requires.marks
    (c.in_ok-push_inside.ensures
    ∙ (λ i. map seen (c.new-out.ensures i)
    ++ entries_of names.sources.now 0 (marks_of (c.marks_in.ensures i)) (levels_behind names.levels.now) c.args.made.now))
