use Rattle.std.proofs.Common.{◌+◌, ◌∷◌, ◌∙◌, ap, sym, subst, drop, arith}
use Rattle.std.proofs.lemmas.List.{drop_more, drop_all}
use Rattle.plain_windows.specs.inner.Levels.{Gives, outermost}
use Rattle.plain_windows.specs.inner.Views.{part}
use Rattle.plain_windows.proofs.LevelLemmas.{gives_first, one_level, found_all}
use Rattle.plain_windows.proofs.levels.outermost_in.Goals as goal

pub loop-level-init : goal.loop-level-init
loop-level-init c = λ numbers are short.
    gives_first c.args.greatest c.args.levels.now numbers c.args.frame.from c.args.frame.to are short

pub loop-level-preserved : goal.loop-level-preserved
loop-level-preserved c = λ numbers are short.
    let levels = c.args.levels.now in
    let at = c.loop-level.level-index in
    let rest = drop (at + 1) levels in
    one_level c.args.greatest (drop at levels) rest c.as_slice-level.result.now c.loop-level.from c.loop-level.to c.behind_first-from.result
    c.before_last-to.result c.loop-level.found c.with_first-found.result c.with_last-found.result
    (outermost c.args.greatest (part c.args.frame numbers))
    (drop_more levels at c.level-item.result c.loop-level-test.true
    ∙ ap (λ l. l ∷ rest) (sym c.level-item.is ∙ sym c.as_slice-level.ensures))
    c.with_first-found.ensures c.behind_first-from.ensures c.with_last-found.ensures c.before_last-to.ensures (c.loop-level.invariant numbers are short)

pub returns : goal.returns
returns c = λ numbers are short.
    let levels = c.args.levels.now in
    let number = outermost c.args.greatest (part c.args.frame numbers) in
    found_all c.args.greatest c.loop-level.from c.loop-level.to c.loop-level.found number
    (subst (λ ls. Gives c.args.greatest ls c.loop-level.from c.loop-level.to c.loop-level.found number)
    (drop_all c.loop-level.level-index levels (omega (arith, c.loop-level-test.false)))
    (c.loop-level.invariant numbers are short))
