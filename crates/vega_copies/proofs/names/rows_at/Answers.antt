use Rattle.std.proofs.Common.{◌+◌, drop, sym, ap, ◌∙◌}
use Rattle.std.specs.Prelude.{unwrap_or}
use Rattle.vega_copies.specs.inner.Levels.{rows_at}
use Rattle.vega_copies.proofs.NameLemmas.{here_or_more}
use Rattle.vega_copies.proofs.names.rows_at.Goals as goal

pub returns-in-Some : goal.returns-in-Some
returns-in-Some c =
    ap (λ found. unwrap_or found (rows_at c.args.sources.now (drop (c.loop-level.level-index + 1) c.args.levels.now) c.args.name.now)) c.in-Some.ensures
    ∙ sym (here_or_more c.args.sources.now c.args.levels.now c.loop-level.level-index
    c.level-item.result c.args.name.now c.loop-level-test.true c.level-item.is)
    ∙ c.loop-level.invariant

pub loop-level-preserved : goal.loop-level-preserved
loop-level-preserved c =
    ap (λ found. unwrap_or found (rows_at c.args.sources.now (drop (c.loop-level.level-index + 1) c.args.levels.now) c.args.name.now)) c.in-None.ensures
    ∙ sym (here_or_more c.args.sources.now c.args.levels.now c.loop-level.level-index
    c.level-item.result c.args.name.now c.loop-level-test.true c.level-item.is)
    ∙ c.loop-level.invariant
