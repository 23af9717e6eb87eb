use Rattle.cell_value.specs.declared.state.Key.{Key}
use Rattle.std.proofs.Common.{◌<◌, ◌^◌}
use Rattle.plain_rows.proofs.FoldLemmas.{part}
use Rattle.plain_rows.proofs.Keys.{small_id}
use Rattle.plain_rows.proofs.folds.folded_rows.Goals as goal

pub push_folded-requires-clause-id : goal.push_folded-requires-clause-id
push_folded-requires-clause-id c = small_id c.args.rows.now c.loop-row.row-index _ c.requires.rows c.loop-row-test.true c.row-item.is

pub push_folded-requires-clause-branches : goal.push_folded-requires-clause-branches
push_folded-requires-clause-branches c =
    part c.args.f.now (λ (key : Key). key.branch < 2 ^ 32) c.args.rows.now c.loop-row.row-index _ c.loop-row-test.true c.row-item.is c.requires.branches
