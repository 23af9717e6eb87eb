use Rattle.std.proofs.Common.{ap}
use Rattle.cell_value.specs.declared.state.Named.{Named}
use Rattle.plain_engine.proofs.Places.{found_rows}
use Rattle.plain_engine.proofs.sources.rows_at.Goals as goal

pub returns : goal.returns
returns c =
    let place = found_rows c.args.sources.now c.args.index c.index-sources-index.result c.requires in
    let is = ap (λ (source : Named). source.rows) c.index-sources-index.is in
    cc (place, is, c.as_slice.ensures)
