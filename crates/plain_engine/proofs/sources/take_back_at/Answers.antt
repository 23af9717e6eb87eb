use Rattle.std.proofs.Common.{ap, ◌∙◌}
use Rattle.plain_engine.specs.inner.Undo.{taken_back}
use Rattle.plain_engine.specs.inner.Sources.{with_rows}
use Rattle.plain_engine.proofs.Places.{found_rows, put_rows}
use Rattle.plain_engine.proofs.sources.take_back_at.Goals as goal

pub returns : goal.returns
returns c =
    let sources = c.args.sources.now in
    let d = c.index-sources-index.result in
    put_rows sources c.args.index d c.take_back.new.rows c.requires
    ∙ ap (with_rows sources c.args.index)
    (c.take_back.ensures ∙ ap (taken_back c.args.undo) (found_rows sources c.args.index d c.requires))
