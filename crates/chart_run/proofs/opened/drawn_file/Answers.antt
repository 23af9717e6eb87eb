use Rattle.chart_run.proofs.Meets.{drawn_told, stopped_told}
use Rattle.chart_run.proofs.opened.drawn_file.Goals as goal

pub returns-in-Ok-clause-told : goal.returns-in-Ok-clause-told
returns-in-Ok-clause-told g c =
    drawn_told c.args.name.now (g.F.Folder.files c.args.folder.now) c.in-Ok.opened c.engine_of.result c.in-Ok.ensures.told c.engine_of.ensures.told

pub returns-in-Err-clause-told : goal.returns-in-Err-clause-told
returns-in-Err-clause-told g c =
    rw c.stop_at.ensures (stopped_told c.args.name.now (g.F.Folder.files c.args.folder.now) c.in-Err.cause c.in-Err.ensures.told)
