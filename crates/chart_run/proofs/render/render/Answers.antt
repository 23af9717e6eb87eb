use Rattle.std.proofs.Common.{None, Err, refl, ap}
use Rattle.chart_io.specs.Outside.{Rose, Kept}
use Rattle.plain_engine.specs.Engine.{meaning_of}
use Rattle.chart_run.specs.Words.{Render}
use Rattle.chart_run.proofs.Texts.{unopened_picture, opened_picture, render_accepted}
use Rattle.chart_run.proofs.Meets.{draw_refused}
use Rattle.chart_run.proofs.Stopped.{opened_end, written_end, nothing_refused, kept_same}
use Rattle.chart_run.proofs.render.render.Goals as goal

pub returns-in-Err-clause-text : goal.returns-in-Err-clause-text
returns-in-Err-clause-text g c =
    unopened_picture c.args.name.now c.in-Err.stop (g.F.Folder.files c.args.folder.now) (g.K.Sink.held c.args.out.now)

pub returns-clause-text : goal.returns-clause-text
returns-clause-text g c =
    opened_picture (g.F.Folder.files c.args.folder.now) c.args.name.now (meaning_of c.in-Ok.engine) c.printed.result
    (g.K.Sink.held c.args.out.now) (g.K.Sink.held c.printed.new.out)
    c.in-Ok.ensures.told c.printed.ensures.ok c.printed.ensures.prefix

pub returns-in-Err-clause-ends : goal.returns-in-Err-clause-ends
returns-in-Err-clause-ends g c =
    opened_end (Render c.args.name.now) (g.F.Folder.files c.args.folder.now) None None (Unit {0})
    (Kept (g.K.Sink.held c.args.out.now) (g.K.Sink.held c.args.out.now))
    (Rose (g.F.Folder.faults c.args.folder.now) (g.F.Folder.faults c.drawn_file.new.folder)) (Unit {0})
    (Rose (g.K.Sink.faults c.args.out.now) (g.K.Sink.faults c.args.out.now)) c.in-Err.stop c.in-Err.ensures.stop
    (λ why is. draw_refused c.args.name.now (g.F.Folder.files c.args.folder.now) c.in-Err.stop why is c.in-Err.ensures.told)
    (kept_same (g.K.Sink.held c.args.out.now)) (tt {0}) (λ is. c.in-Err.ensures.read (ap Err is))

pub returns-clause-ends : goal.returns-clause-ends
returns-clause-ends g c =
    written_end (Render c.args.name.now) (g.F.Folder.files c.args.folder.now) (Unit {0})
    (Kept (g.K.Sink.held c.args.out.now) (g.K.Sink.held c.printed.new.out))
    (Rose (g.F.Folder.faults c.args.folder.now) (g.F.Folder.faults c.drawn_file.new.folder)) (Unit {0})
    (Rose (g.K.Sink.faults c.args.out.now) (g.K.Sink.faults c.printed.new.out)) None None c.printed.result refl
    (render_accepted (g.F.Folder.files c.args.folder.now) c.args.name.now (meaning_of c.in-Ok.engine) c.in-Ok.ensures.told)
    c.printed.ensures.stop c.printed.ensures.write

pub returns-clause-nothing : goal.returns-clause-nothing
returns-clause-nothing g c =
    nothing_refused (g.F.Folder.files c.args.folder.now) (Render c.args.name.now) _
    (render_accepted (g.F.Folder.files c.args.folder.now) c.args.name.now (meaning_of c.in-Ok.engine) c.in-Ok.ensures.told)
