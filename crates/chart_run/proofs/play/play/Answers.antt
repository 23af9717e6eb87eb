use Rattle.std.proofs.Common.{Err, refl, ap}
use Rattle.plain_engine.specs.Engine.{meaning_of}
use Rattle.chart_run.specs.Words.{Play}
use Rattle.chart_run.proofs.Texts.{unopened_output, opened_output, play_accepted, read_whole}
use Rattle.chart_run.proofs.Replied.{unopened_replied, opened_replied}
use Rattle.chart_run.proofs.Meets.{draw_refused}
use Rattle.chart_run.proofs.Stopped.{opened_end, played_end, handed_size, nothing_refused, kept_same}
use Rattle.chart_run.proofs.play.play.Goals as goal

pub returns-in-Err-clause-text : goal.returns-in-Err-clause-text
returns-in-Err-clause-text g c =
    unopened_output c.args.name.now c.in-Err.stop (g.F.Folder.files c.args.folder.now) (g.S.Source.left c.args.script.now)
    (g.K.Sink.held c.args.out.now)

pub returns-clause-text : goal.returns-clause-text
returns-clause-text g c =
    rw c.handed.ensures (opened_output (g.F.Folder.files c.args.folder.now) c.args.name.now (g.S.Source.left c.args.script.now)
    (g.S.Source.left c.play_over.new.script)
    c.play_over.ensures.played.0 (g.K.Sink.held c.args.out.now) (g.K.Sink.held c.play_over.new.out) (meaning_of c.in-Ok.engine)
    (meaning_of c.play_over.new.engine)
    c.play_over.result c.in-Ok.ensures.told c.play_over.ensures.played.1 c.play_over.ensures.played.2)

pub returns-in-Err-clause-replied : goal.returns-in-Err-clause-replied
returns-in-Err-clause-replied g c =
    unopened_replied (g.F.Folder.files c.args.folder.now) c.args.name.now c.in-Err.stop (g.S.Source.left c.args.script.now)
    (g.K.Sink.held c.args.out.now)

pub returns-clause-replied : goal.returns-clause-replied
returns-clause-replied g c =
    rw c.handed.ensures (opened_replied (g.F.Folder.files c.args.folder.now) c.args.name.now (g.S.Source.left c.args.script.now)
    (g.S.Source.left c.play_over.new.script)
    c.play_over.ensures.played.0 (g.K.Sink.held c.args.out.now) (g.K.Sink.held c.play_over.new.out) (meaning_of c.in-Ok.engine)
    (meaning_of c.play_over.new.engine)
    c.play_over.result c.in-Ok.ensures.told c.play_over.ensures.played.1 c.play_over.ensures.played.2)

pub returns-clause-ends : goal.returns-clause-ends
returns-clause-ends g c =
    rw c.handed.ensures (played_end c.args.name.now (g.F.Folder.files c.args.folder.now) _ _ _ _ _ (g.S.Source.left c.args.script.now)
    (g.S.Source.left c.play_over.new.script)
    c.play_over.result (play_accepted (g.F.Folder.files c.args.folder.now) c.args.name.now (meaning_of c.in-Ok.engine)
    c.in-Ok.ensures.told)
    c.play_over.ensures.read c.play_over.ensures.write c.play_over.ensures.size
    (λ done is. read_whole (g.S.Source.left c.args.script.now) (g.S.Source.left c.play_over.new.script) c.play_over.ensures.played.0
    (g.K.Sink.held c.args.out.now)
    (g.K.Sink.held c.play_over.new.out) (meaning_of c.in-Ok.engine) (meaning_of c.play_over.new.engine) c.play_over.result done is
    c.play_over.ensures.played.1 c.play_over.ensures.played.2))

pub returns-in-Err-clause-ends : goal.returns-in-Err-clause-ends
returns-in-Err-clause-ends g c =
    opened_end (Play c.args.name.now) (g.F.Folder.files c.args.folder.now) _ _ _ _ _ _ _ c.in-Err.stop c.in-Err.ensures.stop
    (λ why is. draw_refused c.args.name.now (g.F.Folder.files c.args.folder.now) c.in-Err.stop why is c.in-Err.ensures.told)
    (kept_same (g.K.Sink.held c.args.out.now)) refl (λ is. c.in-Err.ensures.read (ap Err is))

pub returns-clause-script_size : goal.returns-clause-script_size
returns-clause-script_size g c =
    rw c.handed.ensures (handed_size (g.S.Source.left c.args.script.now) (g.S.Source.left c.play_over.new.script) c.play_over.result
    c.play_over.ensures.size)

pub returns-clause-nothing : goal.returns-clause-nothing
returns-clause-nothing g c =
    nothing_refused (g.F.Folder.files c.args.folder.now) (Play c.args.name.now) _
    (play_accepted (g.F.Folder.files c.args.folder.now) c.args.name.now (meaning_of c.in-Ok.engine) c.in-Ok.ensures.told)
