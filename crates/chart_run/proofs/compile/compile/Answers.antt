use Rattle.std.proofs.Common.{None, Err, refl, sym, ap, subst, ◌∙◌}
use Rattle.chart_io.specs.Outside.{Rose, Kept}
use Rattle.chart_run.specs.Words.{Compile}
use Rattle.chart_run.specs.inner.Stops.{IsOpenStop}
use Rattle.chart_run.proofs.Meets.{compiled_told, compile_refused}
use Rattle.chart_run.proofs.Texts.{unopened_text, compiled_text, compile_accepted}
use Rattle.chart_run.proofs.Stopped.{opened_end, written_end, nothing_refused, kept_same, open_stop, read_stop, print_stop}
use Rattle.chart_run.proofs.compile.compile.Goals as goal

pub returns-in-Err-clause-text : goal.returns-in-Err-clause-text
returns-in-Err-clause-text g c =
    unopened_text c.args.name.now c.stop_at.result (g.F.Folder.files c.args.folder.now) (g.K.Sink.held c.args.out.now)

pub returns-clause-text : goal.returns-clause-text
returns-clause-text g c =
    compiled_text (g.F.Folder.files c.args.folder.now) c.args.name.now c.in-Ok.opened c.written.result (g.K.Sink.held c.args.out.now)
    (g.K.Sink.held c.written.new.out)
    (compiled_told c.args.name.now (g.F.Folder.files c.args.folder.now) c.in-Ok.opened c.in-Ok.ensures.told) c.written.ensures.ok
    c.written.ensures.prefix

pub returns-in-Err-clause-ends : goal.returns-in-Err-clause-ends
returns-in-Err-clause-ends g c =
    opened_end (Compile c.args.name.now) (g.F.Folder.files c.args.folder.now) None None (Unit {0})
    (Kept (g.K.Sink.held c.args.out.now) (g.K.Sink.held c.args.out.now))
    (Rose (g.F.Folder.faults c.args.folder.now) (g.F.Folder.faults c.compiled_file.new.folder)) (Unit {0})
    (Rose (g.K.Sink.faults c.args.out.now) (g.K.Sink.faults c.args.out.now)) c.stop_at.result
    (subst IsOpenStop (sym c.stop_at.ensures) (open_stop c.in-Err.cause))
    (λ why is. compile_refused c.args.name.now (g.F.Folder.files c.args.folder.now) c.in-Err.cause why (sym c.stop_at.ensures ∙ is)
    c.in-Err.ensures.told)
    (kept_same (g.K.Sink.held c.args.out.now)) (tt {0}) (λ is. c.in-Err.ensures.read (ap Err (read_stop c.in-Err.cause (sym c.stop_at.ensures ∙ is))))

pub returns-clause-stop : goal.returns-clause-stop
returns-clause-stop g c = print_stop c.written.result c.written.ensures.stop

pub returns-clause-ends : goal.returns-clause-ends
returns-clause-ends g c =
    written_end (Compile c.args.name.now) (g.F.Folder.files c.args.folder.now) (Unit {0})
    (Kept (g.K.Sink.held c.args.out.now) (g.K.Sink.held c.written.new.out))
    (Rose (g.F.Folder.faults c.args.folder.now) (g.F.Folder.faults c.compiled_file.new.folder)) (Unit {0})
    (Rose (g.K.Sink.faults c.args.out.now) (g.K.Sink.faults c.written.new.out)) None None c.written.result refl
    (compile_accepted (g.F.Folder.files c.args.folder.now) c.args.name.now c.in-Ok.opened
    (compiled_told c.args.name.now (g.F.Folder.files c.args.folder.now) c.in-Ok.opened c.in-Ok.ensures.told))
    c.written.ensures.stop c.written.ensures.write

pub returns-clause-nothing : goal.returns-clause-nothing
returns-clause-nothing g c =
    nothing_refused (g.F.Folder.files c.args.folder.now) (Compile c.args.name.now) _
    (compile_accepted (g.F.Folder.files c.args.folder.now) c.args.name.now c.in-Ok.opened
    (compiled_told c.args.name.now (g.F.Folder.files c.args.folder.now) c.in-Ok.opened c.in-Ok.ensures.told))
