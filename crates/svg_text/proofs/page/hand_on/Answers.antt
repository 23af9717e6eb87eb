use Rattle.chart_io.specs.Outside.{Appended, AppendedPrefix}
use Rattle.svg_text.proofs.Steps.{hands_front, hands_all}
use Rattle.svg_text.proofs.page.hand_on.Goals as goal

pub returns-in_err-write_all-clause-prints : goal.returns-in_err-write_all-clause-prints
returns-in_err-write_all-clause-prints g c =
    let e = c.in_err-write_all.ensures in
    let prefix : AppendedPrefix (g.K.Sink.held c.args.out.now) (g.K.Sink.held c.write_all.new.out) c.args.page.now =
    rw c.waiting.ensures at e.prefix in
    hands_front c.args.out.now c.write_all.new.out c.args.page.now _ c.from_residual.ensures.0 e.counted e.cause prefix

pub returns-clause-prints : goal.returns-clause-prints
returns-clause-prints g c =
    let e = c.in_ok-write_all.ensures in
    let prefix : AppendedPrefix (g.K.Sink.held c.args.out.now) (g.K.Sink.held c.write_all.new.out) c.args.page.now =
    rw c.waiting.ensures at e.prefix in
    let ok : Appended (g.K.Sink.held c.args.out.now) (g.K.Sink.held c.write_all.new.out) c.args.page.now = rw c.waiting.ensures at e.ok in
    rw c.clear.ensures (hands_all c.args.out.now c.write_all.new.out c.args.page.now _ e.counted ok prefix)
