use Rattle.cell_value.specs.State.{state_of}
use Rattle.vega_meaning.specs.Charts.{vega_chart_of}
use Rattle.plain_engine.specs.Engine.{meaning_of}
use Rattle.chart_run.proofs.Meets.{engine_opened, engine_overflows, engine_panels, engine_stopped}
use Rattle.chart_run.proofs.opened.engine_of.Goals as goal

pub returns-in-Ok-clause-told : goal.returns-in-Ok-clause-told
returns-in-Ok-clause-told c =
    engine_opened c.args.opened (vega_chart_of c.args.opened.spec (state_of c.args.opened.state)) (meaning_of c.in-Ok.engine) c.in-Ok.ensures

pub returns-in-Err-Overflow-clause-told : goal.returns-in-Err-Overflow-clause-told
returns-in-Err-Overflow-clause-told c =
    engine_overflows c.args.opened (vega_chart_of c.args.opened.spec (state_of c.args.opened.state))
    (engine_stopped c.args.opened (vega_chart_of c.args.opened.spec (state_of c.args.opened.state)) c.in-Err-Overflow.field-0 _
    c.in-Err-Overflow.field-0-is c.in-Err-Overflow.ensures)

pub returns-in-Err-Panels-clause-told : goal.returns-in-Err-Panels-clause-told
returns-in-Err-Panels-clause-told c =
    engine_panels c.args.opened (vega_chart_of c.args.opened.spec (state_of c.args.opened.state)) c.in-Err-Panels.count
    (engine_stopped c.args.opened (vega_chart_of c.args.opened.spec (state_of c.args.opened.state)) c.in-Err-Panels.field-0 _
    c.in-Err-Panels.field-0-is c.in-Err-Panels.ensures)
