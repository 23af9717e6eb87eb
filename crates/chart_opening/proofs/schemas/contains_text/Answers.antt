use Rattle.std.proofs.Common.{sym, ◌∙◌}
use Rattle.chart_opening.proofs.SchemaLemmas.{one_on}
use Rattle.chart_opening.proofs.schemas.contains_text.Goals as goal

pub loop-i-preserved : goal.loop-i-preserved
loop-i-preserved c =
    sym (one_on c.args.part.now c.args.text.now c.loop-i.i c.loop-i-test.true (sym c.starts_with.ensures.value ∙ c.if-starts_with.false))
    ∙ c.loop-i.invariant
