use Rattle.compiled_rows.proofs.ScaleNameLemmas.{plan_scales_are_named}
use Rattle.compiled_rows.proofs.name_laws.plan_scales_are_named.Goals as goal

pub returns : goal.returns
returns c = plan_scales_are_named
