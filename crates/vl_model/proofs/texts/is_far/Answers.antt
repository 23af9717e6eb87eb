use Rattle.std.proofs.Common.{sym, ◌∙◌}
use Rattle.vl_model.proofs.FarAddresses.{far_nowhere}
use Rattle.vl_model.proofs.texts.is_far.Goals as goal

pub returns : goal.returns
returns c = sym (far_nowhere c.loop-rest.rest.now (sym c.is_empty.ensures ∙ c.loop-rest-test.false)) ∙ c.loop-rest.invariant
