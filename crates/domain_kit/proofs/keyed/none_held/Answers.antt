use Rattle.domain_kit.proofs.HeldLemmas.{none_held}
use Rattle.domain_kit.proofs.keyed.none_held.Goals as goal

pub returns : goal.returns
returns c = λ key. none_held c.new.result key c.new.ensures.empty
