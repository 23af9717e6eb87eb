use Rattle.plain_stacks.proofs.LawLemmas.{own_greatest, only_centres}
use Rattle.plain_stacks.proofs.laws.laws_of_stacks.Goals as goal

pub returns : goal.returns
returns c = record { own = own_greatest; centres = only_centres }
