use Rattle.vega_scales.proofs.KnownLemmas.{numbers_give_the_domain, cells_give_the_domain, ranks_give_the_domain}
use Rattle.vega_scales.proofs.laws.laws_of_known_domains.Goals as goal

pub returns : goal.returns
returns c = record { numbers = numbers_give_the_domain; cells = cells_give_the_domain; ranks = ranks_give_the_domain }
