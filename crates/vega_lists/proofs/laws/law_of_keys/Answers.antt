use Rattle.vega_lists.proofs.ListLemmas.{keys_of_sets}
use Rattle.vega_lists.proofs.laws.law_of_keys.Goals as goal

pub returns : goal.returns
returns c = keys_of_sets
