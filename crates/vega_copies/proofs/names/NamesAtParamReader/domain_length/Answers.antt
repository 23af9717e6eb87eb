use Rattle.vega_copies.proofs.NameLemmas.{no_length}
use Rattle.vega_copies.proofs.names.NamesAtParamReader.domain_length.Goals as goal

pub returns : goal.returns
returns c = no_length c.args.self.now.stores.now c.args.self.now.levels.now c.args.arg2.now
