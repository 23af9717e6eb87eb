use Rattle.std.proofs.Common.{◌∙◌}
use Rattle.vega_copies.proofs.NameLemmas.{stored_at}
use Rattle.vega_copies.proofs.names.NamesAtParamReader.stored.Goals as goal

pub returns : goal.returns
returns c = c.stored.ensures ∙ stored_at c.args.self.now.stores.now c.args.self.now.levels.now c.args.store.now
