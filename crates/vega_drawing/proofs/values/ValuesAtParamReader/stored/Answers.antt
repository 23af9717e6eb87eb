use Rattle.std.proofs.Common.{◌∙◌}
use Rattle.vega_drawing.proofs.ValueLemmas.{stored_at}
use Rattle.vega_drawing.proofs.values.ValuesAtParamReader.stored.Goals as goal

pub returns : goal.returns
returns c = c.stored.ensures ∙ stored_at c.args.self.now.stores.now c.args.self.now.levels.now c.args.store.now
