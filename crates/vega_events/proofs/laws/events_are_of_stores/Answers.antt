use Rattle.vega_events.proofs.NameLemmas.{events_are_of_stores}
use Rattle.vega_events.proofs.laws.events_are_of_stores.Goals as goal

pub returns : goal.returns
returns c = events_are_of_stores
