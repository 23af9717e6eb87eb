use Rattle.selection_events.proofs.KeptLemmas.{clicks_keep_stores, toggles_keep_stores, clears_keep_stores, drags_keep_stores}
use Rattle.selection_events.proofs.laws.stores_are_kept.Goals as goal

pub returns : goal.returns
returns c = record { clicks = clicks_keep_stores; toggles = toggles_keep_stores; clears = clears_keep_stores; drags = drags_keep_stores }
