use Rattle.std.proofs.Common.{rules}
use Rattle.scale_index.proofs.UnlistedLemmas.{no_place}
use Rattle.scale_index.proofs.unlisted.unlisted_place.Goals as goal

pub returns-else-is_empty : goal.returns-else-is_empty
returns-else-is_empty c = no_place c.args.s.now c.args.v.now c.requires.unlisted (λ none. search rules)
