use Rattle.std.proofs.Common.{ap}
use Rattle.scale_index.specs.declared.known.Known.{Known}
use Rattle.scale_index.proofs.KnownLemmas.{found_is}
use Rattle.scale_index.proofs.indexed_scale.IndexedScale.place.Goals as goal

pub returns-in-Some : goal.returns-in-Some
returns-in-Some c = ap (λ (known : Known). known.place) (found_is _ _ _ c.in-Some.ensures)
