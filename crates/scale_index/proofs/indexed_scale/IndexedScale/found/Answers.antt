use Rattle.std.proofs.Common.{◌∙◌}
use Rattle.scale_index.proofs.KnownLemmas.{found_in}
use Rattle.scale_index.proofs.indexed_scale.IndexedScale.found.Goals as goal

pub returns : goal.returns
returns c =
    c.get.ensures.value
    ∙ found_in c.self.inside.scale c.args.self.now c.self.inside.known c.args.v.now c.self.invariant.1 c.self.view_is
