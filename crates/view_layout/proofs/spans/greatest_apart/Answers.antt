use Rattle.view_layout.proofs.GridLemmas.{apart-next}
use Rattle.view_layout.proofs.spans.greatest_apart.Goals as goal

pub loop-rest-preserved : goal.loop-rest-preserved
loop-rest-preserved c =
    rw (c.larger-found.ensures, c.behind-rest.ensures)
    (apart-next c.args.n c.loop-rest.found c.loop-rest.rest.now _ _ c.requires c.in-len1-up.len_at_least c.loop-rest.invariant)
