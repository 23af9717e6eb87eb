use Rattle.view_layout.proofs.GridLemmas.{row-next}
use Rattle.view_layout.proofs.spans.rows_of.Goals as goal

pub loop-rest-preserved : goal.loop-rest-preserved
loop-rest-preserved c =
    rw (c.in_ok-push.ensures.ok, c.greatest.ensures, c.front.ensures, c.behind-rest.ensures)
    (row-next c.args.n c.loop-rest.out c.loop-rest.rest.now _ c.requires c.in-len1-up.len_at_least c.loop-rest.invariant)
