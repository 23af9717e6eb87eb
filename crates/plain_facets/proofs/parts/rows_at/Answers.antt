use Rattle.plain_facets.proofs.PartLemmas.{rows_more, rows_all}
use Rattle.plain_facets.proofs.parts.rows_at.Goals as goal

pub loop-place-preserved : goal.loop-place-preserved
loop-place-preserved c =
    rows_more c.args.rows.now c.args.places.now c.loop-place.place-index _ c.loop-place.found _ _ c.loop-place-test.true
    c.in_ok-push_at.ensures c.loop-place.invariant

pub returns : goal.returns
returns c = rows_all c.args.rows.now c.args.places.now c.loop-place.place-index c.loop-place.found _ c.loop-place-test.false c.loop-place.invariant
