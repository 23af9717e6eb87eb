use Rattle.cell_value.specs.Datum.{cell_at}
use Rattle.plain_rows.proofs.LookupLemmas.{none_yet, one_place, empty_places}
use Rattle.plain_rows.proofs.Keys.{small_id}
use Rattle.plain_rows.proofs.lookups.places_of.Goals as goal

pub cell_of-requires : goal.cell_of-requires
cell_of-requires c = small_id c.args.rows.now c.loop-at.at _ c.requires c.loop-at-test.true c.index-rows-at.is

pub loop-at-init : goal.loop-at-init
loop-at-init c k = none_yet (λ row. cell_at row c.args.key.now) k c.args.rows.now _
    (empty_places c.new-places.result c.args.rows.now k c.new-places.ensures.empty)

pub loop-at-preserved : goal.loop-at-preserved
loop-at-preserved c k =
    one_place (λ row. cell_at row c.args.key.now) c.args.rows.now c.loop-at.at
    c.index-rows-at.result c.loop-at.places c.insert.new.self c.in_ok-cell_of.field-0 k
    c.loop-at-test.true c.index-rows-at.is c.in_ok-cell_of.ensures c.in_ok-insert.ensures.updates (c.loop-at.invariant k)
