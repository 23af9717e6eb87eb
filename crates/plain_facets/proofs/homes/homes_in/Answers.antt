use Rattle.std.proofs.Common.{◌∙◌, ap, unwrap_or, length}
use Rattle.plain_facets.specs.Facets.{home_among}
use Rattle.plain_facets.specs.inner.Places.{home_shown}
use Rattle.plain_facets.proofs.ListLemmas.{id_there, mapped_more, mapped_all}
use Rattle.plain_facets.proofs.homes.homes_in.Goals as goal

pub fill_key-requires : goal.fill_key-requires
fill_key-requires c = id_there c.args.rows.now c.loop-row.row-index c.row-item.result c.requires c.loop-row-test.true c.row-item.is

pub loop-row-preserved : goal.loop-row-preserved
loop-row-preserved c =
    mapped_more (home_shown c.args.copies.now c.args.fields.now) c.args.rows.now c.loop-row.row-index c.row-item.result c.home_of.result c.loop-row.homes _ _
    c.loop-row-test.true c.row-item.is
    (c.home_of.ensures ∙ ap (λ o. unwrap_or o (length c.args.copies.now)) (c.in_ok-places.ensures c.fill_key.new.key)
    ∙ ap (home_among c.args.copies.now) c.in_ok-fill_key.ensures)
    c.in_ok-push.ensures.ok c.loop-row.invariant

pub returns : goal.returns
returns c =
    mapped_all (home_shown c.args.copies.now c.args.fields.now) c.args.rows.now c.loop-row.row-index c.loop-row.homes _ c.loop-row-test.false
    c.loop-row.invariant
