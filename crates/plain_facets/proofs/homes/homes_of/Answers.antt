use Rattle.std.proofs.Common.{◌∙◌, ap, unwrap_or, length}
use Rattle.plain_facets.specs.Facets.{home_among}
use Rattle.plain_facets.proofs.ListLemmas.{mapped_more, mapped_all}
use Rattle.plain_facets.proofs.homes.homes_of.Goals as goal

pub loop-key-preserved : goal.loop-key-preserved
loop-key-preserved c =
    mapped_more (home_among c.args.copies.now) c.args.keys.now c.loop-key.key-index c.key-item.result c.home_of.result c.loop-key.homes _ _
    c.loop-key-test.true c.key-item.is
    (c.home_of.ensures ∙ ap (λ o. unwrap_or o (length c.args.copies.now)) (c.in_ok-places.ensures c.in_ok-own.own)
    ∙ ap (home_among c.args.copies.now) c.in_ok-own.ensures)
    c.in_ok-push.ensures.ok c.loop-key.invariant

pub returns : goal.returns
returns c = mapped_all (home_among c.args.copies.now) c.args.keys.now c.loop-key.key-index c.loop-key.homes _ c.loop-key-test.false c.loop-key.invariant
