use Rattle.std.proofs.Common.{rules}
use Rattle.vega_lists.proofs.ListLemmas.{adds_place, adds_made}
use Rattle.vega_lists.proofs.lists.with_transformed.Goals as goal

pub returns-then-is_empty : goal.returns-then-is_empty
returns-then-is_empty g c =
    adds_place c.args.sources.now c.args.lists c.in_ok-with_place.field-0 c.args.name.now c.requires.placed (g.P.ParamReader.values c.args.params.now)
    c.args.transforms.now c.args.place (search rules) c.requires.rows c.requires.there c.in_ok-with_place.ensures.made c.in_ok-with_place.ensures.places

pub returns-in_ok-with_rows-in-Ok : goal.returns-in_ok-with_rows-in-Ok
returns-in_ok-with_rows-in-Ok g c =
    adds_made c.args.sources.now c.args.lists c.in_ok-with_rows-in-Ok.field-0 c.args.name.now c.requires.placed _ c.in-Ok.rows
    c.in-Ok.ensures.read c.in-Ok.ensures.rows c.in_ok-with_rows-in-Ok.ensures.made c.in_ok-with_rows-in-Ok.ensures.places
