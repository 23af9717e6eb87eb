use Rattle.std.proofs.Common.{ap, ◌∙◌}
use Rattle.vega_lists.proofs.OuterLemmas.{copy_takes, copy_holds}
use Rattle.vega_lists.proofs.outer.with_copy.Goals as goal

pub returns-clause-takes : goal.returns-clause-takes
returns-clause-takes g c =
    copy_takes (g.O.ListReader.named c.args.outer.now) c.args.lists c.args.name.now c.in_ok-rows.rows
    (c.in_ok-rows.ensures ∙ ap (g.O.ListReader.named c.args.outer.now) c.as_str.ensures)
    c.with_rows.result c.with_rows.ensures.made c.with_rows.ensures.places c.requires.not_held c.requires.placed

pub returns-clause-held : goal.returns-clause-held
returns-clause-held g c =
    copy_holds (g.O.ListReader.named c.args.outer.now) c.args.lists c.args.name.now c.in_ok-rows.rows
    (c.in_ok-rows.ensures ∙ ap (g.O.ListReader.named c.args.outer.now) c.as_str.ensures)
    c.with_rows.result c.with_rows.ensures.made c.with_rows.ensures.places
