use Rattle.std.proofs.Common.{◌∙◌}
use Rattle.scale_kit.proofs.IndexLemmas.{indexed_place, index_below}
use Rattle.scale_kit.proofs.indexed.Indexed.domain_index.Goals as goal

pub returns-clause-value : goal.returns-clause-value
returns-clause-value c =
    c.place_under.ensures
    ∙ indexed_place c.self.inside.scale.now c.args.self.now c.self.inside.places c.args.v.now c.self.invariant.1 c.self.view_is

pub returns-clause-there : goal.returns-clause-there
returns-clause-there c =
    index_below c.args.self.now c.args.v.now c.place_under.result (c.place_under.ensures
    ∙ indexed_place c.self.inside.scale.now c.args.self.now c.self.inside.places c.args.v.now c.self.invariant.1 c.self.view_is)
