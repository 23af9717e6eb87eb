use Rattle.std.proofs.Common.{◌∙◌, ap}
use Rattle.plain_facets.specs.Facets.{by_firsts, pairs_in}
use Rattle.plain_groups.specs.Groups.{firsts}
use Rattle.plain_facets.specs.inner.Besides.{alike_pairs}
use Rattle.plain_facets.specs.Rows.{data_of}
use Rattle.plain_facets.proofs.RepeatLemmas.{first_pairs_serve}
use Rattle.plain_facets.proofs.fields.by_another.Goals as goal

pub returns : goal.returns
returns c =
    c.in_ok-by_firsts.ensures ∙ ap (by_firsts c.args.by.now.descending) (c.as_slice.ensures ∙ c.in_ok-pairs.ensures)
    ∙ ap (λ other. by_firsts c.args.by.now.descending (firsts alike_pairs (pairs_in c.args.field.now other (data_of c.args.rows.now)))) c.as_str.ensures
    ∙ first_pairs_serve c.args.by.now.descending (pairs_in c.args.field.now c.args.by.now.field (data_of c.args.rows.now))
