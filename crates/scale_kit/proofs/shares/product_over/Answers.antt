use Rattle.std.proofs.Common.{sym, subst, ◌≤◌}
use Rattle.fixed_num.proofs.ProductLemmas.{quotient_by_parts}
use Rattle.scale_kit.proofs.ShareLemmas.{quotient_within}
use Rattle.scale_kit.proofs.shares.product_over.Goals as goal

pub returns-clause-quotient : goal.returns-clause-quotient
returns-clause-quotient c = sym (quotient_by_parts c.args.part c.args.size c.args.whole 268435456 c.requires.some)

pub returns-clause-within : goal.returns-clause-within
returns-clause-within c =
    subst (λ n. n ≤ c.args.size) (quotient_by_parts c.args.part c.args.size c.args.whole 268435456 c.requires.some)
    (quotient_within c.args.part c.args.size c.args.whole c.requires.some c.requires.part)
