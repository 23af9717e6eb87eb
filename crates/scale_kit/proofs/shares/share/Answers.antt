use Rattle.std.proofs.Common.{arith, ◌≡◌, ◌*ℤ◌, ◌<◌, pos, sym, subst, ◌∙◌, ap, unsigned_abs}
use Rattle.std.proofs.lemmas.Int.{ints, to_z-of_z}
use Rattle.std.specs.Int.{w128}
use Rattle.std.specs.Prelude.{int_lt}
use Rattle.fixed_num.specs.Number.{rounded}
use Rattle.scale_kit.specs.inner.Between.{IsBetween}
use Rattle.scale_kit.proofs.ShareLemmas.{share_is, share_within}
use Rattle.scale_kit.proofs.shares.share.Goals as goal

whole_of : (c : goal.After-nearest) → c.unsigned_abs-d.result ≡ unsigned_abs c.args.whole
whole_of c = c.unsigned_abs-d.ensures.value ∙ ap unsigned_abs (to_z-of_z w128 _ c.ranges.whole)

part_of : (c : goal.After-nearest) → c.unsigned_abs.result ≡ unsigned_abs c.args.part
part_of c = c.unsigned_abs.ensures.value ∙ ap unsigned_abs (to_z-of_z w128 _ c.ranges.part)

part_is : (c : goal.After-nearest) → c.args.part ≡ pos c.unsigned_abs.result
part_is c = omega (arith, ints, c.requires.from, part_of c)

some : (c : goal.After-nearest) → 0 < c.unsigned_abs-d.result
some c = omega (arith, ints, c.requires.some, whole_of c)

value_of : (c : goal.After-nearest) → c.nearest.result ≡ rounded (c.args.size *ℤ c.args.part) c.unsigned_abs-d.result
value_of c =
    c.nearest.ensures.value
    ∙ share_is c.args.size c.args.part c.unsigned_abs.result c.unsigned_abs-2.result c.unsigned_abs-d.result _ _ _ (part_is c)
    (c.unsigned_abs-2.ensures.value ∙ ap unsigned_abs (to_z-of_z w128 _ c.ranges.size)) (some c) c.product_over-quotient.ensures.quotient
    c.product_over-quotient.ensures.rest (ap (λ z. int_lt z (pos 0)) (to_z-of_z w128 _ c.ranges.size))

pub returns-clause-value : goal.returns-clause-value
returns-clause-value c =
    to_z-of_z w128 _ (record { sfits = c.nearest.type_inv }) ∙ value_of c ∙ ap (rounded (c.args.size *ℤ c.args.part)) (whole_of c)

pub returns-clause-within : goal.returns-clause-within
returns-clause-within c =
    subst (IsBetween (pos 0) c.args.size) (sym (to_z-of_z w128 _ (record { sfits = c.nearest.type_inv }) ∙ value_of c))
    (share_within c.args.size c.args.part c.unsigned_abs.result c.unsigned_abs-d.result (part_is c) (some c)
    (omega (arith, ints, c.requires.to, c.requires.from, part_of c, whole_of c)))
