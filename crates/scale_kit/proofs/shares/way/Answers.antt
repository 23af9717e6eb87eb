use Rattle.std.proofs.Common.{arith, ◌≡◌, pos, sym, subst, ◌∙◌, to_z, of_z}
use Rattle.std.specs.Prelude.{◌-ℤ◌}
use Rattle.std.proofs.lemmas.Int.{ints, to_z-of_z}
use Rattle.std.specs.Int.{w128}
use Rattle.fixed_num.specs.Number.{IsNumber}
use Rattle.scale_kit.specs.inner.Between.{IsBetween}
use Rattle.scale_kit.proofs.BetweenLemmas.{way_is_number}
use Rattle.scale_kit.proofs.shares.way.Goals as goal

pub share-requires-clause-size : goal.share-requires-clause-size
share-requires-clause-size c =
    let size_is : to_z w128 (of_z w128 c.between.result) ≡ c.args.range.1 -ℤ c.args.range.0 =
    to_z-of_z w128 _ (record { sfits = c.between.type_inv }) ∙ c.between.ensures.value in
    omega (arith, ints, c.requires.range, size_is)

pub number-requires : goal.number-requires
number-requires c =
    let within_size : IsBetween (pos 0) (c.args.range.1 -ℤ c.args.range.0) c.share.result =
    subst (λ s. IsBetween (pos 0) s c.share.result)
    (to_z-of_z w128 _ (record { sfits = c.between.type_inv }) ∙ c.between.ensures.value) c.share.ensures.within in
    subst IsNumber (sym (to_z-of_z w128 _ (record { sfits = c.share.type_inv })))
    (way_is_number c.args.range.0 c.args.range.1 c.share.result c.requires.range within_size)

pub returns-clause-within : goal.returns-clause-within
returns-clause-within c =
    let within_size : IsBetween (pos 0) (c.args.range.1 -ℤ c.args.range.0) c.share.result =
    subst (λ s. IsBetween (pos 0) s c.share.result)
    (to_z-of_z w128 _ (record { sfits = c.between.type_inv }) ∙ c.between.ensures.value) c.share.ensures.within in
    subst (IsBetween (pos 0) (c.args.range.1 -ℤ c.args.range.0))
    (sym (c.number.ensures ∙ to_z-of_z w128 _ (record { sfits = c.share.type_inv }))) within_size
