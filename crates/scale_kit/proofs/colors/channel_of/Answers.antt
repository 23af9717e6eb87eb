use Rattle.std.proofs.Common.{arith, pos, ◌∙◌, subst}
use Rattle.std.proofs.lemmas.Int.{ints, to_z-of_z}
use Rattle.std.specs.Int.{w128}
use Rattle.scale_kit.specs.inner.Between.{IsBetween}
use Rattle.scale_kit.proofs.BetweenLemmas.{byte_between}
use Rattle.scale_kit.proofs.colors.channel_of.Goals as goal

pub overflow_cast-result : goal.overflow_cast-result
overflow_cast-result c =
    let from = c.number-from.ensures ∙ to_z-of_z w128 _ (record { sfits = c.from.type_inv }) ∙ c.from.ensures in
    let to = c.number-to.ensures ∙ to_z-of_z w128 _ (record { sfits = c.from-2.type_inv }) ∙ c.from-2.ensures in
    let within : IsBetween (pos c.args.from) (pos c.args.to) c.place_within-place.result =
    subst (λ a. IsBetween a (pos c.args.to) c.place_within-place.result) from
    (subst (λ b. IsBetween c.number-from.result b c.place_within-place.result) to c.place_within-place.ensures.within) in
    let small = byte_between c.args.from c.args.to c.place_within-place.result (omega arith) (omega arith) within in
    omega (arith, ints, small, c.unsigned_abs.ensures.value, c.millionths.ensures.value)
