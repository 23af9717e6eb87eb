use Rattle.std.proofs.Common.{◌∙◌}
use Rattle.std.specs.Prelude.{◌+ℤ◌, ◌*ℤ◌}
use Rattle.std.proofs.lemmas.Int.{to_z-of_z}
use Rattle.std.specs.Int.{w128}
use Rattle.fixed_num.specs.Number.{rounded_ratio}
use Rattle.fixed_num.specs.Ranges.{in_range}
use Rattle.fixed_num.proofs.RangeLemmas.{in_range_from_exact}
use Rattle.scale_kit.proofs.shares.along.Goals as goal

pub returns : goal.returns
returns c =
    let p = to_z-of_z w128 _ (record { sfits = c.between.type_inv }) ∙ c.between.ensures.value in
    let q = to_z-of_z w128 _ (record { sfits = c.between-2.type_inv }) ∙ c.between-2.ensures.value in
    let r = to_z-of_z w128 _ (record { sfits = c.between-3.type_inv }) ∙ c.between-3.ensures.value in
    in_range_from_exact _ _ c.along.ensures
    ∙ λ i. in_range (c.args.start +ℤ rounded_ratio (p i *ℤ q i) (r i))
