use Rattle.std.proofs.Common.{◌∙◌, ap, unsigned_abs, arith}
use Rattle.std.proofs.lemmas.Int.{to_z-of_z}
use Rattle.std.specs.Int.{w128}
use Rattle.fixed_num.proofs.ProductLemmas.{ratio_by_parts, ratio_out_of_reach}
use Rattle.fixed_num.proofs.ratio.rounded_product.Goals as goal

pub returns-clause-value : goal.returns-clause-value
returns-clause-value c =
    let parts = c.in_ok-whole.ensures in
    let p = c.ranges.p in
    let q = c.ranges.q in
    let r = c.ranges.r in
    to_z-of_z w128 _ (record { sfits = c.nearest.type_inv }) ∙ c.nearest.ensures.value
    ∙ ratio_by_parts c.args.p c.args.q c.args.r _ _ _ _ _ _ (c.unsigned_abs.ensures.value
    ∙ ap unsigned_abs (to_z-of_z w128 _ p)) (c.unsigned_abs-2.ensures.value
    ∙ ap unsigned_abs (to_z-of_z w128 _ q)) (c.unsigned_abs-size.ensures.value
    ∙ ap unsigned_abs (to_z-of_z w128 _ r)) (ap (λ x. x.0) parts.1) (ap (λ x. x.1) parts.1) (simp to_z-of_z)

pub returns-in_err-whole-clause-none : goal.returns-in_err-whole-clause-none
returns-in_err-whole-clause-none c =
    rw c.from_residual.ensures (ratio_out_of_reach c.args.p c.args.q c.args.r _ _ _ _ (c.unsigned_abs.ensures.value
    ∙ ap unsigned_abs (to_z-of_z w128 _ c.ranges.p)) (c.unsigned_abs-2.ensures.value ∙ ap unsigned_abs (to_z-of_z w128 _ c.ranges.q))
    (c.unsigned_abs-size.ensures.value ∙ ap unsigned_abs (to_z-of_z w128 _ c.ranges.r))
    (omega (arith, c.requires.r_not_zero, c.unsigned_abs-size.ensures.value, ap unsigned_abs (to_z-of_z w128 _ c.ranges.r)))
    c.in_err-whole.ensures)
