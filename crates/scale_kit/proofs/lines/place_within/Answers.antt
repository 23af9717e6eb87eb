use Rattle.std.proofs.Common.{sym, ◌∙◌}
use Rattle.std.specs.Prelude.{◌+ℤ◌, ◌-ℤ◌, ◌*ℤ◌, unsigned_abs}
use Rattle.std.specs.Int.{w128}
use Rattle.std.proofs.lemmas.Int.{to_z-of_z}
use Rattle.fixed_num.specs.Number.{rounded}
use Rattle.scale_kit.proofs.LineLemmas.{lt_test, place_by_share}
use Rattle.scale_kit.proofs.lines.place_within.Goals as goal

pub returns-then-lt-clause-value : goal.returns-then-lt-clause-value
returns-then-lt-clause-value c =
    let part = to_z-of_z w128 _ (record { sfits = c.between.type_inv }) ∙ c.between.ensures.value in
    let span = to_z-of_z w128 _ (record { sfits = c.between-then-lt.type_inv }) ∙ c.between-then-lt.ensures.value in
    c.moved.ensures.value
    ∙ (λ i. c.args.range.0 +ℤ rounded ((c.args.range.1 -ℤ c.args.range.0) *ℤ part i) (unsigned_abs (span i)))
    ∙ place_by_share c.args.domain c.args.range c.args.v (sym (lt_test c.args.domain.0 c.args.domain.1) ∙ sym c.lt.ensures ∙ c.if-lt.true)
