use Rattle.std.proofs.Common.{ℕ, arith, take}
use Rattle.vega_parts.specs.declared.part.Part.{Part}
use Rattle.vega_rules.specs.Twice.{repeated}
use Rattle.vega_rules.proofs.LoopLemmas.{one_row}
use Rattle.vega_rules.proofs.twice.sooner_twice.Goals as goal

pub loop-number-preserved : goal.loop-number-preserved
loop-number-preserved c =
    one_row (λ (row : ℕ × Part). repeated
    (take row.0 c.args.parts.now) row.1) c.args.parts.now c.loop-number.number c.loop-number.so_far c.in_ok-so_far.so_far _
    c.index-parts-number.result (omega arith) c.index-parts-number.is c.in_ok-so_far.ensures c.loop-number.invariant
