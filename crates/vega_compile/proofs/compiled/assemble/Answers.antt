use Rattle.std.proofs.Common.{◌≡◌, subst}
use Rattle.std.specs.Prelude.{IfOk}
use Rattle.plan_kit.specs.declared.plan.Plan.{Plan}
use Rattle.vega_assemble.specs.Assembled.{written}
use Rattle.vega_compile.proofs.compiled.assemble.Goals as goal

pub returns : goal.returns
returns c =
    let all : Plan → Type 0 = λ p. IfOk c.written.result (λ g. g ≡ written c.args.s.now p) in
    subst all c.in_ok-plan.ensures c.written.ensures
