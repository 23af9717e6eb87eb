use Rattle.std.proofs.Common.{◌≡◌, subst}
use Rattle.std.specs.Prelude.{IfOk}
use Rattle.vega_spec.specs.declared.spec.VgSpec.{VgSpec}
use Rattle.vega_assemble.proofs.TopLemmas.{top_is}
use Rattle.vega_assemble.proofs.assembled.written_with.Goals as goal

pub returns : goal.returns
returns c =
    let all : VgSpec → Type 0 = λ v. IfOk c.top_of.result (λ g. g ≡ v) in
    subst all (top_is c.args.stem.now c.args.s.now c.args.p.now c.in_ok-made.made c.in_ok-made.ensures) c.top_of.ensures
