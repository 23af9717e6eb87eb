use Rattle.std.proofs.Common.{◌≡◌, subst}
use Rattle.std.specs.Prelude.{IfOk}
use Rattle.vl_spec.specs.declared.spec.VlSpec.{VlSpec}
use Rattle.vl_building.proofs.SpecLemmas.{spec_is}
use Rattle.vl_building.proofs.spec.spec_of.Goals as goal

pub returns : goal.returns
returns c =
    let is : VlSpec → Type 0 = λ y. IfOk c.spec_by.result (λ s. s ≡ y) in
    subst is (spec_is c.args.tree.now c.in_ok-named.named c.in_ok-params.params _ c.as_slice.ensures c.in_ok-params.ensures c.in_ok-named.ensures.all
    c.in_ok-named.ensures.naming)
    c.spec_by.ensures
