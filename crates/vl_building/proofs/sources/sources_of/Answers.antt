use Rattle.std.proofs.Common.{◌≡◌, List, ap, subst}
use Rattle.std.specs.Prelude.{IfOk}
use Rattle.vl_spec.specs.declared.sources.SourceOf.{SourceOf}
use Rattle.vl_building.specs.Sources.{Lookups, sources_with}
use Rattle.vl_building.proofs.FindLemmas.{all_found}
use Rattle.vl_building.proofs.sources.sources_of.Goals as goal

pub returns : goal.returns
returns c =
    let is : List SourceOf → Type 0 = λ y. IfOk c.sources_with.result (λ s. s ≡ y) in
    subst is (ap (λ (known : Lookups). sources_with known c.args.all.now)
    (all_found c.args.datasets.now c.args.all.now _ c.in_ok-finders.ensures)) c.sources_with.ensures
