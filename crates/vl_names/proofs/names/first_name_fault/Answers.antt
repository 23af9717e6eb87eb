use Rattle.std.proofs.Common.{map, ap, ◌∙◌}
use Rattle.vl_trails.specs.Faults.{earliest_placed}
use Rattle.vl_names.specs.Known.{known_among, known_with, param_named}
use Rattle.vl_names.specs.Names.{faults_with}
use Rattle.vl_names.specs.Views.{views_of}
use Rattle.vl_names.specs.inner.Shown.{view_shown}
use Rattle.vl_names.proofs.NamesLemmas.{named_is}
use Rattle.vl_names.proofs.names.first_name_fault.Goals as goal

pub returns : goal.returns
returns c =
    let tree = c.args.tree.now in
    let params = c.as_slice-params.result.now in
    let named = named_is params c.in_ok-index.index c.in_ok-index.ensures in
    let views = ap (λ vs. map view_shown vs) c.as_slice.ensures ∙ c.in_ok-views.ensures in
    c.in_ok-first.ensures
    ∙ (λ i. earliest_placed tree (faults_with tree (known_with params (named i)) (named i) (views i) params))
    ∙ ap (λ ps. earliest_placed tree (faults_with tree (known_among ps) (param_named ps) (views_of c.args.s.now) ps)) c.as_slice-params.ensures
