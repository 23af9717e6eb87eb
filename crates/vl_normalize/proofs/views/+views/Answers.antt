use Rattle.std.proofs.Common.{map, rules}
use Rattle.vl_normalize.proofs.ViewLemmas.{layer_is, joined_is}
use Rattle.vl_normalize.proofs.views.+views.Goals as goal

pub normal_layer-returns : goal.normal_layer-returns
normal_layer-returns t c =
    layer_is c.args.layer.now (map (λ r. r.now) c.args.around.now) (map (λ r. r.now) c.as_slice.result.now) c.as_slice-2.result.now _
    (search rules) (search rules) c.in_ok-normal_views.ensures

pub normal_joined-returns : goal.normal_joined-returns
normal_joined-returns t c =
    joined_is c.args.joined.now (map (λ r. r.now) c.args.around.now) c.as_slice.result.now _ (search rules) c.in_ok-normal_views.ensures
