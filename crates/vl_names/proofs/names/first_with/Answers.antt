use Rattle.std.proofs.Common.{◌≡◌, ◌++◌, map}
use Rattle.vl_trails.specs.Faults.{earliest_placed}
use Rattle.vl_trails.proofs.OrderLemmas.{then_faults}
use Rattle.vl_names.specs.Known.{first_named, view_names}
use Rattle.vl_names.specs.Names.{param_faults, twice_given}
use Rattle.vl_names.specs.Unknown.{unknown_in_views}
use Rattle.vl_names.specs.inner.Looked.{known_shown, named_by}
use Rattle.vl_names.specs.inner.Shown.{view_shown}
use Rattle.vl_names.proofs.names.first_with.Goals as goal

pub returns : goal.returns
returns c =
    let tree = c.args.tree.now in
    let views = map view_shown c.args.views.now in
    let known = known_shown c.args.known.now in
    let named = named_by c.args.known.now.index.now in
    let of_params = param_faults known named (first_named (view_names views)) views c.args.known.now.params.now in
    let two : c.in_ok-so_far-2.so_far ≡ earliest_placed tree (twice_given tree views ++ of_params) =
    then_faults tree _ _ (twice_given tree views) of_params c.in_ok-so_far.ensures c.in_ok-so_far-2.ensures in
    then_faults tree _ _ (twice_given tree views ++ of_params) (unknown_in_views known views) two c.in_ok-so_far-3.ensures
