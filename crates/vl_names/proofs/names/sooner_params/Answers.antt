use Rattle.std.proofs.Common.{◌≡◌, ◌++◌, map}
use Rattle.spec_schema.specs.Order.{earlier}
use Rattle.vl_trails.specs.Faults.{earliest_placed}
use Rattle.vl_trails.proofs.OrderLemmas.{two_lists}
use Rattle.vl_names.specs.Circles.{breaks_circle, needs_among}
use Rattle.vl_names.specs.Known.{first_named, view_names}
use Rattle.vl_names.specs.Params.{breaks_known, breaks_name, breaks_views, first_param_fault}
use Rattle.vl_names.specs.inner.Looked.{known_shown, named_by}
use Rattle.vl_names.specs.inner.Shown.{view_shown}
use Rattle.vl_names.proofs.names.sooner_params.Goals as goal

pub returns : goal.returns
returns c =
    let tree = c.args.tree.now in
    let views = map view_shown c.args.views.now in
    let params = c.args.known.now.params.now in
    let named = named_by c.args.known.now.index.now in
    let by_name = first_param_fault views (breaks_name named) params in
    let by_known = first_param_fault views (breaks_known (known_shown c.args.known.now)) params in
    let by_views = first_param_fault views (breaks_views (first_named (view_names views))) params in
    let by_circle = first_param_fault views (breaks_circle (needs_among named params)) params in
    let two : c.in_ok-so_far-2.so_far ≡ earlier c.args.so_far (earliest_placed tree (by_name ++ by_known)) =
    two_lists tree c.args.so_far _ _ by_name by_known c.in_ok-so_far.ensures c.in_ok-so_far-2.ensures in
    let three : c.in_ok-so_far-3.so_far ≡ earlier c.args.so_far (earliest_placed tree (by_name ++ by_known ++ by_views)) =
    two_lists tree c.args.so_far _ _ (by_name ++ by_known) by_views two c.in_ok-so_far-3.ensures in
    two_lists tree c.args.so_far _ _ (by_name ++ by_known ++ by_views) by_circle three c.in_ok-so_far-4.ensures
