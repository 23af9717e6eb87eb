use Rattle.std.proofs.Common.{ℕ, List, Option, ◌==◌, ap, ◌∙◌}
use Rattle.std.specs.Prelude.{codes}
use Rattle.std.specs.Option.{option_map}
use Rattle.std.specs.List.{position_from}
use Rattle.vl_trails.specs.Trails.{to_item, to_member}
use Rattle.vl_names.proofs.params.trail_in.Goals as goal

pub returns : goal.returns
returns c =
    c.in_ok-trail.ensures
    ∙ ap (λ (place : Option ℕ). option_map (to_item (to_member c.args.here.now.trail (codes "params"))) place)
    (c.number_place-place.ensures ∙ ap (λ (ns : List ℕ). position_from (λ n. n == c.args.number) 0 ns) c.as_slice.ensures)
