use Rattle.std.proofs.Common.{◌++◌, map, take, sym, ap, ◌∙◌}
use Rattle.std.proofs.lemmas.List.{take-map}
use Rattle.vl_compose.specs.Rounds.{rounds_of}
use Rattle.vl_rules.specs.Marked.{marked_among}
use Rattle.vl_rules.specs.inner.Found.{FoundAt, most_found}
use Rattle.vl_rules.specs.inner.Shown.{marked_shown}
use Rattle.vl_rules.proofs.marked.first_marked.Goals as goal

pub returns : goal.returns
returns c =
    ap (map marked_shown) c.truncate.ensures
    ∙ sym (take-map marked_shown most_found c.walk_view.new.found.units)
    ∙ ap (λ (f : FoundAt). f.units) c.in_ok-walk_view.ensures
    ∙ ap (λ us. take most_found (take most_found (map marked_shown us) ++ marked_among (rounds_of c.args.s.now))) c.new.ensures
