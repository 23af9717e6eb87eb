use Rattle.std.proofs.Common.{◌≡◌, ◌+◌, [], ◌∷◌, ◌++◌, map, subst, sym, ◌∙◌}
use Rattle.std.specs.Prelude.{OnOk}
use Rattle.vl_compose.specs.Shown.{round_shown, view_shown}
use Rattle.vl_rules.specs.inner.Found.{FoundAt, found_shown, most_found}
use Rattle.vl_rules.specs.inner.Shown.{marked_shown, marked_with}
use Rattle.vl_rules.proofs.FrontLemmas.{take_before}
use Rattle.vl_rules.proofs.marked.find_unit.Goals as goal

pub returns : goal.returns
returns c =
    let all : FoundAt → Type 0 = λ f. OnOk c.count_view.result (found_shown c.count_view.new.found ≡ f) in
    subst all (λ i. record {
      count = c.args.found.now.count + 1;
      units = (c.in_ok-push_unit.ensures ∙ sym (take_before most_found (map marked_shown c.args.found.now.units)
          (marked_with c.args.unit.now.mark (round_shown c.args.outer.now ++ view_shown c.args.here ∷ []) ∷ []))) i;
    }) c.count_view.ensures
