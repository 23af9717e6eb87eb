use Rattle.std.proofs.Common.{◌≡◌, ◌+◌, ◌-◌, ◌<◌, ◌≤◌, ◌∷◌, map, flat_map, drop, length, sym, ap, ap₂, ◌∙◌, subst, arith}
use Rattle.std.proofs.lemmas.List.{drop_all}
use Rattle.plain_facets.specs.Facets.{choices}
use Rattle.plain_facets.proofs.ListLemmas.{chosen_more}
use Rattle.plain_facets.proofs.crossed.choices.Goals as goal

pub loop-at-init : goal.loop-at-init
loop-at-init c = c.in_ok-made.ensures ∙ ap choices (sym (drop_all (length c.args.lists.now) c.args.lists.now (omega arith)))

pub loop-at-preserved : goal.loop-at-preserved
loop-at-preserved c =
    let positive = c.loop-at-test.true in
    let within : c.loop-at.at ≤ length c.args.lists.now = c.loop-at.auto.at in
    let before : c.loop-at.at - 1 < length c.args.lists.now = omega (arith, positive, within) in
    let again : c.loop-at.at ≡ c.loop-at.at - 1 + 1 = omega (arith, positive) in
    chosen_more c.args.lists.now (c.loop-at.at - 1) c.index-lists-at.result c.loop-at.made _ before c.index-lists-at.is
    (subst (λ i. c.loop-at.made ≡ choices (drop i c.args.lists.now)) again c.loop-at.invariant)
    (c.in_ok-made-2.ensures ∙ ap₂ (λ made cells. flat_map (λ cell. map (λ rest. cell ∷ rest) made) cells) c.as_slice-in-loop-at.ensures c.as_slice.ensures)
