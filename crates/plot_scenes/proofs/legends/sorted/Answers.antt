use Rattle.std.proofs.Common.{sym, ap, ◌∙◌, subst}
use Rattle.std.specs.List.{All}
use Rattle.std.proofs.lemmas.List.Sorted.{All-permutation}
use Rattle.plain_orders.specs.Orders.{in_order}
use Rattle.plot_scenes.specs.Legends.{IsLegendShown, legend_order}
use Rattle.plot_scenes.specs.inner.Orders.{legend_order_total}
use Rattle.plot_scenes.proofs.OrderLemmas.{sort_gives}
use Rattle.plot_scenes.proofs.legends.sorted.Goals as goal

pub returns-clause-value : goal.returns-clause-value
returns-clause-value c =
    sort_gives legend_order_total c.into_vec-legends.result.items c.sort.new.self.items c.in_ok-sort.ensures.sorted
    c.in_ok-sort.ensures.stable
    ∙ ap (in_order legend_order) c.into_vec-legends.ensures

pub returns-clause-asked : goal.returns-clause-asked
returns-clause-asked c =
    All-permutation IsLegendShown c.into_vec-legends.result.items c.sort.new.self.items c.in_ok-sort.ensures.permutation
    (subst (All IsLegendShown) (sym c.into_vec-legends.ensures) c.requires)
