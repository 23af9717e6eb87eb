-- That legends stand in an order.
use Rattle.std.specs.Prelude.{ℕ}
use Rattle.std.specs.Cmp.{IsTotalOrder, then_total, on_total, nat_cmp_total}
use Rattle.plot_scenes.specs.declared.legends.LegendShown.{LegendShown}
use Rattle.plot_scenes.specs.Legends.{legend_order}

abbrev channel_of : LegendShown → ℕ
channel_of l = l.channel

abbrev object_of : LegendShown → ℕ
object_of l = l.object

abbrev index_of : LegendShown → ℕ
index_of l = l.index

pub legend_order_total : IsTotalOrder legend_order
legend_order_total =
    then_total (on_total channel_of nat_cmp_total) (then_total (on_total object_of nat_cmp_total) (on_total index_of nat_cmp_total))
