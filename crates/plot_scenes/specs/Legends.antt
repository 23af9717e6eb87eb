-- The legends of a chart, in their order.
use Rattle.std.specs.Prelude.{◌≡◌, refl, ℕ, List, [], ◌∷◌, map, Option, Some, None, IsSome, codes}
use Rattle.std.specs.declared.cmp.Ordering.{Ordering}
use Rattle.std.specs.Ordering.{nat_cmp, ordering_then}
use Rattle.fixed_num.specs.Ranges.{all_found}
use Rattle.scale_kit.specs.Scale.{IsScale}
use Rattle.scale_kit.specs.declared.scale.Scale.TheVariants.{Ordinal}
use Rattle.guide_kit.specs.declared.legends.Block.{Block}
use Rattle.guide_kit.specs.Legends.{legend_of}
use Rattle.guide_kit.specs.Signs.{sign_kind_of}
use Rattle.plain_orders.specs.Orders.{in_order}
use Rattle.plot_scenes.specs.declared.legends.LegendShown.{LegendShown}

-- what every caller asks of a legend
abbrev pub IsLegendShown : LegendShown → Type 0
IsLegendShown l = IsScale l.scale × IsSome (sign_kind_of l.legend.channel)

-- how legends stand: by their channels, then by their objects, then in the order in which an object has them
abbrev pub legend_order : LegendShown → LegendShown → Ordering
legend_order a b =
    ordering_then (nat_cmp a.channel b.channel) (ordering_then (nat_cmp a.object b.object) (nat_cmp a.index b.index))

abbrev pub block_shown : LegendShown → Option Block
block_shown l = legend_of l.legend l.scale

-- The blocks of all legends in their order, those of several copies of an object as the copies stand; None where a tick or its place is out
-- of range.
abbrev pub blocks_of : List LegendShown → Option (List Block)
blocks_of legends = all_found (map block_shown (in_order legend_order legends))

-- ---- worked examples

-- a legend of an object in a channel, with its title
abbrev a_legend : ℕ → ℕ → ℕ → List ℕ → LegendShown
a_legend channel object index title = record {
  channel = channel;
  object = object;
  index = index;
  legend = record { channel = 4; title = Some title; format = None; colour = [] };
  scale = Ordinal [] [];
}

-- two copies of one object stand one after the other, and colours before sizes
abbrev three_legends : List LegendShown
three_legends = a_legend 3 0 0 (codes "s") ∷ a_legend 0 2 0 (codes "a") ∷ a_legend 0 2 0 (codes "b") ∷ a_legend 0 1 1 (codes "c") ∷ []

legends_in_order : map (λ (l : LegendShown). l.legend.title) (in_order legend_order three_legends)
    ≡ Some (codes "c") ∷ Some (codes "a") ∷ Some (codes "b") ∷ Some (codes "s") ∷ []
legends_in_order = refl
