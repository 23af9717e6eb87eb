-- The compiled specification: the plan written down. At its top stand the parameters as signals; the data sets, first the sources, then one without rows, then
-- for each unit one with all of its steps, and behind them what domains, facets and drags read besides; and the view, with the scales that stand once in
-- the chart.
use Rattle.std.specs.Prelude.{ℕ, Bool, false, None, List, [], ◌∷◌, ◌++◌, ◌||◌, map, flat_map, filter}
use Rattle.std.specs.List.{enumerate_from, list_any}
use Rattle.expr_syntax.specs.declared.expr.Expr.TheVariants as expr
use Rattle.vega_spec.specs.declared.data.DataSet.{DataSet}
use Rattle.vega_spec.specs.declared.spec.VgSpec.{VgSpec}
use Rattle.vega_spec.specs.declared.transforms.Transform.{Transform}
use Rattle.vega_spec.specs.declared.transforms.Transform.TheVariants as vega
use Rattle.vl_spec.specs.declared.sources.SourceOf.{SourceOf}
use Rattle.vl_spec.specs.declared.spec.VlSpec.{VlSpec}
use Rattle.plan_kit.specs.declared.plans.UnitPlan.{UnitPlan}
use Rattle.plan_kit.specs.declared.plan.Plan.{Plan}
use Rattle.plan_kit.specs.declared.scales.ScalePlan.{ScalePlan}
use Rattle.vega_assemble.specs.declared.views.Held.{Held}
use Rattle.vega_assemble.specs.Drags.{all_outer}
use Rattle.vega_assemble.specs.Keys.{grid_begins, lists_of_grid}
use Rattle.vega_assemble.specs.Lists.{domain_begins, lists_for_scale}
use Rattle.vega_assemble.specs.Made.{MadeView, top_rolled}
use Rattle.vega_assemble.specs.Mentioned.{mentioned}
use Rattle.vega_assemble.specs.Names.{stem_for, none_name, unit_name, begun_name}
use Rattle.vega_assemble.specs.Scales.{helpers}
use Rattle.vega_assemble.specs.Signals.{signals_of}
use Rattle.vega_assemble.specs.Sources.{list_made, source_written}
use Rattle.vega_assemble.specs.Steps.{steps_written}
use Rattle.vega_assemble.specs.Views.{held_by, view_made}

-- ---- data sets

-- the list without rows, whose signal is always null, of whatever field the extent is; it begins with the rows of the first source
abbrev pub first_name : List SourceOf → List ℕ
first_name [] = []
first_name (source ∷ sources) = source.name

abbrev pub none_steps : List ℕ → List Transform
none_steps name = vega.Filter (record { expr = expr.Flag false }) ∷ vega.Extent (record { field = name; signal = name }) ∷ []

abbrev pub none_list : List ℕ → List SourceOf → DataSet
none_list stem sources = list_made (none_name stem) (first_name sources) (none_steps (none_name stem))

-- the rows of a unit, and those before its aggregate
abbrev pub unit_list : List ℕ → UnitPlan → DataSet
unit_list stem u = list_made (unit_name stem u.number) u.source (steps_written stem (u.before ++ u.after))

abbrev pub begun_list : List ℕ → UnitPlan → DataSet
begun_list stem u = list_made (begun_name stem u.number) u.source (steps_written stem u.before)

-- whether an order reads the latter
abbrev pub scale_begins : ℕ → ScalePlan → Bool
scale_begins unit s = domain_begins unit s.domain

abbrev pub is_begun : Plan → UnitPlan → Bool
is_begun p u = list_any (scale_begins u.number) p.scales || list_any (grid_begins u.number) p.grids

abbrev pub begun_lists : List ℕ → Plan → List DataSet
begun_lists stem p = map (begun_list stem) (filter (is_begun p) p.units)

-- all data sets that are no sources
abbrev pub lists_made : List ℕ → Plan → List DataSet
lists_made stem p =
    map (unit_list stem) p.units ++ begun_lists stem p ++ flat_map (lists_for_scale stem p.grids) (enumerate_from 0 p.scales)
    ++ flat_map (lists_of_grid stem) p.grids ++ all_outer stem p.selections p.scales

abbrev pub sets_of : List ℕ → VlSpec → Plan → List DataSet
sets_of stem s p = map source_written s.sources ++ none_list stem s.sources ∷ lists_made stem p

-- ---- the whole

-- what belongs to the chart: the scales that stand once in it, and the helpers
abbrev pub with_helpers : List ℕ → List UnitPlan → Held → Held
with_helpers stem units held = record held { scales = held.scales ++ helpers stem units }

abbrev pub held_at_top : List ℕ → Plan → Held
held_at_top stem p = with_helpers stem p.units (held_by stem p.scales None)

-- the top: the view of the plan, with the data sets and the signals
abbrev pub with_lists : List ℕ → VlSpec → Plan → MadeView → MadeView
with_lists stem s p v = record v {
  object = record (v.object) { sets = sets_of stem s p; signals = signals_of stem p.scales p.selections s.params };
}

abbrev pub made : List ℕ → VlSpec → Plan → MadeView
made stem s p = with_lists stem s p (view_made stem p p.view (held_at_top stem p))

-- a plan written down, with this stem before the names that are made
abbrev pub written_with : List ℕ → VlSpec → Plan → VgSpec
written_with stem s p = top_rolled p.padding (made stem s p)

abbrev pub written : VlSpec → Plan → VgSpec
written s p = written_with (stem_for (mentioned s p)) s p
