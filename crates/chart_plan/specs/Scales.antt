-- The scales of a chart. Each has its kind, its flags and its paddings by the units that share it, in their order; a ramp is one of instants where its first
-- definition shows some. Its domain, its range and `reverse` each come from the first of its definitions that gives it. A scale belongs to the
-- innermost facet round its units whose `resolve` makes the channel independent, and stands once in each panel of it; without one, once in the chart. Which
-- units share a scale is the sharing of the composed views.
use Rattle.std.specs.Prelude.{ℕ, ◌==◌, ◌&&◌, ◌||◌, Bool, false, Option, Some, None, List, [], ◌∷◌, find, if◌then◌else◌}
use Rattle.std.specs.Option.{option_and_then, option_map_or}
use Rattle.std.specs.List.{enumerate_from, filter_map, fold}
use Rattle.vl_spec.specs.declared.definitions.Definition.{Definition}
use Rattle.vl_spec.specs.declared.params.ParamOf.{ParamOf}
use Rattle.vl_spec.specs.declared.scales.Scale.{Scale}
use Rattle.vl_compose.specs.Rounds.{ViewAt, Round}
use Rattle.vl_compose.specs.Sharing.{is_independent, sharing_said}
use Rattle.vl_compose.specs.Units.{UnitAt}
use Rattle.vl_compose.specs.Views.{is_faceted}
use Rattle.scale_infer.specs.declared.codes.TheConstants.{TIME, RAMP}
use Rattle.scale_infer.specs.Types.{is_temporal, scale_in, type_of}
use Rattle.scale_infer.specs.declared.scales.ScaleOf.{ScaleOf}
use Rattle.unit_plan.specs.declared.seen.ScaleSeen.{ScaleSeen}
use Rattle.plan_kit.specs.declared.domains.DomainPlan.{DomainPlan}
use Rattle.plan_kit.specs.declared.scales.ScalePlan.{ScalePlan}
use Rattle.chart_plan.specs.Domains.{alone_domain, raw_of, shared_domain}
use Rattle.guide_infer.specs.Legends.{legend_of}
use Rattle.chart_plan.specs.Ranges.{range_of, reverse_of, rises}
use Rattle.guide_infer.specs.Said.{is_bare}
use Rattle.plan_kit.specs.Among.{is_among}
use Rattle.chart_plan.specs.Shown.{all_shown}

-- whether a view says that the views in it have a scale of their own for a channel
abbrev pub says_independent : ℕ → ViewAt → Bool
says_independent channel v = option_map_or is_independent (sharing_said v.resolve channel) false

-- whether a view is a facet that gives each panel a scale of its own
abbrev pub parts_scale : ℕ → ViewAt → Bool
parts_scale channel v = is_faceted v.kind && says_independent channel v

-- the number of such a facet, or else that of the one further out
abbrev pub holder_from : ℕ → Option ℕ → ViewAt → Option ℕ
holder_from channel outer v = if parts_scale channel v then Some v.number else outer

-- the number of the innermost such facet among the views round a unit
abbrev pub holder_in : ℕ → Round → Option ℕ
holder_in channel round = fold (holder_from channel) None round

-- the facet to which the scale of some units belongs
abbrev pub holder_of : ℕ → List UnitAt → List ℕ → Option ℕ
holder_of channel units sharing =
    option_and_then (λ (u : UnitAt). holder_in channel u.round) (find (λ (u : UnitAt). is_among sharing u.number) units)

-- what definitions say of scales
abbrev pub scales_said : List Definition → List Scale
scales_said definitions = filter_map scale_in definitions

-- the domain of a scale on which these definitions are shown: without any it is that of a unit alone
abbrev pub domain_of : ScaleOf → List UnitAt → List Definition → DomainPlan
domain_of scale units shown =
    if is_bare shown then alone_domain else shared_domain scale.channel scale.kind units scale.units (scales_said shown)

-- whether the first of some definitions shows instants
abbrev pub shows_instants : List Definition → Bool
shows_instants [] = false
shows_instants (d ∷ definitions) = is_temporal (type_of d)

-- whether the domain of a scale is one of instants: a ramp's is where the first definition shows instants
abbrev pub is_time : ℕ → List Definition → Bool
is_time kind shown = kind == TIME || (kind == RAMP && shows_instants shown)

-- a scale on which these definitions are shown
abbrev pub scale_with : List ParamOf → List UnitAt → ScaleOf → List Definition → ScalePlan
scale_with params units scale shown = record {
  channel = scale.channel;
  units = scale.units;
  kind = scale.kind;
  is_time = is_time scale.kind shown;
  holder = holder_of scale.channel units scale.units;
  domain = domain_of scale units shown;
  raw = raw_of params scale.kind (scales_said shown);
  range = range_of scale.channel scale.kind (scales_said shown);
  reverse = reverse_of (scales_said shown);
  zero = scale.zero;
  nice = scale.nice;
  inner = scale.inner;
  outer = scale.outer;
  legend = legend_of scale.channel shown;
  is_alone = is_bare shown;
}

abbrev pub scale_of : List ParamOf → List UnitAt → ScaleOf → ScalePlan
scale_of params units scale = scale_with params units scale (all_shown units scale.channel scale.units)

-- ---- scales as units see them

-- a scale of a number
abbrev pub seen : ℕ × ScalePlan → ScaleSeen
seen numbered = record {
  channel = numbered.1.channel;
  number = numbered.0;
  kind = numbered.1.kind;
  rises = rises numbered.1.channel numbered.1.kind numbered.1.range numbered.1.reverse;
  alone = numbered.1.is_alone;
}

-- a scale of a number as a unit sees it, if it shares it
abbrev pub seen_if : ℕ → ℕ × ScalePlan → Option ScaleSeen
seen_if unit numbered = if is_among numbered.1.units unit then Some (seen numbered) else None

-- the scales of a unit among all, each with its number
abbrev pub seen_by : List ScalePlan → ℕ → List ScaleSeen
seen_by scales unit = filter_map (seen_if unit) (enumerate_from 0 scales)
