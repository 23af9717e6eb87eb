-- Views by what they belong to, and their groups as the code puts them together.
use Rattle.std.specs.Prelude.{ℕ, Option, Some, None, List, []}
use Rattle.vega_spec.specs.declared.marks.Facet.{Facet}
use Rattle.vega_spec.specs.declared.orders.Sort.{Sort}
use Rattle.vega_spec.specs.declared.spec.VgMark.{VgMark}
use Rattle.plan_kit.specs.declared.grids.GridPlan.{GridPlan}
use Rattle.plan_kit.specs.declared.plan.Plan.{Plan}
use Rattle.vega_assemble.specs.declared.views.Held.{Held}
use Rattle.vega_assemble.specs.declared.views.Holder.{Holder}
use Rattle.vega_assemble.specs.declared.views.Holder.TheVariants as holder
use Rattle.vega_assemble.specs.declared.views.Opened.{Opened}
use Rattle.vega_assemble.specs.Made.{MadeView, group_of, rolled}
use Rattle.vega_assemble.specs.Views.{nothing_held, held_by, layout_of}
use Rattle.vega_assemble.specs.Assembled.{held_at_top}
use Rattle.vega_assemble.specs.inner.Groups.{group_with, mark_with}

-- what belongs to joined views, to the chart, and to what stands in the panels of a facet
abbrev pub held_for : List ℕ → Plan → Holder → Held
held_for stem p holder.Joined = nothing_held
held_for stem p holder.Chart = held_at_top stem p
held_for stem p (holder.Facet number) = held_by stem p.scales (Some number)

-- an object rolled up
abbrev pub opened : MadeView → Opened
opened v = record { group = group_of v.object (rolled v.marks); extent = v.object.extent }

-- a grid with these groups
abbrev pub grid_with : Held → GridPlan → List VgMark → Opened
grid_with held grid marks = record { group = group_with held.scales (Some (layout_of grid)) marks [] held.legends grid.title; extent = None }

abbrev pub grid_opened : List ℕ → Plan → GridPlan → List VgMark → Holder → Opened
grid_opened stem p grid marks of = grid_with (held_for stem p of) grid marks

-- a group for a view
abbrev pub group_for : Opened → Option Sort → Option Facet → VgMark
group_for made sort facet = mark_with made.group made.extent facet sort
