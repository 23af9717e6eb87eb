-- The domain of a scale: the first that is given. A list stands as it is. Else it is made of cells of rows, which on a discrete scale stand in an
-- order. `{param}` gives a continuous scale what a selection keeps, as far as it keeps anything: the two ends of the channel that it names, without a
-- name those of the first channel that the selection keeps; only x and y have ends. The scale of a unit alone has one null.
use Rattle.std.specs.Prelude.{◌≡◌, refl, ℕ, ◌==◌, Option, Some, None, List, [], ◌∷◌, codes, find, unwrap_or, bytes_eq, if◌then◌else◌}
use Rattle.std.specs.Option.{option_and_then, option_map_or, option_map}
use Rattle.expr_syntax.specs.declared.expr.Expr.{Expr}
use Rattle.expr_syntax.specs.declared.expr.Expr.TheVariants as expr
use Rattle.cell_value.specs.declared.cell.Cell.{Cell}
use Rattle.cell_value.specs.declared.cell.Cell.TheVariants as cell
use Rattle.vl_normalize.specs.declared.codes.TheConstants.{X, Y}
use Rattle.vl_spec.specs.declared.params.ParamOf.{ParamOf}
use Rattle.vl_spec.specs.declared.params.ParamKind.{ParamKind}
use Rattle.vl_spec.specs.declared.params.ParamKind.TheVariants as kind_of_param
use Rattle.vl_spec.specs.declared.params.Select.{Select}
use Rattle.vl_spec.specs.declared.params.Select.TheVariants as select
use Rattle.vl_spec.specs.declared.scales.Domain.{Domain}
use Rattle.vl_spec.specs.declared.scales.Domain.TheVariants as domain
use Rattle.vl_spec.specs.declared.scales.ParamDomain.{ParamDomain}
use Rattle.vl_spec.specs.declared.scales.Scale.{Scale}
use Rattle.vl_compose.specs.Units.{UnitAt}
use Rattle.plan_kit.specs.declared.domains.DomainPlan.{DomainPlan}
use Rattle.plan_kit.specs.declared.domains.DomainPlan.TheVariants.{Cells, Columns}
use Rattle.plan_kit.specs.declared.orders.CellOrder.{CellOrder}
use Rattle.plan_kit.specs.declared.orders.CellOrder.TheVariants.{Up}
use Rattle.guide_infer.specs.Axes.{is_continuous}
use Rattle.chart_plan.specs.Columns.{columns_of}
use Rattle.guide_infer.specs.First.{first_given}
use Rattle.chart_plan.specs.Orders.{order_of}

-- the first domain that is given
abbrev pub domain_said : List Scale → Option Domain
domain_said said = first_given (λ (s : Scale). s.domain) said

-- ---- what a selection keeps

-- the first channel that a selection names, if it names one
abbrev pub first_named : Select → Option ℕ
first_named (select.Type type) = None
first_named (select.Definition d) = option_and_then (first_given (λ (code : ℕ). Some code)) d.encodings

abbrev pub first_kept : ParamKind → Option ℕ
first_kept (kind_of_param.Value cell) = None
first_kept (kind_of_param.Expr e) = None
first_kept (kind_of_param.Select s) = first_named s.select

-- what the parameter of a name is, and the first channel that it keeps; one that names none keeps x first
abbrev pub named_kind : List ParamOf → List ℕ → Option ParamKind
named_kind params name = option_map (λ (p : ParamOf). p.kind) (find (λ (p : ParamOf). bytes_eq p.name name) params)

abbrev pub kept_first : List ParamOf → List ℕ → ℕ
kept_first params name = unwrap_or (option_and_then first_kept (named_kind params name)) X

-- the ends of a channel that a parameter keeps
abbrev pub member : List ℕ → List ℕ → Expr
member name channel = expr.Member name channel

abbrev pub ends_kept : List ℕ → ℕ → Option Expr
ends_kept name channel = if channel == X then Some (member name (codes "x")) else (if channel == Y then Some (member name (codes "y")) else None)

abbrev pub channel_meant : List ParamOf → ParamDomain → ℕ
channel_meant params of = unwrap_or of.encoding (kept_first params of.param)

abbrev pub ends_of : List ParamOf → ParamDomain → Option Expr
ends_of params of = ends_kept of.param (channel_meant params of)

-- a domain by a parameter
abbrev pub raw_by : List ParamOf → Domain → Option Expr
raw_by params (domain.Cells cells) = None
raw_by params (domain.Param of) = ends_of params of

-- the expression that gives a continuous scale its domain where it gives a pair
abbrev pub raw_of : List ParamOf → ℕ → List Scale → Option Expr
raw_of params kind said = if is_continuous kind then option_and_then (raw_by params) (domain_said said) else None

-- ---- lists and rows

-- the list that a domain gives
abbrev pub listed : Domain → Option (List Cell)
listed (domain.Cells cells) = Some cells
listed (domain.Param of) = None

-- the order of the cells of a scale; on a continuous one it doesn't show
abbrev pub order_for : ℕ → ℕ → List UnitAt → List ℕ → CellOrder
order_for channel kind units sharing = if is_continuous kind then Up else order_of channel units sharing

abbrev pub of_rows : ℕ → ℕ → List UnitAt → List ℕ → DomainPlan
of_rows channel kind units sharing =
    Columns (record { columns = columns_of channel kind units sharing; order = order_for channel kind units sharing })

-- the domain of a scale that units share
abbrev pub shared_domain : ℕ → ℕ → List UnitAt → List ℕ → List Scale → DomainPlan
shared_domain channel kind units sharing said =
    option_map_or Cells (option_and_then listed (domain_said said)) (of_rows channel kind units sharing)

-- the domain of the scale of a unit alone
abbrev pub alone_domain : DomainPlan
alone_domain = Cells (cell.Null ∷ [])

-- The rules at work.

only_x_and_y_have_ends : (p : List ℕ) → (ends_kept p X ≡ Some (member p (codes "x"))) × (ends_kept p 4 ≡ None)
only_x_and_y_have_ends p = (refl, refl)

a_parameter_that_is_unknown : kept_first [] (codes "p") ≡ X
a_parameter_that_is_unknown = refl
