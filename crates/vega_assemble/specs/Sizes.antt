-- The size of a plot along x or y: so many pixels, or a step for each unit of the space that the bands of its scale take, by how many cells the domain of
-- that scale has.
use Rattle.std.specs.Prelude.{◌≡◌, refl, ℕ, ℤ, pos, Some, List, [], ◌∷◌, codes, slice_get}
use Rattle.std.specs.Option.{option_map_or}
use Rattle.case_table.specs.Names.{index_of, builtins}
use Rattle.expr_syntax.specs.declared.expr.BinOp.TheVariants.{Mul}
use Rattle.expr_syntax.specs.declared.expr.Expr.{Expr}
use Rattle.expr_syntax.specs.declared.expr.Expr.TheVariants as expr
use Rattle.vega_spec.specs.declared.spec.Size.{Size}
use Rattle.vega_spec.specs.declared.spec.Size.TheVariants as size
use Rattle.plan_kit.specs.declared.plots.PlotPlan.{PlotPlan}
use Rattle.plan_kit.specs.declared.scales.ScalePlan.{ScalePlan}
use Rattle.plan_kit.specs.declared.sizes.SizePlan.{SizePlan}
use Rattle.plan_kit.specs.declared.sizes.SizePlan.TheVariants as plan
use Rattle.vega_assemble.specs.declared.made.Extent.{Extent}
use Rattle.vega_assemble.specs.Names.{scale_name}

-- the code of `bandspace` among the builtins
abbrev pub bandspace : ℕ
bandspace = 18

-- the space of the bands of a scale, in steps
abbrev pub space_expr : List ℕ → ℤ → ℤ → Expr
space_expr scale inner outer = expr.Call bandspace (expr.DomainLength scale ∷ expr.Number inner ∷ expr.Number outer ∷ [])

-- the paddings of the scale of a number
abbrev pub inner_of : List ScalePlan → ℕ → ℤ
inner_of scales number = option_map_or (λ (s : ScalePlan). s.inner) (slice_get scales number) (pos 0)

abbrev pub outer_of : List ScalePlan → ℕ → ℤ
outer_of scales number = option_map_or (λ (s : ScalePlan). s.outer) (slice_get scales number) (pos 0)

abbrev pub steps_expr : List ℕ → List ScalePlan → ℤ → ℕ → Expr
steps_expr stem scales step number =
    expr.Binary Mul (expr.Number step) (space_expr (scale_name stem scales number) (inner_of scales number) (outer_of scales number))

abbrev pub size_written : List ℕ → List ScalePlan → SizePlan → Size
size_written stem scales (plan.Pixels n) = size.Number n
size_written stem scales (plan.Steps step number) = size.Signal (steps_expr stem scales step number)

abbrev pub extent_of : List ℕ → List ScalePlan → PlotPlan → Extent
extent_of stem scales plot = record { width = size_written stem scales plot.width; height = size_written stem scales plot.height }

-- The rule at work.

the_code_of_bandspace : index_of builtins (codes "bandspace") ≡ Some bandspace
the_code_of_bandspace = refl
