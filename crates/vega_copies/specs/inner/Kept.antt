-- What specifications keep that break no rule, in the words of the crates that ask for it.
use Rattle.std.specs.Prelude.{◌≢◌, ◌+◌, ◌<◌, ◌^◌, ◌*◌, IsTrue, Option, Some, None, ◌≤ℤ◌, pos, unwrap_or, IfSome}
use Rattle.std.specs.List.{All, AllPairs}
use Rattle.fixed_num.specs.Number.{million}
use Rattle.fixed_num.specs.Ranges.{◌>>=◌}
use Rattle.scale_kit.specs.Scale.{IsPixel}
use Rattle.vega_spec.specs.declared.guides.Layout.{Layout}
use Rattle.vega_spec.specs.declared.scales.Scale.{Scale as VegaScale}
use Rattle.vega_spec.specs.declared.spec.Size.{Size}
use Rattle.vega_spec.specs.declared.spec.Size.TheVariants as size
use Rattle.vega_spec.specs.declared.spec.VgSpec.{VgSpec}
use Rattle.vega_spec.specs.Names.{sources_of}
use Rattle.vega_lists.specs.Transforms.{OfTransforms, is_kept}
use Rattle.vega_lists.specs.Products.{Products, no_folds, products_after, FoldsFit}
use Rattle.vega_scales.specs.Scales.{KeepsBounds, is_domain_built}
use Rattle.vega_scales.specs.Scales as scaling
use Rattle.vega_guides.specs.Shown.{IsAxis, IsCount}
use Rattle.vega_copies.specs.Outlines.{Object, Marks, NoMarks, AMark, AGroup, outline_of, count_marks, count_groups}
use Rattle.vega_copies.specs.Fitting.{products_in_copy}

-- what an object keeps
pub record KeepsObject (o : Object) : Type 0 where
  pub sets : All (OfTransforms is_kept) o.sets
  pub scales : All (λ s. IsTrue (scaling.is_built s)) o.scales
  pub domains : All (λ (s : VegaScale). IsTrue (is_domain_built s.domain)) o.scales
  pub bounds : All KeepsBounds o.scales
  pub axes : All IsAxis o.axes
  pub columns : IfSome (o.layout >>= λ (l : Layout). l.columns) IsCount

-- what each object among marks keeps
abbrev pub KeepsMarks : Marks → Type 0
KeepsMarks NoMarks = Unit {0}
KeepsMarks (AMark unit mark others) = KeepsMarks others
KeepsMarks (AGroup o inside others) = KeepsObject o × KeepsMarks inside × KeepsMarks others

-- On no path of data sets does the product of the lengths of folds pass the greatest, also of paths that begin outside of a group.
abbrev pub FoldsFitIn : Products → Marks → Type 0
FoldsFitIn products NoMarks = Unit {0}
FoldsFitIn products (AMark unit mark others) = FoldsFitIn products others
FoldsFitIn products (AGroup o inside others) =
    FoldsFit (products_in_copy o.facet products) o.sets
    × FoldsFitIn (products_after (products_in_copy o.facet products) o.sets) inside × FoldsFitIn products others

-- a written size is one that specifications may have
abbrev pub IsSizeKept : Option Size → Type 0
IsSizeKept None = Unit {0}
IsSizeKept (Some (size.Number n)) = IsPixel n
IsSizeKept (Some (size.Signal e)) = Unit {0}

-- what a specification keeps that breaks no rule
pub record KeepsAll (g : VgSpec) : Type 0 where
  pub top : KeepsObject (outline_of g).object
  pub marks : KeepsMarks (outline_of g).marks
  pub folds : FoldsFit no_folds (outline_of g).object.sets
  pub folds_inside : FoldsFitIn (products_after no_folds (outline_of g).object.sets) (outline_of g).marks
  pub few_marks : count_marks (outline_of g).marks < 2 ^ 32
  pub few_groups : 1 + count_groups (outline_of g).marks < 2 ^ 32
  pub width : IsSizeKept g.width
  pub height : IsSizeKept g.height
  pub padding_low : pos 0 ≤ℤ unwrap_or g.padding (pos 0)
  pub padding_high : unwrap_or g.padding (pos 0) ≤ℤ pos (1000 * million)
  pub apart : AllPairs (λ a b. a ≢ b) (sources_of g)
