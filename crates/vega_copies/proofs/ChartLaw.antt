-- What follows of the rules that a specification keeps.
use Rattle.std.proofs.Common.{◌≡◌, ℕ, ◌+◌, ◌*◌, ◌^◌, ◌<◌, ◌&&◌, ◌||◌, ℤ, pos, ◌≤ℤ◌, Bool, true, false, IsTrue, IfSome, List, [], ◌∷◌, Option}
use Rattle.std.proofs.Common.{Some, None, unwrap_or, nat_lt, sym, subst, arith}
use Rattle.std.specs.Option.{option_map_or}
use Rattle.std.specs.List.{All, list_all}
use Rattle.std.proofs.lemmas.Int.{ints}
use Rattle.std.proofs.lemmas.Bool.{false≢true, and_parts as both}
use Rattle.std.proofs.lemmas.Bool.Decides.{nat_tests}
use Rattle.std.proofs.lemmas.List.Elements.{All-cons, All-nil}
use Rattle.fixed_num.specs.Number.{million}
use Rattle.fixed_num.specs.Ranges.{◌>>=◌, is_within}
use Rattle.vega_spec.specs.declared.data.DataSet.{DataSet}
use Rattle.vega_spec.specs.declared.guides.Axis.{Axis}
use Rattle.vega_spec.specs.declared.guides.Layout.{Layout}
use Rattle.vega_spec.specs.declared.scales.Scale.{Scale as VegaScale}
use Rattle.vega_spec.specs.declared.spec.Group.{out-Group}
use Rattle.vega_spec.specs.declared.spec.Size.{Size}
use Rattle.vega_spec.specs.declared.spec.Size.TheVariants as size
use Rattle.vega_spec.specs.declared.spec.VgSpec.{VgSpec}
use Rattle.vega_spec.specs.Names.{sources_of}
use Rattle.vega_lists.specs.Transforms.{transforms_of, is_kept, OfTransforms}
use Rattle.vega_lists.specs.Products.{no_folds, FoldsFit}
use Rattle.scale_kit.specs.Scale.{IsPadding, IsRange}
use Rattle.vega_scales.specs.Scales.{given_ends, is_domain_built, is_ordinal, KeepsBounds}
use Rattle.vega_scales.specs.Scales as scaling
use Rattle.vega_signals.specs.Signals.{data_of}
use Rattle.vega_guides.specs.Tested.{is_kept_axis}
use Rattle.vega_guides.specs.Shown.{IsAxis, IsCount}
use Rattle.vega_copies.specs.Outlines.{Object, Marks, NoMarks, AMark, AGroup, outline_of, count_marks, count_groups}
use Rattle.vega_copies.specs.inner.Kept.{IsSizeKept, KeepsObject, KeepsMarks, KeepsAll}
use Rattle.vega_copies.specs.Fitting.{folds_fit}
use Rattle.vega_copies.specs.Tested.{is_padding, is_pixel, is_range, is_set, has_places, is_scale, is_count, is_size, is_space}
use Rattle.vega_copies.specs.Tested.{keeps_object, all_objects, are_few, is_outline, has_sizes, are_new, KeepsRules}
use Rattle.vega_copies.proofs.FitLaw as fit
use Rattle.vega_copies.proofs.NewNames.{apart}
use Rattle.vega_copies.proofs.OutlineLemmas.{opened_object}

holds : (b : Bool) → b ≡ true → IsTrue b
holds b e = e

-- what a test holds of, one by one
each : {X : Type 0} (p : X → Bool) (P : X → Type 0) → ((x : X) → p x ≡ true → P x) → (xs : List X) → list_all p xs ≡ true → All P xs
each p P says [] e = All-nil P
each p P says (x ∷ xs) e =
    let h = both (p x) (list_all p xs) e in All-cons P x xs (says x h.0) (each p P says xs h.1)

within : (low high n : ℤ) → is_within low high n ≡ true → (low ≤ℤ n) × (n ≤ℤ high)
within low high n e = (grind (arith, ints), grind (arith, ints))

given : (o : Option ℤ) → option_map_or is_padding o true ≡ true → IfSome o IsPadding
given None e = tt
given (Some n) e = within (pos 0) (pos million) n e

places : (o : Option (ℤ × ℤ)) → option_map_or is_range o true ≡ true → IfSome o IsRange
places None e = tt
places (Some ends) e =
    let h = both (is_pixel ends.0) (is_pixel ends.1) e in
    (within (pos 0) (pos (10 ^ 11 * million)) ends.0 h.0, within (pos 0) (pos (10 ^ 11 * million)) ends.1 h.1)

counted : (o : Option ℤ) → option_map_or is_count o true ≡ true → IfSome o IsCount
counted None e = tt
counted (Some n) e = within (pos million) (pos (1000 * million)) n e

either : (a b : Bool) → (a || b) ≡ true → a ≡ false → b ≡ true
either true b e f = absurd (false≢true (sym f))
either false b e f = e

size_kept : (s : Option Size) → is_size s ≡ true → IsSizeKept s
size_kept None e = tt
size_kept (Some (size.Number n)) e = within (pos 0) (pos (10 ^ 11 * million)) n e
size_kept (Some (size.Signal x)) e = tt

space_kept : (o : Option ℤ) → option_map_or is_space o true ≡ true
    → (pos 0 ≤ℤ unwrap_or o (pos 0)) × (unwrap_or o (pos 0) ≤ℤ pos (1000 * million))
space_kept None e = (omega (arith, ints), omega (arith, ints))
space_kept (Some n) e = within (pos 0) (pos (1000 * million)) n e

kept_set : (set : DataSet) → is_set set ≡ true → OfTransforms is_kept set
kept_set set e = each is_kept (λ t. IsTrue (is_kept t)) (λ t h. holds (is_kept t) h) (transforms_of set) e

kept_axis : (a : Axis) → is_kept_axis a ≡ true → IsAxis a
kept_axis a e = counted a.tick_count e

module _ (s : VegaScale) (e : is_scale s ≡ true) where
  rest_of_domain : (is_domain_built s.domain && (option_map_or is_padding s.padding true && (option_map_or is_padding s.padding_inner true
      && (option_map_or is_padding s.padding_outer true && has_places s)))) ≡ true
  rest_of_domain = (both (scaling.is_built s) _ e).1

  built_scale : IsTrue (scaling.is_built s)
  built_scale = holds _ (both (scaling.is_built s) _ e).0

  built_domain : IsTrue (is_domain_built s.domain)
  built_domain = holds _ (both (is_domain_built s.domain) _ rest_of_domain).0

  kept_bounds : KeepsBounds s
  kept_bounds =
      let a = (both (is_domain_built s.domain) _ rest_of_domain).1 in
      let b = both (option_map_or is_padding s.padding true) _ a in
      let c = both (option_map_or is_padding s.padding_inner true) _ b.1 in
      let d = both (option_map_or is_padding s.padding_outer true) _ c.1 in
      record {
        both = given s.padding b.0;
        inner = given s.padding_inner c.0;
        outer = given s.padding_outer d.0;
        ends = λ other. places (given_ends s.range) (either (is_ordinal s) _ d.1 other);
      }

-- what an object keeps
object_kept : (o : Object) → keeps_object o ≡ true → KeepsObject o
object_kept o e =
    let sets = both (list_all is_set o.sets) _ e in
    let scales = both (list_all is_scale o.scales) _ sets.1 in
    let axes = both (list_all is_kept_axis o.axes) _ scales.1 in
    record {
      sets = each is_set (OfTransforms is_kept) kept_set o.sets sets.0;
      scales = each is_scale (λ s. IsTrue (scaling.is_built s)) built_scale o.scales scales.0;
      domains = each is_scale (λ (s : VegaScale). IsTrue (is_domain_built s.domain)) built_domain o.scales scales.0;
      bounds = each is_scale KeepsBounds kept_bounds o.scales scales.0;
      axes = each is_kept_axis IsAxis kept_axis o.axes axes.0;
      columns = counted (o.layout >>= λ (l : Layout). l.columns) axes.1;
    }

-- the same of each object among marks
marks_kept : (marks : Marks) → all_objects keeps_object marks ≡ true → KeepsMarks marks
marks_kept NoMarks e = tt
marks_kept (AMark unit mark others) e = marks_kept others e
marks_kept (AGroup o inside others) e =
    let own = both (keeps_object o) _ e in
    let parts = both (all_objects keeps_object inside) (all_objects keeps_object others) own.1 in
    (object_kept o own.0, marks_kept inside parts.0, marks_kept others parts.1)

few : (n : ℕ) → nat_lt n (2 ^ 32) ≡ true → n < 2 ^ 32
few n e = grind (arith, nat_tests)

pub rules_kept : (g : VgSpec) → KeepsRules g → KeepsAll g
rules_kept g e =
    let top = outline_of g in
    let parts = both (is_outline keeps_object top) (has_sizes g && are_new [] (sources_of g)) e in
    let object = both (keeps_object top.object) _ parts.0 in
    let marks = both (all_objects keeps_object top.marks) _ object.1 in
    let counts = both (are_few top.marks) (folds_fit top.object.sets top.marks) marks.1 in
    let numbers = both (nat_lt (count_marks top.marks) (2 ^ 32)) (nat_lt (1 + count_groups top.marks) (2 ^ 32)) counts.0 in
    let folds = fit.law top.object.sets top.marks counts.1 in
    let others = both (has_sizes g) (are_new [] (sources_of g)) parts.1 in
    let width = both (is_size g.width) _ others.0 in
    let height = both (is_size g.height) (option_map_or is_space g.padding true) width.1 in
    let space = space_kept g.padding height.1 in
    record {
      top = object_kept top.object object.0;
      marks = marks_kept top.marks marks.0;
      folds = folds.0;
      folds_inside = folds.1;
      few_marks = few (count_marks top.marks) numbers.0;
      few_groups = few (1 + count_groups top.marks) numbers.1;
      width = size_kept g.width width.0;
      height = size_kept g.height height.0;
      padding_low = space.0;
      padding_high = space.1;
      apart = apart (sources_of g) others.1;
    }

-- what the data sets of the top keep
pub sets_of_top : (g : VgSpec) → KeepsAll g → All (OfTransforms is_kept) (data_of (out-Group g.group))
sets_of_top g h = subst (λ (o : Object). All (OfTransforms is_kept) o.sets) (opened_object g.group) h.top.sets

pub folds_of_top : (g : VgSpec) → KeepsAll g → FoldsFit no_folds (data_of (out-Group g.group))
folds_of_top g h = subst (λ (o : Object). FoldsFit no_folds o.sets) (opened_object g.group) h.folds
