-- What keeps what the crates below ask for keeps the rules.
use Rattle.std.proofs.Common.{◌≡◌, ℕ, ◌+◌, ◌*◌, ◌^◌, ◌<◌, ◌≤◌, ◌&&◌, ◌||◌, zero, suc, ℤ, pos, ◌≤ℤ◌, Bool, true, false, cond, not, IsTrue}
use Rattle.std.proofs.Common.{IfSome, List, [], ◌∷◌, ◌++◌, Option, Some, None, unwrap_or, nat_lt, nat_le, length, get_or, refl, sym, ap}
use Rattle.std.proofs.Common.{subst, ◌∙◌, arith, append_assoc}
use Rattle.std.specs.Prelude.{◌≢◌}
use Rattle.std.specs.Option.{option_map, option_map_or}
use Rattle.std.specs.List.{All, AllPairs, list_all, list_any}
use Rattle.std.specs.Str.{bytes_eq}
use Rattle.std.proofs.lemmas.Int.{ints}
use Rattle.std.proofs.lemmas.Bool.{false≢true, and_from as both}
use Rattle.std.proofs.lemmas.Bool.Decides.{nat_tests}
use Rattle.std.proofs.lemmas.List.Elements.{All-head, All-tail}
use Rattle.std.proofs.lemmas.Slice.Eq.{bytes_eq-Decides}
use Rattle.fixed_num.specs.Number.{million}
use Rattle.fixed_num.specs.Ranges.{◌>>=◌, is_within}
use Rattle.vega_spec.specs.declared.data.DataSet.{DataSet}
use Rattle.vega_spec.specs.declared.transforms.Transform.{Transform}
use Rattle.vega_spec.specs.declared.guides.Layout.{Layout}
use Rattle.vega_spec.specs.declared.scales.Scale.{Scale as VegaScale}
use Rattle.vega_spec.specs.declared.spec.Size.{Size}
use Rattle.vega_spec.specs.declared.spec.Size.TheVariants as size
use Rattle.vega_spec.specs.declared.spec.VgSpec.{VgSpec}
use Rattle.vega_spec.specs.Names.{sources_of}
use Rattle.vega_lists.specs.Transforms.{transforms_of, is_kept, OfTransforms}
use Rattle.vega_lists.specs.Products.{Products, no_folds, fold_length, fold_product, fold_products, most_folded, ProductsFit, FoldsFit}
use Rattle.vega_lists.specs.Products.{with_product, begun_product, and_its_product, products_after}
use Rattle.scale_kit.specs.Scale.{IsPadding, IsRange}
use Rattle.vega_scales.specs.Scales.{given_ends, is_domain_built, is_ordinal, KeepsBounds}
use Rattle.vega_scales.specs.Scales as scaling
use Rattle.vega_guides.specs.Tested.{is_kept_axis}
use Rattle.vega_guides.specs.Shown.{IsAxis, IsCount}
use Rattle.vega_copies.specs.Outlines.{Object, Marks, NoMarks, AMark, AGroup, outline_of, count_marks, count_groups}
use Rattle.vega_copies.specs.inner.Kept.{IsSizeKept, FoldsFitIn, KeepsObject, KeepsMarks, KeepsAll}
use Rattle.vega_copies.specs.Fitting.{fitted, products_fitted, products_in_copy, folds_fit_in, folds_fit}
use Rattle.vega_copies.specs.Tested.{is_padding, is_pixel, is_range, is_set, has_places, is_scale, is_count, has_columns, is_size, is_space}
use Rattle.vega_copies.specs.Tested.{keeps_object, all_objects, are_few, is_outline, has_sizes, are_new, KeepsRules}
use Rattle.vega_copies.proofs.FitLaw.{is_small}

-- where each has a property, each passes a test
each : {X : Type 0} (p : X → Bool) (P : X → Type 0) → ((x : X) → P x → p x ≡ true) → (xs : List X) → All P xs → list_all p xs ≡ true
each p P says [] h = refl
each p P says (x ∷ xs) h = both (p x) (list_all p xs) (says x (All-head P x xs h)) (each p P says xs (All-tail P x xs h))

-- what has several properties
each_three : (xs : List VegaScale) → All (λ s. IsTrue (scaling.is_built s)) xs → All (λ (s : VegaScale). IsTrue (is_domain_built s.domain)) xs
    → All KeepsBounds xs → ((s : VegaScale) → IsTrue (scaling.is_built s) → IsTrue (is_domain_built s.domain) → KeepsBounds s → is_scale s ≡ true)
    → list_all is_scale xs ≡ true
each_three [] h k l says = refl
each_three (x ∷ xs) h k l says =
    both (is_scale x) (list_all is_scale xs)
    (says x (All-head (λ s. IsTrue (scaling.is_built s)) x xs h) (All-head (λ (s : VegaScale). IsTrue (is_domain_built s.domain)) x xs k)
    (All-head KeepsBounds x xs l))
    (each_three xs (All-tail (λ s. IsTrue (scaling.is_built s)) x xs h) (All-tail (λ (s : VegaScale). IsTrue (is_domain_built s.domain)) x xs k)
    (All-tail KeepsBounds x xs l) says)

within : (low high n : ℤ) → (low ≤ℤ n) × (n ≤ℤ high) → is_within low high n ≡ true
within low high n h = let (l, u) = h in grind (arith, ints)

given : (o : Option ℤ) → IfSome o IsPadding → option_map_or is_padding o true ≡ true
given None h = refl
given (Some n) h = within (pos 0) (pos million) n h

places : (o : Option (ℤ × ℤ)) → IfSome o IsRange → option_map_or is_range o true ≡ true
places None h = refl
places (Some ends) h =
    both (is_pixel ends.0) (is_pixel ends.1) (within (pos 0) (pos (10 ^ 11 * million)) ends.0 h.0)
    (within (pos 0) (pos (10 ^ 11 * million)) ends.1 h.1)

counted : (o : Option ℤ) → IfSome o IsCount → option_map_or is_count o true ≡ true
counted None h = refl
counted (Some n) h = within (pos million) (pos (1000 * million)) n h

either : (a b : Bool) → (a ≡ false → b ≡ true) → (a || b) ≡ true
either true b h = refl
either false b h = h refl

size_kept : (s : Option Size) → IsSizeKept s → is_size s ≡ true
size_kept None h = refl
size_kept (Some (size.Number n)) h = within (pos 0) (pos (10 ^ 11 * million)) n h
size_kept (Some (size.Signal x)) h = refl

space_kept : (o : Option ℤ) → pos 0 ≤ℤ unwrap_or o (pos 0) → unwrap_or o (pos 0) ≤ℤ pos (1000 * million) → option_map_or is_space o true ≡ true
space_kept None low high = refl
space_kept (Some n) low high = within (pos 0) (pos (1000 * million)) n (low, high)

kept_set : (set : DataSet) → OfTransforms is_kept set → is_set set ≡ true
kept_set set h = each is_kept (λ t. IsTrue (is_kept t)) (λ t k. k) (transforms_of set) h

kept_scale : (s : VegaScale) → IsTrue (scaling.is_built s) → IsTrue (is_domain_built s.domain) → KeepsBounds s → is_scale s ≡ true
kept_scale s built domain bounds =
    both (scaling.is_built s) _ built
    (both (is_domain_built s.domain) _ domain
    (both (option_map_or is_padding s.padding true) _ (given s.padding bounds.both)
    (both (option_map_or is_padding s.padding_inner true) _ (given s.padding_inner bounds.inner)
    (both (option_map_or is_padding s.padding_outer true) (has_places s) (given s.padding_outer bounds.outer)
    (either (is_ordinal s) _ (λ other. places (given_ends s.range) (bounds.ends other)))))))

pub object_passes : (o : Object) → KeepsObject o → keeps_object o ≡ true
object_passes o h =
    both (list_all is_set o.sets) _ (each is_set (OfTransforms is_kept) kept_set o.sets h.sets)
    (both (list_all is_scale o.scales) _ (each_three o.scales h.scales h.domains h.bounds kept_scale)
    (both (list_all is_kept_axis o.axes) (has_columns o.layout) (each is_kept_axis IsAxis (λ a k. counted a.tick_count k) o.axes h.axes)
    (counted (o.layout >>= λ (l : Layout). l.columns) h.columns)))

pub marks_pass : (marks : Marks) → KeepsMarks marks → all_objects keeps_object marks ≡ true
marks_pass NoMarks h = refl
marks_pass (AMark unit mark others) h = marks_pass others h
marks_pass (AGroup o inside others) h =
    both (keeps_object o) (all_objects keeps_object inside && all_objects keeps_object others) (object_passes o h.0)
    (both (all_objects keeps_object inside) (all_objects keeps_object others) (marks_pass inside h.1) (marks_pass others h.2))

few : (n : ℕ) → n < 2 ^ 32 → nat_lt n (2 ^ 32) ≡ true
few n h = grind (arith, nat_tests)

-- ---- folds

small : (n : ℕ) → n ≤ most_folded → nat_le n most_folded ≡ true
small n h = grind (arith, nat_tests)

found : (before : ℕ) (ts : List Transform) → ProductsFit before ts → fitted before ts ≡ Some (fold_product before ts)
found before [] h = refl
found before (t ∷ ts) h =
    let product : ℕ = before * fold_length t in
    ap (λ b. cond b (fitted product ts) None) (small product (All-head is_small product (fold_products product ts) h))
    ∙ found product ts (All-tail is_small product (fold_products product ts) h)

sets_found : (products : Products) (sets : List DataSet) → FoldsFit products sets → products_fitted products sets ≡ Some (products_after products sets)
sets_found products [] h = refl
sets_found products (set ∷ others) h =
    ap (λ (o : Option ℕ). option_map (λ p. with_product set.name p products) o >>= λ next. products_fitted next others)
    (found (begun_product products set) (transforms_of set) h.0)
    ∙ sets_found (and_its_product products set) others h.1

object_fits : (products : Products) (sets : List DataSet) (inside : Marks) → FoldsFit products sets
    → folds_fit_in (products_after products sets) inside ≡ true
    → option_map_or (λ next. folds_fit_in next inside) (products_fitted products sets) false ≡ true
object_fits products sets inside h e = ap (λ o. option_map_or (λ next. folds_fit_in next inside) o false) (sets_found products sets h) ∙ e

fit : (products : Products) (marks : Marks) → FoldsFitIn products marks → folds_fit_in products marks ≡ true
fit products NoMarks h = refl
fit products (AMark unit mark others) h = fit products others h
fit products (AGroup o inside others) h =
    let here = products_in_copy o.facet products in
    both (option_map_or (λ next. folds_fit_in next inside) (products_fitted here o.sets) false) (folds_fit_in products others)
    (object_fits here o.sets inside h.0 (fit (products_after here o.sets) inside h.1)) (fit products others h.2)

-- ---- names

not_among : (name : List ℕ) (before : List (List ℕ)) → ((k : ℕ) (d : List ℕ) → k < length before → get_or before k d ≢ name)
    → list_any (bytes_eq name) before ≡ false
not_among name [] h = refl
not_among name (x ∷ xs) h = here (bytes_eq name x) refl (not_among name xs (λ k d less. h (suc k) d (omega (arith, less))))
  where
    here : (b : Bool) → bytes_eq name x ≡ b → list_any (bytes_eq name) xs ≡ false → (b || list_any (bytes_eq name) xs) ≡ false
    here true e rest = absurd (h zero x (omega arith) (sym ((bytes_eq-Decides name x).0 e)))
    here false e rest = rest

fresh : (a b : Bool) → a ≡ false → b ≡ true → (not a && b) ≡ true
fresh true b e f = absurd (false≢true (sym e))
fresh false b e f = f

module _ (name : List ℕ) (names : List (List ℕ)) where
  later : (before : List (List ℕ)) (x : List ℕ) → AllPairs (λ a b. a ≢ b) (x ∷ before ++ name ∷ names)
      → AllPairs (λ a b. a ≢ b) (before ++ name ∷ names)
  later before x h = λ i j d less within. h (suc i) (suc j) d (omega (arith, less)) (omega (arith, within))

  at_end : (before : List (List ℕ)) (d : List ℕ) → get_or (before ++ name ∷ names) (length before) d ≡ name
  at_end [] d = refl
  at_end (x ∷ xs) d = at_end xs d

  long : (before : List (List ℕ)) → length before < length (before ++ name ∷ names)
  long [] = omega arith
  long (x ∷ xs) = let h = long xs in omega (arith, h)

  apart : (before : List (List ℕ)) → AllPairs (λ a b. a ≢ b) (before ++ name ∷ names) → (k : ℕ) (d : List ℕ) → k < length before
      → get_or before k d ≢ name
  apart [] h k d less = absurd (omega (arith, less))
  apart (x ∷ xs) h zero d less = λ same. h zero (suc (length xs)) d (omega arith) (long (x ∷ xs)) (same ∙ sym (at_end (x ∷ xs) d))
  apart (x ∷ xs) h (suc k) d less = apart xs (later xs x h) k d (omega (arith, less))

new_from : (before names : List (List ℕ)) → AllPairs (λ a b. a ≢ b) (before ++ names) → are_new before names ≡ true
new_from before [] h = refl
new_from before (name ∷ names) h =
    fresh (list_any (bytes_eq name) before) (are_new (before ++ name ∷ []) names) (not_among name before (apart name names before h))
    (new_from (before ++ name ∷ []) names (subst (AllPairs (λ a b. a ≢ b)) (sym (append_assoc before (name ∷ []) names)) h))

-- the folds of an object, and those of the groups in it
pub folds_pass : (sets : List DataSet) (marks : Marks) → FoldsFit no_folds sets → FoldsFitIn (products_after no_folds sets) marks → folds_fit sets marks ≡ true
folds_pass sets marks h inside = object_fits no_folds sets marks h (fit (products_after no_folds sets) marks inside)

-- the sizes of a picture
pub sizes_pass : (g : VgSpec) → IsSizeKept g.width → IsSizeKept g.height → pos 0 ≤ℤ unwrap_or g.padding (pos 0)
    → unwrap_or g.padding (pos 0) ≤ℤ pos (1000 * million) → has_sizes g ≡ true
sizes_pass g width height low high =
    both (is_size g.width) _ (size_kept g.width width)
    (both (is_size g.height) (option_map_or is_space g.padding true) (size_kept g.height height) (space_kept g.padding low high))

pub rules_pass : (g : VgSpec) → KeepsAll g → KeepsRules g
rules_pass g h =
    let top = outline_of g in
    both (is_outline keeps_object top) (has_sizes g && are_new [] (sources_of g))
    (both (keeps_object top.object) _ (object_passes top.object h.top)
    (both (all_objects keeps_object top.marks) _ (marks_pass top.marks h.marks)
    (both (are_few top.marks) (folds_fit top.object.sets top.marks)
    (both (nat_lt (count_marks top.marks) (2 ^ 32)) (nat_lt (1 + count_groups top.marks) (2 ^ 32)) (few (count_marks top.marks) h.few_marks)
    (few (1 + count_groups top.marks) h.few_groups))
    (folds_pass top.object.sets top.marks h.folds h.folds_inside))))
    (both (has_sizes g) (are_new [] (sources_of g)) (sizes_pass g h.width h.height h.padding_low h.padding_high) (new_from [] (sources_of g) h.apart))
