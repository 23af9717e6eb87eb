-- The marks of a specification in stretches, as the text has them, with the facets and the scales round them: they are the spans of the marks, and the
-- scales of their plots.
use Rattle.std.proofs.Common.{◌≡◌, ℕ, suc, ◌+◌, Bool, true, false, cond, Option, Some, None, List, [], ◌∷◌, ◌++◌, map, refl, sym, ap, ap₂}
use Rattle.std.proofs.Common.{◌∙◌, append_assoc, append-nil, arith}
use Rattle.std.specs.Prelude.{is_some, unwrap_or}
use Rattle.std.specs.Option.{option_map}
use Rattle.std.proofs.lemmas.List.{map-append}
use Rattle.std.proofs.lemmas.List.Sums.{sum_by-cons}
use Rattle.vega_spec.specs.declared.marks.Facet.{Facet}
use Rattle.vega_spec.specs.declared.scales.Scale.{Scale as VegaScale}
use Rattle.vega_selections.specs.declared.plots.Span.{Span}
use Rattle.vega_selections.specs.Plots.{size_of, whole_plot, as_object, under, all_under, alone}
use Rattle.vega_copies.specs.Outlines.{Object, Marks, NoMarks, AMark, AGroup, numbered, count_marks, count_groups}
use Rattle.vega_meaning.specs.Times.{Scaled, plot_or_grid, scaled_in}

-- ---- stretches

-- marks that follow each other in the text: those of a plot, or one mark in a grid
pub record Stretch : Type 0 where
  pub size : ℕ
  pub is_plot : Bool
  -- the fields of the facets round it; None outside facets
  pub facet : Option (List (List ℕ))
  -- the scales that have names in it, the inner before the outer
  pub scales : List VegaScale

-- what is round marks
pub record Round : Type 0 where
  pub facet : Option (List (List ℕ))
  pub scales : List VegaScale

-- the fields of the facet of an object
abbrev pub own_fields : Object → Option (List (List ℕ))
own_fields o = option_map (λ (f : Facet). f.groupby) o.facet

abbrev pub more_fields : Option (List (List ℕ)) → Option (List (List ℕ)) → Option (List (List ℕ))
more_fields outer None = outer
more_fields None (Some own) = Some own
more_fields (Some outer) (Some own) = Some (outer ++ own)

abbrev pub inside_round : Object → Round → Round
inside_round o r = record { facet = more_fields r.facet (own_fields o); scales = o.scales ++ r.scales }

abbrev pub alone_in : Round → Stretch
alone_in r = record { size = 1; is_plot = false; facet = r.facet; scales = r.scales }

abbrev pub plot_in : ℕ → Round → Stretch
plot_in count r = record { size = count; is_plot = true; facet = r.facet; scales = r.scales }

-- those of an object, where these are those in it as a grid
abbrev pub in_object : Object → ℕ → Round → List Stretch → List Stretch
in_object o count r inside = cond (is_some o.layout) inside (plot_in count r ∷ [])

-- those of marks in a grid
abbrev pub stretches : Round → Marks → List Stretch
stretches r NoMarks = []
stretches r (AMark unit m others) = alone_in r ∷ stretches r others
stretches r (AGroup o inside others) =
    in_object o (count_marks inside) (inside_round o r) (stretches (inside_round o r) inside) ++ stretches r others

-- ---- spans

-- the spans of marks in a grid
abbrev pub spans_of : Marks → List Span
spans_of NoMarks = []
spans_of (AMark unit m others) = alone ∷ spans_of others
spans_of (AGroup o inside others) = all_under (own_fields o) (as_object (is_some o.layout) (spans_of inside)) ++ spans_of others

abbrev pub span_of : Stretch → Span
span_of s = record { size = s.size; is_plot = s.is_plot; facet = s.facet }

-- a span of so many marks in a facet
abbrev span_with : ℕ → Bool → Option (List (List ℕ)) → Span
span_with size is_plot facet = record { size = size; is_plot = is_plot; facet = facet }

under_both : (a b : List (List ℕ)) (s : Span) → under a (under b s) ≡ under (a ++ b) s
under_both a b s =
    ap (λ fields. span_with s.size s.is_plot (Some fields)) (sym (append_assoc a b (unwrap_or s.facet [])))

all_under_both : (a b : List (List ℕ)) (spans : List Span) → map (under a) (map (under b) spans) ≡ map (under (a ++ b)) spans
all_under_both a b [] = refl
all_under_both a b (s ∷ ss) = ap₂ (λ x xs. x ∷ xs) (under_both a b s) (all_under_both a b ss)

under_more : (outer own : Option (List (List ℕ))) (spans : List Span) → all_under outer (all_under own spans) ≡ all_under (more_fields outer own) spans
under_more None None spans = refl
under_more (Some a) None spans = refl
under_more None (Some b) spans = refl
under_more (Some a) (Some b) spans = all_under_both a b spans

under-append : (fields : Option (List (List ℕ))) (a b : List Span) → all_under fields (a ++ b) ≡ all_under fields a ++ all_under fields b
under-append None a b = refl
under-append (Some fields) a b = map-append (under fields) a b

-- a span that stands alone, in a facet
bare_under : (fields : Option (List (List ℕ))) (size : ℕ) (is_plot : Bool)
    → all_under fields (span_with size is_plot None ∷ []) ≡ span_with size is_plot fields ∷ []
bare_under None size is_plot = refl
bare_under (Some fields) size is_plot = ap (λ (fs : List (List ℕ)). span_with size is_plot (Some fs) ∷ []) (append-nil fields)

-- how many marks there are in spans
sizes-append : (a b : List Span) → size_of (a ++ b) ≡ size_of a + size_of b
sizes-append [] b = omega arith
sizes-append (s ∷ ss) b =
    let here = sum_by-cons (λ (x : Span). x.size) s (ss ++ b) in
    let there = sum_by-cons (λ (x : Span). x.size) s ss in
    let rest = sizes-append ss b in
    omega (arith, here, there, rest)

sizes_under : (fields : List (List ℕ)) (spans : List Span) → size_of (map (under fields) spans) ≡ size_of spans
sizes_under fields [] = refl
sizes_under fields (s ∷ ss) =
    let here = sum_by-cons (λ (x : Span). x.size) (under fields s) (map (under fields) ss) in
    let there = sum_by-cons (λ (x : Span). x.size) s ss in
    let rest = sizes_under fields ss in
    omega (arith, here, there, rest)

sizes_all_under : (fields : Option (List (List ℕ))) (spans : List Span) → size_of (all_under fields spans) ≡ size_of spans
sizes_all_under None spans = refl
sizes_all_under (Some fields) spans = sizes_under fields spans

size_of_one : (s : Span) → size_of (s ∷ []) ≡ s.size
size_of_one s = let here = sum_by-cons (λ (x : Span). x.size) s [] in omega (arith, here)

size_as_object : (b : Bool) (spans : List Span) → size_of (as_object b spans) ≡ size_of spans
size_as_object true spans = refl
size_as_object false spans = size_of_one (whole_plot (size_of spans))

pub sizes_count : (marks : Marks) → size_of (spans_of marks) ≡ count_marks marks
sizes_count NoMarks = refl
sizes_count (AMark unit m others) =
    let here = sum_by-cons (λ (x : Span). x.size) alone (spans_of others) in let rest = sizes_count others in omega (arith, here, rest)
sizes_count (AGroup o inside others) =
    sizes-append (all_under (own_fields o) (as_object (is_some o.layout) (spans_of inside))) (spans_of others)
    ∙ ap₂ (λ a b. a + b)
    (sizes_all_under (own_fields o) (as_object (is_some o.layout) (spans_of inside)) ∙ size_as_object (is_some o.layout) (spans_of inside) ∙ sizes_count inside)
    (sizes_count others)

-- the stretches of an object are its spans
pub in_object_spanned : (b : Bool) (r : Round) (own : Option (List (List ℕ))) (facet : Option (List (List ℕ))) (scales : List VegaScale) (count : ℕ)
    (inside : List Span) (here : List Stretch) → facet ≡ more_fields r.facet own → size_of inside ≡ count → map span_of here ≡ all_under facet inside
    → map span_of (cond b here (record { size = count; is_plot = true; facet = facet; scales = scales } ∷ []))
    ≡ all_under r.facet (all_under own (as_object b inside))
in_object_spanned true r own facet scales count inside here is counted same =
    same ∙ ap (λ fields. all_under fields inside) is ∙ sym (under_more r.facet own inside)
in_object_spanned false r own facet scales count inside here is counted same =
    (λ i. span_with (sym counted i) true (is i) ∷ [])
    ∙ sym (bare_under (more_fields r.facet own) (size_of inside) true)
    ∙ sym (under_more r.facet own (whole_plot (size_of inside) ∷ []))

pub spanned : (r : Round) (marks : Marks) → map span_of (stretches r marks) ≡ all_under r.facet (spans_of marks)
spanned r NoMarks = nothing_under r.facet
  where
    nothing_under : (fields : Option (List (List ℕ))) → [] ≡ all_under fields []
    nothing_under None = refl
    nothing_under (Some fields) = refl
spanned r (AMark unit m others) =
    ap (λ xs. span_of (alone_in r) ∷ xs) (spanned r others)
    ∙ ap (λ xs. xs ++ all_under r.facet (spans_of others)) (sym (bare_under r.facet 1 false))
    ∙ sym (under-append r.facet (alone ∷ []) (spans_of others))
spanned r (AGroup o inside others) =
    map-append span_of (in_object o (count_marks inside) (inside_round o r) (stretches (inside_round o r) inside)) (stretches r others)
    ∙ ap₂ (λ a b. a ++ b)
    (in_object_spanned (is_some o.layout) r (own_fields o) (inside_round o r).facet (inside_round o r).scales (count_marks inside) (spans_of inside)
    (stretches (inside_round o r) inside) refl (sizes_count inside) (spanned (inside_round o r) inside))
    (spanned r others)
    ∙ sym (under-append r.facet (all_under (own_fields o) (as_object (is_some o.layout) (spans_of inside))) (spans_of others))

-- numbers have no bearing on spans
pub numbered_spans : (unit number : ℕ) (marks : Marks) → spans_of (numbered unit number marks) ≡ spans_of marks
numbered_spans unit number NoMarks = refl
numbered_spans unit number (AMark old m others) = ap (λ xs. alone ∷ xs) (numbered_spans (suc unit) number others)
numbered_spans unit number (AGroup o inside others) =
    ap₂ (λ a b. all_under (own_fields o) (as_object (is_some o.layout) a) ++ b) (numbered_spans unit (suc number) inside)
    (numbered_spans (unit + count_marks inside) (suc number + count_groups inside) others)

-- ---- scales

abbrev pub scaled_of : Stretch → Scaled
scaled_of s = record { size = s.size; scales = s.scales }

pub in_object_scaled : (b : Bool) (count : ℕ) (r : Round) (here : List Stretch) (inside : List Scaled) → map scaled_of here ≡ inside
    → map scaled_of (cond b here (plot_in count r ∷ [])) ≡ plot_or_grid b count r.scales inside
in_object_scaled true count r here inside is = is
in_object_scaled false count r here inside is = refl

-- the stretches have the scales of their plots
pub scaled : (r : Round) (marks : Marks) → map scaled_of (stretches r marks) ≡ scaled_in r.scales marks
scaled r NoMarks = refl
scaled r (AMark unit m others) = ap (λ xs. scaled_of (alone_in r) ∷ xs) (scaled r others)
scaled r (AGroup o inside others) =
    map-append scaled_of (in_object o (count_marks inside) (inside_round o r) (stretches (inside_round o r) inside)) (stretches r others)
    ∙ ap₂ (λ a b. a ++ b)
    (in_object_scaled (is_some o.layout) (count_marks inside) (inside_round o r) (stretches (inside_round o r) inside) (scaled_in (o.scales ++ r.scales) inside)
    (scaled (inside_round o r) inside))
    (scaled r others)
