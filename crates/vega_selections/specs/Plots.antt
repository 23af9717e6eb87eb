-- The plots of a specification: the top and each group under an object with a layout, where it has no layout of its own. A group under an object
-- without a layout draws its marks in the plot round it.
use Rattle.std.specs.Prelude.{◌≡◌, refl, ℕ, zero, suc, ◌+◌, ◌==◌, Bool, true, false, not, ◌&&◌, if◌then◌else◌, Option, Some, None, is_some}
use Rattle.std.specs.Prelude.{List, [], ◌∷◌, ◌++◌, map, flat_map, unwrap_or, sum_by, codes}
use Rattle.vega_spec.specs.declared.marks.MarkFrom.{MarkFrom}
use Rattle.vega_spec.specs.declared.marks.MarkFrom.TheVariants as from
use Rattle.vega_spec.specs.declared.spec.Group.{Group, Group-F, fold-Group}
use Rattle.vega_spec.specs.declared.spec.VgMark.{VgMark, VgMark-F, fold-VgMark}
use Rattle.vega_spec.specs.declared.spec.VgSpec.{VgSpec}
use Rattle.selection_events.specs.declared.selection.PlotOf.{PlotOf}
use Rattle.vega_selections.specs.declared.plots.Span.{Span}
use Rattle.vega_selections.specs.Marks.{is_group}

-- ---- marks that follow each other in the text

-- how many marks there are in several spans
abbrev pub size_of : List Span → ℕ
size_of spans = sum_by (λ (s : Span). s.size) spans

-- the span of a plot of so many marks
abbrev pub whole_plot : ℕ → Span
whole_plot size = record { size = size; is_plot = true; facet = None }

-- the spans of an object: an object with a layout has those in it; another is a plot, and draws all marks in it
abbrev pub as_object : Bool → List Span → List Span
as_object true inside = inside
as_object false inside = whole_plot (size_of inside) ∷ []

-- the fields of the facet of a group, if it has one
abbrev pub fields_of : Option MarkFrom → Option (List (List ℕ))
fields_of None = None
fields_of (Some (from.Data name)) = None
fields_of (Some (from.Facet facet)) = Some facet.groupby

-- a span in a facet by these fields, which come before those of the facets in it
abbrev pub under : List (List ℕ) → Span → Span
under fields span = record { size = span.size; is_plot = span.is_plot; facet = Some (fields ++ unwrap_or span.facet []) }

-- spans in a facet, if there is one
abbrev pub all_under : Option (List (List ℕ)) → List Span → List Span
all_under None spans = spans
all_under (Some fields) spans = map (under fields) spans

-- the spans of a group
abbrev pub of_group : Option MarkFrom → List Span → List Span
of_group source spans = all_under (fields_of source) spans

-- a mark alone
abbrev pub alone : Span
alone = record { size = 1; is_plot = false; facet = None }

-- the spans of an object, from those of each of its marks
abbrev pub spans_here : Group-F (List Span) (List Span) → List Span
spans_here g = as_object (is_some g.layout) (flat_map (λ spans. spans) (unwrap_or g.marks []))

-- those of a mark
abbrev pub mark_spans_here : VgMark-F (List Span) (List Span) → List Span
mark_spans_here m = if is_group m.type_ then of_group m.from m.group else alone ∷ []

-- the spans of an object, in the order of the text
abbrev pub spans_in : Group → List Span
spans_in = fold-Group (List Span) (List Span) spans_here mark_spans_here

-- those of a mark
abbrev pub mark_spans : VgMark → List Span
mark_spans = fold-VgMark (List Span) (List Span) spans_here mark_spans_here

-- ---- plots

-- so many numbers, from one on
abbrev pub numbers_from : ℕ → ℕ → List ℕ
numbers_from n zero = []
numbers_from n (suc count) = n ∷ numbers_from (n + 1) count

-- the plot of a span whose first mark has this number, where it is one with marks
abbrev pub plot_at : ℕ → Span → List PlotOf
plot_at unit span =
    if span.is_plot && not (span.size == 0) then record { units = numbers_from unit span.size; facet = span.facet } ∷ [] else []

-- the plots of spans whose marks are numbered from a number on
abbrev pub numbered : ℕ → List Span → List PlotOf
numbered unit [] = []
numbered unit (span ∷ spans) = plot_at unit span ++ numbered (unit + span.size) spans

-- the plots with marks of a specification, in the order of the text
abbrev pub plots_of : VgSpec → List PlotOf
plots_of g = numbered 0 (spans_in g.group)

-- The rules at work.

-- two plots in a facet, one without marks and one with a mark
abbrev some_spans : List Span
some_spans = all_under (Some (codes "c" ∷ [])) (whole_plot 2 ∷ whole_plot 1 ∷ []) ++ whole_plot 0 ∷ whole_plot 1 ∷ []

units_of_plots : numbered 0 some_spans
    ≡ record { units = 0 ∷ 1 ∷ []; facet = Some (codes "c" ∷ []) } ∷ record { units = 2 ∷ []; facet = Some (codes "c" ∷ []) }
    ∷ record { units = 3 ∷ []; facet = None } ∷ []
units_of_plots = refl

-- the marks of a group without a layout belong to the plot round it, whatever its facet
groups_in_a_plot : as_object false (all_under (Some (codes "c" ∷ [])) (whole_plot 2 ∷ []) ++ alone ∷ []) ≡ whole_plot 3 ∷ []
groups_in_a_plot = refl

outer_fields_come_first : all_under (Some (codes "o" ∷ [])) (all_under (Some (codes "i" ∷ [])) (whole_plot 1 ∷ []))
    ≡ record { size = 1; is_plot = true; facet = Some (codes "o" ∷ codes "i" ∷ []) } ∷ []
outer_fields_come_first = refl
