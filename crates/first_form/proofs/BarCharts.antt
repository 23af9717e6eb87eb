-- The Vega specification of a form as an outline, and why it keeps the rules.
use Rattle.std.proofs.Common.{◌≡◌, ℕ, ◌&&◌, List, [], ◌∷◌, ◌++◌, map, sym, ap, ◌∙◌, subst, arith}
use Rattle.std.specs.Prelude.{◌≢◌, filter_map}
use Rattle.std.specs.List.{All, AllPairs}
use Rattle.std.proofs.lemmas.List.Elements.{All-nil}
use Rattle.vega_spec.specs.Names.{signals_of, sources_here, mark_sources_here, mark_sources, sources_of}
use Rattle.vega_spec.specs.declared.spec.Group.{Group, Group-F, out-Group, out-roll-Group, fold-roll-Group}
use Rattle.vega_spec.specs.declared.spec.VgMark.{VgMark, VgMark-F, out-VgMark, out-roll-VgMark, fold-roll-VgMark}
use Rattle.vega_spec.specs.declared.spec.VgSpec.{VgSpec}
use Rattle.vega_copies.specs.Outlines.{Object, Opened, Marks, NoMarks, AMark, object_here, opened, numbered, outline_of}
use Rattle.vega_copies.specs.Tested.{keeps_object, is_outline, has_sizes, are_new, KeepsRules}
use Rattle.vega_copies.specs.inner.Outlined.{marks_in, marks_of, is_group, plain_of}
use Rattle.vega_copies.proofs.OutlineLemmas.{opened_object, opened_marks, plain_from}
use Rattle.vega_selections.specs.Kept.{selection_name, IsKept, KeepsSelections}
use Rattle.vega_selections.specs.Marks.{names_in}
use Rattle.vega_selections.specs.Selections.{selection_in, selections_of}
use Rattle.first_form.specs.declared.form.FirstForm.{FirstForm}
use Rattle.first_form.specs.Opening.{no_parts, mark_parts, bars_mark, bars_parts, bars_group, bars_of}
use Rattle.first_form.specs.Laws.{BarsKeepRules}

-- what the group and the mark of the bars are
pub opened_group : (form : FirstForm) → out-Group (bars_group form) ≡ bars_parts form
opened_group form = out-roll-Group (bars_parts form)

pub opened_mark : (form : FirstForm) → out-VgMark (bars_mark form) ≡ mark_parts form
opened_mark form = out-roll-VgMark (mark_parts form)

-- the top with the one mark in it
abbrev pub bars_object : FirstForm → Object
bars_object form = object_here (bars_parts form)

abbrev pub the_bars : FirstForm → Marks
the_bars form = AMark 0 (plain_of (mark_parts form)) NoMarks

abbrev pub bars_outline : FirstForm → Opened
bars_outline form = record { object = bars_object form; marks = the_bars form }

pub outlined : (form : FirstForm) → outline_of (bars_of form) ≡ bars_outline form
outlined form =
    let object : (opened (bars_group form)).object ≡ bars_object form =
    opened_object (bars_group form) ∙ ap (λ (g : Group-F Group VgMark). object_here g) (opened_group form) in
    let marks : numbered 0 1 (opened (bars_group form)).marks ≡ the_bars form =
    ap (numbered 0 1) (opened_marks (bars_group form) ∙ ap (λ (g : Group-F Group VgMark). marks_of (marks_in g)) (opened_group form))
    ∙ plain_from 0 1 (bars_mark form) [] (ap is_group (opened_mark form))
    ∙ ap (λ (m : VgMark-F Group VgMark). AMark 0 (plain_of m) NoMarks) (opened_mark form) in
    λ i. record { object = object i; marks = marks i }

-- the one source of the Vega specification
pub named_sources : (form : FirstForm) → sources_of (bars_of form) ≡ form.name ∷ []
named_sources form =
    fold-roll-Group (List (List ℕ)) (List (List ℕ)) sources_here mark_sources_here (bars_parts form)
    ∙ ap (λ names. (form.name ∷ []) ++ (names ++ [])) (mark_none form)
  where
    mark_none : (form : FirstForm) → mark_sources (bars_mark form) ≡ []
    mark_none form =
        fold-roll-VgMark (List (List ℕ)) (List (List ℕ)) sources_here mark_sources_here (mark_parts form)
        ∙ fold-roll-Group (List (List ℕ)) (List (List ℕ)) sources_here mark_sources_here no_parts

-- it has no selections
pub no_selections : (form : FirstForm) → selections_of (bars_of form) ≡ []
no_selections form = ap (λ (top : Group-F Group VgMark). filter_map (selection_in (names_in (bars_group form))) (signals_of top)) (opened_group form)

none_kept : (g : VgSpec) → selections_of g ≡ [] → KeepsSelections g
none_kept g none = record {
  own_names = subst (λ selections. AllPairs (λ a b. a ≢ b) (map selection_name selections)) (sym none) (λ i j d before within. absurd (omega (arith, within)));
  each = subst (All IsKept) (sym none) (All-nil IsKept);
}

rules_kept : (form : FirstForm) → KeepsRules (bars_of form)
rules_kept form = λ i. is_outline keeps_object (outlined form i) && (has_sizes (bars_of form) && are_new [] (named_sources form i))

pub bars_keep_rules : BarsKeepRules
bars_keep_rules form = (rules_kept form, none_kept (bars_of form) (no_selections form))
