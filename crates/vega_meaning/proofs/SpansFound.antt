-- The spans of a specification are those of its outline.
use Rattle.std.proofs.Common.{◌≡◌, Bool, true, false, cond, Option, Some, None, List, [], ◌∷◌, ◌++◌, map, refl, sym, ap, ap₂, subst, ◌∙◌}
use Rattle.std.specs.Prelude.{flat_map, unwrap_or, is_some}
use Rattle.std.specs.Option.{option_map}
use Rattle.vega_spec.specs.declared.marks.Facet.{Facet}
use Rattle.vega_spec.specs.declared.marks.MarkFrom.{MarkFrom}
use Rattle.vega_spec.specs.declared.marks.MarkFrom.TheVariants as from
use Rattle.vega_spec.specs.declared.marks.MarkType.{MarkType}
use Rattle.vega_spec.specs.declared.marks.MarkType.TheVariants as mark
use Rattle.vega_spec.specs.declared.spec.Group.{Group, Group-F, Group', out-Group, outs-Group'}
use Rattle.vega_spec.specs.declared.spec.Group.{Held-Group-marks, None', Some', Row_of-VgMark, end_of-VgMark}
use Rattle.vega_spec.specs.declared.spec.Group.{more_of-VgMark, items-the_row-VgMark, items_shown-the_row-VgMark-0, view-Group-marks}
use Rattle.vega_spec.specs.declared.spec.VgMark.{VgMark, VgMark-F, VgMark', out-VgMark, outs-VgMark'}
use Rattle.vega_spec.specs.declared.spec.VgSpec.{VgSpec}
use Rattle.vega_selections.specs.Marks as marks
use Rattle.vega_selections.specs.Plots.{as_object, all_under, of_group, fields_of, alone, spans_in, mark_spans}
use Rattle.vega_selections.proofs.FoldLemmas.{marks_spanned, spans_are, mark_spans_are}
use Rattle.vega_copies.specs.Outlines.{Marks, facet_in, opened, outline_of}
use Rattle.vega_copies.specs.inner.Outlined.{marks_in, is_group, is_group_type, before_of, marks_of}
use Rattle.vega_copies.proofs.OutlineLemmas.{opened_object, opened_marks, plain_first, group_first}
use Rattle.vega_meaning.proofs.Stretches.{spans_of, numbered_spans}
use Rattle.vega_meaning.proofs.DrawnFacts.{Each}

same_types : (t : MarkType) → marks.is_group t ≡ is_group_type t
same_types mark.Rect = refl
same_types mark.Symbol = refl
same_types mark.Line = refl
same_types mark.Area = refl
same_types mark.Rule = refl
same_types mark.Text = refl
same_types mark.Group = refl

same_fields : (source : Option MarkFrom) → fields_of source ≡ option_map (λ (f : Facet). f.groupby) (facet_in source)
same_fields None = refl
same_fields (Some (from.Data name)) = refl
same_fields (Some (from.Facet facet)) = refl

-- the spans of a group, and those of a mark before others
abbrev GroupSpanned : Group → Type 0
GroupSpanned g = spans_in g ≡ as_object (is_some (out-Group g).layout) (spans_of (marks_of (marks_in (out-Group g))))

abbrev MarkSpanned : VgMark → Type 0
MarkSpanned m = (others : Marks) → spans_of (before_of m others) ≡ mark_spans m ++ spans_of others

below_spanned : (ms : List VgMark) → Each MarkSpanned ms → spans_of (marks_of ms) ≡ flat_map (λ spans. spans) (map mark_spans ms)
below_spanned [] each = refl
below_spanned (m ∷ ms) each = each.0 (marks_of ms) ∙ ap (λ rest. mark_spans m ++ rest) (below_spanned ms each.1)

group_from_marks : (g : Group) → Each MarkSpanned (marks_in (out-Group g)) → GroupSpanned g
group_from_marks g each =
    spans_are g
    ∙ ap (as_object (is_some (out-Group g).layout)) (marks_spanned (out-Group g).marks ∙ sym (below_spanned (marks_in (out-Group g)) each))

mark_from_group : (m : VgMark) → GroupSpanned (out-VgMark m).group → MarkSpanned m
mark_from_group m group others = by_type (is_group (out-VgMark m)) refl
  where
    by_type : (b : Bool) → is_group (out-VgMark m) ≡ b → spans_of (before_of m others) ≡ mark_spans m ++ spans_of others
    by_type false e =
        ap spans_of (plain_first m others e)
        ∙ ap (λ own. own ++ spans_of others)
        (sym (mark_spans_are m ∙ ap (λ b. cond b (of_group (out-VgMark m).from (spans_in (out-VgMark m).group)) (alone ∷ []))
        (same_types (out-VgMark m).type_ ∙ e)))
    by_type true e =
        ap spans_of (group_first m others e)
        ∙ ap (λ own. own ++ spans_of others)
        (ap₂ all_under (sym (same_fields (out-VgMark m).from)) (sym group)
        ∙ sym (mark_spans_are m ∙ ap (λ b. cond b (of_group (out-VgMark m).from (spans_in (out-VgMark m).group)) (alone ∷ []))
        (same_types (out-VgMark m).type_ ∙ e)))

mutual
  group_spanned : (g : Group) → GroupSpanned g
  group_spanned (Group' ds ss sc la ms ax le ti) =
      group_from_marks (Group' ds ss sc la ms ax le ti)
      (subst (λ (x : Group-F Group VgMark). Each MarkSpanned (marks_in x)) (sym (outs-Group' ds ss sc la ms ax le ti)) (held_spanned ms))

  held_spanned : (held : Held-Group-marks) → Each MarkSpanned (unwrap_or (view-Group-marks held) [])
  held_spanned None' = tt
  held_spanned (Some' shape row) = subst (Each MarkSpanned) (sym (items_shown-the_row-VgMark-0 shape row)) (row_spanned row)

  row_spanned : {n : _} (row : Row_of-VgMark n) → Each MarkSpanned (items-the_row-VgMark n row)
  row_spanned end_of-VgMark = tt
  row_spanned (more_of-VgMark m others) = (mark_spanned m, row_spanned others)

  mark_spanned : (m : VgMark) → MarkSpanned m
  mark_spanned (VgMark' t n f e s g) =
      mark_from_group (VgMark' t n f e s g)
      (subst (λ (x : VgMark-F Group VgMark). GroupSpanned x.group) (sym (outs-VgMark' t n f e s g)) (group_spanned g))

-- the spans of a specification, by its outline
pub outline_spans : (g : VgSpec) → spans_in g.group ≡ as_object (is_some (outline_of g).object.layout) (spans_of (outline_of g).marks)
outline_spans g =
    group_spanned g.group
    ∙ ap₂ (λ b spans. as_object b spans) (ap (λ o. is_some o.layout) (sym (opened_object g.group)))
    (ap spans_of (sym (opened_marks g.group)) ∙ sym (numbered_spans 0 1 (opened g.group).marks))
