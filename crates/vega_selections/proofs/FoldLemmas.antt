-- What is gathered of an object and of a mark, from what it has.
use Rattle.std.proofs.Common.{◌≡◌, true, false, cond, Option, Some, None, List, [], ◌∷◌, ◌++◌, map, flat_map, refl, sym, ap, ◌∙◌}
use Rattle.std.specs.Prelude.{unwrap_or, is_some}
use Rattle.vega_spec.specs.declared.spec.Group.{Group, out-Group, map-Group, fold_out-Group}
use Rattle.vega_spec.specs.declared.spec.Group.TheShapes.{former-Group-marks}
use Rattle.vega_spec.specs.declared.spec.VgMark.{VgMark, out-VgMark, map-VgMark, fold_out-VgMark}
use Rattle.vega_selections.specs.declared.plots.Span.{Span}
use Rattle.vega_selections.specs.Marks.{is_group, marks_in, MarkNames, names_here, mark_names_here, names_in, mark_names}
use Rattle.vega_selections.specs.Plots.{as_object, of_group, alone, spans_here, mark_spans_here, spans_in, mark_spans}

-- ---- names

marks_named : (o : Option (List VgMark))
    → flat_map (λ names. names) (unwrap_or (former-Group-marks.map VgMark MarkNames mark_names o) [])
    ≡ flat_map (λ names. names) (map mark_names (unwrap_or o []))
marks_named None = refl
marks_named (Some marks) = refl

names_are : (g : Group) → names_in g ≡ names_here (map-Group Group VgMark MarkNames MarkNames names_in mark_names (out-Group g))
names_are g = fold_out-Group MarkNames MarkNames names_here mark_names_here g

mark_names_are : (m : VgMark) → mark_names m ≡ mark_names_here (map-VgMark Group VgMark MarkNames MarkNames names_in mark_names (out-VgMark m))
mark_names_are m = fold_out-VgMark MarkNames MarkNames names_here mark_names_here m

pub names_of_object : (g : Group) (old new : MarkNames) → new ≡ old ++ flat_map (λ names. names) (map mark_names (marks_in (out-Group g)))
    → new ≡ old ++ names_in g
names_of_object g old new is = is ∙ ap (λ names. old ++ names) (sym (names_are g ∙ marks_named (out-Group g).marks))

pub names_of_group : (m : VgMark) (old new : MarkNames) → is_group (out-VgMark m).type_ ≡ true → new ≡ old ++ names_in (out-VgMark m).group
    → new ≡ old ++ mark_names m
names_of_group m old new group is =
    is ∙ ap (λ names. old ++ names)
    (sym (mark_names_are m ∙ ap (λ b. cond b (names_in (out-VgMark m).group) ((out-VgMark m).name ∷ [])) group))

pub name_of_plain : (m : VgMark) (old new : MarkNames) → is_group (out-VgMark m).type_ ≡ false → new ≡ old ++ (out-VgMark m).name ∷ []
    → new ≡ old ++ mark_names m
name_of_plain m old new plain is =
    is ∙ ap (λ names. old ++ names)
    (sym (mark_names_are m ∙ ap (λ b. cond b (names_in (out-VgMark m).group) ((out-VgMark m).name ∷ [])) plain))

-- ---- spans

pub marks_spanned : (o : Option (List VgMark))
    → flat_map (λ spans. spans) (unwrap_or (former-Group-marks.map VgMark (List Span) mark_spans o) [])
    ≡ flat_map (λ spans. spans) (map mark_spans (unwrap_or o []))
marks_spanned None = refl
marks_spanned (Some marks) = refl

pub spans_are : (g : Group) → spans_in g ≡ spans_here (map-Group Group VgMark (List Span) (List Span) spans_in mark_spans (out-Group g))
spans_are g = fold_out-Group (List Span) (List Span) spans_here mark_spans_here g

pub mark_spans_are : (m : VgMark) → mark_spans m ≡ mark_spans_here (map-VgMark Group VgMark (List Span) (List Span) spans_in mark_spans (out-VgMark m))
mark_spans_are m = fold_out-VgMark (List Span) (List Span) spans_here mark_spans_here m

pub spans_of_object : (g : Group) (inside spans : List Span) → inside ≡ flat_map (λ spans. spans) (map mark_spans (marks_in (out-Group g)))
    → spans ≡ as_object (is_some (out-Group g).layout) inside → spans ≡ spans_in g
spans_of_object g inside spans is whole =
    whole ∙ ap (as_object (is_some (out-Group g).layout)) (is ∙ sym (marks_spanned (out-Group g).marks)) ∙ sym (spans_are g)

pub spans_of_group : (m : VgMark) (inside spans : List Span) → is_group (out-VgMark m).type_ ≡ true → inside ≡ spans_in (out-VgMark m).group
    → spans ≡ of_group (out-VgMark m).from inside → spans ≡ mark_spans m
spans_of_group m inside spans group is whole =
    whole ∙ ap (of_group (out-VgMark m).from) is
    ∙ sym (mark_spans_are m ∙ ap (λ b. cond b (of_group (out-VgMark m).from (spans_in (out-VgMark m).group)) (alone ∷ [])) group)

pub span_of_plain : (m : VgMark) (spans : List Span) → is_group (out-VgMark m).type_ ≡ false → spans ≡ alone ∷ [] → spans ≡ mark_spans m
span_of_plain m spans plain is =
    is ∙ sym (mark_spans_are m ∙ ap (λ b. cond b (of_group (out-VgMark m).from (spans_in (out-VgMark m).group)) (alone ∷ [])) plain)
