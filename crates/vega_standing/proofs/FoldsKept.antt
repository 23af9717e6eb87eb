-- The folds of a whole specification.
use Rattle.std.proofs.Common.{◌≡◌, ℕ, suc, ◌+◌, ◌≤◌, List, [], ◌∷◌, ◌++◌, refl, sym, ap, subst, ◌∙◌, arith}
use Rattle.std.specs.Prelude.{Option, Some, None, Bool, true, ◌||◌, codes, unwrap_or, bytes_eq, IfSome}
use Rattle.std.specs.List.{list_all}
use Rattle.std.proofs.lemmas.List.{append-nil}
use Rattle.std.proofs.lemmas.Slice.Eq.{bytes_eq-Decides}
use Rattle.json_exact.specs.declared.json.Json.{Json}
use Rattle.json_exact.specs.declared.json.Member.{Member}
use Rattle.json_exact.specs.Inside.{members_in}
use Rattle.spec_schema.specs.declared.layout.Rule.{Rule}
use Rattle.vega_schema.specs.declared.codes.TheConstants.{TOP, MARKS}
use Rattle.vega_schema.specs.Guides.{top}
use Rattle.vega_parts.specs.declared.part.Part.{Part}
use Rattle.vega_parts.specs.Trails.{Trail, noted, place_of}
use Rattle.vega_parts.specs.Parts.{parts_of, parts_at}
use Rattle.vega_model.specs.Faults.{first_fault_of}
use Rattle.vega_spec.specs.declared.spec.VgSpec.{VgSpec}
use Rattle.vega_spec.specs.declared.spec.Group.{Group, Group-F}
use Rattle.vega_spec.specs.declared.spec.VgMark.{VgMark}
use Rattle.vega_building.specs.Parts.{members_of, objects_at}
use Rattle.vega_building.specs.Sources.{data_set_of}
use Rattle.vega_building.specs.Spec.{spec_of, spec_with, marks_at}
use Rattle.vega_lists.specs.Products.{Products, no_folds, products_after, FoldsFit}
use Rattle.vega_copies.specs.Outlines.{Object, outline_of, opened, numbered, Marks, NoMarks, AMark, AGroup, count_marks, count_groups}
use Rattle.vega_copies.specs.Fitting.{products_in_copy}
use Rattle.vega_copies.specs.inner.Kept.{FoldsFitIn}
use Rattle.vega_copies.proofs.PassLaw.{folds_pass}
use Rattle.vega_copies.specs.inner.Outlined.{marks_of}
use Rattle.vega_copies.proofs.OutlineLemmas.{opened_object, opened_marks}
use Rattle.vega_standing.specs.OwnNames.{HasOwnNames}
use Rattle.vega_standing.specs.Laws.{KeepsFolds}
use Rattle.vega_standing.proofs.Trees.{Each}
use Rattle.vega_standing.proofs.Stands.{Stands, StandsObject}
use Rattle.vega_standing.proofs.Marks.{group_opened}
use Rattle.vega_standing.proofs.Quiet.{quiet_shape}
use Rattle.vega_standing.proofs.Dull.{is_dull, found_passes}
use Rattle.vega_standing.proofs.Sets.{ruled_as, or_dull}
use Rattle.vega_standing.proofs.ObjectFolds.{DullButTwo, TwoLoud, two_loud}
use Rattle.vega_standing.proofs.FoldWalk.{MarksGo, object_fits}
use Rattle.vega_standing.proofs.MarkFolds.{marks_go}
use Rattle.vega_standing.proofs.GroupFolds.{deep_tree}
use Rattle.vega_standing.proofs.Top.{IsTop, FoldsKeep, the_top}

abbrev top_rule : Rule → Bool
top_rule r = (is_dull r.shape || bytes_eq r.name (codes "marks")) || bytes_eq r.name (codes "data")

top_dull : list_all top_rule top.rules ≡ true
unfolding top
top_dull = refl

top_alone : top.others ≡ None
unfolding top
top_alone = refl

top_but : (m : Member) → DullButTwo top m
top_but m no_set no_marks inner e =
    ruled_as top.rules top.others m.name inner (λ i. is_dull i ≡ true) top_alone
    (λ r found.
    let passed : (bytes_eq r.name m.name ≡ true) × (top_rule r ≡ true) =
    found_passes (λ (r : Rule). bytes_eq r.name m.name) top_rule top.rules r found top_dull in
    let named : r.name ≡ m.name = (bytes_eq-Decides r.name m.name).0 passed.0 in
    or_dull (is_dull r.shape) (bytes_eq r.name (codes "marks"))
    (or_dull (is_dull r.shape || bytes_eq r.name (codes "marks")) (bytes_eq r.name (codes "data"))
    passed.1 (ap (λ n. bytes_eq n (codes "data")) named ∙ no_set))
    (ap (λ n. bytes_eq n (codes "marks")) named ∙ no_marks)) e

each_top : (ms : List Member) → Each (DullButTwo top) ms
each_top [] = tt
each_top (m ∷ ms) = (top_but m, each_top ms)

-- numbers change nothing
numbered_folds : (products : Products) (unit number : ℕ) (marks : Marks) → FoldsFitIn products marks → FoldsFitIn products (numbered unit number marks)
numbered_folds products unit number NoMarks f = tt
numbered_folds products unit number (AMark old m others) f = numbered_folds products (suc unit) number others f
numbered_folds products unit number (AGroup o inside others) f = (
  f.0,
  numbered_folds (products_after (products_in_copy o.facet products) o.sets) unit (suc number) inside f.1,
  numbered_folds products (unit + count_marks inside) (suc number + count_groups inside) others f.2,
)

rules_of_top : (ms : List Member) (trail : Trail) → StandsObject trail top ms → TwoLoud trail top 0 ms
unfolding top
rules_of_top ms trail s = two_loud trail top 0 ms refl refl s.own s.each (each_top ms)

one : 1 ≤ 8
one = omega arith

-- the folds of a specification that is read fit
pub folds_kept : (tree : Json) → HasOwnNames tree → first_fault_of tree ≡ None → FoldsKeep (spec_of tree)
folds_kept tree own e =
    let t : IsTop tree = the_top tree own e in
    let ms : List Member = t.members in
    let two : TwoLoud (noted 0 TOP tree ∷ []) top 0 ms = rules_of_top ms (noted 0 TOP tree ∷ []) t.object in
    let whole : List Part = parts_of tree in
    let fits = object_fits whole t.rules.twice t.rules.unknown t.rules.folds (noted 0 TOP tree) [] refl top ms two (go t two.marks two.marks_stand)
    (parts_at (noted 0 TOP tree ∷ []) tree) (quiet_shape TOP refl refl refl (noted 0 TOP tree ∷ []) tree)
    no_folds [] [] (t.parts ∙ sym (append-nil _)) (λ x u. tt) (λ x u. tt)
    (record { meets = λ name. tt; few = λ name. one }) in
    let g : VgSpec = spec_with ms in
    let is = group_opened ms (marks_at ms (codes "marks")) in
    let sets : (outline_of g).object.sets ≡ unwrap_or (objects_at data_set_of ms (codes "data")) [] =
    ap (λ (o : Object). o.sets) (opened_object g.group) ∙ ap (λ (x : Group-F Group VgMark). unwrap_or x.data_ []) is in
    let marks : (opened g.group).marks ≡ marks_of (unwrap_or (marks_at ms (codes "marks")) []) =
    opened_marks g.group ∙ ap (λ (x : Group-F Group VgMark). marks_of (unwrap_or x.marks [])) is in
    let kept : FoldsKeep g = record {
      folds = subst (FoldsFit no_folds) (sym sets) fits.0;
      folds_inside = numbered_folds (products_after no_folds (outline_of g).object.sets) 0 1 (opened g.group).marks
          (subst (λ ss. FoldsFitIn (products_after no_folds ss) (opened g.group).marks) (sym sets)
          (subst (FoldsFitIn (products_after no_folds (unwrap_or (objects_at data_set_of ms (codes "data")) []))) (sym marks) fits.1));
    } in
    let same : members_of tree ≡ ms = ap (λ o. unwrap_or (members_in o) []) t.opened in
    subst (λ m. FoldsKeep (spec_with m)) (sym same) kept
  where
    go : (t : IsTop tree) (o : Option (ℕ × Json)) → IfSome o (λ (m : ℕ × Json). Stands (noted 0 TOP tree ∷ []) m.0 MARKS m.1) →
        IfSome o (λ (m : ℕ × Json). MarksGo (parts_of tree) t.rules.twice t.rules.unknown t.rules.folds
        (noted 0 TOP tree ∷ []) (place_of (noted 0 TOP tree ∷ []) ++ m.0 ∷ []) m.0 m.1)
    go t None s = tt
    go t (Some m) s = marks_go (parts_of tree) t.rules.twice t.rules.unknown t.rules.folds (noted 0 TOP tree) [] m.0 m.1 s
        (deep_tree (parts_of tree) t.rules.twice t.rules.unknown t.rules.folds m.1) refl

pub all_folds_pass : (tree : Json) → HasOwnNames tree → first_fault_of tree ≡ None → KeepsFolds (spec_of tree)
all_folds_pass tree own e =
    let g : VgSpec = spec_of tree in
    let kept : FoldsKeep g = folds_kept tree own e in
    folds_pass (outline_of g).object.sets (outline_of g).marks kept.folds kept.folds_inside
