-- How a map of kinds takes in one more.
use Rattle.std.proofs.Common.{◌≡◌, ℕ, ◌+◌, ◌<◌, Bool, List, ◌∷◌, Option, Some, drop, get_or, length, map, Bor, sym, ap, ◌∙◌}
use Rattle.std.proofs.lemmas.List.{drop_more}
use Rattle.std.proofs.lemmas.Map.Text.{btree_map_updates_str}
use Rattle.std.specs.Ordering.{nat_cmp}
use Rattle.std.specs.Cmp.Lexicographic.{slice_cmp}
use Rattle.std.specs.Str.{bytes_eq}
use Rattle.std.specs.Map.{update, update_all}
use Rattle.std.specs.BTreeMap as tree
use Rattle.vl_spec.specs.declared.params.ParamOf.{ParamOf}
use Rattle.unit_plan.specs.Selections.{is_select, kind_entry}
use Rattle.unit_plan.specs.inner.Kinds.{kind_in}

abbrev Kind_map : Type 0
Kind_map = tree.BTreeMap (Bor (List ℕ)) Bool

-- the kinds that are left, put in turn into a map that has one more of them
pub one_kind : (old new : Kind_map) (params : List ParamOf) (i : ℕ) (param : ParamOf) (name : List ℕ) (is : Bool) (whole : List ℕ → Option Bool)
    → i < length params → param ≡ get_or params i param → name ≡ param.name → is ≡ is_select param.kind
    → tree.UpdatesBy (λ x y. slice_cmp nat_cmp x.now y.now) (λ k. slice_cmp nat_cmp name k.now) old new (Some is)
    → update_all bytes_eq (kind_in old) (map kind_entry (drop i params)) ≡ whole
    → update_all bytes_eq (kind_in new) (map kind_entry (drop (i + 1) params)) ≡ whole
one_kind old new params i param name is whole lt at named kind updates h =
    let one : kind_in new ≡ update bytes_eq (kind_in old) name (Some is) = λ j cs. btree_map_updates_str name old new (Some is) updates cs j in
    let left : drop i params ≡ param ∷ drop (i + 1) params = drop_more params i param lt ∙ ap (λ e. e ∷ drop (i + 1) params) (sym at) in
    ap (λ f. update_all bytes_eq f (map kind_entry (drop (i + 1) params))) (one ∙ (λ j. update bytes_eq (kind_in old) (named j) (Some (kind j))))
    ∙ ap (λ ps. update_all bytes_eq (kind_in old) (map kind_entry ps)) (sym left) ∙ h
