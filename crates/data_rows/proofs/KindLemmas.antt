-- How a map of kinds takes in one more.
use Rattle.std.proofs.Common.{◌≡◌, ℕ, ◌+◌, ◌<◌, List, ◌∷◌, Option, Some, drop, get_or, length, Bor, sym, ap, ◌∙◌}
use Rattle.std.proofs.lemmas.List.{drop_more}
use Rattle.std.proofs.lemmas.Map.Text.{btree_map_updates_str}
use Rattle.std.specs.Ordering.{nat_cmp}
use Rattle.std.specs.Cmp.Lexicographic.{slice_cmp}
use Rattle.std.specs.Str.{bytes_eq}
use Rattle.std.specs.Map.{update, update_all}
use Rattle.std.specs.BTreeMap as tree
use Rattle.data_rows.specs.declared.kinds.ParseKind.{ParseKind}
use Rattle.data_rows.specs.inner.Kinds.{kind_in}

abbrev Kind_map : Type 0
Kind_map = tree.BTreeMap (Bor (List ℕ)) ParseKind

-- the kinds that are left, put in turn into a map that has one more of them
pub one_kind : (old new : Kind_map) (parse : List (List ℕ × ParseKind)) (i : ℕ) (entry : List ℕ × ParseKind) (name : List ℕ) (whole : List ℕ → Option ParseKind)
    → i < length parse → entry ≡ get_or parse i entry → name ≡ entry.0
    → tree.UpdatesBy (λ x y. slice_cmp nat_cmp x.now y.now) (λ k. slice_cmp nat_cmp name k.now) old new (Some entry.1)
    → update_all bytes_eq (kind_in old) (drop i parse) ≡ whole → update_all bytes_eq (kind_in new) (drop (i + 1) parse) ≡ whole
one_kind old new parse i entry name whole lt at is updates h =
    let one : kind_in new ≡ update bytes_eq (kind_in old) name (Some entry.1) = λ j cs. btree_map_updates_str name old new (Some entry.1) updates cs j in
    let left : drop i parse ≡ entry ∷ drop (i + 1) parse = drop_more parse i entry lt ∙ ap (λ e. e ∷ drop (i + 1) parse) (sym at) in
    ap (λ f. update_all bytes_eq f (drop (i + 1) parse)) (one ∙ ap (λ n. update bytes_eq (kind_in old) n (Some entry.1)) is)
    ∙ ap (update_all bytes_eq (kind_in old)) (sym left) ∙ h
