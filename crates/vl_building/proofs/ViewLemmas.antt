-- Views by members, and lists of views.
use Rattle.std.proofs.Common.{◌≡◌, refl, subst, ℕ, ◌+◌, ◌<◌, ◌≤◌, Bool, true, List, [], ◌∷◌, ◌++◌, length, drop, get_or, map, sym, ap, ◌∙◌}
use Rattle.std.specs.Prelude.{Option, Some, if◌then◌else◌}
use Rattle.std.specs.Option.{option_map, option_and_then}
use Rattle.std.specs.List.{enumerate_from}
use Rattle.std.specs.Str.{bytes_eq}
use Rattle.std.proofs.lemmas.List.{drop_more, drop_all, append_assoc}
use Rattle.json_exact.specs.declared.json.Json.{Json}
use Rattle.json_exact.specs.declared.json.Member.{Member}
use Rattle.vl_spec.specs.declared.views.View.{View}
use Rattle.vl_spec.specs.declared.views.ViewKind.TheVariants as view_kind
use Rattle.tree_readers.specs.Parts.{members_of}
use Rattle.vl_building.specs.Gather.{items_of}
use Rattle.vl_building.specs.Views.{Naming, Place, AsView, child, as_view, as_view_with, view_with, view_given, unit_of, no_view, views_in, view_of, views_of}
use Rattle.vl_building.specs.inner.Heads.{view_in, inside_from}
use Rattle.vl_building.proofs.Inside.{by_parts}

-- the view that a value is
pub view_is : (naming : Naming) (tree : Json) (members : List Member) (place : Place) → members ≡ members_of tree →
    view_in naming members place ≡ view_of naming tree place
view_is naming tree members place same = ap (λ (ms : List Member). view_in naming ms place) same
    ∙ ap (λ (a : AsView). (a place).0) (by_parts (as_view_with naming) tree)

-- the views that its items are
pub views_are : (naming : Naming) (tree : Json) (items : List Json) (place : Place) → items ≡ items_of tree →
    views_in (map (as_view naming) items) place ≡ views_of naming tree place
views_are naming tree items place same = ap (λ (xs : List Json). views_in (map (as_view naming) xs) place) same
    ∙ ap (λ (a : AsView). (a place).1) (by_parts (as_view_with naming) tree)

-- a view without members
pub empty_is : (naming : Naming) (place : Place) → view_with naming [] place (view_kind.Unit (unit_of [])) ≡ no_view
unfolding view_with unit_of no_view
empty_is naming place = refl

-- what a member of the name holds
of_name : (naming : Naming) (place : Place) (m : Member) (n : ℕ) (b : Bool) (found : Option Member) (later : Option ℕ) → b ≡ true →
    option_and_then (λ k. option_map (λ (gives : AsView). gives (child place k))
    (option_map (as_view naming) (option_map (λ (x : Member). x.value) (if b then Some m else found)))) (if b then Some n else later)
    ≡ Some (as_view naming m.value (child place n))
of_name naming place m n b found later e = subst (λ (t : Bool). option_and_then (λ k. option_map (λ (gives : AsView). gives (child place k))
    (option_map (as_view naming) (option_map (λ (x : Member). x.value) (if t then Some m else found)))) (if t then Some n else later)
    ≡ Some (as_view naming m.value (child place n))) (sym e) refl

-- the first member of a name is here
pub here_first : {Y : Type 0} (f : Option (View × List View) → Y) (naming : Naming) (members : List Member) (place : Place) (name : List ℕ) (n : ℕ)
    (m : Member) (whole : Y) → n < length members → m ≡ get_or members n m → bytes_eq m.name name ≡ true →
    f (inside_from naming n (drop n members) place name) ≡ whole → f (Some (as_view naming m.value (child place n))) ≡ whole
here_first f naming members place name n m whole within at named so_far =
    let rest : drop n members ≡ m ∷ drop (n + 1) members = drop_more members n m within ∙ ap (λ z. z ∷ drop (n + 1) members) (sym at) in
    sym (ap f (of_name naming place m n (bytes_eq m.name name) _ _ named))
    ∙ sym (ap (λ (ms : List Member). f (inside_from naming n ms place name)) rest) ∙ so_far

-- no member of a name is left
pub none_left : (naming : Naming) (members : List Member) (place : Place) (name : List ℕ) (n : ℕ) (whole : View) → length members ≤ n →
    view_given (inside_from naming n (drop n members) place name) ≡ whole → no_view ≡ whole
none_left naming members place name n whole within so_far =
    sym (ap (λ (ms : List Member). view_given (inside_from naming n ms place name)) (drop_all n members within)) ∙ so_far

-- the views that items from a number on are
abbrev left : Naming → Place → ℕ → List Json → List View
left naming place n items = map (λ (item : ℕ × AsView). (item.1 (child place item.0)).0) (enumerate_from n (map (as_view naming) items))

-- one more view
pub one_view : (naming : Naming) (place : Place) (items : List Json) (n : ℕ) (tree : Json) (view : View) (out new whole : List View) →
    n < length items → tree ≡ get_or items n tree → view ≡ view_of naming tree (child place n) → new ≡ out ++ view ∷ [] →
    out ++ left naming place n (drop n items) ≡ whole → new ++ left naming place (n + 1) (drop (n + 1) items) ≡ whole
one_view naming place items n tree view out new whole within is seen added so_far =
    ap (λ (vs : List View). vs ++ left naming place (n + 1) (drop (n + 1) items)) (added ∙ ap (λ (v : View). out ++ v ∷ []) seen)
    ∙ append_assoc out (view_of naming tree (child place n) ∷ []) (left naming place (n + 1) (drop (n + 1) items))
    ∙ ap (λ (x : Json). out ++ view_of naming x (child place n) ∷ left naming place (n + 1) (drop (n + 1) items)) is
    ∙ sym (ap (λ (xs : List Json). out ++ left naming place n xs) (drop_more items n tree within))
    ∙ so_far
