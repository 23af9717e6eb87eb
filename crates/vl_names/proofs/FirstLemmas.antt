-- Where names are first given, as a map keeps it.
use Rattle.std.proofs.Common.{◌≡◌, ◌+◌, ◌<◌, ◌≤◌, ◌-◌, ℕ, Bool, true, false, List, ◌∷◌, drop, get_or, length, map, Option, Some, None, cond}
use Rattle.std.proofs.Common.{refl, sym, ap, ◌∙◌, arith}
use Rattle.std.specs.Prelude.{Vec, bytes_eq, filter}
use Rattle.std.specs.Option.{option_map_or}
use Rattle.std.specs.BTreeMap.{BTreeMap}
use Rattle.std.specs.declared.alloc.Global.{Global}
use Rattle.std.proofs.lemmas.List.{drop_all, drop_more}
use Rattle.std.proofs.lemmas.Slice.Eq.{bytes_eq-Decides}
use Rattle.json_exact.specs.declared.json.Json.{Json}
use Rattle.spec_schema.specs.Order.{is_before}
use Rattle.vl_names.specs.declared.given.Given.{Given}
use Rattle.vl_names.specs.Twice.{first_given, first_place, sooner_place, stands_at}
use Rattle.vl_names.specs.inner.First.{IsFirst, place_under}

abbrev Firsts : Type 0
Firsts = BTreeMap (Vec ℕ Global) (List ℕ)

same : (a b : List ℕ) → bytes_eq a b ≡ true → a ≡ b
same a b h = (bytes_eq-Decides a b).0 h

-- nothing is changed
pub all_stay : (firsts : Firsts) (key q : List ℕ) → place_under firsts q ≡ cond (bytes_eq q key) (place_under firsts key) (place_under firsts q)
all_stay firsts key q = by_test (bytes_eq q key) refl
  where
    by_test : (b : Bool) → bytes_eq q key ≡ b → place_under firsts q ≡ cond b (place_under firsts key) (place_under firsts q)
    by_test true e = ap (place_under firsts) (same q key e)
    by_test false e = refl

-- what stays or is put is the sooner place
sooner_is : (place : List ℕ) (found : Option (List ℕ)) →
    cond (option_map_or (λ first. is_before first place) found false) found (Some place) ≡ sooner_place place found
sooner_is place None = refl
sooner_is place (Some first) = refl

pub earlier_put : (old new : Firsts) (key name place : List ℕ) (stays : Bool) → key ≡ name
    → stays ≡ option_map_or (λ first. is_before first place) (place_under old key) false
    → ((q : List ℕ) → place_under new q ≡ cond (bytes_eq q key) (cond stays (place_under old key) (Some place)) (place_under old q))
    → (q : List ℕ) → place_under new q ≡ cond (bytes_eq q name) (sooner_place place (place_under old name)) (place_under old q)
earlier_put old new key name place stays is before put q =
    put q
    ∙ ap (λ b. cond (bytes_eq q key) (cond b (place_under old key) (Some place)) (place_under old q)) before
    ∙ (λ i. cond (bytes_eq q (is i))
    (cond (option_map_or (λ first. is_before first place) (place_under old (is i)) false) (place_under old (is i)) (Some place)) (place_under old q))
    ∙ ap (λ v. cond (bytes_eq q name) v (place_under old q)) (sooner_is place (place_under old name))

-- where a name is first given, with one more before the others
first_more : (tree : Json) (g : Given) (rest : List Given) (q : List ℕ) →
    cond (bytes_eq q g.name) (sooner_place (stands_at tree g) (first_given tree rest g.name)) (first_given tree rest q)
    ≡ first_given tree (g ∷ rest) q
first_more tree g rest q = by_test (bytes_eq q g.name) refl
  where
    by_test : (b : Bool) → bytes_eq q g.name ≡ b →
        cond b (sooner_place (stands_at tree g) (first_given tree rest g.name)) (first_given tree rest q)
        ≡ first_place (map (stands_at tree) (cond b (g ∷ filter (λ (x : Given). bytes_eq q x.name) rest) (filter (λ (x : Given). bytes_eq q x.name) rest)))
    by_test true e = ap (λ name. sooner_place (stands_at tree g) (first_given tree rest name)) (sym (same q g.name e))
    by_test false e = refl

-- one more, before those that are kept
pub one_before : (tree : Json) (all : List Given) (left : ℕ) (g : Given) (old new : Firsts) → 0 < left → left ≤ length all
    → g ≡ get_or all (left - 1) g → IsFirst tree old (drop left all)
    → ((q : List ℕ) → place_under new q ≡ cond (bytes_eq q g.name) (sooner_place (stands_at tree g) (place_under old g.name)) (place_under old q))
    → IsFirst tree new (drop (left - 1) all)
one_before tree all left g old new some within is kept put q =
    let on : left - 1 + 1 ≡ left = omega arith in
    let split : drop (left - 1) all ≡ g ∷ drop left all =
    drop_more all (left - 1) g (omega arith) ∙ ap (λ (x : Given). x ∷ drop (left - 1 + 1) all) (sym is)
    ∙ ap (λ k. g ∷ drop k all) on in
    put q
    ∙ (λ i. cond (bytes_eq q g.name) (sooner_place (stands_at tree g) (kept g.name i)) (kept q i))
    ∙ first_more tree g (drop left all) q
    ∙ ap (λ (gs : List Given). first_given tree gs q) (sym split)

-- none
pub none_given : (tree : Json) (firsts : Firsts) (all : List Given) → ((q : List ℕ) → place_under firsts q ≡ None)
    → IsFirst tree firsts (drop (length all) all)
none_given tree firsts all h q = h q ∙ ap (λ (gs : List Given). first_given tree gs q) (sym (drop_all (length all) all (omega arith)))
