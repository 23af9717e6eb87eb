-- What an index finds is the first that passes.
use Rattle.std.proofs.Common.{◌≡◌, ℕ, zero, suc, ◌+◌, Bool, true, false, List, [], ◌∷◌, drop, Option, Some, cond, refl, sym, ap, ◌∙◌, subst, add-one}
use Rattle.std.specs.Prelude.{find, slice_get, bytes_eq, Vec}
use Rattle.std.specs.Option.{option_map}
use Rattle.std.specs.List.{position_from}
use Rattle.std.specs.BTreeMap.{BTreeMap}
use Rattle.std.specs.declared.alloc.Global.{Global}
use Rattle.std.proofs.lemmas.Bool.Decides.{same_from_decides, Decides-like}
use Rattle.std.proofs.lemmas.Slice.Eq.{bytes_eq-Decides}
use Rattle.json_exact.specs.declared.json.Member.{Member}
use Rattle.json_exact.specs.Path.{member_value}
use Rattle.vl_building.specs.declared.data.ParamAt.{ParamAt}
use Rattle.vl_building.specs.declared.naming.NamedData.{NamedData}
use Rattle.vl_building.specs.declared.sources.Finders.{Finders}
use Rattle.vl_building.specs.Sources.{gives_named, lookups_in}
use Rattle.vl_building.specs.Spec.{is_data_at, is_param_at, naming_of}
use Rattle.vl_building.specs.inner.Keyed.{number_at}
use Rattle.vl_building.specs.inner.Index.{at_number, IsIndex}
use Rattle.vl_building.specs.inner.Named.{source_in, shown}
use Rattle.vl_building.specs.inner.Finding.{is_dataset, rows_numbered, found_by, Finds}

-- ---- the first of a list

got : {A : Type 0} (whole xs : List A) (n : ℕ) (x : A) → drop n whole ≡ x ∷ xs → slice_get whole n ≡ Some x
got [] xs zero x h = absurd (cc)
got [] xs (suc n) x h = absurd (cc)
got (y ∷ whole) xs zero x h = cc
got (y ∷ whole) xs (suc n) x h = got whole xs n x h

gone : {A : Type 0} (whole xs : List A) (n : ℕ) (x : A) → drop n whole ≡ x ∷ xs → drop (suc n) whole ≡ xs
gone [] xs zero x h = absurd (cc)
gone [] xs (suc n) x h = absurd (cc)
gone (y ∷ whole) xs zero x h = cc
gone (y ∷ whole) xs (suc n) x h = gone whole xs n x h

found_from : {A : Type 0} (test : A → Bool) (whole xs : List A) (n : ℕ) → drop n whole ≡ xs →
    at_number whole (position_from test n xs) ≡ find test xs
found_from test whole [] n h = refl
found_from {A} test whole (x ∷ xs) n h =
    by_test (test x) (got whole xs n x h) (found_from test whole xs (n + 1) (rw add-one (gone whole xs n x h)))
  where
    by_test : (b : Bool) → slice_get whole n ≡ Some x → at_number whole (position_from test (n + 1) xs) ≡ find test xs
        → at_number whole (cond b (Some n) (position_from test (n + 1) xs)) ≡ cond b (Some x) (find test xs)
    by_test true here later = here
    by_test false here later = later

-- the element of the number of the first that passes
pub found : {A : Type 0} (test : A → Bool) (all : List A) (number : Option ℕ) → number ≡ position_from test 0 all
    → at_number all number ≡ find test all
found test all number h = ap (at_number all) h ∙ found_from test all all 0 refl

-- ---- sources

flips : (x y : List ℕ) → bytes_eq x y ≡ bytes_eq y x
flips x y = same_from_decides _ _ (bytes_eq-Decides x y) (Decides-like _ sym sym (bytes_eq-Decides y x))

either_way : (name : List ℕ) → is_dataset name ≡ (λ (m : Member). bytes_eq m.name name)
either_way name = λ i m. flips name m.name i

rows_found : (datasets : List Member) (index : BTreeMap (Vec ℕ Global) ℕ) → IsIndex is_dataset index datasets → (name : List ℕ) →
    rows_numbered datasets (number_at index name) ≡ member_value datasets name
rows_found datasets index h name =
    let known : at_number datasets (number_at index name) ≡ find (λ (m : Member). bytes_eq m.name name) datasets =
    found (is_dataset name) datasets (number_at index name) (h.found name)
    ∙ ap (λ (test : Member → Bool). find test datasets) (either_way name) in
    ap (λ (o : Option Member). option_map (λ (m : Member). m.value) o) known

-- what is found of each name is what is looked up
pub all_found : (datasets : List Member) (all : List NamedData) (finders : Finders) → Finds datasets all finders →
    found_by finders datasets all ≡ lookups_in datasets all
all_found datasets all finders h = λ i. record {
  rows_of = λ name. rows_found datasets finders.datasets h.of_datasets name i;
  giver_of = λ name. found (gives_named name) all (number_at finders.givers name) (h.of_givers.found name) i;
  first_of = λ name. h.of_names.found name i;
}

-- ---- places

data_found : (all : List NamedData) (index : BTreeMap (Vec ℕ Global) ℕ) → IsIndex is_data_at index all → (place : List ℕ) →
    source_in (at_number all (number_at index place)) ≡ source_in (find (is_data_at place) all)
data_found all index h place = ap source_in (found (is_data_at place) all (number_at index place) (h.found place))

-- what is kept goes by places
pub naming_is : (all slice : List NamedData) (params : List ParamAt) (of_data of_params : BTreeMap (Vec ℕ Global) ℕ) → slice ≡ all →
    IsIndex is_data_at of_data slice → IsIndex is_param_at of_params params →
    shown (record { all = all; data_ = of_data; params = of_params }) ≡ naming_of all params
naming_is all slice params of_data of_params same data_at params_at = λ i. record {
  source_at = λ place. data_found all of_data (subst (λ (xs : List NamedData). IsIndex is_data_at of_data xs) same data_at) place i;
  param_at = λ place. params_at.found place i;
}
