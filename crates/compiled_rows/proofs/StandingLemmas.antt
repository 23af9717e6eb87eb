-- Why names of data sets stand for what these make where all names stand.
use Rattle.std.proofs.Common.{◌≡◌, ◌≢◌, ℕ, false, cond, Option, Some, None, List, [], ◌∷◌, ◌++◌, filter_map, option_to_list, All, refl, sym, ap, ◌∙◌}
use Rattle.std.specs.List.{cons_option}
use Rattle.std.specs.Option.{option_map_or}
use Rattle.std.specs.Str.{bytes_eq}
use Rattle.std.proofs.lemmas.List.Elements.{All-nil, All-cons, All-head, All-tail, All-weaker}
use Rattle.std.proofs.lemmas.Slice.Eq.{bytes_eq-Decides}
use Rattle.fixed_num.specs.Ranges.{◌>>=◌}
use Rattle.cell_value.specs.Datum.{Datum}
use Rattle.cell_value.specs.State.{Dataset}
use Rattle.expr_eval.specs.Values.{Values}
use Rattle.vega_spec.specs.declared.data.DataSet.{DataSet}
use Rattle.vega_spec.specs.declared.transforms.Transform.{Transform}
use Rattle.vega_spec.specs.declared.transforms.Transform.TheVariants as vega
use Rattle.vega_lists.specs.Lists.{list_of, lists_of, and_its_list}
use Rattle.vega_lists.specs.Scopes.{Scope, with_list, list_named}
use Rattle.vega_lists.specs.Settings.{lookup_settings}
use Rattle.vega_lists.specs.Transforms.{transformed, all_transformed, transforms_of}
use Rattle.plain_rows.specs.Lookups.{data_looked_up}
use Rattle.compiled_rows.specs.Stands.{looked_in, names_read, HasNoneOf, StandsWhereAllStand, MadeListsAreCovered, ListsThatAddNoneAreCovered}
use Rattle.compiled_rows.specs.Stands.{ListsOfBegunAreCovered}
use Rattle.compiled_rows.proofs.AddLemmas.{transforms_add_none}
use Rattle.compiled_rows.proofs.BegunLemmas.{covered_on, steps_cover}
use Rattle.compiled_rows.proofs.FollowLemmas.{transforms_follow, followers_are_covered}
use Rattle.compiled_rows.proofs.PartLemmas.{by_cases}

differs : (a b : List ℕ) → a ≢ b → bytes_eq a b ≡ false
differs a b apart = by_cases (bytes_eq a b) (λ e. absurd (apart ((bytes_eq-Decides a b).0 e))) (λ e. e)

-- what two options give, one after the other
both_give : {A B : Type 0} (o : Option A) (f : A → Option B) (b : B) → (o >>= f) ≡ Some b → (a : A) × (o ≡ Some a) × (f a ≡ Some b)
both_give None f b e = absurd (cc)
both_give (Some a) f b e = (a, refl, e)

one_of_them : {A : Type 0} (a b : A) → Some a ≡ Some b → a ≡ b
one_of_them a b e = cc

module _ (values : Values) (sources : List Dataset) where
  -- data sets that are read keep what other names stand for
  kept_behind : (sets : List DataSet) (outer scope : Scope) (name : List ℕ) → All (λ (set : DataSet). set.name ≢ name) sets
      → lists_of values sources outer sets ≡ Some scope → scope name ≡ outer name
  kept_behind [] outer scope name h e = ap (λ (s : Scope). s name) (sym (one_of_them outer scope e))
  kept_behind (set ∷ sets) outer scope name h e =
      let (next, first, rest) = both_give (and_its_list values sources outer set) (λ s. lists_of values sources s sets) scope e in
      let (rows, made, is) = both_give (list_of values sources outer set) (λ rows. Some (with_list set.name rows outer)) next first in
      kept_behind sets next scope name (All-tail (λ (s : DataSet). s.name ≢ name) set sets h) rest
      ∙ ap (λ (s : Scope). s name) (sym (one_of_them (with_list set.name rows outer) next is))
      ∙ ap (λ b. cond b rows (outer name)) (differs set.name name (All-head (λ (s : DataSet). s.name ≢ name) set sets h))

  -- ---- what is read alike

  abbrev Alike : Scope → Scope → List (List ℕ) → Type 0
  Alike a b names = All (λ name. a name ≡ b name) names

  one_alike : (a b : Scope) (t : Transform) (rest : List (List ℕ)) (rows : List Datum) → Alike a b (cons_option (looked_in t) rest)
      → transformed values a t rows ≡ transformed values b t rows
  one_alike a b (vega.Filter f) rest rows h = refl
  one_alike a b (vega.Formula f) rest rows h = refl
  one_alike a b (vega.Extent e) rest rows h = refl
  one_alike a b (vega.Bin x) rest rows h = refl
  one_alike a b (vega.TimeUnit t) rest rows h = refl
  one_alike a b (vega.Aggregate x) rest rows h = refl
  one_alike a b (vega.JoinAggregate x) rest rows h = refl
  one_alike a b (vega.Stack s) rest rows h = refl
  one_alike a b (vega.Window w) rest rows h = refl
  one_alike a b (vega.Lookup l) rest rows h =
      ap (λ other. Some (data_looked_up (lookup_settings l) other rows)) (All-head (λ name. a name ≡ b name) l.from rest h)
  one_alike a b (vega.Fold f) rest rows h = refl

  rest_alike : (a b : Scope) (o : Option (List ℕ)) (rest : List (List ℕ)) → Alike a b (cons_option o rest) → Alike a b rest
  rest_alike a b None rest h = h
  rest_alike a b (Some name) rest h = All-tail (λ n. a n ≡ b n) name rest h

  all_alike : (a b : Scope) (ts : List Transform) (rows : List Datum) → Alike a b (filter_map looked_in ts)
      → all_transformed values a ts rows ≡ all_transformed values b ts rows
  all_alike a b [] rows h = refl
  all_alike a b (t ∷ ts) rows h =
      ap (λ o. o >>= λ made. all_transformed values a ts made) (one_alike a b t (filter_map looked_in ts) rows h)
      ∙ further (transformed values b t rows) (λ made. all_alike a b ts made (rest_alike a b (looked_in t) (filter_map looked_in ts) h))
    where
      further : (o : Option (List Datum)) → ((made : List Datum) → all_transformed values a ts made ≡ all_transformed values b ts made)
          → (o >>= λ made. all_transformed values a ts made) ≡ (o >>= λ made. all_transformed values b ts made)
      further None same = refl
      further (Some made) same = same made

  set_alike : (a b : Scope) (set : DataSet) (o : Option (List ℕ)) → set.source ≡ o → Alike a b (option_to_list o ++ filter_map looked_in (transforms_of set))
      → list_of values sources a set ≡ list_of values sources b set
  set_alike a b set None is h =
      ap (λ x. all_transformed values a (transforms_of set) (option_map_or a x (list_named sources set.name))) is
      ∙ all_alike a b (transforms_of set) (list_named sources set.name) h
      ∙ ap (λ x. all_transformed values b (transforms_of set) (option_map_or b x (list_named sources set.name))) (sym is)
  set_alike a b set (Some name) is h =
      ap (λ x. all_transformed values a (transforms_of set) (option_map_or a x (list_named sources set.name))) is
      ∙ ap (all_transformed values a (transforms_of set)) (All-head (λ n. a n ≡ b n) name (filter_map looked_in (transforms_of set)) h)
      ∙ all_alike a b (transforms_of set) (b name) (All-tail (λ n. a n ≡ b n) name (filter_map looked_in (transforms_of set)) h)
      ∙ ap (λ x. all_transformed values b (transforms_of set) (option_map_or b x (list_named sources set.name))) (sym is)

  -- ---- a data set among others

  -- where a data set is read
  at_set : (before : List DataSet) (outer scope : Scope) (set : DataSet) (behind : List DataSet)
      → lists_of values sources outer (before ++ set ∷ behind) ≡ Some scope
      → (here : Scope) × (lists_of values sources here (set ∷ behind) ≡ Some scope)
  at_set [] outer scope set behind e = (outer, e)
  at_set (x ∷ before) outer scope set behind e =
      let (next, first, rest) = both_give (and_its_list values sources outer x) (λ s. lists_of values sources s (before ++ set ∷ behind)) scope e in
      at_set before next scope set behind rest

  -- names that no data set has from there on stand for the same in the end
  each_kept : (here scope : Scope) (set : DataSet) (behind : List DataSet) (names : List (List ℕ)) → lists_of values sources here (set ∷ behind) ≡ Some scope
      → All (HasNoneOf names) behind → HasNoneOf names set → Alike scope here names
  each_kept here scope set behind [] e h k = All-nil (λ name. scope name ≡ here name)
  each_kept here scope set behind (n ∷ names) e h k =
      All-cons (λ name. scope name ≡ here name) n names
      (kept_behind (set ∷ behind) here scope n
      (All-cons (λ (s : DataSet). s.name ≢ n) set behind (All-head (λ m. set.name ≢ m) n names k)
      (All-weaker (HasNoneOf (n ∷ names)) (λ (s : DataSet). s.name ≢ n) (λ s g. All-head (λ m. s.name ≢ m) n names g) behind h)) e)
      (each_kept here scope set behind names e
      (All-weaker (HasNoneOf (n ∷ names)) (HasNoneOf names) (λ s g. All-tail (λ m. s.name ≢ m) n names g) behind h)
      (All-tail (λ m. set.name ≢ m) n names k))

  stands : (here scope : Scope) (set : DataSet) (behind : List DataSet) → lists_of values sources here (set ∷ behind) ≡ Some scope
      → All (HasNoneOf (set.name ∷ names_read set)) behind → HasNoneOf (names_read set) set → list_of values sources scope set ≡ Some (scope set.name)
  stands here scope set behind e h k =
      let (next, first, rest) = both_give (and_its_list values sources here set) (λ s. lists_of values sources s behind) scope e in
      let (rows, made, is) = both_give (list_of values sources here set) (λ rows. Some (with_list set.name rows here)) next first in
      let own : scope set.name ≡ rows =
      kept_behind behind next scope set.name (All-weaker (HasNoneOf (set.name ∷ names_read set)) (λ (s : DataSet). s.name ≢ set.name)
      (λ s g. All-head (λ n. s.name ≢ n) set.name (names_read set) g) behind h) rest
      ∙ ap (λ (s : Scope). s set.name) (sym (one_of_them (with_list set.name rows here) next is))
      ∙ ap (λ b. cond b rows (here set.name)) ((bytes_eq-Decides set.name set.name).1 refl) in
      set_alike scope here set set.source refl
      (each_kept here scope set behind (names_read set) e (All-weaker (HasNoneOf (set.name ∷ names_read set)) (HasNoneOf (names_read set))
      (λ s g. All-tail (λ n. s.name ≢ n) set.name (names_read set) g) behind h) k)
      ∙ made ∙ ap Some (sym own)

pub stands_where_all_stand : StandsWhereAllStand
stands_where_all_stand values sources outer scope before behind set e h k =
    let (here, rest) = at_set values sources before outer scope set behind e in stands values sources here scope set behind rest h k

pub made_lists_are_covered : MadeListsAreCovered
made_lists_are_covered values sources scope names set source made is leaves e =
    followers_are_covered names (scope source) made
    (transforms_follow values scope names (transforms_of set) (scope source) made leaves
    (sym (ap (λ o. all_transformed values scope (transforms_of set) (option_map_or scope o (list_named sources set.name))) is) ∙ e))

pub lists_that_add_none_are_covered : ListsThatAddNoneAreCovered
lists_that_add_none_are_covered values sources scope names set source made is adds ids e =
    transforms_add_none values scope names (transforms_of set) (scope source) made adds ids
    (sym (ap (λ o. all_transformed values scope (transforms_of set) (option_map_or scope o (list_named sources set.name))) is) ∙ e)

pub lists_of_begun_are_covered : ListsOfBegunAreCovered
lists_of_begun_are_covered values sources scope names set source unit steps made is adds ids keeps stepped e =
    covered_on names (scope unit) (scope source) made (steps_cover values sources names steps (scope source) (scope unit) keeps ids stepped)
    (lists_that_add_none_are_covered values sources scope names set source made is adds ids e)
