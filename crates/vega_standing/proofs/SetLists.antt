-- The folds of a list of data sets.
use Rattle.std.proofs.Common.{◌≡◌, ℕ, ◌+◌, ◌≤◌, ◌<◌, List, [], ◌∷◌, ◌++◌, map, refl, sym, ap, subst, ◌∙◌, inl, inr, arith}
use Rattle.std.specs.Prelude.{Option, Some, None, true, false, IfSome}
use Rattle.std.proofs.lemmas.List.{append_assoc, append-nil}
use Rattle.json_exact.specs.declared.json.Json.{Json}
use Rattle.vega_schema.specs.declared.codes.TheConstants.{DATA, TRANSFORM}
use Rattle.vega_parts.specs.declared.part.Part.{Part}
use Rattle.vega_parts.specs.declared.part.Part.TheVariants as part
use Rattle.vega_parts.specs.declared.part.Given.TheVariants as given_as
use Rattle.vega_parts.specs.declared.part.Used.TheVariants as for_
use Rattle.vega_parts.specs.Trails.{Trail, noted, place_of, scope_of}
use Rattle.vega_parts.specs.Names.{given, used}
use Rattle.vega_rules.specs.Places.{same_place, ends_before}
use Rattle.vega_rules.specs.Names.{first_given}
use Rattle.vega_rules.specs.Twice.{twice}
use Rattle.vega_rules.specs.Unknown.{unknown}
use Rattle.vega_rules.specs.Folds.{product_of, folds_after}
use Rattle.vega_spec.specs.declared.data.DataSet.{DataSet}
use Rattle.vega_building.specs.Parts.{members_of}
use Rattle.vega_building.specs.Sources.{data_set_of}
use Rattle.vega_lists.specs.Products.{Products, FoldsFit, ProductsFit, fold_product, products_after, and_its_product}
use Rattle.std.proofs.lemmas.Slice.Eq.{bytes_eq-Decides}
use Rattle.vega_standing.proofs.Trees.{Each}
use Rattle.vega_standing.proofs.Stands.{EachFrom, Stands, parts_in, parts_of_items}
use Rattle.vega_standing.proofs.Quiet.{IsQuiet, each_append, each_of}
use Rattle.vega_standing.proofs.Known.{under_itself, under_others, under_itself_not, unlike, concern, quiet_concern, Apart}
use Rattle.vega_standing.proofs.Steps.{all_multiplied, steps_keep as transforms_keep}
use Rattle.vega_standing.proofs.Sets.{SetParts, set_parts}
use Rattle.vega_standing.proofs.Lists.{later_ends_not, Behind, apart_behind}
use Rattle.vega_standing.proofs.Following.{ASet, IsFoldOf, set_list, source_part, steps_keep, set_concerns, Sofar, set_fits, next}

-- a data set that stands in an object
pub a_set : (whole : List Part) (round : Trail) (j : ℕ) (d : Json) (scope x : List ℕ) → SetParts round j d → scope_of (noted j DATA d ∷ round) ≡ scope →
    place_of (noted j DATA d ∷ round) ≡ x → ASet whole scope x (parts_in round j DATA d) (data_set_of (members_of d))
a_set whole round j d scope x s in_scope at = record {
  name_child = s.name_number;
  source = s.source;
  front = s.before_source;
  between = s.behind_source;
  steps = parts_of_items s.list_trail TRANSFORM 0 s.items;
  back = s.behind;
  quiet_front = s.quiet_before;
  quiet_between = s.quiet_source;
  quiet_back = s.quiet_behind;
  made = s.parts ∙ (λ i. set_list (in_scope i) (at i) s.name_number (data_set_of (members_of d)).name s.before_source s.source
      s.behind_source (parts_of_items s.list_trail TRANSFORM 0 s.items) s.behind);
  source_is = s.source_is;
  multiplied = λ known few none.
      let m = all_multiplied whole known s.list_trail 0 s.items x s.each (λ i v. s.of_set i v ∙ at) few none in
      record {
        product = m.product ∙ ap (λ ts. fold_product (product_of known x) ts) (sym s.transforms);
        fits = subst (λ ts. ProductsFit (product_of known x) ts) (sym s.transforms) m.fits;
        few = m.few;
      };
  only_folds = transforms_keep (IsFoldOf x) (λ p q. inl q) s.list_trail 0 s.items x (λ at k. inr (at, k, refl)) s.each (λ i v. s.of_set i v ∙ at);
}

-- what all kinds of parts of a data set keep
pub set_keeps : (P : Part → Type 0) (whole : List Part) (scope x : List ℕ) (parts : List Part) (set : DataSet) →
    ASet whole scope x parts set → ((p : Part) → IsQuiet p → P p) →
    P (part.Data x) → ((k : ℕ) (name : List ℕ) → P (given given_as.Data scope x (x ++ k ∷ []) name)) →
    ((k : ℕ) (name : List ℕ) → P (used for_.Source scope (x ++ k ∷ []) name)) →
    ((at : List ℕ) (k : ℕ) → P (part.Fold at x k)) → Each P parts
set_keeps P whole scope x parts set s quiet here named source fold =
    subst (Each P) (sym s.made) (
      here,
      (
        named s.name_child set.name,
        each_append P s.front (source_part scope x s.source ++ (s.between ++ (s.steps ++ s.back))) (each_of IsQuiet P quiet s.front s.quiet_front)
            (each_append P (source_part scope x s.source) (s.between ++ (s.steps ++ s.back)) (by_source s.source)
            (each_append P s.between (s.steps ++ s.back) (each_of IsQuiet P quiet s.between s.quiet_between)
            (each_append P s.steps s.back (steps_keep P x quiet fold s.steps s.only_folds) (each_of IsQuiet P quiet s.back s.quiet_back)))),
      ),
    )
  where
    by_source : (o : Option (ℕ × List ℕ)) → Each P (source_part scope x o)
    by_source None = tt
    by_source (Some c) = (source c.0 c.1, tt)

quiet_behind : (scope at : List ℕ) (p : Part) → IsQuiet p → Behind scope at p
quiet_behind scope at p q = apart_behind scope at p (subst (λ o. IfSome o (λ t. same_place scope t ≡ false)) (sym (quiet_concern p q)) tt)

-- ---- a list

module _ (list_trail : Trail) (scope : List ℕ) (k : ℕ) (in_scope : (j : ℕ) (d : Json) → scope_of (noted j DATA d ∷ list_trail) ≡ scope)
    (at_child : (j : ℕ) (d : Json) → place_of (noted j DATA d ∷ list_trail) ≡ (scope ++ k ∷ []) ++ j ∷ []) where
  abbrev list : List ℕ
  list = scope ++ k ∷ []

  one_set : (whole : List Part) (j : ℕ) (d : Json) → Stands list_trail j DATA d →
      ASet whole scope (list ++ j ∷ []) (parts_in list_trail j DATA d) (data_set_of (members_of d))
  one_set whole j d s = a_set whole list_trail j d scope (list ++ j ∷ []) (set_parts list_trail j d s) (in_scope j d) (at_child j d)

  grow : (j i : ℕ) → j + 1 ≤ i → j ≤ i
  grow j i e = omega arith

  same : (j : ℕ) → j ≤ j
  same j = omega arith

  -- what the object and all its data sets from a number on keep
  pub list_keeps : (P : Part → Type 0) (j : ℕ) (items : List Json) → EachFrom (λ i v. Stands list_trail i DATA v) j items → ((p : Part) → IsQuiet p → P p) →
      ((i : ℕ) → j ≤ i → P (part.Data (list ++ i ∷ []))) →
      ((i : ℕ) → j ≤ i → (n : ℕ) (name : List ℕ) → P (given given_as.Data scope (list ++ i ∷ []) ((list ++ i ∷ []) ++ n ∷ []) name)) →
      ((i : ℕ) → j ≤ i → (n : ℕ) (name : List ℕ) → P (used for_.Source scope ((list ++ i ∷ []) ++ n ∷ []) name)) →
      ((i : ℕ) → j ≤ i → (at : List ℕ) (n : ℕ) → P (part.Fold at (list ++ i ∷ []) n)) →
      Each P (parts_of_items list_trail DATA j items)
  list_keeps P j [] each quiet here named source fold = tt
  list_keeps P j (d ∷ items) each quiet here named source fold =
      each_append P (parts_in list_trail j DATA d) (parts_of_items list_trail DATA (j + 1) items)
      (set_keeps P [] scope (list ++ j ∷ []) (parts_in list_trail j DATA d) (data_set_of (members_of d)) (one_set [] j d each.0) quiet
      (here j (same j)) (named j (same j)) (source j (same j)) (fold j (same j)))
      (list_keeps P (j + 1) items each.1 quiet (λ i e. here i (grow j i e))
      (λ i e. named i (grow j i e)) (λ i e. source i (grow j i e)) (λ i e. fold i (grow j i e)))

  pub list_concerns : (P : List ℕ → Type 0) (j : ℕ) (items : List Json) →
      EachFrom (λ i v. Stands list_trail i DATA v) j items → P scope → ((i : ℕ) → j ≤ i → P (list ++ i ∷ [])) →
      Each (λ p. IfSome (concern p) P) (parts_of_items list_trail DATA j items)
  list_concerns P j [] each p q = tt
  list_concerns P j (d ∷ items) each p q =
      each_append (λ p. IfSome (concern p) P) (parts_in list_trail j DATA d) (parts_of_items list_trail DATA (j + 1) items)
      (set_concerns P [] scope (list ++ j ∷ []) (parts_in list_trail j DATA d) (data_set_of (members_of d)) (one_set [] j d each.0) p (q j (same j)))
      (list_concerns P (j + 1) items each.1 p (λ i e. q i (grow j i e)))

  scope_apart : (i : ℕ) → same_place scope (list ++ i ∷ []) ≡ false
  scope_apart i = under_itself_not scope k (list ++ i ∷ []) (under_itself list (i ∷ []))

  apart_scope : (i : ℕ) → same_place (list ++ i ∷ []) scope ≡ false
  apart_scope i = unlike (list ++ i ∷ []) scope
      (λ e. let f : same_place scope (list ++ i ∷ []) ≡ true = (bytes_eq-Decides scope (list ++ i ∷ [])).1 (sym e) in let g = scope_apart i in cc)

  items_behind : (at : List ℕ) (j : ℕ) (items : List Json) → EachFrom (λ i v. Stands list_trail i DATA v) j items →
      ((i : ℕ) → j ≤ i → ends_before (list ++ i ∷ []) at ≡ false) →
      Each (Behind scope at) (parts_of_items list_trail DATA j items)
  items_behind at j items each ends =
      list_keeps (Behind scope at) j items each (quiet_behind scope at) (λ i e. tt) (λ i e n name. λ same loud. ends i e) (λ i e n name. tt) (λ i e at n. tt)

  over : (i j : ℕ) → j + 1 ≤ i → j < i
  over i j e = omega arith

  apart_numbers : (i j : ℕ) → j + 1 ≤ i → j ≡ i → ⊥
  apart_numbers i j e same = omega (arith, e, same)

  -- what a list of data sets makes of what holds before it
  pub record Through (whole : List Part) (outer : Products) (before : List Part) (products : Products) (sets : List DataSet) (parts : List Part) : Type 0 where
    pub fits : FoldsFit products sets
    pub count : ℕ
    pub sofar : Sofar whole scope list outer count (before ++ parts) (products_after products sets)

  pub through : (whole : List Part) → twice whole ≡ [] → unknown whole ≡ [] → folds_after whole [] whole ≡ [] →
      ((name : List ℕ) → first_given whole given_as.Facet scope name ≡ None) → (outer : Products) →
      (j : ℕ) (items : List Json) (before after : List Part) (products : Products) → EachFrom (λ i v. Stands list_trail i DATA v) j items →
      whole ≡ before ++ (parts_of_items list_trail DATA j items ++ after) → Sofar whole scope list outer j before products →
      ((i : ℕ) → Each (Apart (list ++ i ∷ [])) after) → Each (Apart scope) after →
      Through whole outer before products (map (λ t. data_set_of (members_of t)) items) (parts_of_items list_trail DATA j items)
  through whole no_twice no_unknown no_folds no_facets outer j [] before after products each is sofar clear apart = record {
    fits = tt;
    count = j;
    sofar = subst (λ ps. Sofar whole scope list outer j ps products) (sym (append-nil before)) sofar;
  }
  through whole no_twice no_unknown no_folds no_facets outer j (d ∷ items) before after products each is sofar clear apart =
      let here : List Part = parts_in list_trail j DATA d in
      let rest : List Part = parts_of_items list_trail DATA (j + 1) items in
      let x : List ℕ = list ++ j ∷ [] in
      let set : DataSet = data_set_of (members_of d) in
      let s : ASet whole scope x here set = one_set whole j d each.0 in
      let whole_is : whole ≡ before ++ (here ++ (rest ++ after)) = is ∙ ap (λ ps. before ++ ps) (append_assoc here rest after) in
      let clear_rest : Each (Apart x) (rest ++ after) =
      each_append (Apart x) rest after
      (list_concerns (λ t. same_place x t ≡ false) (j + 1) items each.1 (apart_scope j)
      (λ i e. under_others list j i x (list ++ i ∷ []) (apart_numbers i j e) ([], sym (append-nil x)) ([], sym (append-nil (list ++ i ∷ []))))) (clear j) in
      let behind_rest : (r : List ℕ) → Each (Behind scope (x ++ r)) (rest ++ after) =
      λ r. each_append (Behind scope (x ++ r)) rest after
      (items_behind (x ++ r) (j + 1) items each.1
      (λ i e. ap (λ y. ends_before y (x ++ r)) (sym (append-nil (list ++ i ∷ []))) ∙ later_ends_not list i j [] r (over i j e)))
      (each_of (Apart scope) (Behind scope (x ++ r)) (apart_behind scope (x ++ r)) after apart) in
      let following : Sofar whole scope list outer (j + 1) (before ++ here) (and_its_product products set) =
      next whole no_twice no_unknown no_folds scope k no_facets outer j before here (rest ++ after) products set sofar s whole_is clear_rest behind_rest in
      let on : Through whole outer (before ++ here) (and_its_product products set) (map (λ t. data_set_of (members_of t)) items) rest =
      through whole no_twice no_unknown no_folds no_facets outer (j + 1) items (before ++ here) after (and_its_product products set) each.1
      (whole_is ∙ sym (append_assoc before here (rest ++ after))) following clear apart in
      record {
        fits = (
          set_fits whole no_twice no_unknown no_folds scope k no_facets outer j before
              here (rest ++ after) products set sofar s whole_is clear_rest behind_rest,
          on.fits,
        );
        count = on.count;
        sofar = subst (λ ps. Sofar whole scope list outer on.count ps
            (products_after (and_its_product products set) (map (λ t. data_set_of (members_of t)) items)))
            (append_assoc before here rest) on.sofar;
      }
