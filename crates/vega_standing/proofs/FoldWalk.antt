-- The folds of an object and of the marks in it.
use Rattle.std.proofs.Common.{◌≡◌, ℕ, ◌≤◌, ◌<◌, List, [], ◌∷◌, ◌++◌, map, cond, refl, sym, ap, subst, ◌∙◌, arith}
use Rattle.std.specs.Prelude.{Option, Some, None, Bool, true, false, codes, unwrap_or, IfSome, if◌then◌else◌, drop}
use Rattle.std.specs.Option.{option_map, option_and_then, option_or}
use Rattle.std.proofs.lemmas.List.{append_assoc, append-nil}
use Rattle.std.proofs.lemmas.Slice.Eq.{bytes_eq-Decides}
use Rattle.json_exact.specs.declared.json.Json.{Json, out-Json}
use Rattle.json_exact.specs.declared.json.Member.{Member}
use Rattle.json_exact.specs.Inside.{items_in}
use Rattle.spec_schema.specs.declared.layout.Layout.{Layout}
use Rattle.vega_schema.specs.declared.codes.TheConstants.{DATA, DATA_LIST, MARKS}
use Rattle.vega_parts.specs.declared.part.Part.{Part}
use Rattle.vega_parts.specs.declared.part.Given.TheVariants as given_as
use Rattle.vega_parts.specs.declared.part.GivenName.{GivenName}
use Rattle.vega_parts.specs.declared.part.Used.TheVariants as for_
use Rattle.vega_parts.specs.declared.around.Around.{Around}
use Rattle.vega_parts.specs.Trails.{Trail, noted, place_of, scope_of, object_at}
use Rattle.vega_parts.specs.Parts.{parts_at}
use Rattle.vega_rules.specs.Places.{same_place, ends_before, fronts}
use Rattle.vega_rules.specs.Names.{first_given}
use Rattle.vega_rules.specs.Twice.{twice}
use Rattle.vega_rules.specs.Unknown.{unknown}
use Rattle.vega_rules.specs.Resolved.{given_in, first_found, fronts_round}
use Rattle.vega_rules.specs.Folds.{product_of, folds_after}
use Rattle.vega_spec.specs.declared.data.DataSet.{DataSet}
use Rattle.vega_building.specs.Parts.{members_of, objects_at}
use Rattle.vega_building.specs.Sources.{data_set_of}
use Rattle.vega_building.specs.Spec.{marks_in, marks_at}
use Rattle.vega_lists.specs.Products.{Products, FoldsFit, products_after}
use Rattle.vega_copies.specs.inner.Kept.{FoldsFitIn}
use Rattle.vega_copies.specs.inner.Outlined.{marks_of}
use Rattle.vega_standing.proofs.Trees.{Each}
use Rattle.vega_standing.proofs.Stands.{Stands, parts_in, parts_of_items, parts_of_members}
use Rattle.vega_standing.proofs.Sources.{sets_taken}
use Rattle.vega_standing.proofs.Quiet.{IsQuiet, AreQuiet, both_quiet, each_append, each_of, quiet_shape}
use Rattle.vega_standing.proofs.Known.{Under, under_itself, under_further, under_others, under_itself_not, unlike, concern, quiet_holds}
use Rattle.vega_standing.proofs.Known.{Apart, known_after, known_append, quiet_known, loud_data, loud_facet, name_behind, name_append}
use Rattle.vega_standing.proofs.Rows.{place_child, of_member}
use Rattle.vega_standing.proofs.Sets.{Listed, listed_as}
use Rattle.vega_standing.proofs.Lists.{later_ends_not, Meets, Outer, outer_kept}
use Rattle.vega_standing.proofs.Following.{Own, Sofar}
use Rattle.vega_standing.proofs.SetLists.{list_keeps, list_concerns, through}
use Rattle.vega_standing.proofs.ObjectFolds.{apart_none, Facetless, apart_facetless, quiet_apart, facetless_none, TwoLoud}

-- parts concern nothing under a place
abbrev pub Clear : List ℕ → List Part → Type 0
Clear place parts = (x : List ℕ) → Under place x → Each (Apart x) parts

-- a place is under another one, and isn't it
abbrev pub Inside : List ℕ → List ℕ → Type 0
Inside place x = Under place x × (same_place place x ≡ false)

some_map : (P Q : List ℕ → Type 0) (o : Option (List ℕ)) → ((t : List ℕ) → P t → Q t) → IfSome o P → IfSome o Q
some_map P Q None f p = tt
some_map P Q (Some t) f p = f t p

pub concerns_map : (P Q : List ℕ → Type 0) (parts : List Part) → ((t : List ℕ) → P t → Q t) →
    Each (λ p. IfSome (concern p) P) parts → Each (λ p. IfSome (concern p) Q) parts
concerns_map P Q parts f each = each_of (λ p. IfSome (concern p) P) (λ p. IfSome (concern p) Q) (λ p u. some_map P Q (concern p) f u) parts each

pub other_way : (x t : List ℕ) → same_place x t ≡ false → same_place t x ≡ false
other_way x t e = unlike t x (λ same. let f : same_place x t ≡ true = (bytes_eq-Decides x t).1 (sym same) in cc)

-- ---- fronts

fronts_first : (s : List ℕ) → fronts s ≡ s ∷ drop 1 (fronts s)
fronts_first [] = refl
fronts_first (n ∷ ns) =
    let p : fronts (n ∷ ns) ≡ (n ∷ ns) ∷ (map (λ (front : List ℕ). n ∷ front) (drop 1 (fronts ns)) ++ ([] ∷ [])) =
    ap (λ fs. map (λ (front : List ℕ). n ∷ front) fs ++ ([] ∷ [])) (fronts_first ns) in
    p ∙ ap (λ fs. (n ∷ ns) ∷ drop 1 fs) (sym p)

pub fronts_child : (s : List ℕ) (k : ℕ) → fronts (s ++ k ∷ []) ≡ (s ++ k ∷ []) ∷ fronts s
fronts_child [] k = refl
fronts_child (n ∷ ns) k = ap (λ fs. map (λ (front : List ℕ). n ∷ front) fs ++ ([] ∷ [])) (fronts_child ns k)

-- ---- lists

first_seat : (before own front a between b back after : List Part) →
    before ++ ((own ++ (front ++ (a ++ (between ++ (b ++ back))))) ++ after) ≡ (before ++ (own ++ front)) ++ (a ++ ((between ++ (b ++ back)) ++ after))
first_seat before own front a between b back after =
    ap (λ ps. before ++ (ps ++ after)) (sym (append_assoc own front (a ++ (between ++ (b ++ back)))))
    ∙ ap (λ ps. before ++ ps) (append_assoc (own ++ front) (a ++ (between ++ (b ++ back))) after
    ∙ ap (λ ps. (own ++ front) ++ ps) (append_assoc a (between ++ (b ++ back)) after))
    ∙ sym (append_assoc before (own ++ front) (a ++ ((between ++ (b ++ back)) ++ after)))

second_seat : (before own front a between b back after : List Part) →
    before ++ ((own ++ (front ++ (a ++ (between ++ (b ++ back))))) ++ after) ≡ (((before ++ (own ++ front)) ++ a) ++ between) ++ (b ++ (back ++ after))
second_seat before own front a between b back after =
    first_seat before own front a between b back after
    ∙ ap (λ ps. (before ++ (own ++ front)) ++ (a ++ ps)) (append_assoc between (b ++ back) after ∙ ap (λ ps. between ++ ps) (append_assoc b back after))
    ∙ sym (append_assoc (before ++ (own ++ front)) a (between ++ (b ++ (back ++ after))))
    ∙ sym (append_assoc ((before ++ (own ++ front)) ++ a) between (b ++ (back ++ after)))

module _ (whole : List Part) (no_twice : twice whole ≡ []) (no_unknown : unknown whole ≡ []) (no_folds : folds_after whole [] whole ≡ []) where
  abbrev pub known_at : List Part → List (List ℕ × ℕ)
  known_at before = known_after whole [] before

  -- what the marks of an object give: they concern what is inside their place, and their folds fit
  pub record MarksGo (trail : Trail) (place : List ℕ) (number : ℕ) (v : Json) : Type 0 where
    pub concerns : Each (λ p. IfSome (concern p) (Inside place)) (parts_in trail number MARKS v)
    pub folds : (products : Products) (before after : List Part) →
        whole ≡ before ++ (parts_in trail number MARKS v ++ after) → Clear place before → Clear place after →
        Outer whole (known_at before) place (fronts place) products → FoldsFitIn products (marks_of (unwrap_or (marks_in v) []))

  abbrev pub sets_of : Option (ℕ × Json) → List DataSet
  sets_of o = unwrap_or
      (option_map (map (λ t. data_set_of (members_of t))) (option_and_then (λ v. items_in (out-Json v)) (option_map (λ (m : ℕ × Json). m.1) o))) []

  module _ (here : Around) (round : Trail) (object : here.object ≡ true) where
    abbrev trail : Trail
    trail = here ∷ round

    abbrev S : List ℕ
    S = place_of trail

    in_scope : (k : ℕ) (v : Json) (j : ℕ) (d : Json) → scope_of (noted j DATA d ∷ noted k DATA_LIST v ∷ trail) ≡ S
    in_scope k v j d = ap (λ b. place_of (if b then here ∷ round else object_at round)) object

    at_child : (k : ℕ) (v : Json) (j : ℕ) (d : Json) → place_of (noted j DATA d ∷ noted k DATA_LIST v ∷ trail) ≡ (S ++ k ∷ []) ++ j ∷ []
    at_child k v j d = place_child (noted j DATA d) (noted k DATA_LIST v) trail ∙ ap (λ p. p ++ j ∷ []) (place_child (noted k DATA_LIST v) here round)

    sets_listed : (s : ℕ × Json) → Stands trail s.0 DATA_LIST s.1 → Listed trail s.0 DATA_LIST DATA s.1
    sets_listed s stands = listed_as trail s.0 DATA_LIST DATA s.1 stands sets_taken

    quiet_list : (s : ℕ × Json) → AreQuiet (parts_at (noted s.0 DATA_LIST s.1 ∷ trail) s.1)
    quiet_list s = quiet_shape DATA_LIST refl refl refl (noted s.0 DATA_LIST s.1 ∷ trail) s.1

    pub sets_concern : (P : List ℕ → Type 0) (o : Option (ℕ × Json)) → IfSome o (λ (m : ℕ × Json). Stands trail m.0 DATA_LIST m.1) → P S →
        IfSome o (λ (s : ℕ × Json). (i : ℕ) → P ((S ++ s.0 ∷ []) ++ i ∷ [])) → Each (λ p. IfSome (concern p) P) (of_member trail DATA_LIST o)
    sets_concern P None s p q = tt
    sets_concern P (Some s) stands p q =
        let l : Listed trail s.0 DATA_LIST DATA s.1 = sets_listed s stands in
        subst (Each (λ p. IfSome (concern p) P)) (sym l.parts)
        (each_append (λ p. IfSome (concern p) P) (parts_at (noted s.0 DATA_LIST s.1 ∷ trail) s.1)
        (parts_of_items (noted s.0 DATA_LIST s.1 ∷ trail) DATA 0 l.items)
        (quiet_holds P (parts_at (noted s.0 DATA_LIST s.1 ∷ trail) s.1) (quiet_list s))
        (list_concerns (noted s.0 DATA_LIST s.1 ∷ trail) S s.0 (in_scope s.0 s.1) (at_child s.0 s.1) P 0 l.items l.each p (λ i e. q i)))

    sets_facetless : (o : Option (ℕ × Json)) → IfSome o (λ (m : ℕ × Json). Stands trail m.0 DATA_LIST m.1) → Each (Facetless S) (of_member trail DATA_LIST o)
    sets_facetless None s = tt
    sets_facetless (Some s) stands =
        let l : Listed trail s.0 DATA_LIST DATA s.1 = sets_listed s stands in
        subst (Each (Facetless S)) (sym l.parts)
        (each_append (Facetless S) (parts_at (noted s.0 DATA_LIST s.1 ∷ trail) s.1) (parts_of_items (noted s.0 DATA_LIST s.1 ∷ trail) DATA 0 l.items)
        (each_of IsQuiet (Facetless S) (λ p q. apart_facetless S p (quiet_apart S p q)) (parts_at (noted s.0 DATA_LIST s.1 ∷ trail) s.1) (quiet_list s))
        (list_keeps (noted s.0 DATA_LIST s.1 ∷ trail) S s.0 (in_scope s.0 s.1) (at_child s.0 s.1) (Facetless S) 0 l.items l.each
        (λ p q. apart_facetless S p (quiet_apart S p q)) (λ i e. tt) (λ i e n name. λ other. refl) (λ i e n name. tt) (λ i e at n. tt)))

    -- what a name of the object means among all parts
    abbrev OfSet : Option (ℕ × Json) → List ℕ → Type 0
    OfSet None x = ⊥
    OfSet (Some s) x = (i : ℕ) × (x ≡ (S ++ s.0 ∷ []) ++ i ∷ [])

    abbrev OwnName : List (List ℕ × ℕ) → Option (ℕ × Json) → ℕ → ℕ → Option GivenName → Type 0
    OwnName known o product outer None = product ≡ outer
    OwnName known o product outer (Some g) = (product_of known g.of ≡ product) × OfSet o g.of

    record SetsGone (o : Option (ℕ × Json)) (before : List Part) (products : Products) : Type 0 where
      fits : FoldsFit products (sets_of o)
      own : (name : List ℕ) → OwnName (known_at (before ++ of_member trail DATA_LIST o)) o
          (products_after products (sets_of o) name) (products name) (first_given whole given_as.Data S name)
      few : (name : List ℕ) → products_after products (sets_of o) name ≤ 8

    sets_go : (no_facets : (name : List ℕ) → first_given whole given_as.Facet S name ≡ None) (o : Option (ℕ × Json)) →
        IfSome o (λ (m : ℕ × Json). Stands trail m.0 DATA_LIST m.1) →
        (before after : List Part) (products : Products) →
        whole ≡ before ++ (of_member trail DATA_LIST o ++ after) → Each (Apart S) before → Each (Apart S) after →
        IfSome o (λ (s : ℕ × Json). ((i : ℕ) → Each (Apart ((S ++ s.0 ∷ []) ++ i ∷ [])) before) × ((i : ℕ) → Each (Apart ((S ++ s.0 ∷ []) ++ i ∷ [])) after)) →
        Outer whole (known_at before) S (fronts_round S) products → SetsGone o before products
    sets_go no_facets None stands before after products is a b clear outer = record {
      fits = tt;
      own = λ name. subst (OwnName (known_at (before ++ [])) None (products name) (products name))
          (sym (ap (λ ps. first_given ps given_as.Data S name) is ∙ name_behind given_as.Data loud_data S name before after a
          ∙ apart_none given_as.Data loud_data S name after b)) refl;
      few = outer.few;
    }
    sets_go no_facets (Some s) stands before after products is a b clear outer =
        let l : Listed trail s.0 DATA_LIST DATA s.1 = sets_listed s stands in
        let own_list : List Part = parts_at (noted s.0 DATA_LIST s.1 ∷ trail) s.1 in
        let items : List Part = parts_of_items (noted s.0 DATA_LIST s.1 ∷ trail) DATA 0 l.items in
        let lead : List Part = before ++ own_list in
        let whole_is : whole ≡ lead ++ (items ++ after) =
        is ∙ ap (λ ps. before ++ (ps ++ after)) l.parts ∙ ap (λ ps. before ++ ps) (append_assoc own_list items after)
        ∙ sym (append_assoc before own_list (items ++ after)) in
        let lead_known : known_at lead ≡ known_at before =
        known_append whole [] before own_list ∙ quiet_known whole (known_at before) own_list (quiet_list s) in
        let quiet_away : (x : List ℕ) → Each (Apart x) own_list = λ x. each_of IsQuiet (Apart x) (quiet_apart x) own_list (quiet_list s) in
        let lead_apart : Each (Apart S) lead = each_append (Apart S) before own_list a (quiet_away S) in
        let start : Sofar whole S (S ++ s.0 ∷ []) products 0 lead products = record {
          own = λ name. subst (Own (known_at lead) (S ++ s.0 ∷ []) 0 (products name) (products name))
              (sym (apart_none given_as.Data loud_data S name lead lead_apart)) refl;
          outside = subst (λ kn. Outer whole kn S (fronts_round S) products) (sym lead_known) outer;
          few = outer.few;
          clear = λ i e. each_append (Apart ((S ++ s.0 ∷ []) ++ i ∷ [])) before own_list (clear.0 i) (quiet_away ((S ++ s.0 ∷ []) ++ i ∷ []));
        } in
        let gone = through (noted s.0 DATA_LIST s.1 ∷ trail) S s.0 (in_scope s.0 s.1) (at_child s.0 s.1) whole no_twice
        no_unknown no_folds no_facets products 0 l.items lead after products l.each
        whole_is start clear.1 b in
        let sets_are : sets_of (Some s) ≡ map (λ t. data_set_of (members_of t)) l.items =
        ap (λ o. unwrap_or (option_map (map (λ t. data_set_of (members_of t))) (items_in o)) []) l.is_list in
        let all : before ++ of_member trail DATA_LIST (Some s) ≡ lead ++ items = ap (λ ps. before ++ ps) l.parts ∙ sym (append_assoc before own_list items) in
        record {
          fits = subst (FoldsFit products) (sym sets_are) gone.fits;
          own = λ name.
              let there : first_given whole given_as.Data S name ≡ first_given (lead ++ items) given_as.Data S name =
              ap (λ ps. first_given ps given_as.Data S name) (whole_is ∙ sym (append_assoc lead items after))
              ∙ name_append given_as.Data S name (lead ++ items) after
              ∙ ap (λ o. option_or (first_given (lead ++ items) given_as.Data S name) o) (apart_none given_as.Data loud_data S name after b)
              ∙ or_none (first_given (lead ++ items) given_as.Data S name) in
              subst (λ ps. OwnName (known_at ps) (Some s) (products_after products (sets_of (Some s)) name)
              (products name) (first_given whole given_as.Data S name)) (sym all)
              (subst (λ o. OwnName (known_at (lead ++ items)) (Some s) (products_after products (sets_of (Some s)) name) (products name) o) (sym there)
              (subst (λ ss. OwnName (known_at (lead ++ items)) (Some s) (products_after products ss name)
              (products name) (first_given (lead ++ items) given_as.Data S name)) (sym sets_are)
              (own_name (first_given (lead ++ items) given_as.Data S name) gone.count (known_at (lead ++ items)) _ (products name) (gone.sofar.own name))));
          few = λ name. subst (λ ss. products_after products ss name ≤ 8) (sym sets_are) (gone.sofar.few name);
        }
      where
        or_none : (o : Option GivenName) → option_or o None ≡ o
        or_none None = refl
        or_none (Some g) = refl

        own_name : (o : Option GivenName) (j : ℕ) (known : List (List ℕ × ℕ)) (product outer : ℕ) →
            Own known (S ++ s.0 ∷ []) j product outer o → OwnName known (Some s) product outer o
        own_name None j known product outer e = e
        own_name (Some g) j known product outer e = (e.0, (e.1, e.3))

    -- ---- marks behind the names of their object

    or_nothing : (o : Option GivenName) → option_or o None ≡ o
    or_nothing None = refl
    or_nothing (Some g) = refl

    -- what a name of the object means to the marks in it
    abbrev MarkName : List (List ℕ × ℕ) → List ℕ → ℕ → ℕ → Option GivenName → Type 0
    MarkName known place product outer None = product ≡ outer
    MarkName known place product outer (Some g) = Meets known place product (Some g)

    marks_outer : (k : ℕ) (known : List (List ℕ × ℕ)) (products inner : Products) → ((name : List ℕ) → first_given whole given_as.Facet S name ≡ None) →
        ((name : List ℕ) → given_in whole for_.Source name (S ++ k ∷ []) ≡ None) →
        Outer whole known S (fronts_round S) products → ((name : List ℕ) → inner name ≤ 8) →
        ((name : List ℕ) → MarkName known (S ++ k ∷ []) (inner name) (products name) (first_given whole given_as.Data S name)) →
        Outer whole known (S ++ k ∷ []) (fronts (S ++ k ∷ [])) inner
    marks_outer k known products inner no_facets empty outer few own = record {
      meets = λ name. subst (Meets known (S ++ k ∷ []) (inner name)) (sym (found name))
          (by_own name (first_given whole given_as.Data S name) (first_found (given_in whole for_.Source name) (fronts_round S)) (own name) (outer.meets name));
      few = few;
    }
      where
        found : (name : List ℕ) → first_found (given_in whole for_.Source name) (fronts (S ++ k ∷ []))
            ≡ option_or (first_given whole given_as.Data S name) (first_found (given_in whole for_.Source name) (fronts_round S))
        found name =
            ap (first_found (given_in whole for_.Source name)) (fronts_child S k ∙ ap (λ fs. (S ++ k ∷ []) ∷ fs) (fronts_first S))
            ∙ ap (λ o. option_or o (option_or (given_in whole for_.Source name S) (first_found (given_in whole for_.Source name) (fronts_round S))))
            (empty name)
            ∙ ap (λ o. option_or (option_or (first_given whole given_as.Data S name) o)
            (first_found (given_in whole for_.Source name) (fronts_round S))) (no_facets name)
            ∙ ap (λ o. option_or o (first_found (given_in whole for_.Source name) (fronts_round S))) (or_nothing (first_given whole given_as.Data S name))

        by_own : (name : List ℕ) (o r : Option GivenName) → MarkName known (S ++ k ∷ []) (inner name) (products name) o → Meets known S (products name) r →
            Meets known (S ++ k ∷ []) (inner name) (option_or o r)
        by_own name (Some g) r m n = m
        by_own name None None m n = tt
        by_own name None (Some g) m n = ((λ q u e. n.0 q (under_further S (k ∷ []) q u) e ∙ sym m), (λ u. n.1 (under_further S (k ∷ []) g.of u)))

    outer_more : (before parts : List Part) (products : Products) →
        Each (λ p. IfSome (concern p) (Under S)) parts → Outer whole (known_at before) S (fronts_round S) products →
        Outer whole (known_at (before ++ parts)) S (fronts_round S) products
    outer_more before parts products each outer =
        subst (λ kn. Outer whole kn S (fronts_round S) products) (sym (known_append whole [] before parts))
        (outer_kept whole (known_at before) S (fronts_round S) products parts each outer)

    known_quiet : (before parts : List Part) → AreQuiet parts → known_at (before ++ parts) ≡ known_at before
    known_quiet before parts q = known_append whole [] before parts ∙ quiet_known whole (known_at before) parts q

    module _ (so mo : Option (ℕ × Json)) (stand : IfSome so (λ (m : ℕ × Json). Stands trail m.0 DATA_LIST m.1))
        (go : IfSome mo (λ (m : ℕ × Json). MarksGo trail (S ++ m.0 ∷ []) m.0 m.1))
        (own front between back : List Part) (quiet_own : AreQuiet own) (quiet_front : AreQuiet front)
        (quiet_between : AreQuiet between) (quiet_back : AreQuiet back)
        (products : Products) (before after : List Part) (clear_before : Clear S before) (clear_after : Clear S after)
        (outer : Outer whole (known_at before) S (fronts_round S) products) where
      abbrev D : List Part
      D = of_member trail DATA_LIST so

      abbrev Mk : List Part
      Mk = of_member trail MARKS mo

      abbrev lead : List Part
      lead = before ++ (own ++ front)

      abbrev products_in : Products
      products_in = products_after products (sets_of so)

      abbrev marks_here : Option (ℕ × Json) → Type 0
      marks_here o = FoldsFitIn products_in (marks_of (unwrap_or (option_and_then marks_in (option_map (λ (m : ℕ × Json). m.1) o)) []))

      -- the data sets and the marks stand under different numbers
      abbrev Differ : Type 0
      Differ = IfSome so (λ (s : ℕ × Json). IfSome mo (λ (m : ℕ × Json). s.0 ≡ m.0 → ⊥))

      quiet_each : (P : List ℕ → Type 0) (parts : List Part) → AreQuiet parts → Each (λ p. IfSome (concern p) P) parts
      quiet_each P parts q = quiet_holds P parts q

      marks_each : (P : List ℕ → Type 0) (o : Option (ℕ × Json)) → IfSome o (λ (m : ℕ × Json). MarksGo trail (S ++ m.0 ∷ []) m.0 m.1) →
          IfSome o (λ (m : ℕ × Json). (t : List ℕ) → Inside (S ++ m.0 ∷ []) t → P t) → Each (λ p. IfSome (concern p) P) (of_member trail MARKS o)
      marks_each P None g f = tt
      marks_each P (Some m) g f = concerns_map (Inside (S ++ m.0 ∷ [])) P (parts_in trail m.0 MARKS m.1) f g.concerns

      for_each : (P : ℕ × Json → Type 0) (o : Option (ℕ × Json)) → ((m : ℕ × Json) → P m) → IfSome o P
      for_each P None f = tt
      for_each P (Some m) f = f m

      S_itself : Under S S
      S_itself = ([], sym (append-nil S))

      marks_not_S : Each (Apart S) Mk
      marks_not_S = marks_each (λ t. same_place S t ≡ false) mo go
          (for_each (λ m. (t : List ℕ) → Inside (S ++ m.0 ∷ []) t → same_place S t ≡ false) mo (λ m t u. under_itself_not S m.0 t u.0))

      marks_under : Each (λ p. IfSome (concern p) (Under S)) Mk
      marks_under = marks_each (Under S) mo go
          (for_each (λ m. (t : List ℕ) → Inside (S ++ m.0 ∷ []) t → Under S t) mo (λ m t u. under_further S (m.0 ∷ []) t u.0))

      sets_under : Each (λ p. IfSome (concern p) (Under S)) D
      sets_under = sets_concern (Under S) so stand S_itself (for_each (λ s. (i : ℕ) → Under S ((S ++ s.0 ∷ []) ++ i ∷ [])) so
          (λ s i. under_further S (s.0 ∷ []) ((S ++ s.0 ∷ []) ++ i ∷ []) (under_itself (S ++ s.0 ∷ []) (i ∷ []))))

      lead_each : (x : List ℕ) → Each (Apart x) before → Each (Apart x) lead
      lead_each x a = each_append (Apart x) before (own ++ front) a
          (each_of IsQuiet (Apart x) (quiet_apart x) (own ++ front) (both_quiet own front quiet_own quiet_front))

      away : (x : List ℕ) (parts : List Part) → AreQuiet parts → Each (Apart x) parts
      away x parts q = each_of IsQuiet (Apart x) (quiet_apart x) parts q

      lead_outer : Outer whole (known_at lead) S (fronts_round S) products
      lead_outer = outer_more before (own ++ front) products (quiet_each (Under S) (own ++ front) (both_quiet own front quiet_own quiet_front)) outer

      -- no part gives a name of a facet in the object
      facetless : (all : List Part) → whole ≡ all → Each (Facetless S) all → (name : List ℕ) → first_given whole given_as.Facet S name ≡ None
      facetless all is each name = ap (λ ps. first_given ps given_as.Facet S name) is ∙ facetless_none S name all each

      free : (parts : List Part) → Each (Apart S) parts → Each (Facetless S) parts
      free parts each = each_of (Apart S) (Facetless S) (apart_facetless S) parts each

      -- places of marks give no names
      emptied : (m : ℕ × Json) (all : List Part) → whole ≡ all → Each (Apart (S ++ m.0 ∷ [])) all →
          (name : List ℕ) → given_in whole for_.Source name (S ++ m.0 ∷ []) ≡ None
      emptied m all is each name =
          λ i. option_or
          ((ap (λ ps. first_given ps given_as.Data (S ++ m.0 ∷ []) name) is ∙ apart_none given_as.Data loud_data (S ++ m.0 ∷ []) name all each) i)
          ((ap (λ ps. first_given ps given_as.Facet (S ++ m.0 ∷ []) name) is ∙ apart_none given_as.Facet loud_facet (S ++ m.0 ∷ []) name all each) i)

      sets_not : (m : ℕ × Json) (o : Option (ℕ × Json)) →
          IfSome o (λ (s : ℕ × Json). Stands trail s.0 DATA_LIST s.1) → IfSome o (λ (s : ℕ × Json). s.0 ≡ m.0 → ⊥) →
          (x : List ℕ) → Under (S ++ m.0 ∷ []) x → Each (Apart x) (of_member trail DATA_LIST o)
      sets_not m o st differ x u =
          sets_concern (λ t. same_place x t ≡ false) o st (other_way S x (under_itself_not S m.0 x u)) (by_set o differ)
        where
          by_set : (o : Option (ℕ × Json)) → IfSome o (λ (s : ℕ × Json). s.0 ≡ m.0 → ⊥) →
              IfSome o (λ (s : ℕ × Json). (i : ℕ) → same_place x ((S ++ s.0 ∷ []) ++ i ∷ []) ≡ false)
          by_set None d = tt
          by_set (Some s) d = λ i. under_others S m.0 s.0 x ((S ++ s.0 ∷ []) ++ i ∷ []) (λ same. d (sym same)) u (under_itself (S ++ s.0 ∷ []) (i ∷ []))

      -- each data set of the object is clear of some parts that lie round its list
      round_sets : (front_part back_part : List Part) (o m : Option (ℕ × Json)) → IfSome o (λ (s : ℕ × Json). IfSome m (λ (m : ℕ × Json). s.0 ≡ m.0 → ⊥)) →
          ((x : List ℕ) → Under S x → IfSome m (λ (m : ℕ × Json). (t : List ℕ) → Under (S ++ m.0 ∷ []) t → same_place x t ≡ false) →
          Each (Apart x) front_part) →
          ((x : List ℕ) → Under S x → IfSome m (λ (m : ℕ × Json). (t : List ℕ) → Under (S ++ m.0 ∷ []) t → same_place x t ≡ false) → Each (Apart x) back_part) →
          IfSome o (λ (s : ℕ × Json). ((i : ℕ) → Each (Apart ((S ++ s.0 ∷ []) ++ i ∷ [])) front_part)
          × ((i : ℕ) → Each (Apart ((S ++ s.0 ∷ []) ++ i ∷ [])) back_part))
      round_sets f b None m differ c d = tt
      round_sets f b (Some s) m differ c d = ((λ i. c (x i) (x_under i) (unlike_marks m i differ)), (λ i. d (x i) (x_under i) (unlike_marks m i differ)))
        where
          x : ℕ → List ℕ
          x i = (S ++ s.0 ∷ []) ++ i ∷ []

          x_under : (i : ℕ) → Under S (x i)
          x_under i = under_further S (s.0 ∷ []) (x i) (under_itself (S ++ s.0 ∷ []) (i ∷ []))

          unlike_marks : (m : Option (ℕ × Json)) (i : ℕ) → IfSome m (λ (m : ℕ × Json). s.0 ≡ m.0 → ⊥) →
              IfSome m (λ (m : ℕ × Json). (t : List ℕ) → Under (S ++ m.0 ∷ []) t → same_place (x i) t ≡ false)
          unlike_marks None i d = tt
          unlike_marks (Some m) i d = λ t u. under_others S s.0 m.0 (x i) t d (under_itself (S ++ s.0 ∷ []) (i ∷ [])) u

      marks_clear : (x : List ℕ) → IfSome mo (λ (m : ℕ × Json). (t : List ℕ) → Under (S ++ m.0 ∷ []) t → same_place x t ≡ false) → Each (Apart x) Mk
      marks_clear x f = marks_each (λ t. same_place x t ≡ false) mo go (weaker mo f)
        where
          weaker : (o : Option (ℕ × Json)) → IfSome o (λ (m : ℕ × Json). (t : List ℕ) → Under (S ++ m.0 ∷ []) t → same_place x t ≡ false) →
              IfSome o (λ (m : ℕ × Json). (t : List ℕ) → Inside (S ++ m.0 ∷ []) t → same_place x t ≡ false)
          weaker None f = tt
          weaker (Some m) f = λ t u. f t u.0

      self_same : (x : List ℕ) → same_place x x ≡ true
      self_same x = (bytes_eq-Decides x x).1 refl

      pub record ObjectFits : Type 0 where
        pub sets : FoldsFit products (sets_of so)
        pub marks : marks_here mo

      differ_at : (m : ℕ × Json) (o : Option (ℕ × Json)) (p : Option (ℕ × Json)) → p ≡ Some m →
          IfSome o (λ (s : ℕ × Json). IfSome p (λ (m : ℕ × Json). s.0 ≡ m.0 → ⊥)) → IfSome o (λ (s : ℕ × Json). s.0 ≡ m.0 → ⊥)
      differ_at m None p e d = tt
      differ_at m (Some s) None e d = absurd cc
      differ_at m (Some s) (Some n) e d = let same : n.0 ≡ m.0 = cc in λ f. d (f ∙ sym same)

      -- where the data sets stand before the marks
      pub sets_before : whole ≡ before ++ ((own ++ (front ++ (D ++ (between ++ (Mk ++ back))))) ++ after) → Differ → ObjectFits
      sets_before is differ = record { sets = gone.fits; marks = by_marks mo refl go }
        where
          behind : List Part
          behind = (between ++ (Mk ++ back)) ++ after

          is_sets : whole ≡ lead ++ (D ++ behind)
          is_sets = is ∙ first_seat before own front D between Mk back after

          is_marks : whole ≡ ((lead ++ D) ++ between) ++ (Mk ++ (back ++ after))
          is_marks = is ∙ second_seat before own front D between Mk back after

          behind_each : (x : List ℕ) → Each (Apart x) Mk → Each (Apart x) after → Each (Apart x) behind
          behind_each x m a = each_append (Apart x) (between ++ (Mk ++ back)) after
              (each_append (Apart x) between (Mk ++ back) (away x between quiet_between) (each_append (Apart x) Mk back m (away x back quiet_back))) a

          no_facets : (name : List ℕ) → first_given whole given_as.Facet S name ≡ None
          no_facets = facetless (lead ++ (D ++ behind)) is_sets
              (each_append (Facetless S) lead (D ++ behind) (free lead (lead_each S (clear_before S S_itself)))
              (each_append (Facetless S) D behind (sets_facetless so stand) (free behind (behind_each S marks_not_S (clear_after S S_itself)))))

          gone : SetsGone so lead products
          gone = sets_go no_facets so stand lead behind products is_sets
              (lead_each S (clear_before S S_itself)) (behind_each S marks_not_S (clear_after S S_itself))
              (round_sets lead behind so mo differ (λ x u f. lead_each x (clear_before x u))
              (λ x u f. behind_each x (marks_clear x f) (clear_after x u))) lead_outer

          own_name : (m : ℕ × Json) (o : Option (ℕ × Json)) → IfSome o (λ (s : ℕ × Json). s.0 ≡ m.0 → ⊥) →
              (g : Option GivenName) (p q : ℕ) → OwnName (known_at (lead ++ D)) o p q g →
              MarkName (known_at ((lead ++ D) ++ between)) (S ++ m.0 ∷ []) p q g
          own_name m o d None p q e = e
          own_name m None d (Some g) p q e = absurd e.1
          own_name m (Some s) d (Some g) p q e = (
            (λ x u ends. ap (λ kn. product_of kn g.of) (known_quiet (lead ++ D) between quiet_between) ∙ e.0),
            (λ u. let f : same_place g.of g.of ≡ false =
                under_others S m.0 s.0 g.of g.of (λ same. d (sym same)) u (e.1.0 ∷ [], e.1.1) in let h = self_same g.of in cc),
          )

          by_marks : (o : Option (ℕ × Json)) → mo ≡ o → IfSome o (λ (m : ℕ × Json). MarksGo trail (S ++ m.0 ∷ []) m.0 m.1) → marks_here o
          by_marks None e g = tt
          by_marks (Some m) e g =
              g.folds products_in ((lead ++ D) ++ between) (back ++ after)
              (is_marks ∙ ap (λ o. ((lead ++ D) ++ between) ++ (of_member trail MARKS o ++ (back ++ after))) e)
              (λ x u. each_append (Apart x) (lead ++ D) between (each_append (Apart x) lead D
              (lead_each x (clear_before x (under_further S (m.0 ∷ []) x u))) (sets_not m so stand apart_m x u)) (away x between quiet_between))
              (λ x u. each_append (Apart x) back after (away x back quiet_back) (clear_after x (under_further S (m.0 ∷ []) x u)))
              (marks_outer m.0 (known_at ((lead ++ D) ++ between)) products products_in no_facets
              (emptied m (lead ++ (D ++ behind)) is_sets (each_append (Apart (S ++ m.0 ∷ [])) lead (D ++ behind)
              (lead_each (S ++ m.0 ∷ []) (clear_before (S ++ m.0 ∷ []) (under_itself S (m.0 ∷ []))))
              (each_append (Apart (S ++ m.0 ∷ [])) D behind (sets_not m so stand apart_m (S ++ m.0 ∷ []) ([], sym (append-nil (S ++ m.0 ∷ []))))
              (behind_each (S ++ m.0 ∷ []) (subst (λ o. Each (Apart (S ++ m.0 ∷ [])) (of_member trail MARKS o)) (sym e) (concerns_map
              (Inside (S ++ m.0 ∷ [])) (λ t. same_place (S ++ m.0 ∷ []) t ≡ false) (parts_in trail m.0 MARKS m.1) (λ t u. u.1) g.concerns))
              (clear_after (S ++ m.0 ∷ []) (under_itself S (m.0 ∷ [])))))))
              (outer_more (lead ++ D) between products (quiet_each (Under S) between quiet_between) (outer_more lead D products sets_under lead_outer)) gone.few
              (λ name. own_name m so apart_m (first_given whole given_as.Data S name) (products_in name) (products name) (gone.own name)))
            where
              apart_m : IfSome so (λ (s : ℕ × Json). s.0 ≡ m.0 → ⊥)
              apart_m = differ_at m so mo e differ

      -- where the marks stand before the data sets
      pub sets_behind : whole ≡ before ++ ((own ++ (front ++ (Mk ++ (between ++ (D ++ back))))) ++ after) → Differ →
          IfSome so (λ (s : ℕ × Json). IfSome mo (λ (m : ℕ × Json). m.0 < s.0)) → ObjectFits
      sets_behind is differ order = record { sets = gone.fits; marks = by_marks mo refl go }
        where
          behind : List Part
          behind = (between ++ (D ++ back)) ++ after

          front_of : List Part
          front_of = (lead ++ Mk) ++ between

          is_marks : whole ≡ lead ++ (Mk ++ behind)
          is_marks = is ∙ first_seat before own front Mk between D back after

          is_sets : whole ≡ front_of ++ (D ++ (back ++ after))
          is_sets = is ∙ second_seat before own front Mk between D back after

          front_each : (x : List ℕ) → Each (Apart x) before → Each (Apart x) Mk → Each (Apart x) front_of
          front_each x b m = each_append (Apart x) (lead ++ Mk) between (each_append (Apart x) lead Mk (lead_each x b) m) (away x between quiet_between)

          last_each : (x : List ℕ) → Each (Apart x) after → Each (Apart x) (back ++ after)
          last_each x a = each_append (Apart x) back after (away x back quiet_back) a

          no_facets : (name : List ℕ) → first_given whole given_as.Facet S name ≡ None
          no_facets = facetless (front_of ++ (D ++ (back ++ after))) is_sets
              (each_append (Facetless S) front_of (D ++ (back ++ after)) (free front_of (front_each S (clear_before S S_itself) marks_not_S))
              (each_append (Facetless S) D (back ++ after) (sets_facetless so stand) (free (back ++ after) (last_each S (clear_after S S_itself)))))

          gone : SetsGone so front_of products
          gone = sets_go no_facets so stand front_of (back ++ after) products is_sets
              (front_each S (clear_before S S_itself) marks_not_S) (last_each S (clear_after S S_itself))
              (round_sets front_of (back ++ after) so mo differ
              (λ x u f. front_each x (clear_before x u) (marks_clear x f)) (λ x u f. last_each x (clear_after x u)))
              (outer_more (lead ++ Mk) between products (quiet_each (Under S) between quiet_between) (outer_more lead Mk products marks_under lead_outer))

          order_at : (m : ℕ × Json) (o : Option (ℕ × Json)) (p : Option (ℕ × Json)) → p ≡ Some m →
              IfSome o (λ (s : ℕ × Json). IfSome p (λ (m : ℕ × Json). m.0 < s.0)) → IfSome o (λ (s : ℕ × Json). m.0 < s.0)
          order_at m None p e d = tt
          order_at m (Some s) None e d = absurd cc
          order_at m (Some s) (Some n) e d = let same : n.0 ≡ m.0 = cc in subst (λ k. k < s.0) same d

          own_name : (m : ℕ × Json) (o : Option (ℕ × Json)) → IfSome o (λ (s : ℕ × Json). s.0 ≡ m.0 → ⊥) →
              IfSome o (λ (s : ℕ × Json). m.0 < s.0) → (g : Option GivenName) (p q : ℕ) →
              OwnName (known_at (front_of ++ D)) o p q g → MarkName (known_at lead) (S ++ m.0 ∷ []) p q g
          own_name m o d less None p q e = e
          own_name m None d less (Some g) p q e = absurd e.1
          own_name m (Some s) d less (Some g) p q e = (
            (λ x u ends.
                let f : ends_before g.of x ≡ false = (λ i. ends_before (e.1.1 i) (u.1 i)) ∙ later_ends_not S s.0 m.0 (e.1.0 ∷ []) u.0 less in absurd cc),
            (λ u. let f : same_place g.of g.of ≡ false =
                under_others S m.0 s.0 g.of g.of (λ same. d (sym same)) u (e.1.0 ∷ [], e.1.1) in let h = self_same g.of in cc),
          )

          by_marks : (o : Option (ℕ × Json)) → mo ≡ o → IfSome o (λ (m : ℕ × Json). MarksGo trail (S ++ m.0 ∷ []) m.0 m.1) → marks_here o
          by_marks None e g = tt
          by_marks (Some m) e g =
              g.folds products_in lead behind (is_marks ∙ ap (λ o. lead ++ (of_member trail MARKS o ++ behind)) e)
              (λ x u. lead_each x (clear_before x (under_further S (m.0 ∷ []) x u)))
              (λ x u. each_append (Apart x) (between ++ (D ++ back)) after
              (each_append (Apart x) between (D ++ back) (away x between quiet_between)
              (each_append (Apart x) D back (sets_not m so stand apart_m x u) (away x back quiet_back)))
              (clear_after x (under_further S (m.0 ∷ []) x u)))
              (marks_outer m.0 (known_at lead) products products_in no_facets
              (emptied m (front_of ++ (D ++ (back ++ after))) is_sets (each_append (Apart (S ++ m.0 ∷ [])) front_of (D ++ (back ++ after))
              (front_each (S ++ m.0 ∷ []) (clear_before (S ++ m.0 ∷ []) (under_itself S (m.0 ∷ [])))
              (subst (λ o. Each (Apart (S ++ m.0 ∷ [])) (of_member trail MARKS o)) (sym e) (concerns_map (Inside (S ++ m.0 ∷ []))
              (λ t. same_place (S ++ m.0 ∷ []) t ≡ false) (parts_in trail m.0 MARKS m.1) (λ t u. u.1) g.concerns)))
              (each_append (Apart (S ++ m.0 ∷ [])) D (back ++ after) (sets_not m so stand apart_m (S ++ m.0 ∷ []) ([], sym (append-nil (S ++ m.0 ∷ []))))
              (last_each (S ++ m.0 ∷ []) (clear_after (S ++ m.0 ∷ []) (under_itself S (m.0 ∷ [])))))))
              lead_outer gone.few
              (λ name. own_name m so apart_m less_m (first_given whole given_as.Data S name) (products_in name) (products name) (gone.own name)))
            where
              apart_m : IfSome so (λ (s : ℕ × Json). s.0 ≡ m.0 → ⊥)
              apart_m = differ_at m so mo e differ

              less_m : IfSome so (λ (s : ℕ × Json). m.0 < s.0)
              less_m = order_at m so mo e order

    -- ---- the object

    differ_of : (first : Bool) (so mo : Option (ℕ × Json)) →
        IfSome so (λ (s : ℕ × Json). IfSome mo (λ (m : ℕ × Json). (first ≡ true → s.0 < m.0) × (first ≡ false → m.0 < s.0))) →
        IfSome so (λ (s : ℕ × Json). IfSome mo (λ (m : ℕ × Json). s.0 ≡ m.0 → ⊥))
    differ_of first None mo e = tt
    differ_of first (Some s) None e = tt
    differ_of true (Some s) (Some m) e = λ same. less s.0 m.0 (e.0 refl) same
      where
        less : (a b : ℕ) → a < b → a ≡ b → ⊥
        less a b e f = omega (arith, e, f)
    differ_of false (Some s) (Some m) e = λ same. less s.0 m.0 (e.1 refl) same
      where
        less : (a b : ℕ) → b < a → a ≡ b → ⊥
        less a b e f = omega (arith, e, f)

    behind_of : (so mo : Option (ℕ × Json)) →
        IfSome so (λ (s : ℕ × Json). IfSome mo (λ (m : ℕ × Json). (false ≡ true → s.0 < m.0) × (false ≡ false → m.0 < s.0))) →
        IfSome so (λ (s : ℕ × Json). IfSome mo (λ (m : ℕ × Json). m.0 < s.0))
    behind_of None mo e = tt
    behind_of (Some s) None e = tt
    behind_of (Some s) (Some m) e = e.1 refl

    -- the folds of an object and of the marks in it fit
    pub object_fits : (l : Layout) (ms : List Member) (tl : TwoLoud trail l 0 ms) → IfSome tl.marks (λ (m : ℕ × Json). MarksGo trail (S ++ m.0 ∷ []) m.0 m.1) →
        (own : List Part) → AreQuiet own → (products : Products) (before after : List Part) →
        whole ≡ before ++ ((own ++ parts_of_members trail l 0 ms) ++ after) →
        Clear S before → Clear S after → Outer whole (known_at before) S (fronts_round S) products →
        FoldsFit products (unwrap_or (objects_at data_set_of ms (codes "data")) [])
        × FoldsFitIn (products_after products (unwrap_or (objects_at data_set_of ms (codes "data")) [])) (marks_of (unwrap_or (marks_at ms (codes "marks")) []))
    object_fits l ms tl go own quiet_own products before after is clear_before clear_after outer =
        let sets_are : unwrap_or (objects_at data_set_of ms (codes "data")) [] ≡ sets_of tl.sets =
        ap (λ o. unwrap_or (option_map (map (λ t. data_set_of (members_of t))) (option_and_then (λ v. items_in (out-Json v)) o)) []) tl.sets_value in
        let marks_are : unwrap_or (marks_at ms (codes "marks")) [] ≡ unwrap_or (option_and_then marks_in (option_map (λ (m : ℕ × Json). m.1) tl.marks)) [] =
        ap (λ o. unwrap_or (option_and_then marks_in o) []) tl.marks_value in
        let f : ObjectFits tl.sets tl.marks tl.sets_stand go own tl.front tl.between tl.back quiet_own tl.quiet_front
        tl.quiet_between tl.quiet_back products before after clear_before clear_after outer =
        by_order tl.sets_first tl.order (is ∙ ap (λ ps. before ++ ((own ++ ps) ++ after)) tl.parts) in (
          subst (FoldsFit products) (sym sets_are) f.sets,
          subst (λ ss. FoldsFitIn (products_after products ss) (marks_of (unwrap_or (marks_at ms (codes "marks")) []))) (sym sets_are)
              (subst (λ mm. FoldsFitIn (products_after products (sets_of tl.sets)) (marks_of mm)) (sym marks_are) f.marks),
        )
      where
        by_order : (first : Bool) →
            IfSome tl.sets (λ (s : ℕ × Json). IfSome tl.marks (λ (m : ℕ × Json). (first ≡ true → s.0 < m.0) × (first ≡ false → m.0 < s.0))) →
            whole ≡ before ++ ((own ++ (tl.front ++ (cond first (of_member trail DATA_LIST tl.sets) (of_member trail MARKS tl.marks)
            ++ (tl.between ++ (cond first (of_member trail MARKS tl.marks) (of_member trail DATA_LIST tl.sets) ++ tl.back))))) ++ after) →
            ObjectFits tl.sets tl.marks tl.sets_stand go own tl.front tl.between tl.back quiet_own tl.quiet_front
            tl.quiet_between tl.quiet_back products before after clear_before clear_after outer
        by_order true order there =
            sets_before tl.sets tl.marks tl.sets_stand go own tl.front tl.between tl.back quiet_own tl.quiet_front tl.quiet_between
            tl.quiet_back products before after clear_before clear_after outer there
            (differ_of true tl.sets tl.marks order)
        by_order false order there =
            sets_behind tl.sets tl.marks tl.sets_stand go own tl.front tl.between tl.back quiet_own tl.quiet_front tl.quiet_between
            tl.quiet_back products before after clear_before clear_after outer there
            (differ_of false tl.sets tl.marks order) (behind_of tl.sets tl.marks order)
