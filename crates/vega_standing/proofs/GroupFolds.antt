-- The folds of groups.
use Rattle.std.proofs.Common.{◌≡◌, ℕ, ◌+◌, ◌≤◌, List, [], ◌∷◌, ◌++◌, map, refl, sym, ap, subst, ◌∙◌, inl, inr}
use Rattle.std.specs.Prelude.{Option, Some, None, Bool, true, false, ◌&&◌, ◌||◌, codes, unwrap_or, bytes_eq, IfSome, if◌then◌else◌}
use Rattle.std.specs.Option.{option_map, option_map_or, option_and_then, is_some}
use Rattle.std.proofs.lemmas.Slice.Eq.{bytes_eq-Decides}
use Rattle.std.proofs.lemmas.List.Elements.{All-nil}
use Rattle.json_exact.specs.declared.json.Json.{Json, out-Json}
use Rattle.json_exact.specs.declared.json.Json.TheOpen as level
use Rattle.json_exact.specs.declared.json.Member.{Member}
use Rattle.spec_schema.specs.declared.spec_error.SpecKind.TheVariants.{Unsupported}
use Rattle.json_exact.specs.Inside.{text_in, items_in, members_in}
use Rattle.json_exact.specs.Path.{member_value}
use Rattle.spec_schema.specs.declared.layout.Rule.{Rule}
use Rattle.spec_schema.specs.Values.{Opened, text_passes}
use Rattle.vega_schema.specs.declared.codes.TheConstants.{DATA, DATA_LIST, MARK, MARKS, GROUP_FROM}
use Rattle.vega_schema.specs.Guides.{group_mark}
use Rattle.vega_parts.specs.declared.part.Part.{Part}
use Rattle.vega_parts.specs.declared.part.Part.TheVariants as part
use Rattle.vega_parts.specs.declared.part.Used.TheVariants as for_
use Rattle.vega_parts.specs.declared.around.Around.{Around}
use Rattle.vega_parts.specs.Trails.{Trail, noted, place_of, child, is_faceted, has_facet, object_round, object_at}
use Rattle.vega_parts.specs.Members.{member_at, has_member}
use Rattle.vega_parts.specs.Names.{used_member, fault_member}
use Rattle.vega_parts.specs.Data.{data_set as data_itself, data_names, data_faults, transform_in_facet, far_url}
use Rattle.vega_parts.specs.Parts.{parts_at}
use Rattle.vega_rules.specs.Twice.{twice}
use Rattle.vega_rules.specs.Unknown.{unknown}
use Rattle.vega_rules.specs.Folds.{folds_after}
use Rattle.vega_rules.specs.Resolved.{fronts_round}
use Rattle.vega_rules.specs.Rules.{shown}
use Rattle.vega_spec.specs.declared.data.DataSet.{DataSet}
use Rattle.vega_spec.specs.declared.marks.MarkFrom.{MarkFrom}
use Rattle.vega_spec.specs.declared.spec.Group.{Group, Group-F, out-Group}
use Rattle.vega_spec.specs.declared.spec.VgMark.{VgMark, VgMark-F, out-VgMark}
use Rattle.vega_building.specs.Parts.{text_at, members_of, objects_at}
use Rattle.vega_building.specs.Marks.{mark_from_at, mark_from_of}
use Rattle.vega_building.specs.Sources.{data_set_of}
use Rattle.vega_building.specs.Transforms.{transform_of}
use Rattle.vega_building.specs.Spec.{mark_with, mark_of, marks_in, marks_at}
use Rattle.vega_building.proofs.Nested.{mark_of-Object}
use Rattle.vega_lists.specs.Transforms.{transforms_of}
use Rattle.vega_lists.specs.Products.{Products, ProductsFit, most_folded, begun_product, and_its_product, FoldsFit, products_after}
use Rattle.vega_copies.specs.Outlines.{Marks, facet_in}
use Rattle.vega_copies.specs.Fitting.{products_in_copy}
use Rattle.vega_copies.specs.inner.Kept.{FoldsFitIn}
use Rattle.vega_copies.specs.inner.Outlined.{is_group, before_of, marks_of}
use Rattle.vega_copies.proofs.OutlineLemmas.{plain_first, group_first}
use Rattle.vega_standing.proofs.Trees.{Each, Inner, of_each, object_of}
use Rattle.vega_standing.proofs.Stands.{EachFrom, Stands, StandsObject, formed, parts_in, parts_of_members, quiet_here, quiet_parts}
use Rattle.vega_standing.proofs.Members.{Laid, laid_out, opened_as, found_as}
use Rattle.vega_standing.proofs.Transforms.{says_member, member_is, data_taken}
use Rattle.vega_standing.proofs.Sources.{sets_taken}
use Rattle.vega_standing.proofs.Marks.{group_parts, group_opened, mark_opened, mark_taken, value_of}
use Rattle.vega_standing.proofs.Quiet.{AreQuiet, each_append, quiet_shape}
use Rattle.vega_standing.proofs.Dull.{is_dull, found_passes}
use Rattle.vega_standing.proofs.Steps.{dull_row}
use Rattle.vega_standing.proofs.Known.{Under, concern, quiet_holds, known_after}
use Rattle.vega_standing.proofs.Sets.{Listed, listed_as, ruled_as}
use Rattle.vega_standing.proofs.Lists.{Outer}
use Rattle.vega_standing.proofs.ObjectFolds.{TwoLoud, two_loud}
use Rattle.vega_standing.proofs.FoldWalk.{Clear, MarksGo, object_fits}
use Rattle.vega_standing.proofs.FacetParts.{from_has_facet, no_value}
use Rattle.vega_standing.proofs.MarkFolds.{KindOf, by_mark, GoodMark, Deep, marks_go, marks_faceted, each_group, group_concerns}

-- ---- data sets in facets

no_fault_there : (trail : Trail) (o : Option (ℕ × Json)) →
    shown (option_map_or (λ (m : ℕ × Json). part.Fault (child trail m.0) Unsupported ∷ []) o []) ≡ [] → o ≡ None
no_fault_there trail None e = refl
no_fault_there trail (Some m) e = absurd cc

-- a data set in a facet has no transforms
bare : (round : Trail) (j : ℕ) (d : Json) → Stands round j DATA d →
    is_faceted (object_round (noted j DATA d ∷ round)) ≡ true → transforms_of (data_set_of (members_of d)) ≡ []
bare round j d s faceted =
    let form = formed DATA d s.fine in
    let ms : (ms : List Member) × (out-Json d ≡ level.Object ms) = opened_as DATA (out-Json d) (data_taken (out-Json d) form.0 form.1).0 in
    let t : Trail = noted j DATA d ∷ round in
    let faults = (quiet_parts (data_itself t ++ data_names t d ++ used_member for_.Source (codes "source") t d)
    (data_faults t d) (quiet_here round j DATA d s)).1 in
    let here = (quiet_parts (transform_in_facet t d) (far_url t d) faults).0 in
    let none : member_at (codes "transform") d ≡ None =
    no_fault_there t (member_at (codes "transform") d)
    (ap (λ b. shown (if b then fault_member Unsupported (codes "transform") t d else [])) (sym faceted) ∙ here) in
    let value : member_value ms.0 (codes "transform") ≡ None =
    sym (member_is d ms.0 ms.1 (codes "transform")) ∙ ap (λ o. option_map (λ (m : ℕ × Json). m.1) o) none in
    ap (λ m. transforms_of (data_set_of m)) (ap (λ o. unwrap_or (members_in o) []) ms.1)
    ∙ ap (λ o. unwrap_or (option_map (map (λ t. transform_of (members_of t))) (option_and_then (λ v. items_in (out-Json v)) o)) []) value

bare_fits : (list : Trail) (n : ℕ) (items : List Json) → EachFrom (λ i v. Stands list i DATA v) n items →
    ((j : ℕ) (d : Json) → is_faceted (object_round (noted j DATA d ∷ list)) ≡ true) →
    (products : Products) → FoldsFit products (map (λ t. data_set_of (members_of t)) items)
bare_fits list n [] each faceted products = tt
bare_fits list n (d ∷ items) each faceted products = (
  subst (ProductsFit (begun_product products (data_set_of (members_of d))))
      (sym (bare list n d each.0 (faceted n d))) (All-nil (λ product. product ≤ most_folded)),
  bare_fits list (n + 1) items each.1 faceted (and_its_product products (data_set_of (members_of d))),
)

-- ---- what a mark is

says_of : (word : List ℕ) (o : Option Json) → option_and_then (λ v. text_in (out-Json v)) o ≡ Some word →
    option_map_or (λ v. text_passes (bytes_eq word) (out-Json v)) o false ≡ true
says_of word None e = absurd cc
says_of word (Some v) e = by_text (out-Json v) e
  where
    by_text : (o : Opened) → text_in o ≡ Some word → text_passes (bytes_eq word) o ≡ true
    by_text level.Null e = absurd cc
    by_text (level.Flag b) e = absurd cc
    by_text (level.Number n) e = absurd cc
    by_text level.Huge e = absurd cc
    by_text (level.Text t) e = (bytes_eq-Decides word t).1 (let same : t ≡ word = cc in sym same)
    by_text (level.List items) e = absurd cc
    by_text (level.Object ms) e = absurd cc

record MarkRead (round : Trail) (number : ℕ) (tree : Json) : Type 0 where
  ms : List Member
  opened : out-Json tree ≡ level.Object ms
  laid : Laid round number MARK MARK tree ms
  kind : KindOf (noted number MARK tree ∷ round) ms laid.layout
  built : mark_of tree ≡ mark_with ms (marks_at ms (codes "marks"))

mark_read : (round : Trail) (number : ℕ) (tree : Json) → Stands round number MARK tree → MarkRead round number tree
mark_read round number tree s =
    let form = formed MARK tree s.fine in
    let ms : (ms : List Member) × (out-Json tree ≡ level.Object ms) = opened_as MARK (out-Json tree) (mark_taken (out-Json tree) form.0 form.1).0 in
    let l : Laid round number MARK MARK tree ms.0 = laid_out round number MARK MARK tree ms.0 s ms.1 (λ f e. mark_taken (level.Object ms.0) f e) in
    record {
      ms = ms.0;
      opened = ms.1;
      laid = l;
      kind = by_mark (noted number MARK tree ∷ round) ms.0 l.layout l.applies l.stands;
      built = ap mark_of (object_of tree ms.0 ms.1) ∙ mark_of-Object ms.0;
    }

module _ (whole : List Part) (no_twice : twice whole ≡ []) (no_unknown : unknown whole ≡ []) (no_folds : folds_after whole [] whole ≡ []) where
  module _ (tree : Json) (inner : Inner (Deep whole) tree) (next : Around) (outward : Trail) (number : ℕ) (s : Stands (next ∷ outward) number MARK tree) where
    abbrev here : Around
    here = noted number MARK tree

    abbrev t : Trail
    t = here ∷ next ∷ outward

    r : MarkRead (next ∷ outward) number tree
    r = mark_read (next ∷ outward) number tree s

    own_quiet : AreQuiet (parts_at t tree)
    own_quiet = quiet_shape MARK refl refl refl t tree

    deep : Each (λ (m : Member). Deep whole m.value) r.ms
    deep = inner.values r.ms r.opened

    object_is : text_at r.ms (codes "type") ≡ Some (codes "group") → here.object ≡ true
    object_is e = says_member tree r.ms r.opened (codes "type") (codes "group") ∙ says_of (codes "group") (member_value r.ms (codes "type")) e

    laid_as : r.laid.layout ≡ group_mark → StandsObject t group_mark r.ms
    laid_as e = subst (λ x. StandsObject t x r.ms) e r.laid.stands

    parts_as : r.laid.layout ≡ group_mark → parts_in (next ∷ outward) number MARK tree ≡ parts_at t tree ++ parts_of_members t group_mark 0 r.ms
    parts_as e = r.laid.parts ∙ ap (λ x. parts_at t tree ++ parts_of_members t x 0 r.ms) e

    concerns : KindOf t r.ms r.laid.layout → Each (λ p. IfSome (concern p) (Under (place_of t))) (parts_in (next ∷ outward) number MARK tree)
    concerns (inl (plain, other)) =
        subst (Each (λ p. IfSome (concern p) (Under (place_of t)))) (sym r.laid.parts)
        (each_append (λ p. IfSome (concern p) (Under (place_of t))) (parts_at t tree)
        (parts_of_members t r.laid.layout 0 r.ms) (quiet_holds (Under (place_of t)) (parts_at t tree) own_quiet)
        (quiet_holds (Under (place_of t)) (parts_of_members t r.laid.layout 0 r.ms) (dull_row t r.laid.layout 0 r.ms
        (λ name inner ruled. ruled_as r.laid.layout.rules r.laid.layout.others name inner (λ i. is_dull i ≡ true) plain.others
        (λ x found. (found_passes (λ (x : Rule). bytes_eq x.name name) (λ (x : Rule). is_dull x.shape) r.laid.layout.rules x found plain.rules).1) ruled))))
    concerns (inr (is, group, text)) =
        subst (Each (λ p. IfSome (concern p) (Under (place_of t)))) (sym (parts_as is))
        (each_append (λ p. IfSome (concern p) (Under (place_of t))) (parts_at t tree)
        (parts_of_members t group_mark 0 r.ms) (quiet_holds (Under (place_of t)) (parts_at t tree) own_quiet)
        (group_concerns whole no_twice no_unknown no_folds here (next ∷ outward) r.ms (laid_as is) (object_is text) deep))

    abbrev own : VgMark
    own = mark_with r.ms (marks_at r.ms (codes "marks"))

    plain_fits : is_group (out-VgMark own) ≡ false → (products : Products) (others : Marks) →
        FoldsFitIn products others → FoldsFitIn products (before_of (mark_of tree) others)
    plain_fits other products others f =
        subst (λ m. FoldsFitIn products (before_of m others)) (sym r.built) (subst (FoldsFitIn products) (sym (plain_first own others other)) f)

    abbrev Whole : Products → Marks → Option MarkFrom → List DataSet → List VgMark → Type 0
    Whole products others from sets marks =
        FoldsFit (products_in_copy (facet_in from) products) sets
        × FoldsFitIn (products_after (products_in_copy (facet_in from) products) sets) (marks_of marks) × FoldsFitIn products others

    group_fits : is_group (out-VgMark own) ≡ true → (products : Products) (others : Marks) →
        Whole products others (mark_from_at r.ms (codes "from"))
        (unwrap_or (objects_at data_set_of r.ms (codes "data")) []) (unwrap_or (marks_at r.ms (codes "marks")) []) →
        FoldsFitIn products (before_of (mark_of tree) others)
    group_fits group products others f =
        let opened : out-VgMark own ≡ _ = mark_opened r.ms (marks_at r.ms (codes "marks")) in
        let parts : out-Group (out-VgMark own).group ≡ group_parts r.ms (marks_at r.ms (codes "marks")) =
        ap (λ (m : VgMark-F Group VgMark). out-Group m.group) opened ∙ group_opened r.ms (marks_at r.ms (codes "marks")) in
        let from : (out-VgMark own).from ≡ mark_from_at r.ms (codes "from") = ap (λ (m : VgMark-F Group VgMark). m.from) opened in
        subst (λ m. FoldsFitIn products (before_of m others)) (sym r.built)
        (subst (FoldsFitIn products) (sym (group_first own others group))
        (subst (λ x. Whole products others x (unwrap_or (out-Group (out-VgMark own).group).data_ [])
        (unwrap_or (out-Group (out-VgMark own).group).marks [])) (sym from)
        (subst (λ (g : Group-F Group VgMark). Whole products others (mark_from_at r.ms (codes "from")) (unwrap_or g.data_ []) (unwrap_or g.marks []))
        (sym parts) f)))

    -- ---- in a facet

    round_object : here.object ≡ true → (k : ℕ) (v : Json) (j : ℕ) (d : Json) → object_round (noted j DATA d ∷ noted k DATA_LIST v ∷ t) ≡ t
    round_object object k v j d = ap (λ b. if b then t else object_at (next ∷ outward)) object

    sets_bare : StandsObject t group_mark r.ms → here.object ≡ true → is_faceted t ≡ true →
        (products : Products) → (o : Option Json) → member_value r.ms (codes "data") ≡ o →
        FoldsFit products (unwrap_or (option_map (map (λ t. data_set_of (members_of t))) (option_and_then (λ v. items_in (out-Json v)) o)) [])
    unfolding group_mark
    sets_bare so object faceted products None e = tt
    sets_bare so object faceted products (Some v) e =
        let st : (i : ℕ) × Stands t i DATA_LIST v = found_as t group_mark r.ms (codes "data") v DATA_LIST so refl e in
        let l : Listed t st.0 DATA_LIST DATA v = listed_as t st.0 DATA_LIST DATA v st.1 sets_taken in
        subst (λ o. FoldsFit products (unwrap_or (option_map (map (λ t. data_set_of (members_of t))) (items_in o)) [])) (sym l.is_list)
        (bare_fits (noted st.0 DATA_LIST v ∷ t) 0 l.items l.each (λ j d. ap is_faceted (round_object object st.0 v j d) ∙ faceted) products)

    marks_bare : StandsObject t group_mark r.ms → is_faceted t ≡ true → (products : Products) → (o : Option Json) → member_value r.ms (codes "marks") ≡ o →
        FoldsFitIn products (marks_of (unwrap_or (option_and_then marks_in o) []))
    unfolding group_mark
    marks_bare so faceted products None e = tt
    marks_bare so faceted products (Some v) e =
        let st : (i : ℕ) × Stands t i MARKS v = found_as t group_mark r.ms (codes "marks") v MARKS so refl e in
        marks_faceted whole no_twice no_unknown no_folds here (next ∷ outward) st.0 v st.1
        (value_of (Deep whole) r.ms (codes "marks") v deep e) faceted products

    faceted_group : r.laid.layout ≡ group_mark → is_group (out-VgMark own) ≡ true → text_at r.ms (codes "type") ≡ Some (codes "group") → is_faceted t ≡ true →
        (products : Products) (others : Marks) → FoldsFitIn products others → FoldsFitIn products (before_of (mark_of tree) others)
    faceted_group is group text faceted products others f =
        group_fits group products others (
          sets_bare (laid_as is) (object_is text) faceted _ (member_value r.ms (codes "data")) refl,
          marks_bare (laid_as is) faceted _ (member_value r.ms (codes "marks")) refl,
          f,
        )

    in_facet : KindOf t r.ms r.laid.layout → is_faceted (next ∷ outward) ≡ true → (products : Products) (others : Marks) →
        FoldsFitIn products others → FoldsFitIn products (before_of (mark_of tree) others)
    in_facet (inl (plain, other)) e products others f = plain_fits other products others f
    in_facet (inr (is, group, text)) e products others f = faceted_group is group text (or_more here.facet (is_faceted (next ∷ outward)) e) products others f
      where
        or_more : (a b : Bool) → b ≡ true → (a || b) ≡ true
        or_more true b e = refl
        or_more false b e = e

    -- ---- outside of facets

    facet_of : (o : Option (ℕ × Json)) (p : Option Json) → option_map (λ (m : ℕ × Json). m.1) o ≡ p →
        (b : Bool) → IfSome p (λ v. has_member (codes "facet") v ≡ true) → is_some p ≡ b →
        option_map_or (λ (m : ℕ × Json). has_member (codes "facet") m.1) o false ≡ b
    facet_of None None e b f g = g
    facet_of None (Some v) e b f g = absurd cc
    facet_of (Some m) None e b f g = absurd cc
    facet_of (Some m) (Some v) e b f g = let same : m.1 ≡ v = cc in ap (has_member (codes "facet")) same ∙ f ∙ g

    abbrev Outside : Products → List Part → List Part → Type 0
    Outside products before after =
        (whole ≡ before ++ (parts_in (next ∷ outward) number MARK tree ++ after)) × Clear (place_of t) before × Clear (place_of t) after
        × Outer whole (known_after whole [] before) (place_of t) (fronts_round (place_of t)) products

    open_group : r.laid.layout ≡ group_mark → is_group (out-VgMark own) ≡ true →
        text_at r.ms (codes "type") ≡ Some (codes "group") → is_faceted (next ∷ outward) ≡ false →
        member_value r.ms (codes "from") ≡ None → (products : Products) (others : Marks) (before after : List Part) → Outside products before after →
        FoldsFitIn products others → FoldsFitIn products (before_of (mark_of tree) others)
    unfolding group_mark
    open_group is group text e none products others before after at f =
        let so : StandsObject t group_mark r.ms = laid_as is in
        let two : TwoLoud t group_mark 0 r.ms = two_loud t group_mark 0 r.ms refl refl so.own so.each
        (each_group whole no_twice no_unknown no_folds r.ms (no_value r.ms (codes "from") none)) in
        let no_facet : has_facet tree ≡ false =
        facet_of (member_at (codes "from") tree) None (member_is tree r.ms r.opened (codes "from") ∙ none) false tt refl in
        let outside : is_faceted t ≡ false = λ i. (object_is text i && no_facet i) || e i in
        let fits = object_fits whole no_twice no_unknown no_folds here (next ∷ outward) (object_is text) group_mark r.ms two
        (go_of two.marks two.marks_value two.marks_stand outside) (parts_at t tree) own_quiet products before after
        (at.0 ∙ ap (λ ps. before ++ (ps ++ after)) (parts_as is)) at.1 at.2 at.3 in
        group_fits group products others
        (subst (λ o. Whole products others (option_and_then mark_from_of (option_and_then (λ v. members_in (out-Json v)) o))
        (unwrap_or (objects_at data_set_of r.ms (codes "data")) []) (unwrap_or (marks_at r.ms (codes "marks")) []))
        (sym none) (fits.0, fits.1, f))
      where
        go_of : (o : Option (ℕ × Json)) → member_value r.ms (codes "marks") ≡ option_map (λ (m : ℕ × Json). m.1) o →
            IfSome o (λ (m : ℕ × Json). Stands t m.0 MARKS m.1) → is_faceted t ≡ false →
            IfSome o (λ (m : ℕ × Json). MarksGo whole no_twice no_unknown no_folds t (place_of t ++ m.0 ∷ []) m.0 m.1)
        go_of None v st out = tt
        go_of (Some m) v st out =
            marks_go whole no_twice no_unknown no_folds here (next ∷ outward) m.0 m.1 st (value_of (Deep whole) r.ms (codes "marks") m.1 deep v) out

    from_group : r.laid.layout ≡ group_mark → text_at r.ms (codes "type") ≡ Some (codes "group") →
        (v : Json) → member_value r.ms (codes "from") ≡ Some v → is_faceted t ≡ true
    unfolding group_mark
    from_group is text v e =
        let st : (i : ℕ) × Stands t i GROUP_FROM v = found_as t group_mark r.ms (codes "from") v GROUP_FROM (laid_as is) refl e in
        let facet : has_facet tree ≡ true =
        facet_of (member_at (codes "from") tree) (Some v) (member_is tree r.ms r.opened (codes "from") ∙ e) true (from_has_facet t st.0 v st.1) refl in
        λ i. (object_is text i && facet i) || is_faceted (next ∷ outward)

    out_of_facet : KindOf t r.ms r.laid.layout → is_faceted (next ∷ outward) ≡ false →
        (products : Products) (others : Marks) (before after : List Part) → Outside products before after →
        FoldsFitIn products others → FoldsFitIn products (before_of (mark_of tree) others)
    out_of_facet (inl (plain, other)) e products others before after at f = plain_fits other products others f
    out_of_facet (inr (is, group, text)) e products others before after at f = by_from (member_value r.ms (codes "from")) refl
      where
        by_from : (o : Option Json) → member_value r.ms (codes "from") ≡ o → FoldsFitIn products (before_of (mark_of tree) others)
        by_from None none = open_group is group text e none products others before after at f
        by_from (Some v) there = faceted_group is group text (from_group is text v there) products others f

  mark_good : (tree : Json) → Inner (Deep whole) tree → GoodMark whole tree
  mark_good tree inner = record {
    concerns = λ next outward number s. concerns tree inner next outward number s (r tree inner next outward number s).kind;
    folds = λ next outward number s e products others before after is a b outer f.
        out_of_facet tree inner next outward number s (r tree inner next outward number s).kind e products others before after (is, a, b, outer) f;
    faceted = λ next outward number s e products others f. in_facet tree inner next outward
        number s (r tree inner next outward number s).kind e products others f;
  }

  each_good : (xs : List Json) → Each (Deep whole) xs → Each (GoodMark whole) xs
  each_good [] each = tt
  each_good (x ∷ xs) each = (each.0.here, each_good xs each.1)

  pub deep_tree : (tree : Json) → Deep whole tree
  deep_tree tree = of_each (Deep whole) (λ tree inner. record { here = mark_good tree inner; items = λ xs e. each_good xs (inner.items xs e) }) tree
