-- What the extents of the data sets of an object need.
use Rattle.std.proofs.Common.{◌≡◌, ℕ, ◌+◌, ◌-◌, ◌<◌, List, [], ◌∷◌, ◌++◌, map, length, refl, sym, ap, subst, ◌∙◌, ◌⊎◌, inl, inr, arith}
use Rattle.std.specs.Prelude.{Option, Some, None, Bool, true, false, ◌==◌, IfSome, codes, unwrap_or, is_some, slice_get, bytes_eq, if◌then◌else◌}
use Rattle.std.specs.Option.{option_map, option_map_or, option_and_then, option_or}
use Rattle.std.proofs.lemmas.Bool.Decides.{nat_tests}
use Rattle.std.proofs.lemmas.List.{append_assoc, length-append}
use Rattle.std.proofs.lemmas.Slice.Eq.{bytes_eq-Decides}
use Rattle.json_exact.specs.declared.json.Json.{Json, out-Json}
use Rattle.json_exact.specs.declared.json.Json.TheOpen as level
use Rattle.json_exact.specs.declared.json.Member.{Member}
use Rattle.json_exact.specs.Inside.{items_in, members_in}
use Rattle.json_exact.specs.Path.{member_value}
use Rattle.need_graph.specs.Needs.{Needs}
use Rattle.need_graph.proofs.NeedLemmas.{joined}
use Rattle.vega_schema.specs.declared.codes.TheConstants.{DATA, DATA_LIST, TRANSFORM, TRANSFORMS}
use Rattle.vega_schema.specs.Sources.{data_set}
use Rattle.vega_parts.specs.declared.part.Part.{Part}
use Rattle.vega_parts.specs.declared.part.Part.TheVariants as part
use Rattle.vega_parts.specs.declared.part.Given.TheVariants as given_as
use Rattle.vega_parts.specs.declared.part.GivenName.{GivenName}
use Rattle.vega_parts.specs.declared.part.UsedName.{UsedName}
use Rattle.vega_parts.specs.declared.part.Used.TheVariants as for_
use Rattle.vega_parts.specs.declared.around.Around.{Around}
use Rattle.vega_parts.specs.Trails.{Trail, noted, place_of, scope_of, child}
use Rattle.vega_parts.specs.Names.{given, used}
use Rattle.vega_parts.specs.Parts.{parts_of}
use Rattle.vega_rules.specs.Places.{ends_before, parent}
use Rattle.vega_rules.specs.Names.{first_given}
use Rattle.vega_rules.specs.Resolved.{resolved_use, served, behind_own}
use Rattle.vega_rules.specs.declared.nodes.Thing.{Thing}
use Rattle.vega_rules.specs.declared.nodes.Thing.TheVariants as thing
use Rattle.vega_rules.specs.Nodes.{node_at}
use Rattle.vega_rules.specs.Edges.{need, reader, meant, before, last_number}
use Rattle.vega_spec.specs.declared.data.DataSet.{DataSet}
use Rattle.vega_spec.specs.declared.transforms.Transform.{Transform}
use Rattle.vega_spec.specs.declared.transforms.Extent.{Extent}
use Rattle.vega_building.specs.Parts.{members_of}
use Rattle.vega_building.specs.Sources.{data_set_of}
use Rattle.vega_building.specs.Transforms.{transform_of}
use Rattle.vega_lists.specs.Transforms.{transforms_of}
use Rattle.vega_signals.specs.Extents.{extent_asked}
use Rattle.vega_signals.specs.Needs.{Need, Reads, no_reads, with_reads, transform_reads, all_reads, begun_reads, extent_needs, set_needs}
use Rattle.vega_standing.proofs.Trees.{Each}
use Rattle.vega_standing.proofs.Stands.{EachFrom, formed, parts_of_members}
use Rattle.vega_standing.proofs.Members.{opened_as, all_of_each}
use Rattle.vega_standing.proofs.Transforms.{data_taken, data_layout, data_transforms, transform_taken}
use Rattle.vega_standing.proofs.Sources.{sets_taken}
use Rattle.vega_standing.proofs.Quiet.{each_append, each_of}
use Rattle.vega_standing.proofs.Rows.{place_child, parent_child}
use Rattle.vega_standing.proofs.Lists.{earlier_ends}
use Rattle.vega_standing.proofs.Sets.{SetParts, set_parts, source_use, transforms_taken}
use Rattle.vega_standing.proofs.Among.{In, in_front, in_back}
use Rattle.vega_standing.proofs.Nodes.{node_there, shows, the_only}
use Rattle.vega_standing.proofs.Seated.{Seat, SeatedMember, seated_items, seated_object, seat_from, own_among}
use Rattle.vega_standing.proofs.Owned.{Ordered, node, Kept, Reached, gives_node}
use Rattle.vega_standing.proofs.OwnSignals.{scope_is}
use Rattle.vega_standing.proofs.OwnSteps.{Fine, step_fine, texts_known}

-- ---- numbers of places

last_of : (x : List ℕ) (k : ℕ) → unwrap_or (slice_get (x ++ k ∷ []) (length x)) 0 ≡ k
last_of [] k = refl
last_of (n ∷ x) k = last_of x k

last_is : (x : List ℕ) (k : ℕ) → last_number (x ++ k ∷ []) ≡ k
last_is x k = ap (λ n. unwrap_or (slice_get (x ++ k ∷ []) n) 0) (less (length (x ++ k ∷ [])) (length x) (length-append x (k ∷ []))) ∙ last_of x k
  where
    less : (n m : ℕ) → n ≡ m + 1 → n - 1 ≡ m
    less n m e = omega arith

not_none : (j : ℕ) → (j + 1 == 0) ≡ false
not_none j = grind (arith, nat_tests)

one_less : (j : ℕ) → j + 1 - 1 ≡ j
one_less j = omega arith

under : (i n : ℕ) → i < n → i < n + 1
under i n e = omega arith

itself_under : (n : ℕ) → n < n + 1
itself_under n = omega arith

three_further : (x : List ℕ) (k j c : ℕ) → ((x ++ k ∷ []) ++ j ∷ []) ++ c ∷ [] ≡ x ++ k ∷ j ∷ c ∷ []
three_further x k j c = append_assoc (x ++ k ∷ []) (j ∷ []) (c ∷ []) ∙ append_assoc x (k ∷ []) (j ∷ c ∷ [])

module _ (tree : Json) (ordered : Ordered tree) (here : Around) (round : Trail) (object : here.object ≡ true) (names : List (List ℕ)) (kd : ℕ) (dl : Json) where
  abbrev S : List ℕ
  S = place_of (here ∷ round)

  abbrev all : List Part
  all = parts_of tree

  abbrev N : Thing → List ℕ → Option ℕ
  N = node_at all

  abbrev G : List (List ℕ)
  G = Rattle.vega_rules.specs.Graph.graph all

  abbrev node_of : List ℕ → Option ℕ
  node_of = node tree ordered S names

  abbrev OneKept : Need → Type 0
  OneKept = Kept tree ordered S names

  abbrev Reach : ℕ → List ℕ → Type 0
  Reach = Reached tree ordered S names

  abbrev LT : Trail
  LT = noted kd DATA_LIST dl ∷ here ∷ round

  abbrev list : List ℕ
  list = place_of LT

  -- ---- what names of data sets read

  -- a data set of the object before a number has the name, and needs what its rows read
  record OwnSet (n : ℕ) (name : List ℕ) (rs : List (List ℕ)) : Type 0 where
    number : ℕ
    less : number < n
    gives : GivenName
    first : first_given all given_as.Data S name ≡ Some gives
    of_place : gives.of ≡ list ++ number ∷ []
    set : ℕ
    is_set : N thing.Set gives.of ≡ Some set
    each : Each (Reach set) rs

  abbrev ReadsFit : ℕ → Reads → Type 0
  ReadsFit n reads = (name : List ℕ) → (reads name ≡ []) ⊎ OwnSet n name (reads name)

  -- a use of one in a later data set means it
  means_set : (u : UsedName) (n : ℕ) (x rest : List ℕ) → u.scope ≡ S → u.at ≡ (list ++ n ∷ []) ++ rest →
      (u.kind ≡ for_.Source) ⊎ (u.kind ≡ for_.From) → (rs : List (List ℕ)) → (o : OwnSet n u.name rs) →
      meant N all thing.Set u ≡ Some o.set
  means_set u n x rest sc at kind rs o = by_kind kind
    where
      ends : ends_before o.gives.of u.at ≡ true
      ends = (λ i. ends_before (o.of_place i) (at i)) ∙ earlier_ends list o.number n rest o.less

      as_source : resolved_use all (record { kind = for_.Source; scope = u.scope; at = u.at; name = u.name }) ≡ Some o.gives
      as_source =
          ap (λ f. option_or (option_and_then (served for_.Source u.at) f)
          (option_and_then (served for_.Source u.at) (behind_own all for_.Source u.name u.scope)))
          (ap (λ s. first_given all given_as.Data s u.name) sc ∙ o.first)
          ∙ ap (λ b. option_or (if b then Some o.gives else None) (option_and_then (served for_.Source u.at) (behind_own all for_.Source u.name u.scope))) ends

      as_from : resolved_use all (record { kind = for_.From; scope = u.scope; at = u.at; name = u.name }) ≡ Some o.gives
      as_from =
          ap (λ f. option_or (option_and_then (served for_.From u.at) f) (option_and_then (served for_.From u.at) (behind_own all for_.From u.name u.scope)))
          (ap (λ s. first_given all given_as.Data s u.name) sc ∙ o.first)
          ∙ ap (λ b. option_or (if b then Some o.gives else None) (option_and_then (served for_.From u.at) (behind_own all for_.From u.name u.scope))) ends

      by_kind : (u.kind ≡ for_.Source) ⊎ (u.kind ≡ for_.From) → meant N all thing.Set u ≡ Some o.set
      by_kind (inl k) = ap (λ k. option_and_then (λ (name : GivenName). N thing.Set name.of)
          (resolved_use all (record { kind = k; scope = u.scope; at = u.at; name = u.name }))) k
          ∙ ap (option_and_then (λ (name : GivenName). N thing.Set name.of)) as_source ∙ o.is_set
      by_kind (inr k) = ap (λ k. option_and_then (λ (name : GivenName). N thing.Set name.of)
          (resolved_use all (record { kind = k; scope = u.scope; at = u.at; name = u.name }))) k
          ∙ ap (option_and_then (λ (name : GivenName). N thing.Set name.of)) as_from ∙ o.is_set

  -- ---- one data set

  module _ (n : ℕ) (d : Json) (seat : Seat tree LT n DATA d) where
    abbrev ST : Trail
    ST = noted n DATA d ∷ LT

    abbrev X : List ℕ
    X = place_of ST

    abbrev set_of : DataSet
    set_of = data_set_of (members_of d)

    x_is : X ≡ list ++ n ∷ []
    x_is = place_child (noted n DATA d) (noted kd DATA_LIST dl) (here ∷ round)

    in_scope : scope_of ST ≡ S
    in_scope = ap place_of (scope_is here round object)

    sp : SetParts LT n d
    sp = set_parts LT n d seat.stands

    data_there : In (part.Data X) all
    data_there = seat.among (part.Data X) (subst (In (part.Data X)) (sym sp.parts) (inl refl))

    the_set : (D : ℕ) × (N thing.Set X ≡ Some D)
    the_set = node_there all thing.Set X (part.Data X) data_there refl

    abbrev D : ℕ
    D = the_set.0

    named_there : In (given given_as.Data S X (child ST sp.name_number) set_of.name) all
    named_there =
        subst (λ sc. In (given given_as.Data sc X (child ST sp.name_number) set_of.name) all) in_scope
        (seat.among (given given_as.Data (scope_of ST) X (child ST sp.name_number) set_of.name)
        (subst (In (given given_as.Data (scope_of ST) X (child ST sp.name_number) set_of.name)) (sym sp.parts) (inr (inl refl))))

    -- the signals that are read before a step: the step before it, or the source, needs them, and the set needs that
    abbrev Held : Option ℕ → List ℕ → Type 0
    Held o r = IfSome (node_of r) (λ w. (b : ℕ) × (o ≡ Some b) × Needs G b w × Needs G D b)

    held_by : (o : Option ℕ) (b : ℕ) (r : List ℕ) → o ≡ Some b → Needs G D b → Reach b r → Held o r
    held_by o b r is from reach = by_node (node_of r) reach
      where
        by_node : (q : Option ℕ) → IfSome q (Needs G b) → IfSome q (λ w. (b : ℕ) × (o ≡ Some b) × Needs G b w × Needs G D b)
        by_node None e = tt
        by_node (Some w) e = (b, is, e, from)

    -- ---- its source

    module _ (reads : Reads) (fit : ReadsFit n reads) where
      begun : (o : Option (List ℕ)) → set_of.source ≡ o → Each (Held (N thing.Source X)) (option_map_or reads o [])
      begun None e = tt
      begun (Some src) e = by_fit (fit src)
        where
          c : (c : ℕ) × (sp.source ≡ Some (c, src))
          c = texts_known sp.source src (sp.source_is ∙ e)

          u : UsedName
          u = record { kind = for_.Source; scope = S; at = X ++ c.0 ∷ []; name = src }

          used_there : In (part.Used u) all
          used_there =
              let q : Part = used for_.Source (scope_of ST) (child ST c.0) src in
              let lone : In q (source_use ST sp.source) = subst (λ o. In q (source_use ST o)) (sym c.1) (inl refl) in
              subst (λ sc. In (used for_.Source sc (child ST c.0) src) all) in_scope
              (seat.among q (subst (In q) (sym sp.parts) (inr (inr (in_back q sp.before_source _ (in_front q (source_use ST sp.source) _ lone))))))

          up : parent u.at ≡ X
          up = parent_child X c.0

          q : (q : ℕ) × (N thing.Source X ≡ Some q)
          q = node_there all thing.Source X (part.Used u) used_there (ap (λ p. Some (2 ∷ p)) up)

          D_q : Needs G D q.0
          D_q = shows all (part.Used u) thing.Set X D q.0 used_there
              (in_back (D, q.0) (need (N thing.Source (parent u.at)) (meant N all thing.Set u))
              (need (N thing.Set (parent u.at)) (N thing.Source (parent u.at)))
              (subst (In (D, q.0)) (sym (ap (λ p. need (N thing.Set p) (N thing.Source p)) up ∙ (λ i. need (the_set.1 i) (q.1 i)))) (inl refl))) the_set.1

          by_fit : (reads src ≡ []) ⊎ OwnSet n src (reads src) → Each (Held (N thing.Source X)) (reads src)
          by_fit (inl none) = subst (Each (Held (N thing.Source X))) (sym none) tt
          by_fit (inr o) =
              let means : meant N all thing.Set u ≡ Some o.set = means_set u n X (c.0 ∷ []) refl (ap (λ p. p ++ c.0 ∷ []) x_is) (inl refl) (reads src) o in
              let q_set : Needs G q.0 o.set =
              shows all (part.Used u) thing.Source X q.0 o.set used_there
              (in_front (q.0, o.set) (need (N thing.Source (parent u.at)) (meant N all thing.Set u))
              (need (N thing.Set (parent u.at)) (N thing.Source (parent u.at)))
              (subst (In (q.0, o.set))
              (sym (ap (λ p. need (N thing.Source p) (meant N all thing.Set u)) up ∙ (λ i. need (q.1 i) (means i)))) (inl refl))) q.1 in
              each_of (Reach o.set) (Held (N thing.Source X)) (λ r e. held_by (N thing.Source X) q.0 r q.1 D_q (further q.0 o.set r q_set e)) (reads src) o.each
            where
              further : (a b : ℕ) (r : List ℕ) → Needs G a b → Reach b r → Reach a r
              further a b r step e = by_node (node_of r) e
                where
                  by_node : (q : Option ℕ) → IfSome q (Needs G b) → IfSome q (Needs G a)
                  by_node None e = tt
                  by_node (Some w) e = joined G step e

      -- ---- its transforms

      module _ (kt : ℕ) (tl : Json) where
        abbrev TT : Trail
        TT = noted kt TRANSFORMS tl ∷ ST

        abbrev L : List ℕ
        L = place_of TT

        l_is : L ≡ X ++ kt ∷ []
        l_is = place_child (noted kt TRANSFORMS tl) (noted n DATA d) LT

        abbrev Before : ℕ → Option ℕ
        Before j = before N (L ++ j ∷ [])

        first_before : Before 0 ≡ N thing.Source X
        first_before = ap (λ b. if b then N thing.Source (parent (parent (L ++ 0 ∷ [])))
            else N thing.Step (parent (L ++ 0 ∷ []) ++ (last_number (L ++ 0 ∷ []) - 1) ∷ [])) (ap (λ k. k == 0) (last_is L 0))
            ∙ ap (λ p. N thing.Source (parent p)) (parent_child L 0) ∙ ap (λ p. N thing.Source (parent p)) l_is ∙ ap (N thing.Source) (parent_child X kt)

        next_before : (j : ℕ) → Before (j + 1) ≡ N thing.Step (L ++ j ∷ [])
        next_before j = ap (λ b. if b then N thing.Source (parent (parent (L ++ (j + 1) ∷ []))) else N thing.Step
            (parent (L ++ (j + 1) ∷ []) ++ (last_number (L ++ (j + 1) ∷ []) - 1) ∷ [])) (ap (λ k. k == 0) (last_is L (j + 1)) ∙ not_none j)
            ∙ (λ i. N thing.Step (parent_child L (j + 1) i ++ (last_is L (j + 1) i - 1) ∷ [])) ∙ ap (λ k. N thing.Step (L ++ k ∷ [])) (one_less j)

        module _ (j : ℕ) (t : Json) (ts : Seat tree TT j TRANSFORM t) where
          abbrev T : List ℕ
          T = place_of (noted j TRANSFORM t ∷ TT)

          t_is : T ≡ L ++ j ∷ []
          t_is = place_child (noted j TRANSFORM t) (noted kt TRANSFORMS tl) ST

          deep_scope : (i shape : ℕ) (v : Json) → scope_of (noted i shape v ∷ noted j TRANSFORM t ∷ TT) ≡ S
          deep_scope i shape v = ap place_of (scope_is here round object)

          step_part : In (part.Step T X) all
          step_part =
              let f = formed TRANSFORM t ts.stands.fine in
              let ms = opened_as TRANSFORM (out-Json t) (transform_taken (out-Json t) f.0 f.1).0 in
              let o = seated_object tree TT j TRANSFORM t ts TRANSFORM ms.0 ms.1 (λ f e. transform_taken (level.Object ms.0) f e) in
              own_among tree TT j TRANSFORM t (parts_of_members (noted j TRANSFORM t ∷ TT) o.laid.layout 0 ms.0) ts o.laid.parts (part.Step T X) (inl refl)

          the_step : (p : ℕ) × (N thing.Step T ≡ Some p)
          the_step = node_there all thing.Step T (part.Step T X) step_part refl

          abbrev P : ℕ
          P = the_step.0

          D_P : Needs G D P
          D_P = shows all (part.Step T X) thing.Set X D P step_part
              (in_front (D, P) (need (N thing.Set X) (N thing.Step T)) (need (N thing.Step T) (before N T))
              (subst (In (D, P)) (sym (λ i. need (the_set.1 i) (the_step.1 i))) (inl refl))) the_set.1

          P_before : (b : ℕ) → before N T ≡ Some b → Needs G P b
          P_before b is = shows all (part.Step T X) thing.Step T P b step_part
              (in_back (P, b) (need (N thing.Set X) (N thing.Step T)) (need (N thing.Step T) (before N T))
              (subst (In (P, b)) (sym (λ i. need (the_step.1 i) (is i))) (inl refl))) the_step.1

          from_read : (name : List ℕ) (c : ℕ) → In (used for_.From S (T ++ c ∷ []) name) all → reader N (T ++ c ∷ []) ≡ Some P → Each (Reach P) (reads name)
          from_read name c there read = by_fit (fit name)
            where
              u : UsedName
              u = record { kind = for_.From; scope = S; at = T ++ c ∷ []; name = name }

              further : (b : ℕ) (r : List ℕ) → Needs G P b → Reach b r → Reach P r
              further b r step e = by_node (node_of r) e
                where
                  by_node : (q : Option ℕ) → IfSome q (Needs G b) → IfSome q (Needs G P)
                  by_node None e = tt
                  by_node (Some w) e = joined G step e

              at_is : T ++ c ∷ [] ≡ (list ++ n ∷ []) ++ kt ∷ j ∷ c ∷ []
              at_is = ap (λ p. p ++ c ∷ []) (t_is ∙ ap (λ p. p ++ j ∷ []) l_is) ∙ three_further X kt j c ∙ ap (λ p. p ++ kt ∷ j ∷ c ∷ []) x_is

              by_fit : (reads name ≡ []) ⊎ OwnSet n name (reads name) → Each (Reach P) (reads name)
              by_fit (inl none) = subst (Each (Reach P)) (sym none) tt
              by_fit (inr o) =
                  let means : meant N all thing.Set u ≡ Some o.set = means_set u n X (kt ∷ j ∷ c ∷ []) refl at_is (inr refl) (reads name) o in
                  let edge : Needs G P o.set =
                  shows all (part.Used u) thing.Step T P o.set there (subst (In (P, o.set)) (sym (λ i. need (read i) (means i))) (inl refl)) the_step.1 in
                  each_of (Reach o.set) (Reach P) (λ r e. further o.set r edge e) (reads name) o.each

          fine : Fine tree ordered S names TT j t ts (deep_scope 0 TRANSFORM t) deep_scope P the_step.1 reads from_read (transform_of (members_of t))
          fine = step_fine tree ordered S names TT j t ts (deep_scope 0 TRANSFORM t) deep_scope P the_step.1 reads from_read

          -- what was read before it is held behind it
          kept_behind : (r : List ℕ) → Held (Before j) r → Held (Before (j + 1)) r
          kept_behind r e = by_node (node_of r) e
            where
              by_node : (q : Option ℕ) → IfSome q (λ w. (b : ℕ) × (Before j ≡ Some b) × Needs G b w × Needs G D b) →
                  IfSome q (λ w. (b : ℕ) × (Before (j + 1) ≡ Some b) × Needs G b w × Needs G D b)
              by_node None e = tt
              by_node (Some w) (b, is, step, from) =
                  (P, next_before j ∙ ap (N thing.Step) (sym t_is) ∙ the_step.1, joined G (P_before b (ap (before N) t_is ∙ is)) step, D_P)

          read_behind : (r : List ℕ) → Reach P r → Held (Before (j + 1)) r
          read_behind r e = held_by (Before (j + 1)) P r (next_before j ∙ ap (N thing.Step) (sym t_is) ∙ the_step.1) D_P e

          -- the signal of an extent needs what is read before it
          extent_kept : (ns : List (List ℕ)) → Each (Held (Before j)) ns → (o : Option Extent) →
              extent_asked (transform_of (members_of t)) ≡ o → ((e : Extent) → o ≡ Some e → In e.signal names) →
              Each OneKept (option_map_or (λ e. (e.signal, ns) ∷ []) o [])
          extent_kept ns held None is own = tt
          extent_kept ns held (Some e) is own =
              let there = fine.asked e is in
              let v = gives_node tree ordered S names T (child (noted j TRANSFORM t ∷ TT) there.0) e.signal there.1 (own e refl) in
              ((v.0, v.1, all_of_each (Reach v.0) ns (each_of (Held (Before j)) (Reach v.0) (one v.0 v.2 there.0 there.1) ns held)), tt)
            where
              one : (v : ℕ) → N thing.Signal T ≡ Some v → (c : ℕ) →
                  In (given given_as.Signal S T (child (noted j TRANSFORM t ∷ TT) c) e.signal) all → (r : List ℕ) → Held (Before j) r → Reach v r
              one v is_v c there r h = by_node (node_of r) h
                where
                  edge : (b : ℕ) → Before j ≡ Some b → Needs G v b
                  edge b is_b =
                      let q : GivenName = record {
                        kind = given_as.Signal;
                        scope = S;
                        of = T;
                        at = child (noted j TRANSFORM t ∷ TT) c;
                        name = e.signal;
                        scale = None;
                      } in
                      shows all (part.Given q) thing.Signal T v b there
                      (subst (In (v, b)) (sym (ap (λ o. if is_some o then need (N thing.Signal T) (before N T) else []) the_step.1
                      ∙ (λ i. need (is_v i) ((ap (before N) t_is ∙ is_b) i)))) (inl refl)) is_v

                  by_node : (q : Option ℕ) → IfSome q (λ w. (b : ℕ) × (Before j ≡ Some b) × Needs G b w × Needs G D b) → IfSome q (Needs G v)
                  by_node None e = tt
                  by_node (Some w) (b, is, step, from) = joined G (edge b is) step

        -- all of them
        steps_kept : (j : ℕ) (items : List Json) → EachFrom (λ i t. Seat tree TT i TRANSFORM t) j items → (ns : List (List ℕ)) → Each (Held (Before j)) ns →
            ((t : Transform) (e : Extent) → In t (map (λ t. transform_of (members_of t)) items) → extent_asked t ≡ Some e → In e.signal names) →
            Each OneKept (extent_needs reads (map (λ t. transform_of (members_of t)) items) ns)
            × ((m : ℕ) × Each (Held (Before m)) (all_reads reads (map (λ t. transform_of (members_of t)) items) ns))
        steps_kept j [] each ns held own = (tt, (j, held))
        steps_kept j (t ∷ items) each ns held own =
            let read = transform_reads reads (transform_of (members_of t)) in
            let rest = steps_kept (j + 1) items each.1 (ns ++ read)
            (each_append (Held (Before (j + 1))) ns read (each_of (Held (Before j)) (Held (Before (j + 1))) (kept_behind j t each.0) ns held)
            (each_of (Reach (P j t each.0)) (Held (Before (j + 1))) (read_behind j t each.0) read (fine j t each.0).reached))
            (λ u e i a. own u e (inr i) a) in (
              each_append OneKept (option_map_or (λ e. (e.signal, ns) ∷ []) (extent_asked (transform_of (members_of t))) [])
                  (extent_needs reads (map (λ t. transform_of (members_of t)) items) (ns ++ read))
                  (extent_kept j t each.0 ns held (extent_asked (transform_of (members_of t)))
                  refl (λ e a. own (transform_of (members_of t)) e (inl refl) a)) rest.0,
              rest.1,
            )

      -- ---- the set as a whole

      final_reach : (m kt : ℕ) (tl : Json) (r : List ℕ) → Held (Before kt tl m) r → Reach D r
      final_reach m kt tl r h = by_node (node_of r) h
        where
          by_node : (q : Option ℕ) → IfSome q (λ w. (b : ℕ) × (Before kt tl m ≡ Some b) × Needs G b w × Needs G D b) → IfSome q (Needs G D)
          by_node None e = tt
          by_node (Some w) (b, is, step, from) = joined G from step

      -- its transforms with their places
      record StepsAt : Type 0 where
        kt : ℕ
        tl : Json
        items : List Json
        each : EachFrom (λ i t. Seat tree (noted kt TRANSFORMS tl ∷ ST) i TRANSFORM t) 0 items
        transforms : transforms_of set_of ≡ map (λ t. transform_of (members_of t)) items

      steps_at : StepsAt
      steps_at =
          let f = formed DATA d seat.stands.fine in
          let ms = opened_as DATA (out-Json d) (data_taken (out-Json d) f.0 f.1).0 in
          let o = seated_object tree LT n DATA d seat DATA ms.0 ms.1 (λ f e. data_taken (level.Object ms.0) f e) in
          let laid : o.laid.layout ≡ data_set = let a = o.laid.applies in let b = data_layout ms.0 in cc in
          let same : members_of d ≡ ms.0 = ap (λ o. unwrap_or (members_in o) []) ms.1 in
          by_member ms.0 same (subst (λ l. EachFrom (SeatedMember tree LT n DATA d seat l) 0 ms.0) laid o.each) (member_value ms.0 (codes "transform")) refl
        where
          by_member : (ms : List Member) → members_of d ≡ ms → EachFrom (SeatedMember tree LT n DATA d seat data_set) 0 ms →
              (o : Option Json) → member_value ms (codes "transform") ≡ o → StepsAt
          by_member ms same each None e = record {
            kt = 0;
            tl = d;
            items = [];
            each = tt;
            transforms = ap (λ m. transforms_of (data_set_of m)) same
                ∙ ap (λ o. unwrap_or (option_map (map (λ t. transform_of (members_of t))) (option_and_then (λ v. items_in (out-Json v)) o)) []) e;
          }
          by_member ms same each (Some v) e =
              let s = seat_from tree LT n DATA d seat data_set 0 ms (codes "transform") TRANSFORMS v each data_transforms e in
              let l = seated_items tree ST s.0 TRANSFORMS v s.1 TRANSFORM transforms_taken in
              record {
                kt = s.0;
                tl = v;
                items = l.items;
                each = l.each;
                transforms = ap (λ m. transforms_of (data_set_of m)) same
                    ∙ ap (λ o. unwrap_or (option_map (map (λ t. transform_of (members_of t))) (option_and_then (λ v. items_in (out-Json v)) o)) []) e
                    ∙ ap (λ o. unwrap_or (option_map (map (λ t. transform_of (members_of t))) (items_in o)) []) l.is_list;
              }

      -- what holds of the set: its extents' signals, and what later sets read by its name
      record SetFine : Type 0 where
        kept : Each OneKept (extent_needs reads (transforms_of set_of) (begun_reads reads set_of))
        fits : ReadsFit (n + 1) (with_reads set_of.name (all_reads reads (transforms_of set_of) (begun_reads reads set_of)) reads)

      set_fine : ((t : Transform) (e : Extent) → In t (transforms_of set_of) → extent_asked t ≡ Some e → In e.signal names) → SetFine
      set_fine own =
          let s : StepsAt = steps_at in
          let start : Each (Held (Before s.kt s.tl 0)) (begun_reads reads set_of) =
          subst (λ o. Each (Held o) (begun_reads reads set_of)) (sym (first_before s.kt s.tl)) (begun set_of.source refl) in
          let done = steps_kept s.kt s.tl 0 s.items s.each (begun_reads reads set_of) start
          (subst (λ ts. (t : Transform) (e : Extent) → In t ts → extent_asked t ≡ Some e → In e.signal names) s.transforms own) in
          record {
            kept = subst (λ ts. Each OneKept (extent_needs reads ts (begun_reads reads set_of))) (sym s.transforms) done.0;
            fits = subst (λ ts. ReadsFit (n + 1) (with_reads set_of.name (all_reads reads ts (begun_reads reads set_of)) reads)) (sym s.transforms)
                (λ name. by_name name (all_reads reads (map (λ t. transform_of (members_of t)) s.items) (begun_reads reads set_of))
                (bytes_eq set_of.name name) refl
                (each_of (Held (Before s.kt s.tl done.1.0)) (Reach D) (final_reach done.1.0 s.kt s.tl)
                (all_reads reads (map (λ t. transform_of (members_of t)) s.items) (begun_reads reads set_of)) done.1.1));
          }
        where
          later : (name : List ℕ) → (reads name ≡ []) ⊎ OwnSet n name (reads name) → (reads name ≡ []) ⊎ OwnSet (n + 1) name (reads name)
          later name (inl none) = inl none
          later name (inr o) = inr (record {
            number = o.number;
            less = under o.number n o.less;
            gives = o.gives;
            first = o.first;
            of_place = o.of_place;
            set = o.set;
            is_set = o.is_set;
            each = o.each;
          })

          by_name : (name : List ℕ) (rs : List (List ℕ)) (b : Bool) → bytes_eq set_of.name name ≡ b → Each (Reach D) rs →
              ((if b then rs else reads name) ≡ []) ⊎ OwnSet (n + 1) name (if b then rs else reads name)
          by_name name rs false other each = later name (fit name)
          by_name name rs true same each =
              let g : GivenName = record { kind = given_as.Data; scope = S; of = X; at = child ST sp.name_number; name = set_of.name; scale = None } in
              let named : set_of.name ≡ name = (bytes_eq-Decides set_of.name name).0 same in
              inr (record {
                number = n;
                less = itself_under n;
                gives = g;
                first = ap (first_given all given_as.Data S) (sym named) ∙ the_only all g ordered.twice refl named_there;
                of_place = x_is;
                set = D;
                is_set = the_set.1;
                each = each;
              })

  -- ---- the list

  sets_from : (n : ℕ) (items : List Json) (reads : Reads) → EachFrom (λ i d. Seat tree LT i DATA d) n items → ReadsFit n reads →
      ((set : DataSet) (t : Transform) (e : Extent) → In set (map (λ d. data_set_of (members_of d)) items) →
      In t (transforms_of set) → extent_asked t ≡ Some e → In e.signal names) →
      Each OneKept (set_needs reads (map (λ d. data_set_of (members_of d)) items))
  sets_from n [] reads each fit own = tt
  sets_from n (d ∷ items) reads each fit own =
      let set = data_set_of (members_of d) in
      let s = set_fine n d each.0 reads fit (λ t e i a. own set t e (inl refl) i a) in
      each_append OneKept (extent_needs reads (transforms_of set) (begun_reads reads set))
      (set_needs (with_reads set.name (all_reads reads (transforms_of set) (begun_reads reads set)) reads) (map (λ d. data_set_of (members_of d)) items))
      s.kept (sets_from (n + 1) items (with_reads set.name (all_reads reads (transforms_of set) (begun_reads reads set)) reads)
      each.1 s.fits (λ u t e i j a. own u t e (inr i) j a))

  -- the needs of the extents of a list of data sets are those of the graph
  pub sets_kept : Seat tree (here ∷ round) kd DATA_LIST dl →
      ((items : List Json) → out-Json dl ≡ level.List items → (set : DataSet) (t : Transform) (e : Extent) →
      In set (map (λ d. data_set_of (members_of d)) items) → In t (transforms_of set) → extent_asked t ≡ Some e → In e.signal names) →
      (items : List Json) × (out-Json dl ≡ level.List items) × Each OneKept (set_needs no_reads (map (λ d. data_set_of (members_of d)) items))
  sets_kept s own =
      let l = seated_items tree (here ∷ round) kd DATA_LIST dl s DATA sets_taken in
      (l.items, l.is_list, sets_from 0 l.items no_reads l.each (λ name. inl refl) (own l.items l.is_list))
