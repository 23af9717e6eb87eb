-- The signals of an object that aren't given, as nodes of the graph of needs.
use Rattle.std.proofs.Common.{◌≡◌, ℕ, suc, ◌≤◌, List, [], ◌∷◌, ◌++◌, map, drop, length, refl, sym, ap, subst, ◌∙◌, inl, inr, All, arith}
use Rattle.std.specs.Prelude.{Option, Some, None, Bool, true, false, ◌&&◌, ◌||◌, IfSome, filter_map, bytes_eq, if◌then◌else◌}
use Rattle.std.specs.Option.{option_and_then, option_or, option_map_or}
use Rattle.std.specs.List.{list_any, cons_option}
use Rattle.std.proofs.lemmas.Slice.Eq.{bytes_eq-Decides}
use Rattle.json_exact.specs.declared.json.Json.{Json, out-Json}
use Rattle.spec_schema.specs.declared.spec_error.SpecKind.TheVariants.{Wrong}
use Rattle.json_exact.specs.Inside.{text_in}
use Rattle.expr_syntax.specs.declared.expr.Expr.{Expr}
use Rattle.expr_syntax.specs.Expressions.{has_domain_length}
use Rattle.expr_reading.specs.Readings.{expression_of}
use Rattle.expr_reading.specs.Mentions.{parameters_in, selections_in, scales_in}
use Rattle.need_graph.specs.Needs.{Needs, needs_itself}
use Rattle.vega_schema.specs.declared.codes.TheConstants.{EXPRESSION, SIGNAL, TOP}
use Rattle.vega_parts.specs.declared.part.Part.{Part}
use Rattle.vega_parts.specs.declared.part.Part.TheVariants as part
use Rattle.vega_parts.specs.declared.part.Given.TheVariants as given_as
use Rattle.vega_parts.specs.declared.part.GivenName.{GivenName}
use Rattle.vega_parts.specs.declared.part.UsedName.{UsedName}
use Rattle.vega_parts.specs.declared.part.Used.TheVariants as for_
use Rattle.vega_parts.specs.Names.{given, used, used_names}
use Rattle.vega_parts.specs.Expressions.{read_parts, names_in as name_parts}
use Rattle.vega_parts.specs.Trails.{Trail, noted, place_of, scope_of}
use Rattle.vega_parts.specs.Parts.{parts_at, parts_of}
use Rattle.vega_rules.specs.Rules.{shown}
use Rattle.vega_rules.specs.Places.{fronts}
use Rattle.vega_rules.specs.Names.{first_given}
use Rattle.vega_rules.specs.Twice.{twice}
use Rattle.vega_rules.specs.Resolved.{resolved_use, given_in, first_found, served}
use Rattle.vega_rules.specs.declared.nodes.Thing.{Thing}
use Rattle.vega_rules.specs.declared.nodes.Thing.TheVariants as thing
use Rattle.vega_rules.specs.Nodes.{node_at}
use Rattle.vega_rules.specs.Edges.{need, reader, reader_at, meant}
use Rattle.vega_rules.specs.Edges as edges
use Rattle.vega_rules.specs.Graph.{graph}
use Rattle.vega_rules.specs.Cycles.{first_cycle, signals}
use Rattle.vega_signals.specs.Needs.{Need, IsPlaced}
use Rattle.vega_standing.proofs.Trees.{Each}
use Rattle.vega_standing.proofs.Members.{all_of_each}
use Rattle.vega_standing.proofs.Stands.{parts_in, formed, quiet_here, parts_open}
use Rattle.vega_standing.proofs.Among.{In, in_front, in_map, in_filter, each_in, each_from_in}
use Rattle.vega_standing.proofs.Nodes.{node_there, no_node, signal_node, free_signals, shows, the_only}
use Rattle.vega_standing.proofs.Keys.{suits}
use Rattle.vega_standing.proofs.Quiet.{each_of}
use Rattle.vega_standing.proofs.Placed as placing
use Rattle.vega_standing.proofs.Seats.{value_at}
use Rattle.vega_standing.proofs.Seated.{Seat, own_among}

-- ---- fronts

fronts_first : (s : List ℕ) → fronts s ≡ s ∷ drop 1 (fronts s)
fronts_first [] = refl
fronts_first (n ∷ ns) =
    let p : fronts (n ∷ ns) ≡ (n ∷ ns) ∷ (map (λ (front : List ℕ). n ∷ front) (drop 1 (fronts ns)) ++ ([] ∷ [])) =
    ap (λ fs. map (λ (front : List ℕ). n ∷ front) fs ++ ([] ∷ [])) (fronts_first ns) in
    p ∙ ap (λ fs. (n ∷ ns) ∷ drop 1 fs) (sym p)

fronts_child : (s : List ℕ) (k : ℕ) → fronts (s ++ k ∷ []) ≡ (s ++ k ∷ []) ∷ fronts s
fronts_child [] k = refl
fronts_child (n ∷ ns) k = ap (λ fs. map (λ (front : List ℕ). n ∷ front) fs ++ ([] ∷ [])) (fronts_child ns k)

-- ---- what is known of a tree

-- a tree gives no name twice and has no signal that needs itself
pub record Ordered (tree : Json) : Type 0 where
  pub twice : twice (parts_of tree) ≡ []
  pub cycle : first_cycle (parts_of tree) ≡ None

-- ---- readers

module _ (tree : Json) where
  abbrev whole : List Part
  whole = parts_of tree

  -- what stands in no transform and no signal itself is read by what it stands in
  pub reader_of_child : (x : List ℕ) (k shape : ℕ) (v : Json) → value_at TOP tree (x ++ k ∷ []) ≡ Some (shape, v) →
      suits thing.Step shape ≡ false → suits thing.Signal shape ≡ false →
      reader (node_at whole) (x ++ k ∷ []) ≡ reader (node_at whole) x
  reader_of_child x k shape v at no_step no_signal =
      ap (edges.first_found (reader_at (node_at whole))) (fronts_child x k)
      ∙ ap (λ o. option_or (option_or o (node_at whole thing.Signal (x ++ k ∷ []))) (reader (node_at whole) x))
      (no_node tree thing.Step (x ++ k ∷ []) shape v at no_step)
      ∙ ap (λ o. option_or o (reader (node_at whole) x)) (no_node tree thing.Signal (x ++ k ∷ []) shape v at no_signal)

  -- a signal reads what stands in it
  pub reader_signal : (x : List ℕ) (v : ℕ) (w : Json) → value_at TOP tree x ≡ Some (SIGNAL, w) →
      node_at whole thing.Signal x ≡ Some v → reader (node_at whole) x ≡ Some v
  reader_signal x v w at is =
      ap (edges.first_found (reader_at (node_at whole))) (fronts_first x)
      ∙ ap (λ o. option_or (option_or o (node_at whole thing.Signal x)) (edges.first_found (reader_at (node_at whole)) (drop 1 (fronts x))))
      (no_node tree thing.Step x SIGNAL w at refl)
      ∙ ap (λ o. option_or o (edges.first_found (reader_at (node_at whole)) (drop 1 (fronts x)))) is

  -- a transform does
  pub reader_step : (x : List ℕ) (v : ℕ) → node_at whole thing.Step x ≡ Some v → reader (node_at whole) x ≡ Some v
  reader_step x v is =
      ap (edges.first_found (reader_at (node_at whole))) (fronts_first x)
      ∙ ap (λ o. option_or (option_or o (node_at whole thing.Signal x)) (edges.first_found (reader_at (node_at whole)) (drop 1 (fronts x)))) is

-- ---- the own signals

length_filtered : {X Y : Type 0} (f : X → Option Y) (xs : List X) → length (filter_map f xs) ≤ length xs
length_filtered f [] = omega arith
length_filtered f (x ∷ xs) = by_here (f x) (length_filtered f xs)
  where
    by_here : (o : Option _) → length (filter_map f xs) ≤ length xs → length (cons_option o (filter_map f xs)) ≤ suc (length xs)
    by_here None le = omega (arith, le)
    by_here (Some y) le = omega (arith, le)

listed : (name : List ℕ) (names : List (List ℕ)) → list_any (bytes_eq name) names ≡ true → In name names
listed name [] e = absurd cc
listed name (x ∷ names) e = by_test (bytes_eq name x) refl e (listed name names)
  where
    by_test : (b : Bool) → bytes_eq name x ≡ b → (b || list_any (bytes_eq name) names) ≡ true →
        (list_any (bytes_eq name) names ≡ true → In name names) → In name (x ∷ names)
    by_test true same f rest = inl ((bytes_eq-Decides name x).0 same)
    by_test false same f rest = inr (rest f)

is_listed : (name : List ℕ) (names : List (List ℕ)) → In name names → list_any (bytes_eq name) names ≡ true
is_listed name [] i = absurd i
is_listed name (x ∷ names) (inl same) = ap (λ b. b || list_any (bytes_eq name) names) ((bytes_eq-Decides name x).1 same)
is_listed name (x ∷ names) (inr i) = either (bytes_eq name x) (list_any (bytes_eq name) names) (is_listed name names i)
  where
    either : (a b : Bool) → b ≡ true → (a || b) ≡ true
    either true b e = refl
    either false b e = e

at_most : (a b c : ℕ) → a ≤ b → b ≤ c → a ≤ c
at_most a b c x y = omega (arith, x, y)

-- the object at `scope` has these names of signals that aren't given
module _ (tree : Json) (ordered : Ordered tree) (scope : List ℕ) (names : List (List ℕ)) where
  abbrev pub all : List Part
  all = parts_of tree

  abbrev pub needs : List (List ℕ)
  needs = graph all

  abbrev named_node : List ℕ → Option ℕ
  named_node name = option_and_then (λ (g : GivenName). node_at all thing.Signal g.of) (first_given all given_as.Signal scope name)

  -- the number of the part that gives the name
  abbrev pub node : List ℕ → Option ℕ
  node name = if list_any (bytes_eq name) names then named_node name else None

  -- the graph has what a signal needs of its own object
  abbrev pub Reached : ℕ → List ℕ → Type 0
  Reached v name = IfSome (node name) (Needs needs v)

  abbrev pub Kept : Need → Type 0
  Kept need = (v : ℕ) × (node need.0 ≡ Some v) × All (Reached v) need.1

  named_in : (name : List ℕ) (b : Bool) (v : ℕ) → list_any (bytes_eq name) names ≡ b →
      (if b then named_node name else None) ≡ Some v → (b ≡ true) × (named_node name ≡ Some v)
  named_in name true v e f = (refl, f)
  named_in name false v e f = absurd cc

  of_name : (o : Option GivenName) (v : ℕ) → option_and_then (λ (g : GivenName). node_at all thing.Signal g.of) o ≡ Some v →
      (g : GivenName) × (o ≡ Some g) × (node_at all thing.Signal g.of ≡ Some v)
  of_name None v e = absurd cc
  of_name (Some g) v e = (g, refl, e)

  known : (name : List ℕ) (v : ℕ) → node name ≡ Some v → In v (filter_map node names) × (needs_itself needs v ≡ false)
  known name v e =
      let both = named_in name (list_any (bytes_eq name) names) v refl e in
      let (g, is, at) = of_name (first_given all given_as.Signal scope name) v both.1 in (
        in_filter node name v names (listed name names both.0) e,
        each_in (λ u. needs_itself needs u ≡ false) v (signals all) (free_signals all ordered.cycle) (signal_node all g.of v at),
      )

  -- where each need is one that the graph has, the signals stand in an order
  pub in_order : (own : List Need) → Each Kept own → (place : List ℕ → ℕ) × All (IsPlaced place (length names)) own
  in_order own each = (
    placing.place needs (filter_map node names) node known,
    all_of_each (IsPlaced (placing.place needs (filter_map node names) node known) (length names)) own (each_of Kept _ one own each),
  )
    where
      one : (n : Need) → Kept n → IsPlaced (placing.place needs (filter_map node names) node known) (length names) n
      one n (v, is, reached) =
          let p = placing.placed needs (filter_map node names) node known n v is reached in
          record { from_one = p.from_one; bounded = at_most _ _ _ p.bounded (length_filtered node names); lesser = p.lesser }

  -- a name that is given to a signal of the object is a node
  pub gives_node : (of at name : List ℕ) → In (given given_as.Signal scope of at name) all → In name names →
      (v : ℕ) × (node name ≡ Some v) × (node_at all thing.Signal of ≡ Some v)
  gives_node of at name i own =
      let g : GivenName = record { kind = given_as.Signal; scope = scope; of = of; at = at; name = name; scale = None } in
      let first : first_given all given_as.Signal scope name ≡ Some g = the_only all g ordered.twice refl i in
      let v = node_there all thing.Signal of (part.Given g) i refl in (
        v.0,
        ap (λ b. if b then named_node name else None) (is_listed name names own)
            ∙ ap (λ o. option_and_then (λ (g : GivenName). node_at all thing.Signal g.of) o) first ∙ v.1,
        v.1,
      )

  -- what reads a name needs the own signal that it is
  pub use_reached : (at r : List ℕ) (t : Thing) (y : List ℕ) (x : ℕ) → In (used for_.Signal scope at r) all →
      reader (node_at all) at ≡ Some x → node_at all t y ≡ Some x → Reached x r
  use_reached at r t y x i read is = by_node (node r) refl
    where
      u : UsedName
      u = record { kind = for_.Signal; scope = scope; at = at; name = r }

      by_node : (o : Option ℕ) → node r ≡ o → IfSome o (Needs needs x)
      by_node None e = tt
      by_node (Some w) e =
          let both = named_in r (list_any (bytes_eq r) names) w refl e in
          let (g, first, node_is) = of_name (first_given all given_as.Signal scope r) w both.1 in
          let means : resolved_use all u ≡ Some g =
          ap (λ fs. option_and_then (served for_.Signal at) (first_found (given_in all for_.Signal r) fs)) (fronts_first scope)
          ∙ ap (λ o. option_and_then (served for_.Signal at)
          (option_or (option_or o None) (first_found (given_in all for_.Signal r) (drop 1 (fronts scope))))) first in
          let edge : need (reader (node_at all) at) (meant (node_at all) all thing.Signal u) ≡ (x, w) ∷ [] =
          (λ j. need (read j) (option_and_then (λ (name : GivenName). node_at all thing.Signal name.of) (means j))) ∙ ap (λ o. need (Some x) o) node_is in
          shows all (part.Used u) t y x w i (subst (In (x, w)) (sym edge) (inl refl)) is

  -- ---- expressions

  quiet_read : (trail : Trail) (e : Expr) (b : Bool) → shown (if b then part.Fault (place_of trail) Wrong ∷ [] else name_parts trail e) ≡ [] →
      (if b then part.Fault (place_of trail) Wrong ∷ [] else name_parts trail e) ≡ name_parts trail e
  quiet_read trail e true quiet = absurd cc
  quiet_read trail e false quiet = refl

  -- what reads an expression needs the own signals among its parameters
  pub expression_reached : (round : Trail) (number : ℕ) (v : Json) (text : List ℕ) (e : Expr) (t : Thing) (y : List ℕ) (x : ℕ) →
      Seat tree round number EXPRESSION v →
      text_in (out-Json v) ≡ Some text → expression_of text ≡ Some e → scope_of (noted number EXPRESSION v ∷ round) ≡ scope →
      reader (node_at all) (place_of (noted number EXPRESSION v ∷ round)) ≡ Some x → node_at all t y ≡ Some x → Each (Reached x) (parameters_in e)
  expression_reached round number v text e t y x s is reads in_scope read at = each_from_in (Reached x) (parameters_in e) one
    where
      trail : Trail
      trail = noted number EXPRESSION v ∷ round

      own : parts_at trail v ≡ read_parts false trail (Some e)
      own = ap (λ o. option_map_or (λ (text : List ℕ). read_parts false trail (expression_of text)) o []) is ∙ ap (read_parts false trail) reads

      named : parts_at trail v ≡ name_parts trail e
      named = own ∙ quiet_read trail e (has_domain_length e && true) (ap shown (sym own) ∙ quiet_here round number EXPRESSION v s.stands)

      opened : (ps : List Part) × (parts_in round number EXPRESSION v ≡ parts_at trail v ++ ps)
      opened = let f = formed EXPRESSION v s.stands.fine in (_, parts_open round number EXPRESSION v f.0 f.1)

      among : (p : Part) → In p (name_parts trail e) → In p all
      among p i = own_among tree round number EXPRESSION v opened.0 s opened.1 p (subst (In p) (sym named) i)

      one : (r : List ℕ) → In r (parameters_in e) → Reached x r
      one r i =
          use_reached (place_of trail) r t y x
          (subst (λ sc. In (used for_.Signal sc (place_of trail) r) all) in_scope
          (among (used for_.Signal (scope_of trail) (place_of trail) r)
          (in_front _ (used_names for_.Signal trail (parameters_in e) ++ used_names for_.Store trail (selections_in e))
          (used_names for_.Scale trail (scales_in e))
          (in_front _ (used_names for_.Signal trail (parameters_in e)) (used_names for_.Store trail (selections_in e))
          (in_map (λ (name : List ℕ). used for_.Signal (scope_of trail) (place_of trail) name) r (parameters_in e) i))))) read at
