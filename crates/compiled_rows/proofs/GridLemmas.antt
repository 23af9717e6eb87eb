-- The numbers of grids rise: those round a unit are met with the first unit in them, and views are numbered as they stand, an outer one before those in it.
use Rattle.std.proofs.Common.{◌≡◌, refl, sym, ap, ◌∙◌, subst, ℕ, suc, ◌+◌, ◌^◌, ◌<◌, ◌≤◌, ◌==◌, ◌||◌, ◌⊎◌, inl, inr, Bool, true, false, if◌then◌else◌}
use Rattle.std.proofs.Common.{Option, Some, None, List, [], ◌∷◌, ◌++◌, All, IfSome, arith, filter, fold, le_refl, length, length-append, map, option_to_list}
use Rattle.std.proofs.Common.{append-nil}
use Rattle.std.specs.List.{enumerate_from}
use Rattle.std.proofs.lemmas.Bool.Decides.{nat_tests}
use Rattle.std.proofs.lemmas.List.Elements.{All-nil, All-cons, All-head, All-tail, filter-append}
use Rattle.vl_spec.specs.declared.spec.VlSpec.{VlSpec}
use Rattle.vl_spec.specs.declared.views.Faceted.{Faceted, Faceted-F, roll-Faceted, map-Faceted, fold-Faceted, fold-roll-Faceted}
use Rattle.vl_spec.specs.declared.views.Joined.{Joined, Joined-F, roll-Joined, map-Joined, fold-Joined, fold-roll-Joined}
use Rattle.vl_spec.specs.declared.views.Layer.{Layer, Layer-F, roll-Layer, map-Layer, fold-Layer, fold-roll-Layer}
use Rattle.vl_spec.specs.declared.views.View.{View, View-F, roll-View, map-View, fold-roll-View, ind-View}
use Rattle.vl_spec.specs.declared.views.ViewKind.{ViewKind, ViewKind-F, roll-ViewKind, map-ViewKind, fold-ViewKind, fold-roll-ViewKind}
use Rattle.vl_spec.specs.declared.views.ViewKind.TheOpen as level
use Rattle.vl_compose.specs.Rounds.{AFacet, AJoined, ALayer, AUnit, Inside, KindAt, Opened, Round, ViewAt, in_order, rounds_in, rounds_of, view_at, view_here}
use Rattle.vl_compose.specs.Rounds.{faceted_here, joined_here, kind_here, layer_here}
use Rattle.vl_compose.specs.Units.{UnitAt, ends_in_unit, unit_at, units_of}
use Rattle.vl_normalize.specs.Normal.{normal_form}
use Rattle.plan_kit.specs.declared.grids.GridPlan.{GridPlan}
use Rattle.chart_plan.specs.Grids.{grid_by, grid_in, grids_of, is_there, with_grid, with_grids}
use Rattle.compiled_rows.specs.Lists.{GridNumbersRise, Rises}
use Rattle.plain_groups.proofs.PlaceLemmas.{equal_itself}
use Rattle.compiled_rows.proofs.PartLemmas.{any_left, any_right, by_cases, or_left}

-- ---- numbers that rise up to a bound

abbrev RiseTo : ℕ → List GridPlan → ℕ → Type 0
RiseTo least [] bound = least ≤ bound
RiseTo least (g ∷ gs) bound = (least ≤ g.number) × RiseTo (suc g.number) gs bound

bounded : (least : ℕ) (gs : List GridPlan) (bound : ℕ) → RiseTo least gs bound → least ≤ bound
bounded least [] bound h = h
bounded least (g ∷ gs) bound h = let later = bounded (suc g.number) gs bound h.1 in omega (arith, h.0, later)

wider : (least : ℕ) (gs : List GridPlan) (bound more : ℕ) → RiseTo least gs bound → bound ≤ more → RiseTo least gs more
wider least [] bound more h less = let here : least ≤ bound = h in omega (arith, here, less)
wider least (g ∷ gs) bound more h less = (h.0, wider (suc g.number) gs bound more h.1 less)

one_behind : (least : ℕ) (gs : List GridPlan) (bound : ℕ) (g : GridPlan) → RiseTo least gs bound → g.number ≡ bound
    → RiseTo least (gs ++ g ∷ []) (suc bound)
one_behind least [] bound g h is = let here : least ≤ bound = h in (omega (arith, here, is), omega (arith, is))
one_behind least (x ∷ gs) bound g h is = (h.0, one_behind (suc x.number) gs bound g h.1 is)

before : (least : ℕ) (gs more : List GridPlan) (bound : ℕ) → RiseTo least (gs ++ more) bound → RiseTo least gs bound
before least [] more bound h = bounded least more bound h
before least (g ∷ gs) more bound h = (h.0, before (suc g.number) gs more bound h.1)

differs : (a b : ℕ) → a < b → (a == b) ≡ false
differs a b h = grind (arith, nat_tests)

absent : (least : ℕ) (gs : List GridPlan) (bound : ℕ) → RiseTo least gs bound → is_there bound gs ≡ false
absent least [] bound h = refl
absent least (g ∷ gs) bound h =
    let later = bounded (suc g.number) gs bound h.1 in
    ap (λ b. b || is_there bound gs) (differs g.number bound (omega (arith, later))) ∙ absent (suc g.number) gs bound h.1

rises : (least : ℕ) (gs : List GridPlan) (bound : ℕ) → bound ≤ 2 ^ 64 → RiseTo least gs bound → Rises least (map (λ (g : GridPlan). g.number) gs)
rises least [] bound small h = tt
rises least (g ∷ gs) bound small h =
    let later = bounded (suc g.number) gs bound h.1 in
    (h.0, omega (arith, later, small), rises (suc g.number) gs bound small h.1)

next_one : (n : ℕ) → suc n ≤ n + 1
next_one n = omega arith

lengths : {X : Type 0} (n : ℕ) (xs ys : List X) → (n + length xs) + length ys ≤ n + length (xs ++ ys)
lengths n xs ys = omega (arith, length-append xs ys)

one_longer : {X : Type 0} (n : ℕ) (x : X) (xs : List X) → (n + 1) + length xs ≤ n + length (x ∷ xs)
one_longer n x xs = omega arith

-- ---- one view after the other

folded_on : {A B : Type 0} (f : B → A → B) (xs ys : List A) (b : B) → fold f b (xs ++ ys) ≡ fold f (fold f b xs) ys
folded_on f [] ys b = refl
folded_on f (x ∷ xs) ys b = folded_on f xs ys (f b x)

module _ (units : List UnitAt) where
  abbrev with_view : List GridPlan → ViewAt → List GridPlan
  with_view = with_grid units

  abbrev with_round : List GridPlan → Round → List GridPlan
  with_round = fold with_view

  -- the grids of a round have numbers that rise, once it is met
  abbrev Meets : List GridPlan → Round → ℕ → Type 0
  Meets grids round bound = RiseTo 0 (with_round grids round) bound

  -- a view whose grid is there, if it is one
  abbrev IsDone : List GridPlan → ViewAt → Type 0
  IsDone grids v = (is_there v.number grids ≡ true) ⊎ (grid_in units v ≡ None)

  own_number : (v : ViewAt) (kind : KindAt) → IfSome (grid_by units v kind) (λ (g : GridPlan). g.number ≡ v.number)
  own_number v (AUnit unit) = tt
  own_number v (ALayer encoding) = tt
  own_number v (AFacet f) = refl
  own_number v (AJoined j) = refl

  done_same : (grids : List GridPlan) (v : ViewAt) → IsDone grids v → with_view grids v ≡ grids
  done_same grids v (inl there) = ap (λ b. if b then grids else grids ++ option_to_list (grid_in units v)) there
  done_same grids v (inr none) =
      ap (λ o. if is_there v.number grids then grids else grids ++ option_to_list o) none ∙ either (is_there v.number grids)
    where
      either : (b : Bool) → (if b then grids else grids ++ []) ≡ grids
      either true = refl
      either false = append-nil grids

  -- what is behind the grids once a view is met
  grown : (grids : List GridPlan) (v : ViewAt) → (more : List GridPlan) × (with_view grids v ≡ grids ++ more)
  grown grids v = either (is_there v.number grids)
    where
      either : (b : Bool)
          → (more : List GridPlan) × ((if b then grids else grids ++ option_to_list (grid_in units v)) ≡ grids ++ more)
      either true = ([], sym (append-nil grids))
      either false = (option_to_list (grid_in units v), refl)

  done_still : (grids more : List GridPlan) (v : ViewAt) → IsDone grids v → IsDone (grids ++ more) v
  done_still grids more v (inl there) = inl (any_left (λ (g : GridPlan). g.number == v.number) grids more there)
  done_still grids more v (inr none) = inr none

  done_here : (grids : List GridPlan) (v : ViewAt) → IsDone (with_view grids v) v
  done_here grids v =
      by_cases (is_there v.number grids)
      (λ there. subst (λ l. IsDone l v) (sym (done_same grids v (inl there))) (inl there))
      (λ none. subst (λ l. IsDone l v) (sym (ap (λ b. if b then grids else grids ++ option_to_list (grid_in units v)) none))
      (new (grid_in units v) refl (own_number v v.kind)))
    where
      new : (o : Option GridPlan) → grid_in units v ≡ o → IfSome o (λ (g : GridPlan). g.number ≡ v.number) → IsDone (grids ++ option_to_list o) v
      new None is own = inr is
      new (Some g) is own =
          inl (any_right (λ (x : GridPlan). x.number == v.number) grids (g ∷ [])
          (or_left (g.number == v.number) false (ap (λ n. n == v.number) own ∙ equal_itself v.number)))

  done_through : (round : Round) (grids : List GridPlan) (v : ViewAt) → IsDone grids v → IsDone (with_round grids round) v
  done_through [] grids v h = h
  done_through (x ∷ round) grids v h =
      let more = grown grids x in
      done_through round (with_view grids x) v (subst (λ l. IsDone l v) (sym more.1) (done_still grids more.0 v h))

  all_done : (round : Round) (grids : List GridPlan) → All (IsDone (with_round grids round)) round
  all_done [] grids = All-nil (IsDone grids)
  all_done (x ∷ round) grids =
      All-cons (IsDone (with_round (with_view grids x) round)) x round (done_through round (with_view grids x) x (done_here grids x))
      (all_done round (with_view grids x))

  all_same : (round : Round) (grids : List GridPlan) → All (IsDone grids) round → with_round grids round ≡ grids
  all_same [] grids h = refl
  all_same (x ∷ round) grids h =
      ap (λ l. with_round l round) (done_same grids x (All-head (IsDone grids) x round h))
      ∙ all_same round grids (All-tail (IsDone grids) x round h)

  -- a round that was met changes nothing more
  settled : (round : Round) (grids : List GridPlan) → with_round (with_round grids round) round ≡ with_round grids round
  settled round grids = all_same round (with_round grids round) (all_done round grids)

  -- ---- a view further in

  one_more : (grids : List GridPlan) (bound : ℕ) (o : Option GridPlan) → IfSome o (λ (g : GridPlan). g.number ≡ bound) → RiseTo 0 grids bound
      → RiseTo 0 (grids ++ option_to_list o) (suc bound)
  one_more grids bound None own h =
      subst (λ l. RiseTo 0 l (suc bound)) (sym (append-nil grids)) (wider 0 grids bound (suc bound) h (omega arith))
  one_more grids bound (Some g) own h = one_behind 0 grids bound g h own

  further_in : (grids : List GridPlan) (round : Round) (v : ViewAt) → Meets grids round v.number → Meets grids (round ++ v ∷ []) (suc v.number)
  further_in grids round v h =
      let met = with_round grids round in
      subst (λ l. RiseTo 0 l (suc v.number))
      (sym (ap (λ b. if b then met else met ++ option_to_list (grid_in units v)) (absent 0 met v.number h)) ∙ sym (folded_on with_view round (v ∷ []) grids))
      (one_more met v.number (grid_in units v) (own_number v v.kind) h)

  further_out : (grids : List GridPlan) (round : Round) (v : ViewAt) (bound : ℕ) → Meets grids (round ++ v ∷ []) bound → Meets grids round bound
  further_out grids round v bound h =
      let more = grown (with_round grids round) v in
      before 0 (with_round grids round) more.0 bound
      (subst (λ l. RiseTo 0 l bound) (folded_on with_view round (v ∷ []) grids ∙ more.1) h)

  -- ---- the units among views

  abbrev with_units : List GridPlan → List Round → List GridPlan
  with_units grids rounds = fold with_round grids (filter ends_in_unit rounds)

  both_units : (first second : List Round) (grids : List GridPlan) → with_units grids (first ++ second) ≡ with_units (with_units grids first) second
  both_units first second grids =
      ap (fold with_round grids) (filter-append ends_in_unit first second) ∙ folded_on with_round (filter ends_in_unit first) (filter ends_in_unit second) grids

  -- views keep numbers rising
  abbrev Keeps : Inside → Type 0
  Keeps inside = (round : Round) (child number : ℕ) (grids : List GridPlan) → Meets grids round number
      → Meets (with_units grids (inside round child number)) round (number + length (inside round child number))

  order_keeps : (insides : List Inside) → All Keeps insides → Keeps (in_order insides)
  order_keeps [] h round child number grids met = wider 0 (with_round grids round) number (number + 0) met (omega arith)
  order_keeps (first ∷ others) h round child number grids met =
      let views = first round child number in
      let rest = in_order others round (child + 1) (number + length views) in
      let next = order_keeps others (All-tail Keeps first others h) round (child + 1) (number + length views) (with_units grids views)
      (All-head Keeps first others h round child number grids met) in
      wider 0 (with_round (with_units grids (views ++ rest)) round) ((number + length views) + length rest) (number + length (views ++ rest))
      (subst (λ l. Meets l round ((number + length views) + length rest)) (sym (both_units views rest grids)) next) (lengths number views rest)

  view_keeps : (v : View-F Opened Opened Opened Opened Inside) → All Keeps v.kind.inside → Keeps (view_here v)
  view_keeps v h round child number grids met =
      let own : ViewAt = view_at v v.kind.kind child number in
      let here : Round = round ++ own ∷ [] in
      let rest = in_order v.kind.inside here 0 (number + 1) in
      let in_it : Meets grids here (number + 1)
      = wider 0 (with_round grids here) (suc number) (number + 1) (further_in grids round own met) (next_one number) in
      wider 0 (with_round (with_units grids (here ∷ rest)) round) ((number + 1) + length rest) (number + length (here ∷ rest))
      (further_out (with_units grids (here ∷ rest)) round own ((number + 1) + length rest)
      (by here rest (ends_in_unit here) in_it (λ l k. order_keeps v.kind.inside h here 0 (number + 1) l k)))
      (one_longer number here rest)
    where
      by : (here : Round) (rest : List Round) (b : Bool) → Meets grids here (number + 1)
          → ((l : List GridPlan) → Meets l here (number + 1) → Meets (with_units l rest) here ((number + 1) + length rest))
          → Meets (fold with_round grids (if b then here ∷ filter ends_in_unit rest else filter ends_in_unit rest)) here ((number + 1) + length rest)
      by here rest true k on = on (with_round grids here) (subst (λ l. RiseTo 0 l (number + 1)) (sym (settled here grids)) k)
      by here rest false k on = on grids k

  -- ---- all views

  abbrev opened_kind : ViewKind → Opened
  opened_kind = fold-ViewKind Opened Opened Opened Opened Inside kind_here faceted_here joined_here layer_here view_here

  abbrev opened_faceted : Faceted → Opened
  opened_faceted = fold-Faceted Opened Opened Opened Opened Inside kind_here faceted_here joined_here layer_here view_here

  abbrev opened_joined : Joined → Opened
  opened_joined = fold-Joined Opened Opened Opened Opened Inside kind_here faceted_here joined_here layer_here view_here

  abbrev opened_layer : Layer → Opened
  opened_layer = fold-Layer Opened Opened Opened Opened Inside kind_here faceted_here joined_here layer_here view_here

  abbrev OfKind : ViewKind → Type 0
  OfKind k = All Keeps (opened_kind k).inside

  abbrev OfFaceted : Faceted → Type 0
  OfFaceted f = All Keeps (opened_faceted f).inside

  abbrev OfJoined : Joined → Type 0
  OfJoined j = All Keeps (opened_joined j).inside

  abbrev OfLayer : Layer → Type 0
  OfLayer l = All Keeps (opened_layer l).inside

  abbrev OfView : View → Type 0
  OfView v = Keeps (rounds_in v)

  views_keep : (views : List ((v : View) × OfView v)) → All Keeps (map rounds_in (map (λ e. e.0) views))
  views_keep [] = All-nil Keeps
  views_keep (e ∷ views) = All-cons Keeps (rounds_in e.0) (map rounds_in (map (λ x. x.0) views)) e.1 (views_keep views)

  rolled : (k : ViewKind-F ViewKind Faceted Joined Layer View) → opened_kind (roll-ViewKind k)
      ≡ kind_here (map-ViewKind ViewKind Faceted Joined Layer View Opened Opened Opened Opened Inside
      opened_kind opened_faceted opened_joined opened_layer rounds_in k)
  rolled k = fold-roll-ViewKind Opened Opened Opened Opened Inside kind_here faceted_here joined_here layer_here view_here k

  kind_step : (y : ViewKind-F ((k : ViewKind) × OfKind k) ((f : Faceted) × OfFaceted f) ((j : Joined) × OfJoined j) ((l : Layer) × OfLayer l)
      ((v : View) × OfView v))
      → OfKind (roll-ViewKind (map-ViewKind _ _ _ _ _ ViewKind Faceted Joined Layer View (λ e. e.0) (λ e. e.0) (λ e. e.0) (λ e. e.0) (λ e. e.0) y))
  kind_step (level.Unit u) = subst (λ (o : Opened). All Keeps o.inside) (sym (rolled (level.Unit u))) (All-nil Keeps)
  kind_step (level.Layer l) = subst (λ (o : Opened). All Keeps o.inside) (sym (rolled (level.Layer l.0))) l.1
  kind_step (level.Facet f) = subst (λ (o : Opened). All Keeps o.inside) (sym (rolled (level.Facet f.0))) f.1
  kind_step (level.Joined j) = subst (λ (o : Opened). All Keeps o.inside) (sym (rolled (level.Joined j.0))) j.1

  faceted_step : (y : Faceted-F ((k : ViewKind) × OfKind k) ((f : Faceted) × OfFaceted f) ((j : Joined) × OfJoined j) ((l : Layer) × OfLayer l)
      ((v : View) × OfView v))
      → OfFaceted (roll-Faceted (map-Faceted _ _ _ _ _ ViewKind Faceted Joined Layer View (λ e. e.0) (λ e. e.0) (λ e. e.0) (λ e. e.0) (λ e. e.0) y))
  faceted_step y =
      subst (λ (o : Opened). All Keeps o.inside)
      (sym (fold-roll-Faceted Opened Opened Opened Opened Inside kind_here faceted_here joined_here layer_here view_here
      (map-Faceted _ _ _ _ _ ViewKind Faceted Joined Layer View (λ e. e.0) (λ e. e.0) (λ e. e.0) (λ e. e.0) (λ e. e.0) y)))
      (All-cons Keeps (rounds_in y.spec.0) [] y.spec.1 (All-nil Keeps))

  joined_step : (y : Joined-F ((k : ViewKind) × OfKind k) ((f : Faceted) × OfFaceted f) ((j : Joined) × OfJoined j) ((l : Layer) × OfLayer l)
      ((v : View) × OfView v))
      → OfJoined (roll-Joined (map-Joined _ _ _ _ _ ViewKind Faceted Joined Layer View (λ e. e.0) (λ e. e.0) (λ e. e.0) (λ e. e.0) (λ e. e.0) y))
  joined_step y =
      subst (λ (o : Opened). All Keeps o.inside)
      (sym (fold-roll-Joined Opened Opened Opened Opened Inside kind_here faceted_here joined_here layer_here view_here
      (map-Joined _ _ _ _ _ ViewKind Faceted Joined Layer View (λ e. e.0) (λ e. e.0) (λ e. e.0) (λ e. e.0) (λ e. e.0) y)))
      (views_keep y.views)

  layer_step : (y : Layer-F ((k : ViewKind) × OfKind k) ((f : Faceted) × OfFaceted f) ((j : Joined) × OfJoined j) ((l : Layer) × OfLayer l)
      ((v : View) × OfView v))
      → OfLayer (roll-Layer (map-Layer _ _ _ _ _ ViewKind Faceted Joined Layer View (λ e. e.0) (λ e. e.0) (λ e. e.0) (λ e. e.0) (λ e. e.0) y))
  layer_step y =
      subst (λ (o : Opened). All Keeps o.inside)
      (sym (fold-roll-Layer Opened Opened Opened Opened Inside kind_here faceted_here joined_here layer_here view_here
      (map-Layer _ _ _ _ _ ViewKind Faceted Joined Layer View (λ e. e.0) (λ e. e.0) (λ e. e.0) (λ e. e.0) (λ e. e.0) y)))
      (views_keep y.layer)

  view_step : (y : View-F ((k : ViewKind) × OfKind k) ((f : Faceted) × OfFaceted f) ((j : Joined) × OfJoined j) ((l : Layer) × OfLayer l)
      ((v : View) × OfView v))
      → OfView (roll-View (map-View _ _ _ _ _ ViewKind Faceted Joined Layer View (λ e. e.0) (λ e. e.0) (λ e. e.0) (λ e. e.0) (λ e. e.0) y))
  view_step y =
      subst Keeps (sym (fold-roll-View Opened Opened Opened Opened Inside kind_here faceted_here joined_here layer_here view_here
      (map-View _ _ _ _ _ ViewKind Faceted Joined Layer View (λ e. e.0) (λ e. e.0) (λ e. e.0) (λ e. e.0) (λ e. e.0) y)))
      (view_keeps (map-View _ _ _ _ _ Opened Opened Opened Opened Inside opened_kind opened_faceted opened_joined opened_layer rounds_in
      (map-View _ _ _ _ _ ViewKind Faceted Joined Layer View (λ e. e.0) (λ e. e.0) (λ e. e.0) (λ e. e.0) (λ e. e.0) y)) y.kind.1)

  all_views : (v : View) → OfView v
  all_views = ind-View OfKind OfFaceted OfJoined OfLayer OfView
      (λ x y is. subst (λ z. OfKind (roll-ViewKind z)) is (kind_step y))
      (λ x y is. subst (λ z. OfFaceted (roll-Faceted z)) is (faceted_step y))
      (λ x y is. subst (λ z. OfJoined (roll-Joined z)) is (joined_step y))
      (λ x y is. subst (λ z. OfLayer (roll-Layer z)) is (layer_step y))
      (λ x y is. subst (λ z. OfView (roll-View z)) is (view_step y))

  -- ---- the units of a specification

  unit_rounds : (n : ℕ) (rounds : List Round) (grids : List GridPlan)
      → fold (with_grids units) grids (map (λ (m : ℕ × Round). unit_at m.0 m.1) (enumerate_from n rounds)) ≡ fold with_round grids rounds
  unit_rounds n [] grids = refl
  unit_rounds n (round ∷ rounds) grids = unit_rounds (n + 1) rounds (with_round grids round)

of_normal : (n : VlSpec) → length (rounds_of n) ≤ 2 ^ 64 → Rises 0 (map (λ (g : GridPlan). g.number) (grids_of (units_of n)))
of_normal n few =
    rises 0 (grids_of (units_of n)) (0 + length (rounds_of n)) (omega (arith, few))
    (subst (λ l. RiseTo 0 l (0 + length (rounds_of n))) (sym (unit_rounds (units_of n) 0 (filter ends_in_unit (rounds_of n)) []))
    (all_views (units_of n) n.view [] 0 0 [] (le_refl 0)))

pub grid_numbers_rise : GridNumbersRise
grid_numbers_rise s few = of_normal (normal_form s) few
