-- Why the lists in copies are the parts of panels.
use Rattle.std.proofs.Common.{◌≡◌, ℕ, zero, suc, ◌≤◌, ◌==◌, ◌||◌, ◌&&◌, not, Bool, true, false, cond, Option, Some, None, List, [], ◌∷◌, ◌++◌, map, filter}
use Rattle.std.proofs.Common.{flat_map}
use Rattle.std.proofs.Common.{All, refl, sym, ap, ◌∙◌, subst, arith}
use Rattle.std.specs.Prelude.{zip, slice_get, nat_le}
use Rattle.std.specs.List.{list_any, enumerate_from}
use Rattle.std.specs.Option.{option_map_or}
use Rattle.std.specs.Str.{bytes_eq}
use Rattle.std.proofs.lemmas.Bool.{eqb-true}
use Rattle.std.proofs.lemmas.Bool.Decides.{nat_tests}
use Rattle.std.proofs.lemmas.List.{map-append}
use Rattle.std.proofs.lemmas.List.Elements.{All-head, All-tail}
use Rattle.std.proofs.lemmas.List.Folds.{list_any-append}
use Rattle.std.proofs.lemmas.Slice.Eq.{bytes_eq-Decides}
use Rattle.cell_value.specs.declared.cell.Cell.{Cell}
use Rattle.cell_value.specs.Datum.{Datum}
use Rattle.plain_groups.proofs.PlaceLemmas.{equal_itself}
use Rattle.plain_facets.specs.Facets.{part_of}
use Rattle.vega_spec.specs.declared.data.DataSet.{DataSet}
use Rattle.vega_lists.specs.Scopes.{Scope}
use Rattle.vega_copies.specs.Facets.{with_parts, part_named}
use Rattle.plan_kit.specs.declared.grids.FacetPlan.{FacetPlan}
use Rattle.plan_kit.specs.declared.grids.GridPlan.{GridPlan}
use Rattle.plan_kit.specs.declared.plan.Plan.{Plan}
use Rattle.plan_kit.specs.declared.scales.ScalePlan.{ScalePlan}
use Rattle.plan_kit.specs.Among.{is_among}
use Rattle.chart_meaning.specs.Parts.{names_of}
use Rattle.vega_assemble.specs.Drags.{outer_lists, outer_names, name_of_set}
use Rattle.vega_assemble.specs.Facets.{facet_over, names_of_keys, first_of, is_inside, is_grid_inside, grids_inside, is_number, holds, is_held}
use Rattle.vega_assemble.specs.Facets.{names_of_sets, scale_names, keys_inside, is_deeper, deeper, parts_by}
use Rattle.vega_assemble.specs.Lists.{lists_of_scale}
use Rattle.vega_assemble.specs.Names.{unit_name}
use Rattle.compiled_rows.specs.Parts.{is_one_of, names_parted, scales_held, ListsAreParted, UnitsAreParted, ScaleListsAreParted, InnerListsAreParted}

-- ---- tests

pub by_cases : {P : Type 0} (b : Bool) → (b ≡ true → P) → (b ≡ false → P) → P
by_cases true yes_so not_so = yes_so refl
by_cases false yes_so not_so = not_so refl

pub or_left : (a b : Bool) → a ≡ true → (a || b) ≡ true
or_left true b e = refl
or_left false b e = absurd (cc)

pub or_right : (a b : Bool) → b ≡ true → (a || b) ≡ true
or_right true b e = refl
or_right false b e = e

pub or_either : {P : Type 0} (a b : Bool) → (a || b) ≡ true → (a ≡ true → P) → (b ≡ true → P) → P
or_either true b e h k = h refl
or_either false b e h k = k e

and_both : (a b : Bool) → (a && b) ≡ true → (a ≡ true) × (b ≡ true)
and_both true b e = (refl, e)
and_both false b e = absurd (cc)

and_from : (a b : Bool) → a ≡ true → b ≡ true → (a && b) ≡ true
and_from true b e h = h
and_from false b e h = absurd (cc)

-- ---- what is among lists

module _ {X : Type 0} (p : X → Bool) where
  pub any_left : (xs ys : List X) → list_any p xs ≡ true → list_any p (xs ++ ys) ≡ true
  any_left xs ys e = list_any-append p xs ys ∙ or_left (list_any p xs) (list_any p ys) e

  pub any_right : (xs ys : List X) → list_any p ys ≡ true → list_any p (xs ++ ys) ≡ true
  any_right xs ys e = list_any-append p xs ys ∙ or_right (list_any p xs) (list_any p ys) e

  pub any_either : {P : Type 0} (xs ys : List X) → list_any p (xs ++ ys) ≡ true → (list_any p xs ≡ true → P) → (list_any p ys ≡ true → P) → P
  any_either xs ys e h k = or_either (list_any p xs) (list_any p ys) (sym (list_any-append p xs ys) ∙ e) h k

  -- more elements are kept by a weaker test
  any_kept_more : (a b : X → Bool) → ((x : X) → a x ≡ true → b x ≡ true) → (xs : List X) → list_any p (filter a xs) ≡ true → list_any p (filter b xs) ≡ true
  any_kept_more a b weaker [] e = e
  any_kept_more a b weaker (x ∷ xs) e =
      by_cases (a x)
      (λ is. ap (λ t. list_any p (cond t (x ∷ filter b xs) (filter b xs))) (weaker x is)
      ∙ or_either (p x) (list_any p (filter a xs)) (sym (ap (λ t. list_any p (cond t (x ∷ filter a xs) (filter a xs))) is) ∙ e)
      (λ here. or_left (p x) (list_any p (filter b xs)) here)
      (λ later. or_right (p x) (list_any p (filter b xs)) (any_kept_more a b weaker xs later)))
      (λ no_more. kept (b x) (any_kept_more a b weaker xs (sym (ap (λ t. list_any p (cond t (x ∷ filter a xs) (filter a xs))) no_more) ∙ e)))
    where
      kept : (t : Bool) → list_any p (filter b xs) ≡ true → list_any p (cond t (x ∷ filter b xs) (filter b xs)) ≡ true
      kept true h = or_right (p x) (list_any p (filter b xs)) h
      kept false h = h

module _ {X Y : Type 0} (p : Y → Bool) (f : X → List Y) where
  -- what elements give that a test keeps, is among what those give that a weaker one keeps
  given_more : (a b : X → Bool) → ((x : X) → a x ≡ true → b x ≡ true) → (xs : List X)
      → list_any p (flat_map f (filter a xs)) ≡ true → list_any p (flat_map f (filter b xs)) ≡ true
  given_more a b weaker [] e = e
  given_more a b weaker (x ∷ xs) e =
      by_cases (a x)
      (λ is. ap (λ t. list_any p (flat_map f (cond t (x ∷ filter b xs) (filter b xs)))) (weaker x is)
      ∙ any_either p (f x) (flat_map f (filter a xs)) (sym (ap (λ t. list_any p (flat_map f (cond t (x ∷ filter a xs) (filter a xs)))) is) ∙ e)
      (λ here. any_left p (f x) (flat_map f (filter b xs)) here)
      (λ later. any_right p (f x) (flat_map f (filter b xs)) (given_more a b weaker xs later)))
      (λ no_more. kept (b x) (given_more a b weaker xs (sym (ap (λ t. list_any p (flat_map f (cond t (x ∷ filter a xs) (filter a xs)))) no_more) ∙ e)))
    where
      kept : (t : Bool) → list_any p (flat_map f (filter b xs)) ≡ true → list_any p (flat_map f (cond t (x ∷ filter b xs) (filter b xs))) ≡ true
      kept true h = any_right p (f x) (flat_map f (filter b xs)) h
      kept false h = h

  -- what an element gives that a test keeps, is among what all give
  given_there : (b : X → Bool) (x : X) → b x ≡ true → (xs : List X) (place : ℕ) → slice_get xs place ≡ Some x
      → list_any p (f x) ≡ true → list_any p (flat_map f (filter b xs)) ≡ true
  given_there b x keeps [] place e h = absurd (cc)
  given_there b x keeps (y ∷ ys) zero e h =
      let is : y ≡ x = cc in
      ap (λ t. list_any p (flat_map f (cond t (y ∷ filter b ys) (filter b ys)))) (ap b is ∙ keeps)
      ∙ any_left p (f y) (flat_map f (filter b ys)) (ap (λ z. list_any p (f z)) is ∙ h)
  given_there b x keeps (y ∷ ys) (suc place) e h = kept (b y) (given_there b x keeps ys place e h)
    where
      kept : (t : Bool) → list_any p (flat_map f (filter b ys)) ≡ true → list_any p (flat_map f (cond t (y ∷ filter b ys) (filter b ys))) ≡ true
      kept true h = any_right p (f y) (flat_map f (filter b ys)) h
      kept false h = h

pub map_joined : {X Y Z : Type 0} (h : Y → Z) (f : X → List Y) (xs : List X) → map h (flat_map f xs) ≡ flat_map (λ x. map h (f x)) xs
map_joined h f [] = refl
map_joined h f (x ∷ xs) = map-append h (f x) (flat_map f xs) ∙ ap (λ l. map h (f x) ++ l) (map_joined h f xs)

kept_one : {X : Type 0} (b : X → Bool) (x : X) (kept rest : List X) (t u : Bool) → b x ≡ u → filter b kept ≡ rest
    → filter b (cond t (x ∷ kept) kept) ≡ cond (t && u) (x ∷ rest) rest
kept_one b x kept rest true u is e = λ i. cond (is i) (x ∷ e i) (e i)
kept_one b x kept rest false u is e = e

kept_twice : {X : Type 0} (a b : X → Bool) (xs : List X) → filter b (filter a xs) ≡ filter (λ x. a x && b x) xs
kept_twice a b [] = refl
kept_twice a b (x ∷ xs) = kept_one b x (filter a xs) (filter (λ x. a x && b x) xs) (a x) (b x) refl (kept_twice a b xs)

-- ---- names in a copy

module _ (f : FacetPlan) (key : List Cell) (outer : Scope) (name : List ℕ) where
  abbrev the_part : List Datum
  the_part = part_of (names_of f) key (outer name)

  one_part : (b more : Bool) (n : List ℕ) (rest : List Datum) → (b ≡ true → n ≡ name) → rest ≡ cond more the_part (outer name)
      → cond b (part_of (names_of f) key (outer n)) rest ≡ cond (b || more) the_part (outer name)
  one_part true more n rest is e = ap (λ m. part_of (names_of f) key (outer m)) (is refl)
  one_part false more n rest is e = e

  parts_by_name : (all names : List (List ℕ)) → with_parts (map (part_named outer (facet_over all f) key) (zip names names)) outer name
      ≡ cond (is_one_of names name) the_part (outer name)
  parts_by_name all [] = refl
  parts_by_name all (n ∷ names) =
      one_part (bytes_eq n name) (is_one_of names name) n (with_parts (map (part_named outer (facet_over all f) key) (zip names names)) outer name)
      (bytes_eq-Decides n name).0 (parts_by_name all names)

pub lists_are_parted : ListsAreParted
lists_are_parted names f key outer name = parts_by_name f key outer name names names

-- ---- lists that a facet parts

module _ (stem : List ℕ) where
  unit_among : (units : List ℕ) (unit : ℕ) → is_among units unit ≡ true → is_one_of (map (unit_name stem) units) (unit_name stem unit) ≡ true
  unit_among [] unit e = e
  unit_among (n ∷ units) unit e =
      or_either (n == unit) (is_among units unit) e
      (λ here. or_left (bytes_eq (unit_name stem n) (unit_name stem unit)) _ ((bytes_eq-Decides _ _).1 (ap (unit_name stem) (eqb-true n unit here))))
      (λ later. or_right (bytes_eq (unit_name stem n) (unit_name stem unit)) _ (unit_among units unit later))

  module _ (p : Plan) (grid : GridPlan) (f : FacetPlan) where
    abbrev inside : List GridPlan
    inside = grids_inside p.grids grid f

    abbrev held : List (ℕ × ScalePlan)
    held = scales_held p grid f

    abbrev own_keys : List (List ℕ)
    own_keys = names_of_keys stem grid.number f

    abbrev of_units : List (List ℕ)
    of_units = map (unit_name stem) f.units

    abbrev pub of_scales : List (List ℕ)
    of_scales = scale_names stem p.grids held

    abbrev pub of_inner_keys : List (List ℕ)
    of_inner_keys = flat_map (keys_inside stem) (deeper grid.number inside)

    abbrev pub of_drags : List (List ℕ)
    of_drags = outer_names stem p.selections held

    module _ (name : List ℕ) where
      abbrev Parted : Type 0
      Parted = is_one_of (names_parted stem p grid f) name ≡ true

      abbrev test : List ℕ → Bool
      test other = bytes_eq other name

      pub from_drags : is_one_of of_drags name ≡ true → Parted
      from_drags e = any_right test (parts_by stem p.grids inside held grid.number f) of_drags e

      from_parts : is_one_of (parts_by stem p.grids inside held grid.number f) name ≡ true → Parted
      from_parts e = any_left test (parts_by stem p.grids inside held grid.number f) of_drags e

      pub from_inner_keys : is_one_of of_inner_keys name ≡ true → Parted
      from_inner_keys e = from_parts (any_right test (own_keys ++ of_units ++ of_scales) of_inner_keys e)

      pub from_scales : is_one_of of_scales name ≡ true → Parted
      from_scales e =
          from_parts (any_left test (own_keys ++ of_units ++ of_scales) of_inner_keys
          (any_right test (own_keys ++ of_units) of_scales e))

      from_units : is_one_of of_units name ≡ true → Parted
      from_units e =
          from_parts (any_left test (own_keys ++ of_units ++ of_scales) of_inner_keys
          (any_left test (own_keys ++ of_units) of_scales (any_right test own_keys of_units e)))

      -- what holds of each kind holds of all that is parted
      of_each_kind : {P : Type 0} → Parted → (is_one_of own_keys name ≡ true → P) → (is_one_of of_units name ≡ true → P)
          → (is_one_of of_scales name ≡ true → P) → (is_one_of of_inner_keys name ≡ true → P) → (is_one_of of_drags name ≡ true → P) → P
      of_each_kind e keys units scales inner drags =
          any_either test (parts_by stem p.grids inside held grid.number f) of_drags e
          (λ e. any_either test (own_keys ++ of_units ++ of_scales) of_inner_keys e
          (λ e. any_either test (own_keys ++ of_units) of_scales e (λ e. any_either test own_keys of_units e keys units) scales) inner) drags

pub units_are_parted : UnitsAreParted
units_are_parted stem p grid f copy spot key outer unit among e =
    lists_are_parted (names_parted stem p grid f) f key outer (unit_name stem unit)
    ∙ ap (λ b. cond b (part_of (names_of f) key (outer (unit_name stem unit))) (outer (unit_name stem unit)))
    (from_units stem p grid f (unit_name stem unit) (unit_among stem f.units unit among))
    ∙ ap (part_of (names_of f) key) e

-- a list of one of some scales is among theirs
none_there : {X : Type 0} (x : X) → None ≡ Some x → ⊥
none_there x e = cc

there_among : (sets : List DataSet) (j : ℕ) (set : DataSet) → slice_get sets j ≡ Some set → is_one_of (names_of_sets sets) set.name ≡ true
there_among [] j set at = absurd (none_there set at)
there_among (x ∷ sets) zero set at =
    or_left (bytes_eq x.name set.name) (is_one_of (names_of_sets sets) set.name)
    ((bytes_eq-Decides x.name set.name).1 (ap (λ (o : Option DataSet). option_map_or name_of_set o []) at))
there_among (x ∷ sets) (suc j) set at =
    or_right (bytes_eq x.name set.name) (is_one_of (names_of_sets sets) set.name) (there_among sets j set at)

list_among : (lists : ℕ × ScalePlan → List DataSet) (held : List (ℕ × ScalePlan)) (k : ℕ) (s : ℕ × ScalePlan) (name : List ℕ)
    → slice_get held k ≡ Some s → is_one_of (names_of_sets (lists s)) name ≡ true → is_one_of (names_of_sets (flat_map lists held)) name ≡ true
list_among lists [] k s name at e = absurd (none_there s at)
list_among lists (x ∷ held) zero s name at e =
    ap (λ l. is_one_of l name) (map-append name_of_set (lists x) (flat_map lists held))
    ∙ any_left (λ other. bytes_eq other name) (names_of_sets (lists x)) (names_of_sets (flat_map lists held))
    (ap (λ (o : Option (ℕ × ScalePlan)). is_one_of (names_of_sets (option_map_or lists o [])) name) at ∙ e)
list_among lists (x ∷ held) (suc k) s name at e =
    ap (λ l. is_one_of l name) (map-append name_of_set (lists x) (flat_map lists held))
    ∙ any_right (λ other. bytes_eq other name) (names_of_sets (lists x)) (names_of_sets (flat_map lists held)) (list_among lists held k s name at e)

pub scale_lists_are_parted : ScaleListsAreParted
scale_lists_are_parted stem p grid f key outer k j s set at there =
    lists_are_parted (names_parted stem p grid f) f key outer set.name
    ∙ ap (λ b. cond b (part_of (names_of f) key (outer set.name)) (outer set.name))
    (from_scales stem p grid f set.name
    (list_among (lists_of_scale stem p.grids) (scales_held p grid f) k s set.name at (there_among (lists_of_scale stem p.grids s) j set there)))

-- ---- facets in facets

at_most : (a b : ℕ) → nat_le a b ≡ true → a ≤ b
at_most a b e = grind (arith, nat_tests)

below_or_same : (a b : ℕ) → a ≤ b → nat_le a b ≡ true
below_or_same a b h = grind (arith, nat_tests)

-- what comes no sooner than another is not what comes before it
no_other : (a b c : ℕ) → nat_le a b ≡ true → not (b == a) ≡ true → nat_le b c ≡ true → not (c == a) ≡ true
no_other a b c low other high =
    by_cases (c == a)
    (λ is. absurd (apart (b == a) other (same (eqb-true c a is) (at_most a b low) (at_most b c high))))
    (λ e. ap not e)
  where
    same : c ≡ a → a ≤ b → b ≤ c → (b == a) ≡ true
    same is h k = let one : b ≡ a = omega (arith, is, h, k) in ap (λ n. n == a) one ∙ equal_itself a

    apart : (t : Bool) → not t ≡ true → t ≡ true → ⊥
    apart true e h = cc
    apart false e h = cc

module _ (stem : List ℕ) (p : Plan) (outer inner : GridPlan) (f g : FacetPlan) (is_facet : inner.facet ≡ Some g) (within : is_inside outer f inner g ≡ true)
    (behind : is_deeper outer.number inner ≡ true) (units : All (λ unit. is_among f.units unit ≡ true) g.units) where
  low : nat_le outer.number inner.number ≡ true
  low = (and_both (nat_le outer.number inner.number) (option_map_or (is_among f.units) (first_of g.units) false) within).0

  -- what is among the units of the inner facet is among those of the outer one
  among_these : (us : List ℕ) → All (λ unit. is_among f.units unit ≡ true) us → (unit : ℕ) → is_among us unit ≡ true → is_among f.units unit ≡ true
  among_these [] h unit e = absurd (cc)
  among_these (u ∷ us) h unit e =
      or_either (u == unit) (is_among us unit) e
      (λ here. subst (λ n. is_among f.units n ≡ true) (eqb-true u unit here) (All-head (λ unit. is_among f.units unit ≡ true) u us h))
      (λ later. among_these us (All-tail (λ unit. is_among f.units unit ≡ true) u us h) unit later)

  first_among : (o : Option ℕ) → option_map_or (is_among g.units) o false ≡ true → option_map_or (is_among f.units) o false ≡ true
  first_among None e = e
  first_among (Some unit) e = among_these g.units units unit e

  -- a facet that is at the inner one or inside it is inside the outer one
  inside_both : (grid : GridPlan) (o : Option FacetPlan) → option_map_or (is_inside inner g grid) o false ≡ true
      → (option_map_or (is_inside outer f grid) o false && is_deeper outer.number grid) ≡ true
  inside_both grid None e = absurd (cc)
  inside_both grid (Some h) e =
      let both = and_both (nat_le inner.number grid.number) (option_map_or (is_among g.units) (first_of h.units) false) e in
      let first : outer.number ≤ inner.number = at_most outer.number inner.number low in
      let second : inner.number ≤ grid.number = at_most inner.number grid.number both.0 in
      let whole : outer.number ≤ grid.number = omega (arith, first, second) in
      and_from (is_inside outer f grid h) (is_deeper outer.number grid)
      (and_from (nat_le outer.number grid.number) (option_map_or (is_among f.units) (first_of h.units) false)
      (below_or_same outer.number grid.number whole)
      (first_among (first_of h.units) both.1))
      (no_other outer.number inner.number grid.number low behind both.0)

  inside_too : (grid : GridPlan) → is_grid_inside inner g grid ≡ true → is_grid_inside outer f grid ≡ true
  inside_too grid e = (and_both (is_grid_inside outer f grid) (is_deeper outer.number grid) (inside_both grid grid.facet e)).0

  deeper_too : (grid : GridPlan) → (is_grid_inside inner g grid && is_deeper inner.number grid) ≡ true
      → (is_grid_inside outer f grid && is_deeper outer.number grid) ≡ true
  deeper_too grid e = inside_both grid grid.facet (and_both (is_grid_inside inner g grid) (is_deeper inner.number grid) e).0

  itself_inside : (is_grid_inside outer f inner && is_deeper outer.number inner) ≡ true
  itself_inside =
      and_from (is_grid_inside outer f inner) (is_deeper outer.number inner)
      (ap (λ o. option_map_or (is_inside outer f inner) o false) is_facet ∙ within) behind

  -- so are the scales that stand there
  held_too : (s : ℕ × ScalePlan) → is_held (grids_inside p.grids inner g) s ≡ true → is_held (grids_inside p.grids outer f) s ≡ true
  held_too s e = by s.1.holder e
    where
      by : (o : Option ℕ) → option_map_or (holds (grids_inside p.grids inner g)) o false ≡ true
          → option_map_or (holds (grids_inside p.grids outer f)) o false ≡ true
      by None e = e
      by (Some number) e = any_kept_more (is_number number) (is_grid_inside inner g) (is_grid_inside outer f) inside_too p.grids e

  module _ (name : List ℕ) where
    abbrev named : List ℕ → Bool
    named other = bytes_eq other name

    abbrev Out : Type 0
    Out = is_one_of (names_parted stem p outer f) name ≡ true

    units_out : (us : List ℕ) → All (λ unit. is_among f.units unit ≡ true) us → is_one_of (map (unit_name stem) us) name ≡ true → Out
    units_out [] h e = absurd (cc)
    units_out (u ∷ us) h e =
        or_either (bytes_eq (unit_name stem u) name) (is_one_of (map (unit_name stem) us) name) e
        (λ here. from_units stem p outer f name (subst (λ n. is_one_of (map (unit_name stem) f.units) n ≡ true) ((bytes_eq-Decides _ _).0 here)
        (unit_among stem f.units u (All-head (λ unit. is_among f.units unit ≡ true) u us h))))
        (λ later. units_out us (All-tail (λ unit. is_among f.units unit ≡ true) u us h) later)

    keys_out : (place : ℕ) → slice_get p.grids place ≡ Some inner → is_one_of (names_of_keys stem inner.number g) name ≡ true → Out
    keys_out place at e =
        from_inner_keys stem p outer f name
        (ap (λ l. list_any named (flat_map (keys_inside stem) l)) (kept_twice (is_grid_inside outer f) (is_deeper outer.number) p.grids)
        ∙ given_there named (keys_inside stem) (λ grid. is_grid_inside outer f grid && is_deeper outer.number grid) inner itself_inside p.grids place at
        (ap (λ o. list_any named (option_map_or (names_of_keys stem inner.number) o [])) is_facet ∙ e))

    inner_keys_out : is_one_of (of_inner_keys stem p inner g) name ≡ true → Out
    inner_keys_out e =
        from_inner_keys stem p outer f name
        (ap (λ l. list_any named (flat_map (keys_inside stem) l)) (kept_twice (is_grid_inside outer f) (is_deeper outer.number) p.grids)
        ∙ given_more named (keys_inside stem) (λ grid. is_grid_inside inner g grid && is_deeper inner.number grid)
        (λ grid. is_grid_inside outer f grid && is_deeper outer.number grid) deeper_too p.grids
        (sym (ap (λ l. list_any named (flat_map (keys_inside stem) l)) (kept_twice (is_grid_inside inner g) (is_deeper inner.number) p.grids)) ∙ e))

    -- lists of scales that stand there
    lists_out : (lists : ℕ × ScalePlan → List DataSet) → list_any named (map name_of_set (flat_map lists (scales_held p inner g))) ≡ true
        → list_any named (map name_of_set (flat_map lists (scales_held p outer f))) ≡ true
    lists_out lists e =
        ap (list_any named) (map_joined name_of_set lists (scales_held p outer f))
        ∙ given_more named (λ s. map name_of_set (lists s)) (is_held (grids_inside p.grids inner g)) (is_held (grids_inside p.grids outer f)) held_too
        (enumerate_from 0 p.scales) (sym (ap (list_any named) (map_joined name_of_set lists (scales_held p inner g))) ∙ e)

    out : (place : ℕ) → slice_get p.grids place ≡ Some inner → is_one_of (names_parted stem p inner g) name ≡ true → Out
    out place at e =
        of_each_kind stem p inner g name e (keys_out place at) (units_out g.units units)
        (λ here. from_scales stem p outer f name (lists_out (lists_of_scale stem p.grids) here)) inner_keys_out
        (λ here. from_drags stem p outer f name (lists_out (outer_lists stem p.selections) here))

pub inner_lists_are_parted : InnerListsAreParted
inner_lists_are_parted stem p outer inner f g place at is within behind units name e = out stem p outer inner f g is within behind units name place at e
