-- Why a facet without keys has the panels of the direct meaning.
use Rattle.std.proofs.Common.{◌≡◌, inl, inr, ⊎_elim, ℕ, zero, suc, ◌+◌, ◌≤◌, ◌||◌, Bool, true, false, cond, Option, Some, None, List, [], ◌∷◌, ◌++◌}
use Rattle.std.proofs.Common.{map, flat_map, length, unwrap_or, All, refl, sym, ap, ap₂, ◌∙◌, subst, arith, append_assoc}
use Rattle.std.specs.Prelude.{slice_get}
use Rattle.std.specs.List.{list_any, enumerate_from}
use Rattle.std.specs.Option.{option_map, option_map_or}
use Rattle.std.specs.Str.{bytes_eq}
use Rattle.std.proofs.lemmas.Grind.{flat_map-append}
use Rattle.std.proofs.lemmas.List.{length-append, append-nil}
use Rattle.std.proofs.lemmas.List.Elements.{All-head, All-tail}
use Rattle.std.proofs.lemmas.Slice.Eq.{bytes_eq-Decides}
use Rattle.fixed_num.specs.Ranges.{all_found, ◌>>=◌}
use Rattle.cell_value.specs.declared.cell.Cell.{Cell}
use Rattle.cell_value.specs.Datum.{Datum}
use Rattle.plain_rows.specs.declared.transforms.SortBy.{SortBy}
use Rattle.plain_facets.specs.Facets.{cells_of_field, choices}
use Rattle.vega_spec.specs.declared.orders.Order.TheVariants.{Ascending}
use Rattle.vega_spec.specs.declared.orders.Orders.TheVariants as orders
use Rattle.vega_lists.specs.Orders.{is_descending, sort_by, sort_settings}
use Rattle.vega_lists.specs.Scopes.{Scope}
use Rattle.vega_copies.specs.Facets.{copies_by, only_copy, rows_divided}
use Rattle.vega_copies.specs.Facets as vega
use Rattle.plan_kit.specs.declared.grids.FacetField.{FacetField}
use Rattle.plan_kit.specs.declared.grids.FacetPlan.{FacetPlan}
use Rattle.plan_kit.specs.declared.grids.GridPlan.{GridPlan}
use Rattle.plan_kit.specs.declared.orders.CellOrder.{CellOrder}
use Rattle.plan_kit.specs.declared.orders.CellOrder.TheVariants as stands
use Rattle.plan_kit.specs.declared.plan.Plan.{Plan}
use Rattle.chart_meaning.specs.Parts.{Copy, cells_below, facet_rank, cells_in_order, field_cells, names_of}
use Rattle.vega_assemble.specs.Drags.{outer_names}
use Rattle.vega_assemble.specs.Facets.{scale_names, keys_inside, deeper, grids_inside}
use Rattle.vega_assemble.specs.Keys.{is_first, ordered, and_before, stands_by, entry_of, sort_of, wants_key, has_keys, placed}
use Rattle.vega_assemble.specs.Names.{unit_name, keys_name, key_column}
use Rattle.vega_assemble.specs.Steps.{direction, directed, sort_written}
use Rattle.vega_assemble.specs.Views.{facet_of}
use Rattle.compiled_rows.specs.Parts.{is_one_of, scales_held, names_parted, HaveCellsOf}
use Rattle.compiled_rows.specs.Panels.{FieldsInOwnOrders, CopiesArePanels, names_behind, PanelsInOwnOrders}
use Rattle.compiled_rows.proofs.PartLemmas.{or_left, or_right}
use Rattle.compiled_rows.proofs.RisingLemmas.{Has}
use Rattle.compiled_rows.proofs.ChoiceLemmas.{copies_are_choices, first_cells_are_these, directed_cells_are_these, covered_have_cells}

-- ---- an order comes back

at_length : {X Y : Type 0} (g : X → Y) (before : List X) (b : X) (bys : List X) → slice_get (map g (before ++ b ∷ bys)) (length before) ≡ Some (g b)
at_length g [] b bys = refl
at_length g (x ∷ before) b bys = at_length g before b bys

direction_back : (d : Bool) → is_descending (direction d) ≡ d
direction_back true = refl
direction_back false = refl

one_back : (before : List SortBy) (b : SortBy) (bys : List SortBy)
    → sort_by (Some (orders.Several (map directed (before ++ b ∷ bys)))) (length before, b.field) ≡ b
one_back before b bys = λ i. record {
  field = b.field;
  descending = (ap (λ o. is_descending (unwrap_or o Ascending)) (at_length directed before b bys) ∙ direction_back b.descending) i;
}

settings_back : (before bys : List SortBy)
    → map (sort_by (Some (orders.Several (map directed (before ++ bys))))) (enumerate_from (length before) (map (λ (s : SortBy). s.field) bys)) ≡ bys
settings_back before [] = refl
settings_back before (b ∷ bys) =
    ap₂ (λ x xs. x ∷ xs) (one_back before b bys)
    ((λ i. map (sort_by (Some (orders.Several (map directed (sym (append_assoc before (b ∷ []) bys) i)))))
    (enumerate_from (sym (length-append before (b ∷ [])) i) (map (λ (s : SortBy). s.field) bys)))
    ∙ settings_back (before ++ b ∷ []) bys)

order_back : (bys : List SortBy) → unwrap_or (option_map sort_settings (sort_written bys)) [] ≡ bys
order_back [] = refl
order_back (b ∷ bys) = settings_back [] (b ∷ bys)

-- ---- lists of options

at_end : {X : Type 0} (before : List X) (b : X) (behind : List X) → slice_get (before ++ b ∷ behind) (length before) ≡ Some b
at_end [] b behind = refl
at_end (x ∷ before) b behind = at_end before b behind

get_past : {X : Type 0} (xs : List X) (n : ℕ) → length xs ≤ n → slice_get xs n ≡ None
get_past [] n h = refl
get_past (x ∷ xs) zero h = let over : suc (length xs) ≤ zero = h in absurd (omega (arith, over))
get_past (x ∷ xs) (suc n) h = let over : suc (length xs) ≤ suc n = h in let rest : length xs ≤ n = omega (arith, over) in get_past xs n rest

found_first : {X : Type 0} (x : X) (xs : List X) (o : Option X) (rest : Option (List X)) → o ≡ Some x → rest ≡ Some xs
    → (o >>= λ y. rest >>= λ ys. Some (y ∷ ys)) ≡ Some (x ∷ xs)
found_first x xs o rest e h = λ i. e i >>= λ y. h i >>= λ ys. Some (y ∷ ys)

either_false : (a b : Bool) → (a || b) ≡ false → (a ≡ false) × (b ≡ false)
either_false true b e = absurd (cc)
either_false false b e = (refl, e)

-- ---- the fields

module _ (stem : List ℕ) (copy : Copy) (units : List ℕ) (rows : List Datum) where
  abbrev along : List SortBy → ℕ → List FacetField → List (List Cell)
  along by n fields =
      map (λ (field : ℕ × List ℕ). cells_of_field rows (slice_get by field.0) field.1) (enumerate_from n (map (λ (field : FacetField). field.name) fields))

  abbrev entries : ℕ → List FacetField → List SortBy
  entries n fields = map (entry_of stem) (enumerate_from n fields)

  abbrev Have : List FacetField → Type 0
  Have fields = (field : FacetField) → Has fields field → HaveCellsOf copy units field.name rows

  abbrev wants : FacetField → Bool
  wants field = wants_key field.order

  -- a field without order, and one with an order of its own
  plain_field : (order : CellOrder) (name : List ℕ) → is_first order ≡ true → HaveCellsOf copy units name rows
      → cells_in_order (facet_rank copy) order (cells_below copy units name) ≡ Some (cells_of_field rows None name)
  plain_field stands.First name e h = ap Some (sym (first_cells_are_these copy units name rows h))
  plain_field stands.Up name e h = absurd (cc)
  plain_field stands.Down name e h = absurd (cc)
  plain_field (stands.Listed cells) name e h = absurd (cc)
  plain_field (stands.ByRows by) name e h = absurd (cc)

  ordered_field : (order : CellOrder) (key name : List ℕ) → wants_key order ≡ false → HaveCellsOf copy units name rows
      → cells_in_order (facet_rank copy) order (cells_below copy units name) ≡ Some (cells_of_field rows (Some (stands_by key name order)) name)
  ordered_field stands.First key name e h = absurd (cc)
  ordered_field stands.Up key name e h = ap Some (sym (directed_cells_are_these copy units name false rows h))
  ordered_field stands.Down key name e h = ap Some (sym (directed_cells_are_these copy units name true rows h))
  ordered_field (stands.Listed cells) key name e h = absurd (cc)
  ordered_field (stands.ByRows by) key name e h = absurd (cc)

  no_order : (field : FacetField) (b : Bool) → is_first field.order ≡ b → cond b [] (field ∷ []) ≡ [] → is_first field.order ≡ true
  no_order field true is e = is
  no_order field false is e = absurd (cc)

  nothing_before : (field : FacetField) (behind : List FacetField) → and_before field behind ≡ [] → (is_first field.order ≡ true) × (behind ≡ [])
  nothing_before field [] e = (no_order field (is_first field.order) refl e, refl)
  nothing_before field (next ∷ behind) e = absurd (cc)

  -- fields behind all that have an order
  unordered : (by : List SortBy) (n : ℕ) → length by ≤ n → (fields : List FacetField) → ordered fields ≡ [] → Have fields
      → all_found (map (field_cells copy units) fields) ≡ Some (along by n fields)
  unordered by n past [] e h = refl
  unordered by n past (field ∷ fields) e h =
      let none = nothing_before field (ordered fields) e in
      found_first (cells_of_field rows (slice_get by n) field.name) (along by (n + 1) fields) (field_cells copy units field)
      (all_found (map (field_cells copy units) fields))
      (plain_field field.order field.name none.0 (h field (inl refl)) ∙ ap (λ o. Some (cells_of_field rows o field.name)) (sym (get_past by n past)))
      (unordered by (n + 1) (omega (arith, past)) fields none.1 (λ x there. h x (inr there)))

  -- a field of which the order speaks, and those behind it
  one_ordered : (before : List SortBy) (field : FacetField) (behind : List SortBy) (fields : List FacetField) → wants_key field.order ≡ false
      → HaveCellsOf copy units field.name rows
      → all_found (map (field_cells copy units) fields) ≡ Some (along (before ++ entry_of stem (length before, field) ∷ behind) (length before + 1) fields)
      → all_found (map (field_cells copy units) (field ∷ fields))
      ≡ Some (along (before ++ entry_of stem (length before, field) ∷ behind) (length before) (field ∷ fields))
  one_ordered before field behind fields wanted have rest =
      let entry = entry_of stem (length before, field) in
      found_first (cells_of_field rows (slice_get (before ++ entry ∷ behind) (length before)) field.name)
      (along (before ++ entry ∷ behind) (length before + 1) fields) (field_cells copy units field) (all_found (map (field_cells copy units) fields))
      (ordered_field field.order (key_column stem (length before)) field.name wanted have
      ∙ ap (λ o. Some (cells_of_field rows o field.name)) (sym (at_end before entry behind)))
      rest

  abbrev Later : List SortBy → List FacetField → Type 0
  Later before fields =
      all_found (map (field_cells copy units) fields) ≡ Some (along (before ++ entries (length before) (ordered fields)) (length before) fields)

  past_all : (xs : List SortBy) → length (xs ++ []) ≤ length xs
  past_all xs = let same : length xs ≤ length xs = omega arith in subst (λ l. length l ≤ length xs) (sym (append-nil xs)) same

  one_past : (xs : List SortBy) (x : SortBy) → length (xs ++ x ∷ []) ≤ length xs + 1
  one_past xs x = let same : length xs + 1 ≤ length xs + 1 = omega arith in subst (λ n. n ≤ length xs + 1) (sym (length-append xs (x ∷ []))) same

  -- where no field behind one has an order
  last_one : (before : List SortBy) (field : FacetField) (fields : List FacetField) (b : Bool) → is_first field.order ≡ b → ordered fields ≡ []
      → list_any wants (cond b [] (field ∷ [])) ≡ false → Have (field ∷ fields)
      → all_found (map (field_cells copy units) (field ∷ fields))
      ≡ Some (along (before ++ entries (length before) (cond b [] (field ∷ []))) (length before) (field ∷ fields))
  last_one before field fields true is none e h =
      unordered (before ++ []) (length before) (past_all before) (field ∷ fields)
      (ap (and_before field) none ∙ ap (λ b. cond b [] (field ∷ [])) is) h
  last_one before field fields false is none e h =
      one_ordered before field [] fields (either_false (wants field) false e).0 (h field (inl refl))
      (unordered (before ++ entry_of stem (length before, field) ∷ []) (length before + 1) (one_past before (entry_of stem (length before, field))) fields none
      (λ x there. h x (inr there)))

  one_more : (before : List SortBy) (field : FacetField) (fields os : List FacetField) → ordered fields ≡ os → list_any wants (and_before field os) ≡ false
      → Have (field ∷ fields) → (list_any wants (ordered fields) ≡ false → Later (before ++ entry_of stem (length before, field) ∷ []) fields)
      → all_found (map (field_cells copy units) (field ∷ fields))
      ≡ Some (along (before ++ entries (length before) (and_before field os)) (length before) (field ∷ fields))
  one_more before field fields [] is e h rest = last_one before field fields (is_first field.order) refl is e h
  one_more before field fields (next ∷ os) is e h rest =
      let entry = entry_of stem (length before, field) in
      let long = length-append before (entry ∷ []) in
      let both = either_false (wants field) (list_any wants (next ∷ os)) e in
      one_ordered before field (entries (length before + 1) (next ∷ os)) fields both.0 (h field (inl refl))
      (rest (ap (list_any wants) is ∙ both.1)
      ∙ (λ i. Some (along ((before ++ entry ∷ []) ++ entries (long i) (is i)) (long i) fields))
      ∙ ap (λ l. Some (along l (length before + 1) fields)) (append_assoc before (entry ∷ []) (entries (length before + 1) (next ∷ os))))

  fields_alike : (before : List SortBy) (fields : List FacetField) → list_any wants (ordered fields) ≡ false → Have fields → Later before fields
  fields_alike before [] e h = refl
  fields_alike before (field ∷ fields) e h =
      one_more before field fields (ordered fields) refl e h
      (λ none. fields_alike (before ++ entry_of stem (length before, field) ∷ []) fields none (λ x there. h x (inr there)))

field_named : (fields : List FacetField) (field : FacetField) → Has fields field → is_one_of (map (λ (f : FacetField). f.name) fields) field.name ≡ true
field_named [] field h = absurd h
field_named (x ∷ fields) field h =
    ⊎_elim (λ is. or_left (bytes_eq x.name field.name) _ ((bytes_eq-Decides x.name field.name).1 (ap (λ (f : FacetField). f.name) is)))
    (λ later. or_right (bytes_eq x.name field.name) _ (field_named fields field later)) h

pub fields_in_own_orders : FieldsInOwnOrders
fields_in_own_orders stem names f copy rows none have =
    ap (λ by. along stem copy f.units rows by 0 f.fields) (order_back (map (entry_of stem) (placed f.fields)))
    ∙ ap (λ o. unwrap_or o [])
    (sym (fields_alike stem copy f.units rows [] f.fields none (λ field there. have field.name (field_named f.fields field there))))

-- ---- copies

pub copies_are_panels : CopiesArePanels
copies_are_panels stem p grid f copy outer o facet sort cells =
    (λ i. option_map_or (copies_by outer (sort i)) (facet i) (only_copy ∷ []))
    ∙ ap (map (vega.copy_with outer (facet_of stem p grid f)))
    (copies_are_choices (names_parted stem p grid f) f (sort_of stem f.fields) (rows_divided outer (facet_of stem p grid f)) ∙ ap choices cells)

-- ---- the rows that are divided

module _ (stem : List ℕ) (p : Plan) (grid : GridPlan) (f : FacetPlan) (none : has_keys f.fields ≡ false) (outer : Scope) where
  abbrev units : List (List ℕ)
  units = map (unit_name stem) f.units

  abbrev scales : List (List ℕ)
  scales = scale_names stem p.grids (scales_held p grid f)

  abbrev keys : List (List ℕ)
  keys = flat_map (keys_inside stem) (deeper grid.number (grids_inside p.grids grid f))

  abbrev drags : List (List ℕ)
  drags = outer_names stem p.selections (scales_held p grid f)

  names_are : names_parted stem p grid f ≡ units ++ names_behind stem p grid f
  names_are =
      ap (λ b. (cond b (map (keys_name stem grid.number) f.units) [] ++ units ++ scales ++ keys) ++ drags) none
      ∙ ap (λ l. l ++ drags) (append_assoc units scales keys) ∙ append_assoc units (scales ++ keys) drags

  units_read : (copy : Copy) (us : List ℕ) → All (λ unit. outer (unit_name stem unit) ≡ copy.rows unit) us
      → flat_map outer (map (unit_name stem) us) ≡ flat_map copy.rows us
  units_read copy [] h = refl
  units_read copy (u ∷ us) h =
      ap₂ (λ a b. a ++ b) (All-head (λ unit. outer (unit_name stem unit) ≡ copy.rows unit) u us h)
      (units_read copy us (All-tail (λ unit. outer (unit_name stem unit) ≡ copy.rows unit) u us h))

  rows_are : (copy : Copy) → All (λ unit. outer (unit_name stem unit) ≡ copy.rows unit) f.units
      → rows_divided outer (facet_of stem p grid f) ≡ flat_map copy.rows f.units ++ flat_map outer (names_behind stem p grid f)
  rows_are copy h =
      ap (flat_map outer) names_are ∙ flat_map-append outer units (names_behind stem p grid f)
      ∙ ap (λ l. l ++ flat_map outer (names_behind stem p grid f)) (units_read copy f.units h)

pub panels_in_own_orders : PanelsInOwnOrders
panels_in_own_orders stem p grid f copy outer o none facet sort rows covered =
    copies_are_panels stem p grid f copy outer o facet sort
    (fields_in_own_orders stem (names_parted stem p grid f) f copy (rows_divided outer (facet_of stem p grid f)) none
    (λ name among. subst (HaveCellsOf copy f.units name) (sym (rows_are stem p grid f none outer copy rows))
    (covered_have_cells copy f.units (names_of f) name (flat_map outer (names_behind stem p grid f)) among covered)))
