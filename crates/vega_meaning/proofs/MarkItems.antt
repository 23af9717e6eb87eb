-- The items of marks that have keys have those of rows that the marks draw.
use Rattle.std.proofs.Common.{◌≡◌, ℕ, ◌&&◌, ◌==◌, Bool, true, false, cond, Option, Some, None, List, [], ◌∷◌, ◌++◌, map, refl, sym, ap, ◌∙◌, subst}
use Rattle.std.specs.Prelude.{ℤ, find, filter_map, IsSome, if◌then◌else◌}
use Rattle.std.specs.Ordering.{is_lt}
use Rattle.std.specs.declared.cmp.Ordering.{Ordering}
use Rattle.std.specs.Option.{option_map, option_or, option_to_list}
use Rattle.std.proofs.lemmas.Bool.Decides.{Decides-eqb}
use Rattle.std.proofs.lemmas.List.Folds.{find-append}
use Rattle.fixed_num.specs.Ranges.{◌>>=◌, all_found}
use Rattle.cell_value.specs.declared.state.Key.{Key}
use Rattle.cell_value.specs.Datum.{Datum}
use Rattle.expr_eval.specs.Values.{Values}
use Rattle.param_flow.specs.UnitRows.{has_key, cell_in_unit}
use Rattle.plain_orders.specs.Orders.{placed, in_order, row_order}
use Rattle.scene_tree.specs.declared.scene.Item.{Item}
use Rattle.scene_tree.specs.declared.shape.Point.{Point}
use Rattle.scene_tree.specs.declared.shape.Shape.{Shape}
use Rattle.scene_tree.specs.Moves.{moved_item, moved_shape}
use Rattle.selection_events.specs.declared.hits.Hit.{Hit}
use Rattle.mark_shapes.specs.declared.looks.Look.{Look}
use Rattle.mark_shapes.specs.Items.{item_with}
use Rattle.mark_shapes.specs.Paths.{some_points, path_item}
use Rattle.mark_shapes.specs.Runs.{points_of}
use Rattle.mark_encode.specs.declared.channels.ChannelName.{ChannelName}
use Rattle.mark_encode.specs.Channels.{ScaledValue, channel_values}
use Rattle.mark_encode.specs.Items.{shape_for, picked_key, items_with, item_for, items_for, is_path, items_by}
use Rattle.mark_encode.specs.Looks.{default_stroke_width, look_for, looks_of, painted_on}
use Rattle.mark_encode.specs.Orders.{rows_in_order, sort_settings}
use Rattle.mark_encode.specs.Paths.{is_closed, path_items_of, path_look_for, path_values_of, stops_for}
use Rattle.vega_spec.specs.declared.marks.MarkType.{MarkType}
use Rattle.vega_spec.specs.declared.marks.MarkType.TheVariants as mark
use Rattle.vega_spec.specs.declared.orders.Sort.{Sort}
use Rattle.vega_copies.specs.Outlines.{PlainMark}
use Rattle.vega_drawing.specs.Frames.{Frame}
use Rattle.vega_drawing.specs.Scales.{set_of}
use Rattle.vega_charts.specs.Items.{items_in_plot, rows_of_mark, items_in_copy}
use Rattle.vega_events.specs.Premises.{ItemIsOfRow}
use Rattle.vega_meaning.specs.UnitRows.{has_keys, rows_of_unit}
use Rattle.vega_meaning.proofs.DrawnFacts.{Each, each_weaker, all_given}
use Rattle.vega_meaning.proofs.GuideItems.{IsKeyless}

-- ---- items with rows

-- each unit draws these rows
abbrev pub UnitLists : Type 0
UnitLists = ℕ → List Datum

-- an item that has a unit and a key is one of a row of the unit
abbrev pub HasRow : UnitLists → Item → Type 0
HasRow rows item = ItemIsOfRow (λ unit. Some (rows unit)) item

-- one has the key
abbrev pub IsThere : List Datum → Key → Type 0
IsThere rows key = IsSome (find (has_key key) rows)

-- a hit of a unit and a key
abbrev hit_with : ℕ → Key → Hit
hit_with unit key = record { unit = unit; key = key }

nothing_after : (u : Option ℕ) (hit : Hit) → (u >>= λ unit. ◌>>=◌ {A = Key} {B = Hit} None (λ key. Some (hit_with unit key))) ≡ Some hit → ⊥
nothing_after None hit e = absurd (cc e)
nothing_after (Some u) hit e = absurd (cc e)

pub keyless_has : (rows : UnitLists) (item : Item) → IsKeyless item → HasRow rows item
keyless_has rows item none hit e name =
    absurd (nothing_after item.unit hit
    (subst (λ (k : Option Key). (item.unit >>= λ unit. k >>= λ key. Some (hit_with unit key)) ≡ Some hit) none e))

there_named : (rows : List Datum) (key : Key) (name : List ℕ) → IsThere rows key → IsSome (cell_in_unit (Some rows) key name)
there_named rows key name there = by_found (find (has_key key) rows) there
  where
    by_found : (o : Option Datum) → IsSome o → IsSome (option_map (λ (row : Datum). row.cell name) o)
    by_found None h = absurd (cc h)
    by_found (Some d) h = refl

-- an item of this unit and this key
pub there_has : (rows : UnitLists) (item : Item) (unit : ℕ) (key : Key)
    → item.unit ≡ Some unit → item.key ≡ Some key → IsThere (rows unit) key → HasRow rows item
there_has rows item unit key of keyed there hit e name =
    let hits : hit_with unit key ≡ hit =
    cc (sym (λ i. of i >>= λ unit. keyed i >>= λ key. Some (hit_with unit key)) ∙ e) in
    subst (λ (h : Hit). IsSome (cell_in_unit (Some (rows h.unit)) h.key name)) hits (there_named (rows unit) key name there)

-- ---- rows within others

-- what some lists have others have
abbrev pub AreWithin : UnitLists → UnitLists → Type 0
AreWithin part rows = (unit : ℕ) (key : Key) → IsThere (part unit) key → IsThere (rows unit) key

some_first : {X : Type 0} (a b : Option X) → IsSome a → IsSome (option_or a b)
some_first None b h = absurd (cc h)
some_first (Some x) b h = refl

some_later : {X : Type 0} (a b : Option X) → IsSome b → IsSome (option_or a b)
some_later None b h = h
some_later (Some x) b h = refl

pub first_within : (xs ys : List Datum) (key : Key) → IsThere xs key → IsThere (xs ++ ys) key
first_within xs ys key h = subst IsSome (sym (find-append (has_key key) xs ys)) (some_first (find (has_key key) xs) (find (has_key key) ys) h)

pub later_within : (xs ys : List Datum) (key : Key) → IsThere ys key → IsThere (xs ++ ys) key
later_within xs ys key h = subst IsSome (sym (find-append (has_key key) xs ys)) (some_later (find (has_key key) xs) (find (has_key key) ys) h)

-- ---- each row is there by its key

same_number : (n : ℕ) → (n == n) ≡ true
same_number n = (Decides-eqb n n).1 refl

own_key : (d : Datum) → has_key d.key d ≡ true
own_key d = λ i. same_number d.key.id i && same_number d.key.branch i

behind : (x : Datum) (xs : List Datum) (key : Key) → IsThere xs key → IsThere (x ∷ xs) key
behind x xs key h = by_test (has_key key x) h
  where
    by_test : (b : Bool) → IsThere xs key → IsSome (cond b (Some x) (find (has_key key) xs))
    by_test true h = refl
    by_test false h = h

each_there : (rows : List Datum) → Each (λ (d : Datum). IsThere rows d.key) rows
each_there [] = tt
each_there (d ∷ ds) = (
  subst (λ b. IsSome (cond b (Some d) (find (has_key d.key) ds))) (sym (own_key d)) refl,
  each_weaker (λ (x : Datum). IsThere ds x.key) (λ (x : Datum). IsThere (d ∷ ds) x.key) (λ x h. behind d ds x.key h) ds (each_there ds),
)

-- what holds of each element holds of each in order
each_placed : {X : Type 0} (P : X → Type 0) (order : X → X → Ordering) (x : X) (xs : List X) → P x → Each P xs → Each P (placed order x xs)
each_placed P order x [] h all = (h, tt)
each_placed P order x (y ∷ ys) h all = by_test (is_lt (order y x)) (each_placed P order x ys h all.1)
  where
    by_test : (b : Bool) → Each P (placed order x ys) → Each P (if b then y ∷ placed order x ys else x ∷ y ∷ ys)
    by_test true rest = (all.0, rest)
    by_test false rest = (h, all)

pub each_ordered : {X : Type 0} (P : X → Type 0) (order : X → X → Ordering) (xs : List X) → Each P xs → Each P (in_order order xs)
each_ordered P order [] all = tt
each_ordered P order (x ∷ xs) all = each_placed P order x (in_order order xs) all.0 (each_ordered P order xs all.1)

rows_ordered : (P : Datum → Type 0) (sort : Option Sort) (rows : List Datum) → Each P rows → Each P (rows_in_order sort rows)
rows_ordered P None rows all = all
rows_ordered P (Some sort) rows all = each_ordered P (row_order (sort_settings sort)) rows all

-- ---- the items of a mark

first_some : {A B : Type 0} (o : Option A) (f : A → Option B) (b : B) → (o >>= f) ≡ Some b → (a : A) × (o ≡ Some a) × (f a ≡ Some b)
first_some None f b e = absurd (cc e)
first_some (Some a) f b e = (a, refl, e)

made_some : {A B : Type 0} (o : Option A) (f : A → B) (b : B) → option_map f o ≡ Some b → (a : A) × (o ≡ Some a) × (f a ≡ b)
made_some None f b e = absurd (cc e)
made_some (Some a) f b e = (a, refl, cc e)

second_some : {A B : Type 0} (o : Option A) (make : A → B) (b : B) → (o >>= λ a. Some (make a)) ≡ Some b → (a : A) × (o ≡ Some a) × (make a ≡ b)
second_some None make b e = absurd (cc e)
second_some (Some a) make b e = (a, refl, cc e)

-- an item as it is painted
pub record IsPainted (unit : ℕ) (key : Option Key) (item : Item) : Type 0 where
  pub of : item.unit ≡ Some unit
  pub keyed : item.key ≡ key

painted_with : (unit : ℕ) (key : Option Key) (shape : Option Shape) (look : Option Look) (item : Item) → item_with unit key shape look ≡ Some item
    → IsPainted unit key item
painted_with unit key shape look item e =
    let first = first_some shape _ item e in
    let second = second_some look _ item first.2 in
    record { of = ap (λ (i : Item). i.unit) (sym second.2); keyed = ap (λ (i : Item). i.key) (sym second.2) }

-- what an item that was found is asked
abbrev FoundAs : (Item → Type 0) → Option Item → Type 0
FoundAs P found = (item : Item) → found ≡ Some item → P item

each_found : (P : Item → Type 0) (found : List (Option Item)) → Each (FoundAs P) found → Each P (filter_map (λ (o : Option Item). o) found)
each_found P [] all = tt
each_found P (None ∷ os) all = each_found P os all.1
each_found P (Some item ∷ os) all = (all.0 item refl, each_found P os all.1)

-- the items of rows, each by itself
rows_painted : (P : Item → Type 0) (Q : Datum → Type 0) (item : Datum → Option (Option Item))
    → ((d : Datum) → Q d → (found : Option Item) → item d ≡ Some found → FoundAs P found) → (rows : List Datum) → Each Q rows
    → (items : List Item) → items_with item rows ≡ Some items → Each P items
rows_painted P Q item says rows all items e =
    let made = made_some (all_found (map item rows)) (filter_map (λ (o : Option Item). o)) items e in
    subst (Each P) made.2 (each_found P made.0 (all_given item Q (FoundAs P) says rows all made.0 made.1))

picked_is : (type : MarkType) (key own : Key) → picked_key type own ≡ Some key → (has_keys type ≡ true) × (own ≡ key)
picked_is mark.Rect key own e = (refl, cc e)
picked_is mark.Symbol key own e = (refl, cc e)
picked_is mark.Line key own e = absurd (cc e)
picked_is mark.Area key own e = absurd (cc e)
picked_is mark.Rule key own e = absurd (cc e)
picked_is mark.Text key own e = absurd (cc e)
picked_is mark.Group key own e = absurd (cc e)

-- the rows of a mark are those of its unit where its items have keys
unit_has : (unit : ℕ) (type : MarkType) (rows : List Datum) (key : Key) → has_keys type ≡ true → IsThere rows key
    → IsThere (if (unit == unit) && has_keys type then rows else []) key
unit_has unit type rows key keyed there =
    subst (λ b. IsThere (if b then rows else []) key) (sym (λ i. same_number unit i && keyed i)) there

module _ (rows : UnitLists) (unit : ℕ) (type : MarkType) (own : List Datum)
    (within : (key : Key) → IsThere (if (unit == unit) && has_keys type then own else []) key → IsThere (rows unit) key) where
  -- an item of a row
  row_has : (d : Datum) → IsThere own d.key → (item : Item) → IsPainted unit (picked_key type d.key) item → HasRow rows item
  row_has d there item painted = by_key (picked_key type d.key) refl
    where
      by_key : (o : Option Key) → picked_key type d.key ≡ o → HasRow rows item
      by_key None is = keyless_has rows item (painted.keyed ∙ is)
      by_key (Some key) is =
          let picked = picked_is type key d.key is in
          there_has rows item unit key painted.of (painted.keyed ∙ is)
          (within key (unit_has unit type own key picked.0 (subst (IsThere own) picked.1 there)))

  of_rows : (width height : ℤ) (channels : ChannelName → List ScaledValue) (values : Values) (ordered : List Datum) (items : List Item)
      → Each (λ (d : Datum). IsThere own d.key) ordered → items_for type unit width height channels values ordered ≡ Some items → Each (HasRow rows) items
  of_rows width height channels values ordered items all e =
      rows_painted (HasRow rows) (λ (d : Datum). IsThere own d.key) (item_for type unit width height channels values)
      (λ d there found is item same.
      let looks : Option (Option Look) = look_for (default_stroke_width type) d.cell values (looks_of channels) in
      let first = first_some (shape_for type width height channels d.cell values) (λ shape. looks >>= λ look.
      Some (item_with unit (picked_key type d.key) shape (painted_on type look))) found is in
      let second = first_some looks (λ look. Some (item_with unit (picked_key type d.key) first.0 (painted_on type look))) found first.2 in
      let made : item_with unit (picked_key type d.key) first.0 (painted_on type second.0) ≡ found = cc second.2 in
      row_has d there item (painted_with unit (picked_key type d.key) first.0 (painted_on type second.0) item (made ∙ same)))
      ordered all items e

  -- a path
  path_bare : (points : List Point) (look : Option Look) → Each IsKeyless (option_to_list (path_item unit points look))
  path_bare points look = by_item (path_item unit points look) refl
    where
      by_item : (o : Option Item) → path_item unit points look ≡ o → Each IsKeyless (option_to_list o)
      by_item None is = tt
      by_item (Some item) is =
          let first = first_some (some_points points) _ item is in
          let second = second_some look _ item first.2 in
          (ap (λ (i : Item). i.key) (sym second.2), tt)

  paths_bare : (channels : ChannelName → List ScaledValue) (values : Values) (ordered : List Datum) (items : List Item)
      → path_items_of type unit channels values ordered ≡ Some items → Each (HasRow rows) items
  paths_bare channels values [] items e = let same : [] ≡ items = cc e in subst (Each (HasRow rows)) same tt
  paths_bare channels values (d ∷ ds) items e =
      let path = path_values_of (is_closed type) channels in
      let looks : Option (Option Look) = path_look_for (default_stroke_width type) path.looks values d.cell in
      let first = first_some (stops_for path values (d ∷ ds)) (λ stops. looks >>= λ look.
      Some (option_to_list (path_item unit (points_of path.closed stops) look))) items e in
      let second = first_some looks (λ look. Some (option_to_list (path_item unit (points_of path.closed first.0) look))) items first.2 in
      let made : option_to_list (path_item unit (points_of path.closed first.0) second.0) ≡ items = cc second.2 in
      subst (Each (HasRow rows)) made
      (each_weaker IsKeyless (HasRow rows) (keyless_has rows) (option_to_list (path_item unit (points_of path.closed first.0) second.0))
      (path_bare (points_of path.closed first.0) second.0))

  of_mark : (path : Bool) (width height : ℤ) (channels : ChannelName → List ScaledValue) (values : Values) (ordered : List Datum) (items : List Item)
      → Each (λ (d : Datum). IsThere own d.key) ordered → items_by path type unit width height channels values ordered ≡ Some items → Each (HasRow rows) items
  of_mark true width height channels values ordered items all e = paths_bare channels values ordered items e
  of_mark false width height channels values ordered items all e = of_rows width height channels values ordered items all e

-- an item that is moved keeps its unit and its key
moved_has : (rows : UnitLists) (dx dy : ℤ) (item : Item) → HasRow rows item → (moved : Item) → moved_item dx dy item ≡ Some moved → HasRow rows moved
moved_has rows dx dy item has moved e =
    let made = made_some (moved_shape dx dy item.shape) _ moved e in
    subst (HasRow rows) made.2 has

-- the items of a mark in a copy of the object that has it
pub mark_has : (rows : UnitLists) (unit : ℕ) (m : PlainMark) (frame : Frame) (items : List Item)
    → ((key : Key) → IsThere (rows_of_unit unit unit m frame.names) key → IsThere (rows unit) key)
    → items_in_copy unit m frame ≡ Some items → Each (HasRow rows) items
mark_has rows unit m frame items within e =
    let own : List Datum = rows_of_mark frame.names.lists m.from in
    let first = first_some (items_in_plot frame unit m own) (λ items. all_found (map (moved_item frame.x frame.y) items)) items e in
    let drawn = of_mark rows unit m.type own within (is_path m.type) frame.width frame.height
    (channel_values (set_of frame.width frame.height frame.scales) m.encode)
    frame.names.values (rows_in_order m.sort own) first.0 (rows_ordered (λ (d : Datum). IsThere own d.key) m.sort own (each_there own)) first.1 in
    all_given (moved_item frame.x frame.y) (HasRow rows) (HasRow rows) (moved_has rows frame.x frame.y) first.0 drawn items first.2
