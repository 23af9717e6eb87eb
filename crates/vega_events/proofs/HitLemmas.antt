-- What is hit is one of the items of a panel, and its unit is one of the wanted.
use Rattle.std.proofs.Common.{◌≡◌, ℕ, zero, suc, ℤ, ◌-ℤ◌, Bool, true, false, cond, ◌&&◌, ◌||◌, eqb, Option, Some, None, List, [], ◌∷◌}
use Rattle.std.proofs.Common.{get_or, refl, sym, ap, subst, ◌∙◌}
use Rattle.std.specs.Option.{unwrap_or, option_map_or}
use Rattle.std.specs.List.{All, filter, filter_map, cons_option, slice_get}
use Rattle.std.proofs.lemmas.List.Elements.{All-head, All-tail, All-weaker}
use Rattle.fixed_num.specs.Ranges.{◌>>=◌}
use Rattle.cell_value.specs.declared.cell.Cell.{Cell}
use Rattle.cell_value.specs.declared.cell.Cell.TheVariants.{Null}
use Rattle.cell_value.specs.declared.state.Key.{Key}
use Rattle.param_flow.specs.UnitRows.{cell_in_unit}
use Rattle.scene_tree.specs.declared.scene.Panel.{Panel}
use Rattle.scene_tree.specs.declared.scene.Item.{Item}
use Rattle.scene_tree.specs.Hits.{last, holds_point}
use Rattle.selection_events.specs.declared.hits.Hit.{Hit}
use Rattle.selection_events.specs.declared.selection.PlotOf.{PlotOf}
use Rattle.selection_events.specs.declared.selection.SelectionOf.{SelectionOf}
use Rattle.selection_events.specs.Hits.{marked, is_among, hit_of, hit_at}
use Rattle.selection_events.specs.Places.{has_unit, units_in, plot_of, units_in_panel}
use Rattle.vega_selections.specs.declared.selections.VgSelection.{VgSelection}
use Rattle.vega_events.specs.Events.{UnitLists, read_in}
use Rattle.vega_events.specs.Premises.{IsRowOf, ItemIsOfRow, AreKept, IsTold}

-- ---- what is read

-- the cell that is there is what is read
pub read_is : (rows : UnitLists) (unit : ℕ) (key : Key) (name : List ℕ) (cell : Cell) → cell_in_unit (rows unit) key name ≡ Some cell
    → cell ≡ read_in rows unit key name
read_is rows unit key name cell is = sym (ap (λ o. unwrap_or o Null) is)

-- ---- the last that is given

last_of_more : {Y : Type 0} (o : Option Y) (z : Y) (P : Y → Type 0) → P z → ((y : Y) → o ≡ Some y → P y)
    → (y : Y) → Some (unwrap_or o z) ≡ Some y → P y
last_of_more None z P here later y e = let same : z ≡ y = cc e in subst P same here
last_of_more (Some w) z P here later y e = later y e

first_gives : {Y : Type 0} (o : Option Y) (rest : List Y) (P : Y → Type 0) → ((y : Y) → o ≡ Some y → P y)
    → ((y : Y) → last rest ≡ Some y → P y) → (y : Y) → last (cons_option o rest) ≡ Some y → P y
first_gives None rest P here later y e = later y e
first_gives (Some z) rest P here later y e = last_of_more (last rest) z P (here z refl) later y e

-- what is given last has what everything has that is given
last_gives : {X Y : Type 0} (give : X → Option Y) (P : Y → Type 0) (xs : List X) → All (λ x. (y : Y) → give x ≡ Some y → P y) xs
    → (y : Y) → last (filter_map give xs) ≡ Some y → P y
last_gives give P [] h y e = absurd (cc e)
last_gives give P (x ∷ xs) h y e =
    first_gives (give x) (filter_map give xs) P (All-head (λ z. (w : _) → give z ≡ Some w → P w) x xs h)
    (last_gives give P xs (All-tail (λ z. (w : _) → give z ≡ Some w → P w) x xs h)) y e

-- ---- what is hit of an item

chosen : {Y : Type 0} (b : Bool) (test : Y → Bool) (z y : Y) → test z ≡ b → cond b (Some z) None ≡ Some y → (Some z ≡ Some y) × (test y ≡ true)
chosen true test z y is e = let same : z ≡ y = cc e in (e, subst (λ w. test w ≡ true) same is)
chosen false test z y is e = absurd (cc e)

passed : {Y : Type 0} (o : Option Y) (test : Y → Bool) (y : Y) → (o >>= (λ z. cond (test z) (Some z) None)) ≡ Some y → (o ≡ Some y) × (test y ≡ true)
passed None test y e = absurd (cc e)
passed (Some z) test y e = chosen (test z) test z y refl e

left_holds : (a b : Bool) → (a && b) ≡ true → a ≡ true
left_holds true b h = refl
left_holds false b h = h

abbrev is_wanted : List ℕ → Panel → ℤ → ℤ → Item → Hit → Bool
is_wanted units panel x y item hit = is_among units hit.unit && holds_point item.shape (x -ℤ panel.x) (y -ℤ panel.y)

hit_passes : (units : List ℕ) (panel : Panel) (x y : ℤ) (item : Item) (hit : Hit) → hit_of units panel x y item ≡ Some hit
    → (marked item ≡ Some hit) × (is_wanted units panel x y item hit ≡ true)
hit_passes units panel x y item hit e = passed (marked item) (is_wanted units panel x y item) hit e

-- what is hit is the row of an item
pub hit_is_of_row : (rows : UnitLists) (units : List ℕ) (panel : Panel) (x y : ℤ) (hit : Hit) → All (ItemIsOfRow rows) panel.items
    → Some hit ≡ hit_at units panel x y → IsRowOf rows hit
hit_is_of_row rows units panel x y hit known is =
    last_gives (hit_of units panel x y) (IsRowOf rows) panel.items
    (All-weaker (ItemIsOfRow rows) (λ item. (h : Hit) → hit_of units panel x y item ≡ Some h → IsRowOf rows h)
    (λ item k h e. k h (hit_passes units panel x y item h e).0) panel.items known) hit (sym is)

-- and of a unit that is wanted
pub hit_is_among : (units : List ℕ) (panel : Panel) (x y : ℤ) (hit : Hit) → Some hit ≡ hit_at units panel x y → is_among units hit.unit ≡ true
hit_is_among units panel x y hit is =
    last_gives (hit_of units panel x y) (λ h. is_among units h.unit ≡ true) panel.items
    (λ k d below h e. left_holds _ _ (hit_passes units panel x y (get_or panel.items k d) h e).1) hit (sym is)

-- ---- units of a panel

or_more : (a b c : Bool) → (b ≡ true → c ≡ true) → (a || b) ≡ true → (a || c) ≡ true
or_more true b c f h = refl
or_more false b c f h = f h

or_right : (a c : Bool) → c ≡ true → (a || c) ≡ true
or_right true c h = refl
or_right false c h = h

among_step : (b : Bool) (x unit : ℕ) (rest : List ℕ) (more : Bool) → (is_among rest unit ≡ true → more ≡ true)
    → is_among (cond b (x ∷ rest) rest) unit ≡ true → (eqb x unit || more) ≡ true
among_step true x unit rest more later h = or_more (eqb x unit) (is_among rest unit) more later h
among_step false x unit rest more later h = or_right (eqb x unit) more (later h)

among_filter : (test : ℕ → Bool) (xs : List ℕ) (unit : ℕ) → is_among (filter test xs) unit ≡ true → is_among xs unit ≡ true
among_filter test [] unit h = h
among_filter test (x ∷ xs) unit h = among_step (test x) x unit (filter test xs) (is_among xs unit) (among_filter test xs unit) h

among_plot : (s : SelectionOf) (plot : Option PlotOf) (unit : ℕ) → is_among (option_map_or (units_in s) plot []) unit ≡ true → is_among s.units unit ≡ true
among_plot s None unit h = absurd (cc h)
among_plot s (Some plot) unit h = among_filter (λ u. has_unit u plot) s.units unit h

-- the fields that a selection keeps are told of its units in a panel
pub told_in_panel : (tells : ℕ → List ℕ → Bool) (plots : List PlotOf) (v : VgSelection) (panel : Panel) (units : List ℕ)
    → units ≡ units_in_panel plots v.selection panel → IsTold tells v
    → (unit : ℕ) → is_among units unit ≡ true → (fields : List (List ℕ)) → AreKept v.selection fields → All (λ name. tells unit name ≡ true) fields
told_in_panel tells plots v panel units is told unit h fields kept =
    told unit (among_plot v.selection (plot_of plots panel) unit (sym (ap (λ us. is_among us unit) is) ∙ h)) fields kept

-- ---- panels

all_at : {X : Type 0} (P : X → Type 0) (xs : List X) (i : ℕ) (x : X) → All P xs → slice_get xs i ≡ Some x → P x
all_at P [] i x h e = absurd (cc e)
all_at P (y ∷ ys) zero x h e = let same : y ≡ x = cc e in subst P same (All-head P y ys h)
all_at P (y ∷ ys) (suc i) x h e = all_at P ys i x (All-tail P y ys h) e

-- each item of a panel of the scene is one of a row
pub items_of_panel : (rows : UnitLists) (panels : List Panel) (index : ℕ) (panel : Panel)
    → All (λ (p : Panel). All (ItemIsOfRow rows) p.items) panels → Some panel ≡ slice_get panels index → All (ItemIsOfRow rows) panel.items
items_of_panel rows panels index panel h is = all_at (λ (p : Panel). All (ItemIsOfRow rows) p.items) panels index panel h (sym is)
