-- What is asked of the circle and of its row.
use Rattle.std.proofs.Common.{◌≡◌, ℕ, Bool, true, false, cond, Some, None, List, [], ◌∷◌, refl, sym, subst, arith}
use Rattle.std.proofs.lemmas.Int.{ints}
use Rattle.std.specs.Prelude.{is_some, IsSome}
use Rattle.std.specs.Option.{option_map}
use Rattle.std.specs.List.{All}
use Rattle.std.proofs.lemmas.List.Elements.{All-nil, All-cons}
use Rattle.cell_value.specs.declared.cell.Cell.TheVariants.{Flag}
use Rattle.cell_value.specs.declared.state.Key.{Key}
use Rattle.cell_value.specs.Datum.{Datum}
use Rattle.scale_kit.specs.declared.scale.ScaleIn.{ScaleIn}
use Rattle.scale_kit.specs.declared.scale.ScaleSet.{ScaleSet}
use Rattle.scale_kit.specs.Scale.{IsScale, AreScales}
use Rattle.scene_tree.specs.declared.scene.Scene.{Scene}
use Rattle.scene_tree.specs.declared.scene.Panel.{Panel}
use Rattle.param_flow.specs.UnitRows.{cell_in_unit, has_key}
use Rattle.selection_events.specs.declared.hits.Hit.{Hit}
use Rattle.vega_selections.specs.declared.selections.VgSelection.{VgSelection}
use Rattle.vega_events.specs.Premises.{ItemIsOfRow, ItemsAreOfRows, FieldsAreTold}
use Rattle.event_tests.specs.OneCircle.{the_key, the_row, the_circle, the_panel, the_scene, the_scales}

by_key : (b : Bool) → is_some (option_map (λ (row : Datum). row.cell []) (cond b (Some the_row) None)) ≡ true
    → (name : List ℕ) → option_map (λ (row : Datum). row.cell name) (cond b (Some the_row) None) ≡ Some (Flag true)
by_key true h name = refl
by_key false h name = absurd (cc h)

some_by : (b : Bool) (n m : List ℕ) → is_some (option_map (λ (row : Datum). row.cell n) (cond b (Some the_row) None)) ≡ true
    → is_some (option_map (λ (row : Datum). row.cell m) (cond b (Some the_row) None)) ≡ true
some_by true n m h = refl
some_by false n m h = absurd (cc h)

-- each cell that is there is a true flag
pub is_the_flag : (key : Key) (name : List ℕ) → IsSome (cell_in_unit (Some (the_row ∷ [])) key name)
    → cell_in_unit (Some (the_row ∷ [])) key name ≡ Some (Flag true)
is_the_flag key name h = by_key (has_key key the_row) (some_by (has_key key the_row) name [] h) name

pub scales_are : (set : ScaleSet) → set ≡ the_scales → AreScales set
scales_are set is =
    subst AreScales (sym is)
    (All-cons (λ (s : ScaleIn). IsScale s.scale) _ []
    (omega (arith, ints), ((omega (arith, ints), omega (arith, ints)), (omega (arith, ints), omega (arith, ints))))
    (All-nil (λ (s : ScaleIn). IsScale s.scale)))

circle_is_of_row : ItemIsOfRow (λ unit. Some (the_row ∷ [])) the_circle
circle_is_of_row hit is name =
    let same : record { unit = 0; key = the_key } ≡ hit = cc is in
    subst (λ (h : Hit). IsSome (cell_in_unit (Some (the_row ∷ [])) h.key name)) same refl

pub items_are_of_rows : (scene : Scene) → scene ≡ the_scene → ItemsAreOfRows (λ unit. Some (the_row ∷ [])) scene
items_are_of_rows scene is =
    subst (ItemsAreOfRows (λ unit. Some (the_row ∷ []))) (sym is)
    (All-cons (λ (panel : Panel). All (ItemIsOfRow (λ unit. Some (the_row ∷ []))) panel.items) the_panel []
    (All-cons (ItemIsOfRow (λ unit. Some (the_row ∷ []))) the_circle [] circle_is_of_row (All-nil (ItemIsOfRow (λ unit. Some (the_row ∷ [])))))
    (All-nil (λ (panel : Panel). All (ItemIsOfRow (λ unit. Some (the_row ∷ []))) panel.items)))

pub all_is_told : (selections : List VgSelection) → FieldsAreTold (λ unit name. true) selections
all_is_told selections = λ k d below unit among fields kept j e less. refl
