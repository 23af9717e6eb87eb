-- The last hit of a scene, from its last panel on.
use Rattle.std.proofs.Common.{◌≡◌, ℕ, ◌-◌, ◌<◌, ◌≤◌, ℤ, List, length, take, get_or, sym, ap, ◌∙◌, Option, Some, None}
use Rattle.std.specs.Option.{option_or, option_map}
use Rattle.std.specs.List.{flat_map, enumerate_from}
use Rattle.scene_tree.specs.declared.scene.Panel.{Panel}
use Rattle.scene_tree.specs.declared.hits.ItemRef.{ItemRef}
use Rattle.scene_tree.specs.Hits.{has_key, hits_among, hits_in, last}
use Rattle.scene_tree.proofs.LastLemmas.{last-map, one_part}

abbrev item_in : ℕ → ℕ → ItemRef
item_in panel item = record { panel = panel; item = item }

one_panel : (x y : ℤ) (panels : List Panel) (j : ℕ) (panel : Panel) (item : Option ℕ) → 0 < j → j ≤ length panels
    → panel ≡ get_or panels (j - 1) panel → item ≡ last (hits_among has_key panel x y)
    → last (flat_map (hits_in x y) (enumerate_from 0 (take j panels)))
    ≡ option_or (option_map (item_in (j - 1)) item) (last (flat_map (hits_in x y) (enumerate_from 0 (take (j - 1) panels))))
one_panel x y panels j panel item positive within is finds =
    one_part (hits_in x y) panels j panel positive within is
    ∙ ap (λ o. option_or o (last (flat_map (hits_in x y) (enumerate_from 0 (take (j - 1) panels)))))
    (last-map (item_in (j - 1)) (hits_among has_key panel x y) ∙ ap (option_map (item_in (j - 1))) (sym finds))

-- the last of the panels before j has the item looked for, if it has a hit and those from j on have none
pub panel_here : (x y : ℤ) (panels : List Panel) (j : ℕ) (panel : Panel) (item : ℕ) (found : Option ItemRef) → 0 < j → j ≤ length panels
    → panel ≡ get_or panels (j - 1) panel → Some item ≡ last (hits_among has_key panel x y)
    → last (flat_map (hits_in x y) (enumerate_from 0 (take j panels))) ≡ found → Some (item_in (j - 1) item) ≡ found
panel_here x y panels j panel item found positive within is finds rest =
    sym (one_panel x y panels j panel (Some item) positive within is finds) ∙ rest

-- if it has none, the one looked for stands in a panel before it
pub panel_before : (x y : ℤ) (panels : List Panel) (j : ℕ) (panel : Panel) (found : Option ItemRef) → 0 < j → j ≤ length panels
    → panel ≡ get_or panels (j - 1) panel → None ≡ last (hits_among has_key panel x y)
    → last (flat_map (hits_in x y) (enumerate_from 0 (take j panels))) ≡ found
    → last (flat_map (hits_in x y) (enumerate_from 0 (take (j - 1) panels))) ≡ found
panel_before x y panels j panel found positive within is finds rest =
    sym (one_panel x y panels j panel None positive within is finds) ∙ rest
