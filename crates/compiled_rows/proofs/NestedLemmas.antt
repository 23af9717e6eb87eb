-- Why inner facets find in panels what they find round them.
use Rattle.std.proofs.Common.{◌≡◌, ℕ, Bool, true, cond, List, [], ◌∷◌, ◌++◌, flat_map, refl, sym, ap, ap₂, ◌∙◌, subst}
use Rattle.std.specs.Str.{bytes_eq}
use Rattle.std.proofs.lemmas.List.Elements.{filter-append}
use Rattle.std.proofs.lemmas.Slice.Eq.{bytes_eq-Decides}
use Rattle.cell_value.specs.declared.cell.Cell.{Cell}
use Rattle.cell_value.specs.Datum.{Datum}
use Rattle.plain_facets.specs.Facets.{key_of, is_key, part_of}
use Rattle.vega_lists.specs.Scopes.{Scope}
use Rattle.plan_kit.specs.declared.grids.FacetPlan.{FacetPlan}
use Rattle.plan_kit.specs.declared.grids.GridPlan.{GridPlan}
use Rattle.plan_kit.specs.declared.plan.Plan.{Plan}
use Rattle.chart_meaning.specs.Parts.{names_of}
use Rattle.vega_assemble.specs.Views.{facet_of}
use Rattle.compiled_rows.specs.Panels.{names_behind}
use Rattle.compiled_rows.specs.Parts.{is_one_of, scope_in, names_parted, AreCovered}
use Rattle.compiled_rows.specs.Nested.{PanelsStayCovered}
use Rattle.compiled_rows.proofs.PartLemmas.{or_left, or_right, any_either, lists_are_parted, inner_lists_are_parted, of_scales, of_inner_keys, of_drags}
use Rattle.compiled_rows.proofs.PartLemmas.{from_scales, from_inner_keys, from_drags}
use Rattle.compiled_rows.proofs.ChoiceLemmas.{parts_are_covered}

-- the parts of lists, one after the other, are the part of all of them
parts_joined : {X : Type 0} (fields : List (List ℕ)) (key : List Cell) (rows : X → List Datum) (xs : List X)
    → part_of fields key (flat_map rows xs) ≡ flat_map (λ x. part_of fields key (rows x)) xs
parts_joined fields key rows [] = refl
parts_joined fields key rows (x ∷ xs) =
    filter-append (λ (row : Datum). is_key (key_of fields row) key) (rows x) (flat_map rows xs)
    ∙ ap (λ l. part_of fields key (rows x) ++ l) (parts_joined fields key rows xs)

-- lists that are the same under each of some names
same_under : (a b : Scope) (names : List (List ℕ)) → ((name : List ℕ) → is_one_of names name ≡ true → a name ≡ b name) → flat_map a names ≡ flat_map b names
same_under a b [] h = refl
same_under a b (n ∷ names) h =
    ap₂ (λ x y. x ++ y) (h n (or_left (bytes_eq n n) (is_one_of names n) ((bytes_eq-Decides n n).1 refl)))
    (same_under a b names (λ name there. h name (or_right (bytes_eq n name) (is_one_of names name) there)))

module _ (stem : List ℕ) (p : Plan) (grid : GridPlan) (f : FacetPlan) (name : List ℕ) where
  abbrev test : List ℕ → Bool
  test other = bytes_eq other name

  -- what is behind the units is parted
  behind_parted : is_one_of (names_behind stem p grid f) name ≡ true → is_one_of (names_parted stem p grid f) name ≡ true
  behind_parted e =
      any_either test (of_scales stem p grid f ++ of_inner_keys stem p grid f) (of_drags stem p grid f) e
      (λ e. any_either test (of_scales stem p grid f) (of_inner_keys stem p grid f) e (from_scales stem p grid f name) (from_inner_keys stem p grid f name))
      (from_drags stem p grid f name)

pub panels_stay_covered : PanelsStayCovered
panels_stay_covered stem p grid inner f g place copy spot key outer names at facet within deeper units h =
    let behind = names_behind stem p inner g in
    let parted : (name : List ℕ) → is_one_of behind name ≡ true
    → scope_in (facet_of stem p grid f) key outer name ≡ part_of (names_of f) key (outer name) =
    λ name there. lists_are_parted (names_parted stem p grid f) f key outer name
    ∙ ap (λ b. cond b (part_of (names_of f) key (outer name)) (outer name))
    (inner_lists_are_parted stem p grid inner f g place at facet within deeper units name (behind_parted stem p inner g name there)) in
    let lists : flat_map (scope_in (facet_of stem p grid f) key outer) behind ≡ part_of (names_of f) key (flat_map outer behind) =
    same_under (scope_in (facet_of stem p grid f) key outer) (λ name. part_of (names_of f) key (outer name)) behind parted
    ∙ sym (parts_joined (names_of f) key outer behind) in
    subst (λ l. AreCovered names (flat_map (λ unit. part_of (names_of f) key (copy.rows unit)) g.units) l) (sym lists)
    (subst (λ l. AreCovered names l (part_of (names_of f) key (flat_map outer behind))) (parts_joined (names_of f) key copy.rows g.units)
    (parts_are_covered (names_of f) names key (flat_map copy.rows g.units) (flat_map outer behind) h))
