-- The places between which a brush stands, and the panel in which it is drawn.
use Rattle.std.proofs.Common.{◌≡◌, ℕ, suc, ◌+◌, ℤ, pos, ◌-ℤ◌, Bool, true, false, cond, Option, Some, None, List, [], ◌∷◌, Result, refl, sym}
use Rattle.std.proofs.Common.{ap, subst, ◌∙◌, arith}
use Rattle.std.specs.Prelude.{◌≤ℤ◌, find, slice_get}
use Rattle.std.specs.Option.{option_map}
use Rattle.std.specs.List.{enumerate_from}
use Rattle.std.specs.Int.{int_min, int_max}
use Rattle.std.proofs.lemmas.Int.{ints}
use Rattle.fixed_num.specs.Number.{IsNumber}
use Rattle.scale_kit.specs.Lines.{cut_to}
use Rattle.cell_value.specs.declared.state.StoreOf.{StoreOf}
use Rattle.scene_tree.specs.declared.scene.Panel.{Panel}
use Rattle.selection_events.specs.declared.selection.PlotOf.{PlotOf}
use Rattle.selection_events.specs.declared.brushes.BrushError.{BrushError}
use Rattle.selection_events.specs.Events.{Inverts}
use Rattle.selection_events.specs.Brushes.{is_brushed, brushed_at, brushed_with}
use Rattle.selection_events.specs.BrushAnswers.{Brushes}

-- a place that is cut to a plot is in it or on its edge
pub not_below : (size at : ℤ) → pos 0 ≤ℤ cut_to (pos 0, size) at
not_below size at = grind (arith, ints)

pub least_of_both : (a b : ℤ) → pos 0 ≤ℤ a → pos 0 ≤ℤ b → pos 0 ≤ℤ int_min a b
least_of_both a b h k = grind (arith, ints)

pub in_order : (a b : ℤ) → int_min a b ≤ℤ int_max a b
in_order a b = grind (arith, ints)

-- how far a number is behind another that isn't less than 0 is one
pub is_number : (from to : ℤ) → IsNumber to → pos 0 ≤ℤ from → from ≤ℤ to → IsNumber (to -ℤ from)
is_number from to h low high = grind (arith, ints)

-- ---- the panel of a brush

-- what is found among numbered elements stands at its number
pub found_at : {X : Type 0} (test : ℕ × X → Bool) (n : ℕ) (xs : List X) (p : ℕ × X) → find test (enumerate_from n xs) ≡ Some p
    → (k : ℕ) × (p.0 ≡ n + k) × (slice_get xs k ≡ Some p.1)
found_at {X} test n [] p is = absurd (cc is)
found_at {X} test n (x ∷ xs) p is = here (test (n, x)) is (λ later. found_at test (n + 1) xs p later)
  where
    after : ((k : ℕ) × (p.0 ≡ n + 1 + k) × (slice_get xs k ≡ Some p.1)) → (k : ℕ) × (p.0 ≡ n + k) × (slice_get (x ∷ xs) k ≡ Some p.1)
    after (k, at, there) = (suc k, omega (arith, at), there)

    here : (b : Bool) → cond b (Some (n, x)) (find test (enumerate_from (n + 1) xs)) ≡ Some p
        → (find test (enumerate_from (n + 1) xs) ≡ Some p → (k : ℕ) × (p.0 ≡ n + 1 + k) × (slice_get xs k ≡ Some p.1))
        → (k : ℕ) × (p.0 ≡ n + k) × (slice_get (x ∷ xs) k ≡ Some p.1)
    here true e later = let same : (n, x) ≡ p = cc e in (0, sym (ap (λ (q : ℕ × X). q.0) same) ∙ omega arith, ap (λ (q : ℕ × X). Some q.1) same)
    here false e later = after (later e)

module _ (plots : List PlotOf) (scale : Inverts) (store : StoreOf) (panels : List Panel) where
  there : (index : ℕ) (result : Result (List Panel) BrushError) (o : Option (ℕ × Panel)) → brushed_at plots panels store ≡ o
      → Some index ≡ option_map (λ p. p.0) o
      → ((panel : Panel) → slice_get panels index ≡ Some panel → Brushes (brushed_with scale panels store (Some (index, panel))) result)
      → Brushes (brushed_with scale panels store o) result
  there index result None is at brushed = absurd (cc at)
  there index result (Some p) is at brushed =
      let stands = found_at (λ q. is_brushed plots store q.1) 0 panels p is in
      let same : index ≡ p.0 = cc at in
      let place : stands.0 ≡ index = omega (arith, stands.1, same) in
      let panel = subst (λ k. slice_get panels k ≡ Some p.1) place stands.2 in
      subst (λ k. Brushes (brushed_with scale panels store (Some (k, p.1))) result) same (brushed p.1 panel)

  -- the brush is drawn in the panel that is found
  pub brushed_there : (index : ℕ) (result : Result (List Panel) BrushError)
      → Some index ≡ option_map (λ p. p.0) (brushed_at plots panels store)
      → ((panel : Panel) → slice_get panels index ≡ Some panel → Brushes (brushed_with scale panels store (Some (index, panel))) result)
      → Brushes (brushed_with scale panels store (brushed_at plots panels store)) result
  brushed_there index result at brushed = there index result (brushed_at plots panels store) refl at brushed

  nowhere : (o : Option (ℕ × Panel)) → None ≡ option_map (λ p. p.0) o → brushed_with scale panels store o ≡ Some panels
  nowhere None at = refl
  nowhere (Some p) at = absurd (cc at)

  -- and nowhere where none is
  pub brushed_nowhere : None ≡ option_map (λ p. p.0) (brushed_at plots panels store)
      → brushed_with scale panels store (brushed_at plots panels store) ≡ Some panels
  brushed_nowhere at = nowhere (brushed_at plots panels store) at
