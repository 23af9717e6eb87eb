-- Why data sets of units mention signals without value where steps mention lost parameters.
use Rattle.std.proofs.Common.{◌≡◌, ◌≢◌, inl, inr, ⊎_elim, ℕ, ◌||◌, Bool, true, false, Option, Some, None, List, [], ◌∷◌, ◌++◌, map, flat_map, is_none, ℤ}
use Rattle.std.proofs.Common.{unwrap_or, All, refl, sym, ap, ap₂, ◌∙◌, subst}
use Rattle.std.specs.List.{list_any}
use Rattle.std.proofs.lemmas.List.Elements.{All-head, All-tail}
use Rattle.std.proofs.lemmas.List.Folds.{list_any-append}
use Rattle.cell_value.specs.declared.cell.Cell.TheVariants.{Null}
use Rattle.expr_syntax.specs.declared.expr.Expr.{Expr, Expr-F, roll-Expr, map-Expr, fold-roll-Expr, ind-Expr}
use Rattle.expr_syntax.specs.declared.expr.Expr.TheOpen as form
use Rattle.expr_syntax.specs.Names.{names_in}
use Rattle.expr_reading.specs.Mentions.{parameters_in, selections_in}
use Rattle.expr_eval.specs.Values.{Values}
use Rattle.vega_spec.specs.declared.transforms.Transform.{Transform}
use Rattle.vega_signals.specs.Lacking.{lacks, transform_lacks}
use Rattle.vega_signals.specs.Needs.{extent_reads}
use Rattle.vl_spec.specs.declared.params.ParamOf.{ParamOf}
use Rattle.plan_kit.specs.declared.steps.Step.{Step}
use Rattle.plan_kit.specs.declared.steps.Step.TheVariants as step
use Rattle.chart_meaning.specs.Parameters.{value_under, all_computed, expression_in, is_lost}
use Rattle.chart_meaning.specs.Rows.{mentioned, mention_lost}
use Rattle.vega_assemble.specs.Names.{none_name}
use Rattle.vega_assemble.specs.Sources.{if_any}
use Rattle.vega_assemble.specs.Steps.{extent_written, step_written, steps_written}
use Rattle.compiled_rows.specs.Values.{name_of, can_be_set}
use Rattle.compiled_rows.specs.Lost.{NullSignalIsNull, StepTestsNoLost, UnitsLackAlike, BegunLackAlike}
use Rattle.compiled_rows.proofs.RisingLemmas.{Has}
use Rattle.compiled_rows.proofs.KeptLemmas.{differ, kept_named, has_name_of, skip_given, skip_one, last, whole_is}

-- ---- names in expressions

either_false : (a b : Bool) → (a || b) ≡ false → (a ≡ false) × (b ≡ false)
either_false true b e = absurd (cc)
either_false false b e = (refl, e)

module _ (p : List ℕ → Bool) where
  abbrev any : List (List ℕ) → Bool
  any names = list_any p names

  -- among the names in an expression one passes exactly where one of a parameter does, if none of a store does
  abbrev Same : Expr → Type 0
  Same e = any (selections_in e) ≡ false → any (names_in e) ≡ any (parameters_in e)

  formed : (z : Expr-F Expr) (all params stores : List (List ℕ)) → names_in (roll-Expr z) ≡ all → parameters_in (roll-Expr z) ≡ params
      → selections_in (roll-Expr z) ≡ stores → (any stores ≡ false → any all ≡ any params) → Same (roll-Expr z)
  formed z all params stores a b c same h = ap any a ∙ same (sym (ap any c) ∙ h) ∙ sym (ap any b)

  alone_passes : (name : List ℕ) → any (name ∷ []) ≡ false → any (name ∷ []) ≡ any []
  alone_passes name h = h

  module _ {X : Type 0} (part : X → Expr) (same : (x : X) → Same (part x)) where
    abbrev all : X → List (List ℕ)
    all x = names_in (part x)

    abbrev params : X → List (List ℕ)
    params x = parameters_in (part x)

    abbrev stores : X → List (List ℕ)
    stores x = selections_in (part x)

    two_same : (x y : X) → any (stores x ++ stores y) ≡ false → any (all x ++ all y) ≡ any (params x ++ params y)
    two_same x y h =
        let none = either_false (any (stores x)) (any (stores y)) (sym (list_any-append p (stores x) (stores y)) ∙ h) in
        list_any-append p (all x) (all y) ∙ ap₂ (λ a b. a || b) (same x none.0) (same y none.1) ∙ sym (list_any-append p (params x) (params y))

    three_same : (x y w : X) → any (stores x ++ stores y ++ stores w) ≡ false → any (all x ++ all y ++ all w) ≡ any (params x ++ params y ++ params w)
    three_same x y w h =
        let none = either_false (any (stores x ++ stores y)) (any (stores w)) (sym (list_any-append p (stores x ++ stores y) (stores w)) ∙ h) in
        list_any-append p (all x ++ all y) (all w) ∙ ap₂ (λ a b. a || b) (two_same x y none.0) (same w none.1)
        ∙ sym (list_any-append p (params x ++ params y) (params w))

    abbrev joined : (X → List (List ℕ)) → List X → List (List ℕ)
    joined names xs = flat_map (λ arg. arg) (map names xs)

    all_same : (xs : List X) → any (joined stores xs) ≡ false → any (joined all xs) ≡ any (joined params xs)
    all_same [] h = refl
    all_same (x ∷ xs) h =
        let none = either_false (any (stores x)) (any (joined stores xs)) (sym (list_any-append p (stores x) (joined stores xs)) ∙ h) in
        list_any-append p (all x) (joined all xs) ∙ ap₂ (λ a b. a || b) (same x none.0) (all_same xs none.1)
        ∙ sym (list_any-append p (params x) (joined params xs))

    through : (names : Expr → List (List ℕ)) (xs : List X) → flat_map (λ arg. arg) (map names (map part xs)) ≡ joined (λ x. names (part x)) xs
    through names [] = refl
    through names (x ∷ xs) = ap (λ l. names (part x) ++ l) (through names xs)

    step_same : (y : Expr-F X) → Same (roll-Expr (map-Expr X Expr part y))
    step_same form.Null = let z : Expr-F Expr = form.Null in formed z [] [] [] (fold-roll-Expr _ _ z) (fold-roll-Expr _ _ z) (fold-roll-Expr _ _ z) (λ h. refl)
    step_same (form.Flag f) =
        let z : Expr-F Expr = form.Flag f in formed z [] [] [] (fold-roll-Expr _ _ z) (fold-roll-Expr _ _ z) (fold-roll-Expr _ _ z) (λ h. refl)
    step_same (form.Number n) =
        let z : Expr-F Expr = form.Number n in formed z [] [] [] (fold-roll-Expr _ _ z) (fold-roll-Expr _ _ z) (fold-roll-Expr _ _ z) (λ h. refl)
    step_same (form.Text t) =
        let z : Expr-F Expr = form.Text t in formed z [] [] [] (fold-roll-Expr _ _ z) (fold-roll-Expr _ _ z) (fold-roll-Expr _ _ z) (λ h. refl)
    step_same (form.Field name) =
        let z : Expr-F Expr = form.Field name in formed z [] [] [] (fold-roll-Expr _ _ z) (fold-roll-Expr _ _ z) (fold-roll-Expr _ _ z) (λ h. refl)
    step_same (form.Param name) =
        let z : Expr-F Expr = form.Param name in
        formed z (name ∷ []) (name ∷ []) [] (fold-roll-Expr _ _ z) (fold-roll-Expr _ _ z) (fold-roll-Expr _ _ z) (λ h. refl)
    step_same (form.Member name field) =
        let z : Expr-F Expr = form.Member name field in
        formed z (name ∷ []) (name ∷ []) [] (fold-roll-Expr _ _ z) (fold-roll-Expr _ _ z) (fold-roll-Expr _ _ z) (λ h. refl)
    step_same (form.Not x) =
        let z = form.Not (part x) in formed z (all x) (params x) (stores x) (fold-roll-Expr _ _ z) (fold-roll-Expr _ _ z) (fold-roll-Expr _ _ z) (same x)
    step_same (form.Minus x) =
        let z = form.Minus (part x) in formed z (all x) (params x) (stores x) (fold-roll-Expr _ _ z) (fold-roll-Expr _ _ z) (fold-roll-Expr _ _ z) (same x)
    step_same (form.Plus x) =
        let z = form.Plus (part x) in formed z (all x) (params x) (stores x) (fold-roll-Expr _ _ z) (fold-roll-Expr _ _ z) (fold-roll-Expr _ _ z) (same x)
    step_same (form.Binary op x y) =
        let z = form.Binary op (part x) (part y) in
        formed z (all x ++ all y) (params x ++ params y) (stores x ++ stores y) (fold-roll-Expr _ _ z) (fold-roll-Expr _ _ z) (fold-roll-Expr _ _ z)
        (two_same x y)
    step_same (form.Choose x y w) =
        let z = form.Choose (part x) (part y) (part w) in
        formed z (all x ++ all y ++ all w) (params x ++ params y ++ params w) (stores x ++ stores y ++ stores w) (fold-roll-Expr _ _ z) (fold-roll-Expr _ _ z)
        (fold-roll-Expr _ _ z) (three_same x y w)
    step_same (form.Pair x y) =
        let z = form.Pair (part x) (part y) in
        formed z (all x ++ all y) (params x ++ params y) (stores x ++ stores y) (fold-roll-Expr _ _ z) (fold-roll-Expr _ _ z) (fold-roll-Expr _ _ z)
        (two_same x y)
    step_same (form.Call code xs) =
        let z = form.Call code (map part xs) in
        formed z (joined all xs) (joined params xs) (joined stores xs) (fold-roll-Expr _ _ z ∙ through names_in xs)
        (fold-roll-Expr _ _ z ∙ through parameters_in xs)
        (fold-roll-Expr _ _ z ∙ through selections_in xs) (all_same xs)
    step_same (form.Selected store) =
        let z : Expr-F Expr = form.Selected store in
        formed z (store ∷ []) [] (store ∷ []) (fold-roll-Expr _ _ z) (fold-roll-Expr _ _ z) (fold-roll-Expr _ _ z) (alone_passes store)
    step_same (form.Stored store) =
        let z : Expr-F Expr = form.Stored store in
        formed z (store ∷ []) [] (store ∷ []) (fold-roll-Expr _ _ z) (fold-roll-Expr _ _ z) (fold-roll-Expr _ _ z) (alone_passes store)
    step_same (form.DomainLength scale) =
        let z : Expr-F Expr = form.DomainLength scale in formed z [] [] [] (fold-roll-Expr _ _ z) (fold-roll-Expr _ _ z) (fold-roll-Expr _ _ z) (λ h. refl)

  same_names : (e : Expr) → Same e
  same_names = ind-Expr Same (λ x y is. subst (λ z. Same (roll-Expr z)) is (step_same (λ e. e.0) (λ e. e.1) y))

-- ---- steps

module _ (stem : List ℕ) (values : Values) (null : values.value (none_name stem) ≡ Some Null) where
  extent_lacks : (extent : Option (ℤ × ℤ)) → list_any (lacks values) (extent_reads (extent_written stem extent)) ≡ false
  extent_lacks None = ap (λ o. is_none o || false) null
  extent_lacks (Some ends) = refl

  one_lacks : (s : Step) → StepTestsNoLost values s → transform_lacks values (step_written stem s) ≡ list_any (is_lost values) (mentioned s)
  one_lacks (step.Filter e) h = sym (same_names (is_lost values) e h)
  one_lacks (step.Calculate e name) h = sym (same_names (is_lost values) e h)
  one_lacks (step.Bin b) h = extent_lacks b.extent
  one_lacks (step.Unit t) h = refl
  one_lacks (step.Group g) h = refl
  one_lacks (step.Join g) h = refl
  one_lacks (step.Stack s) h = refl
  one_lacks (step.Window w) h = refl
  one_lacks (step.Lookup source l) h = refl
  one_lacks (step.Fold f) h = refl

  steps_lack : (steps : List Step) → All (StepTestsNoLost values) steps
      → list_any (transform_lacks values) (steps_written stem steps) ≡ mention_lost values steps
  steps_lack [] h = refl
  steps_lack (s ∷ steps) h =
      ap₂ (λ a b. a || b) (one_lacks s (All-head (StepTestsNoLost values) s steps h)) (steps_lack steps (All-tail (StepTestsNoLost values) s steps h))
      ∙ sym (list_any-append (is_lost values) (mentioned s) (flat_map mentioned steps))

written_back : (ts : List Transform) → unwrap_or (if_any ts) [] ≡ ts
written_back [] = refl
written_back (t ∷ ts) = refl

pub units_lack_alike : UnitsLackAlike
units_lack_alike stem values u null h =
    ap (list_any (transform_lacks values)) (written_back (steps_written stem (u.before ++ u.after))) ∙ steps_lack stem values null (u.before ++ u.after) h

pub begun_lack_alike : BegunLackAlike
begun_lack_alike stem values u null h =
    ap (list_any (transform_lacks values)) (written_back (steps_written stem u.before)) ∙ steps_lack stem values null u.before h

-- ---- the null signal

none_computed : (values : Values) (params : List ParamOf) (name : List ℕ) → (Has (map name_of params) name → ⊥)
    → value_under (all_computed values params) name ≡ Some Null
none_computed values [] name none = refl
none_computed values (p ∷ params) name none =
    skip_one values p.name name (expression_in p.kind) (all_computed values params) (differ p.name name (λ is. none (inl is)))
    ∙ none_computed values params name (λ later. none (inr later))

none_at : (names : List (List ℕ)) (name : List ℕ) → All (λ n. n ≢ name) names → Has names name → ⊥
none_at [] name h there = there
none_at (n ∷ names) name h there =
    ⊎_elim (λ is. All-head (λ n. n ≢ name) n names h is) (λ later. none_at names name (All-tail (λ n. n ≢ name) n names h) later) there

pub null_signal_is_null : NullSignalIsNull
null_signal_is_null stem params st others of_state =
    ap (λ xs. value_under xs (none_name stem)) (whole_is params st)
    ∙ skip_given st.params (all_computed (last params st) params) (none_name stem)
    (λ given. let (q, there, set, is) = kept_named can_be_set params (none_name stem) (subst (λ l. Has l (none_name stem)) of_state.given given) in
    none_at (map name_of params) (none_name stem) others (subst (Has (map name_of params)) is (has_name_of params q there)))
    ∙ none_computed (last params st) params (none_name stem) (none_at (map name_of params) (none_name stem) others)
