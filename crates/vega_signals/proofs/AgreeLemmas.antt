-- What is read under names that agree.
use Rattle.std.proofs.Common.{◌≡◌, ℕ, not, List, [], ◌∷◌, ◌++◌, map, flat_map, Option, Some, refl, sym, ap, ap₂, ◌∙◌, subst}
use Rattle.fixed_num.specs.Ranges.{◌>>=◌}
use Rattle.cell_value.specs.declared.cell.Cell.{Cell}
use Rattle.cell_value.specs.declared.cell.Cell.TheVariants.{Flag}
use Rattle.cell_value.specs.Cell.{truth}
use Rattle.cell_value.specs.Datum.{CellAt}
use Rattle.expr_syntax.specs.declared.expr.Expr.{Expr, Expr-F, roll-Expr, map-Expr, fold-roll-Expr, ind-Expr}
use Rattle.expr_syntax.specs.declared.expr.Expr.TheOpen as form
use Rattle.expr_reading.specs.Mentions.{parameters_in}
use Rattle.expr_eval.specs.Numbers.{cell_number, number_or_null}
use Rattle.expr_eval.specs.Operations.{negated, binary_of, paired}
use Rattle.expr_eval.specs.Table.{called, chosen}
use Rattle.expr_eval.specs.Value.{value_here, value_of}
use Rattle.expr_eval.specs.Values.{Values}

-- a name reads the same in both
pub record SameNamed (a b : Values) (name : List ℕ) : Type 0 where
  pub value : a.value name ≡ b.value name
  pub member : (field : List ℕ) → a.member name field ≡ b.member name field

-- each of some names does
abbrev pub AgreeOn : Values → Values → List (List ℕ) → Type 0
AgreeOn a b [] = Unit {0}
AgreeOn a b (name ∷ names) = SameNamed a b name × AgreeOn a b names

-- what is read where names read so, and all else as it is read round them
abbrev pub reading : Values → Values → Values
reading outer a = record outer { value = a.value; member = a.member }

module _ (a b : Values) where
  pub front : (xs ys : List (List ℕ)) → AgreeOn a b (xs ++ ys) → AgreeOn a b xs
  front [] ys h = tt
  front (x ∷ xs) ys h = (h.0, front xs ys h.1)

  pub back : (xs ys : List (List ℕ)) → AgreeOn a b (xs ++ ys) → AgreeOn a b ys
  back [] ys h = h
  back (x ∷ xs) ys h = back xs ys h.1

module _ (outer a b : Values) (row : CellAt) where
  abbrev first : Expr → Option Cell
  first = value_of row (reading outer a)

  abbrev second : Expr → Option Cell
  second = value_of row (reading outer b)

  -- an expression has the same value where the parameters agree that it mentions; it reads the same stores and scales in both
  abbrev Same : Expr → Type 0
  Same e = AgreeOn a b (parameters_in e) → first e ≡ second e

  -- a form does, where it gives the same for the values of its parts
  formed : (z : Expr-F Expr) (names : List (List ℕ)) → parameters_in (roll-Expr z) ≡ names
      → (AgreeOn a b names → value_here row (reading outer a) (map-Expr Expr (Option Cell) first z)
      ≡ value_here row (reading outer b) (map-Expr Expr (Option Cell) second z))
      → Same (roll-Expr z)
  formed z names is same h =
      fold-roll-Expr (Option Cell) (value_here row (reading outer a)) z ∙ same (subst (AgreeOn a b) is h)
      ∙ sym (fold-roll-Expr (Option Cell) (value_here row (reading outer b)) z)

  module _ {X : Type 0} (part : X → Expr) (same : (x : X) → Same (part x)) where
    abbrev names : X → List (List ℕ)
    names x = parameters_in (part x)

    all_same : (xs : List X) → AgreeOn a b (flat_map (λ arg. arg) (map parameters_in (map part xs))) → map first (map part xs) ≡ map second (map part xs)
    all_same [] h = refl
    all_same (x ∷ xs) h =
        let rest = flat_map (λ arg. arg) (map parameters_in (map part xs)) in
        ap₂ (λ v vs. v ∷ vs) (same x (front a b (names x) rest h)) (all_same xs (back a b (names x) rest h))

    two_same : (x y : X) (f : Option Cell → Option Cell → Option Cell) → AgreeOn a b (names x ++ names y)
        → f (first (part x)) (first (part y)) ≡ f (second (part x)) (second (part y))
    two_same x y f h = ap₂ f (same x (front a b (names x) (names y) h)) (same y (back a b (names x) (names y) h))

    step : (y : Expr-F X) → Same (roll-Expr (map-Expr X Expr part y))
    step form.Null = formed form.Null [] (fold-roll-Expr _ _ form.Null) (λ h. refl)
    step (form.Flag f) = formed (form.Flag f) [] (fold-roll-Expr _ _ (form.Flag f)) (λ h. refl)
    step (form.Number n) = formed (form.Number n) [] (fold-roll-Expr _ _ (form.Number n)) (λ h. refl)
    step (form.Text t) = formed (form.Text t) [] (fold-roll-Expr _ _ (form.Text t)) (λ h. refl)
    step (form.Field name) = formed (form.Field name) [] (fold-roll-Expr _ _ (form.Field name)) (λ h. refl)
    step (form.Param name) = formed (form.Param name) (name ∷ []) (fold-roll-Expr _ _ (form.Param name)) (λ h. h.0.value)
    step (form.Member name field) = formed (form.Member name field) (name ∷ []) (fold-roll-Expr _ _ (form.Member name field)) (λ h. ap Some (h.0.member field))
    step (form.Not x) = let z = form.Not (part x) in
        formed z (names x) (fold-roll-Expr _ _ z) (λ h. ap (λ o. o >>= λ v. Some (Flag (not (truth v)))) (same x h))
    step (form.Minus x) = let z = form.Minus (part x) in formed z (names x) (fold-roll-Expr _ _ z) (λ h. ap (λ o. o >>= negated) (same x h))
    step (form.Plus x) = let z = form.Plus (part x) in
        formed z (names x) (fold-roll-Expr _ _ z) (λ h. ap (λ o. o >>= λ v. Some (number_or_null (cell_number v))) (same x h))
    step (form.Binary op x y) = let z = form.Binary op (part x) (part y) in
        formed z (names x ++ names y) (fold-roll-Expr _ _ z) (λ h. two_same x y (binary_of op) h)
    step (form.Choose x y w) =
        let z = form.Choose (part x) (part y) (part w) in
        formed z (names x ++ names y ++ names w) (fold-roll-Expr _ _ z) (λ h.
        let both = front a b (names x ++ names y) (names w) h in
        let p = same x (front a b (names x) (names y) both) in
        let q = same y (back a b (names x) (names y) both) in
        let r = same w (back a b (names x ++ names y) (names w) h) in
        λ i. chosen (p i) (q i) (r i))
    step (form.Pair x y) =
        let z = form.Pair (part x) (part y) in
        formed z (names x ++ names y) (fold-roll-Expr _ _ z) (λ h. two_same x y (λ o p. o >>= λ v. p >>= λ w. Some (paired v w)) h)
    step (form.Call code xs) =
        let z = form.Call code (map part xs) in
        formed z (flat_map (λ arg. arg) (map parameters_in (map part xs))) (fold-roll-Expr _ _ z) (λ h. ap (called code) (all_same xs h))
    step (form.Selected store) = formed (form.Selected store) [] (fold-roll-Expr _ _ (form.Selected store)) (λ h. refl)
    step (form.Stored store) = formed (form.Stored store) [] (fold-roll-Expr _ _ (form.Stored store)) (λ h. refl)
    step (form.DomainLength scale) = formed (form.DomainLength scale) [] (fold-roll-Expr _ _ (form.DomainLength scale)) (λ h. refl)

  -- each expression does
  pub same_value : (e : Expr) → Same e
  same_value = ind-Expr Same (λ x y is. subst (λ z. Same (roll-Expr z)) is (step (λ e. e.0) (λ e. e.1) y))
