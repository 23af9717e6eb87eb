-- The fields of which an order speaks.
use Rattle.std.proofs.Common.{◌≡◌, ℕ, ◌<◌, ◌≤◌, ◌+◌, ◌-◌, true, false, List, [], ◌∷◌, ◌++◌, length, take, get_or, sym, ap, ◌∙◌, refl, if◌then◌else◌, arith}
use Rattle.std.proofs.lemmas.List.{take_more}
use Rattle.plan_kit.specs.declared.grids.FacetField.{FacetField}
use Rattle.vega_assemble.specs.Keys.{is_first, and_before, ordered}

-- one without an order behind others
pub trims : (before : List FacetField) (field : FacetField) → is_first field.order ≡ true → ordered (before ++ field ∷ []) ≡ ordered before
trims [] field e = ap (λ first. if first then [] else field ∷ []) e
trims (next ∷ before) field e = ap (and_before next) (trims before field e)

kept : (next : FacetField) (before : List FacetField) (field : FacetField) → and_before next (before ++ field ∷ []) ≡ next ∷ before ++ field ∷ []
kept next [] field = refl
kept next (more ∷ before) field = refl

-- one with an order behind others
pub keeps : (before : List FacetField) (field : FacetField) → is_first field.order ≡ false → ordered (before ++ field ∷ []) ≡ before ++ field ∷ []
keeps [] field e = ap (λ first. if first then [] else field ∷ []) e
keeps (next ∷ before) field e = ap (and_before next) (keeps before field e) ∙ kept next before field

-- what stands before a place, and its last
split_last : (fields : List FacetField) (j : ℕ) (field : FacetField) → 0 < j → j ≤ length fields → field ≡ get_or fields (j - 1) field
    → take j fields ≡ take (j - 1) fields ++ field ∷ []
split_last fields j field positive within is =
    let inside : j - 1 < length fields = omega arith in
    let next : j ≡ j - 1 + 1 = omega arith in
    ap (λ n. take n fields) next ∙ take_more fields (j - 1) field inside ∙ ap (λ f. take (j - 1) fields ++ f ∷ []) (sym is)

-- the last with an order stands before j
pub ends_here : (fields : List FacetField) (j : ℕ) (field : FacetField) (found : List FacetField) → 0 < j → j ≤ length fields
    → field ≡ get_or fields (j - 1) field → is_first field.order ≡ false → ordered (take j fields) ≡ found → take (j - 1 + 1) fields ≡ found
ends_here fields j field found positive within is has rest =
    let next : j - 1 + 1 ≡ j = omega arith in
    let split : take j fields ≡ take (j - 1) fields ++ field ∷ [] = split_last fields j field positive within is in
    ap (λ n. take n fields) next ∙ split ∙ sym (keeps (take (j - 1) fields) field has) ∙ sym (ap ordered split) ∙ rest

-- one without an order stands there
pub ends_before : (fields : List FacetField) (j : ℕ) (field : FacetField) (found : List FacetField) → 0 < j → j ≤ length fields
    → field ≡ get_or fields (j - 1) field → is_first field.order ≡ true → ordered (take j fields) ≡ found → ordered (take (j - 1) fields) ≡ found
ends_before fields j field found positive within is lacks rest =
    sym (trims (take (j - 1) fields) field lacks) ∙ sym (ap ordered (split_last fields j field positive within is)) ∙ rest
