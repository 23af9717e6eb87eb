-- What is kept of the cells of a scale.
use Rattle.std.proofs.Common.{◌≡◌, ℕ, ◌+◌, ◌<◌, ◌||◌, Bool, true, false, cond, List, [], ◌∷◌, length, take, get_or, Option, Some, None, refl, sym, ap, ◌∙◌}
use Rattle.std.proofs.Common.{option_map}
use Rattle.std.specs.Cmp.{eq_by_cmp_equiv}
use Rattle.std.specs.List.{list_any, position_from}
use Rattle.std.specs.Map.{lookup}
use Rattle.std.specs.Ordering.{is_eq}
use Rattle.std.specs.BTreeMap.{BTreeMap, Updates}
use Rattle.std.proofs.lemmas.Iterator.Adapters.{position_from-zero}
use Rattle.std.proofs.lemmas.List.Folds.{list_any_more}
use Rattle.cell_value.specs.declared.cell.Cell.{Cell}
use Rattle.cell_value.specs.Cell.{cell_cmp, same_cells}
use Rattle.cell_value.specs.inner.CellOrder.{cell_cmp_total, same_cells_tell}
use Rattle.scale_kit.specs.declared.scale.Scale.{Scale}
use Rattle.scale_kit.specs.Places.{domain_cells, domain_index}
use Rattle.scale_index.specs.declared.known.Known.{Known}
use Rattle.scale_index.specs.inner.Known.{known_of, known_under, AreKnown}

-- what is found after something is put under a cell
pub put_under : (old new : BTreeMap Cell Known) (k : Cell) (found : Known) → Updates cell_cmp old new k (Some found)
    → (v : Cell) → known_under new v ≡ cond (same_cells v k) (Some found) (known_under old v)
put_under old new k found h v =
    h.0 v ∙ ap (λ b. cond b (Some found) (known_under old v)) ((eq_by_cmp_equiv cell_cmp_total).symm k v)

-- an empty map keeps what a scale has for no cell
pub none_known : (s : Scale) (known : BTreeMap Cell Known) → known.entries ≡ [] → AreKnown s [] known
none_known s known e v = ap (λ (es : List (Cell × Known)). lookup (λ k. is_eq (cell_cmp v k)) es) e

-- a cell that is the same has the same on a scale
same_known : (s : Scale) (v c : Cell) (seen same : Bool) → same_cells v c ≡ same
    → cond same (Some (known_of s c)) (cond seen (Some (known_of s v)) None) ≡ cond (seen || same) (Some (known_of s v)) None
same_known s v c true true e = ap (λ x. Some (known_of s x)) (sym ((same_cells_tell v c).0 e))
same_known s v c false true e = ap (λ x. Some (known_of s x)) (sym ((same_cells_tell v c).0 e))
same_known s v c true false e = refl
same_known s v c false false e = refl

-- what a scale has for one cell more is kept
pub one_more_known : (s : Scale) (cells : List Cell) (i : ℕ) (c : Cell) (old new : BTreeMap Cell Known) → i < length cells → c ≡ get_or cells i c
    → ((v : Cell) → known_under new v ≡ cond (same_cells v c) (Some (known_of s c)) (known_under old v))
    → AreKnown s (take i cells) old → AreKnown s (take (i + 1) cells) new
one_more_known s cells i c old new below is put before v =
    let seen : Bool = list_any (same_cells v) (take i cells) in
    let more : list_any (same_cells v) (take (i + 1) cells) ≡ (seen || same_cells v c) =
    list_any_more (same_cells v) cells i c below ∙ ap (λ x. seen || same_cells v x) (sym is) in
    put v ∙ ap (λ o. cond (same_cells v c) (Some (known_of s c)) o) (before v) ∙ same_known s v c seen (same_cells v c) refl
    ∙ ap (λ b. cond b (Some (known_of s v)) None) (sym more)

-- something is there exactly where a test passes somewhere
there : {X : Type 0} (test : Cell → Bool) (n : ℕ) (cells : List Cell) (x : X)
    → cond (list_any test cells) (Some x) None ≡ option_map (λ (place : ℕ). x) (position_from test n cells)
there test n [] x = refl
there test n (c ∷ cells) x = step (test c) (there test (n + 1) cells x)
  where
    step : (b : Bool) → cond (list_any test cells) (Some x) None ≡ option_map (λ (place : ℕ). x) (position_from test (n + 1) cells)
        → cond (b || list_any test cells) (Some x) None ≡ option_map (λ (place : ℕ). x) (cond b (Some n) (position_from test (n + 1) cells))
    step true h = refl
    step false h = h

-- of a scale what its cells have is found, and nothing of others
pub found_in : (inside seen : Scale) (known : BTreeMap Cell Known) (v : Cell) → AreKnown inside (domain_cells inside) known → inside ≡ seen
    → known_under known v ≡ option_map (λ (place : ℕ). known_of seen v) (domain_index seen v)
found_in inside seen known v are same =
    are v ∙ there (same_cells v) 0 (domain_cells inside) (known_of inside v)
    ∙ ap (option_map (λ (place : ℕ). known_of inside v)) (sym (position_from-zero (same_cells v) (domain_cells inside)))
    ∙ ap (λ s. option_map (λ (place : ℕ). known_of s v) (domain_index s v)) same

-- what is found of a cell is what its scale has for it
pub found_is : (index : Option ℕ) (found wanted : Known) → Some found ≡ option_map (λ (place : ℕ). wanted) index → found ≡ wanted
found_is None found wanted e = absurd (cc)
found_is (Some place) found wanted e = cc
