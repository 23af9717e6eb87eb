-- Places in entries that are in the order of their keys.
use Rattle.std.specs.Prelude.{◌≡◌, ℕ, ◌<◌, ◌≤◌, List, length}
use Rattle.std.specs.List.{AllWithin, HoldsAt}
use Rattle.std.specs.declared.cmp.Ordering.{Ordering}
use Rattle.std.specs.declared.cmp.Ordering.TheVariants.{Less, Equal, Greater}

module _ {K X : Type 0} (R : K → K → Ordering) (es : List (K × X)) (k : K) (at : ℕ) where
  -- the entry there has the key
  abbrev pub IsAt : Type 0
  IsAt = (at < length es) × HoldsAt (λ e. R e.0 k ≡ Equal) es at

  -- the key would go there
  abbrev pub IsGap : Type 0
  IsGap = (at ≤ length es) × AllWithin (λ e. R e.0 k ≡ Less) es 0 at × AllWithin (λ e. R e.0 k ≡ Greater) es at (length es)
