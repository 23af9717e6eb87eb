-- Which marks are met below which objects.
use Rattle.std.specs.Prelude.{◌≡◌, ℕ, Bool, true, false, Option, Some, None, List, [], ◌∷◌, ◌++◌, map, bytes_eq, is_some, slice_get, Vec}
use Rattle.std.specs.BTreeMap.{BTreeMap}
use Rattle.std.specs.declared.alloc.Global.{Global}
use Rattle.vega_parts.specs.declared.part.UsedName.{UsedName}
use Rattle.vega_rules.specs.Below.{is_of_mark, is_mark_below}
use Rattle.vega_rules.specs.inner.Keyed.{number_at}
use Rattle.std.specs.List.{list_any}
use Rattle.vega_parts.specs.declared.part.Part.{Part}
use Rattle.vega_parts.specs.declared.part.Part.TheVariants as part
use Rattle.vega_rules.specs.inner.Index.{mark_key}

-- the fronts of a place without the place itself
abbrev pub outer : List ℕ → List (List ℕ)
outer [] = []
outer (n ∷ ns) = map (λ front. n ∷ front) (outer ns) ++ ([] ∷ [])

-- a mark of this name at this place is met below an object under a key
abbrev pub reaches_at : List ℕ → List ℕ → List ℕ → Bool
reaches_at q name at = list_any (λ scope. bytes_eq q (mark_key name scope)) (outer at)

-- the same where it has a name
abbrev pub reaches_by : List ℕ → List ℕ → Option (List ℕ) → Bool
reaches_by q at None = false
reaches_by q at (Some name) = reaches_at q name at

-- a part is such a mark
abbrev pub reaches : List ℕ → Part → Bool
reaches q (part.Mark at object name group) = reaches_by q at name
reaches q other = false

-- what is met under the key of a name that a part uses tells whether there is such a mark below its object
pub record IsMet (met : BTreeMap (Vec ℕ Global) ℕ) (parts : List Part) : Type 0 where
  pub tells : (u : UsedName) (i : ℕ) → slice_get parts i ≡ Some (part.Used u) → is_of_mark u.kind ≡ true
      → is_some (number_at met (mark_key u.name u.scope)) ≡ list_any (is_mark_below u.name u.scope) parts
