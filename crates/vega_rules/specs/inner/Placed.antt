-- Parts by their places.
use Rattle.std.specs.Prelude.{◌≡◌, ℕ, Option, List, Vec}
use Rattle.std.specs.List.{position_from}
use Rattle.std.specs.BTreeMap.{BTreeMap}
use Rattle.std.specs.declared.alloc.Global.{Global}
use Rattle.vega_parts.specs.declared.part.Part.{Part}
use Rattle.vega_rules.specs.inner.Keyed.{number_at}
use Rattle.vega_rules.specs.declared.nodes.Thing.{Thing}
use Rattle.vega_rules.specs.Nodes.{key, key_of, is_key, node_at}

-- the first part with a key is found under it, where the parts are counted from a number on
abbrev pub IsPlacedFrom : BTreeMap (Vec ℕ Global) ℕ → ℕ → List Part → Type 0
IsPlacedFrom places n parts = (k : List ℕ) → number_at places k ≡ position_from (λ p. is_key k (key_of p)) n parts

-- what is found of a thing at a place
abbrev pub place_at : BTreeMap (Vec ℕ Global) ℕ → Thing → List ℕ → Option ℕ
place_at places thing place = number_at places (key thing place)

-- each thing is found
pub record IsPlaced (places : BTreeMap (Vec ℕ Global) ℕ) (parts : List Part) : Type 0 where
  pub finds : place_at places ≡ node_at parts
