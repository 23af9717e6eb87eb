-- Names that are given twice.
use Rattle.std.specs.Prelude.{◌≡◌, ℕ, Bool, true, false, ◌&&◌, None, List, [], ◌∷◌, flat_map, take, codes, refl}
use Rattle.std.specs.List.{enumerate_from}
use Rattle.vega_parts.specs.declared.part.Part.{Part}
use Rattle.vega_parts.specs.declared.part.Part.TheVariants as part
use Rattle.vega_parts.specs.declared.part.GivenName.{GivenName}
use Rattle.vega_parts.specs.declared.part.Given.{Given}
use Rattle.vega_parts.specs.declared.part.Given.TheVariants as given
use Rattle.spec_schema.specs.declared.spec_error.SpecKind.TheVariants.{Wrong}
use Rattle.vega_rules.specs.declared.fault.PlacedFault.{PlacedFault}
use Rattle.vega_rules.specs.Faults.{fault_at, fault_if}
use Rattle.vega_rules.specs.Names.{has_given}

-- a name of this kind is given once at most: that of a data set, a signal or a scale of one object, of a data set without a
-- source in all of the specification, of the rows of one facet, an event selector of one signal, a place of headers of one facet
abbrev pub is_single : Given → Bool
is_single given.Data = true
is_single given.Source = true
is_single given.Facet = false
is_single given.Signal = true
is_single given.Store = false
is_single given.Scale = true
is_single given.FacetName = true
is_single given.Selector = true
is_single given.Header = true

-- the earlier parts give the name too
abbrev pub is_repeated : List Part → GivenName → Bool
is_repeated earlier name = is_single name.kind && has_given earlier name.kind name.scope name.name

-- the fault of a part, by the parts before it
abbrev pub repeated : List Part → Part → List PlacedFault
repeated earlier (part.Given name) = fault_if (is_repeated earlier name) Wrong name.at
repeated earlier other = []

-- the names that an earlier part gives too
abbrev pub twice : List Part → List PlacedFault
twice parts = flat_map (λ (row : ℕ × Part). repeated (take row.0 parts) row.1) (enumerate_from 0 parts)

-- ---- worked example

-- the name of a data set of the top
data_named : List ℕ → ℕ → Part
data_named name number = part.Given record {
  kind = given.Data;
  scope = [];
  of = 0 ∷ number ∷ [];
  at = 0 ∷ number ∷ 0 ∷ [];
  name = name;
  scale = None;
}

the_later_one_is_wrong : twice (data_named (codes "a") 0 ∷ data_named (codes "b") 1 ∷ data_named (codes "a") 2 ∷ [])
    ≡ fault_at Wrong (0 ∷ 2 ∷ 0 ∷ []) ∷ []
unfolding data_named
the_later_one_is_wrong = refl
