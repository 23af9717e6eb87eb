-- By which keys parts are looked up.
use Rattle.std.specs.Prelude.{◌≡◌, ℕ, ◌==◌, Bool, false, ◌&&◌, not, Option, Some, None, List, ◌∷◌, ◌++◌, length, if◌then◌else◌, bytes_eq}
use Rattle.std.specs.Prelude.{Vec, option_map, option_and_then, slice_get}
use Rattle.std.specs.List.{position_from}
use Rattle.std.specs.BTreeMap.{BTreeMap}
use Rattle.std.specs.declared.alloc.Global.{Global}
use Rattle.vega_parts.specs.declared.part.Part.{Part}
use Rattle.vega_parts.specs.declared.part.GivenName.{GivenName}
use Rattle.vega_parts.specs.declared.part.Given.{Given}
use Rattle.vega_rules.specs.declared.keys.By.{By}
use Rattle.vega_rules.specs.declared.keys.By.TheVariants as by
use Rattle.vega_parts.specs.declared.part.Given.TheVariants as given
use Rattle.vega_parts.specs.declared.part.UsedName.{UsedName}
use Rattle.vega_rules.specs.Places.{parent}
use Rattle.vega_rules.specs.Names.{number_of, given_by}
use Rattle.vega_rules.specs.Folds.{is_source, used_by}
use Rattle.vega_rules.specs.Below.{is_of_mark}
use Rattle.vega_rules.specs.Intervals.{is_in_plot}
use Rattle.vega_rules.specs.inner.Keyed.{number_at}

-- the key of a name: the kind, how long the name is, the name, and then the object, so that the fronts of the key that are
-- longer than the name are the keys of the objects round it
abbrev pub name_key : Given → List ℕ → List ℕ → List ℕ
name_key kind name scope = number_of kind ∷ length name ∷ (name ++ scope)

-- the key of the name that is given
abbrev pub key_of_given : GivenName → List ℕ
key_of_given g = name_key g.kind g.name g.scope

-- the key of a part that gives a name
abbrev pub key_of_name : Part → Option (List ℕ)
key_of_name p = option_map key_of_given (given_by p)

-- a key, where a test says that there is one
abbrev pub key_if : Bool → List ℕ → Option (List ℕ)
key_if test key = if test then Some key else None

-- the key of a source: the place of its data set
abbrev pub own_source : UsedName → Option (List ℕ)
own_source u = key_if (is_source u.kind) (parent u.at)

-- the key of a part that is one
abbrev pub key_of_source : Part → Option (List ℕ)
key_of_source p = option_and_then own_source (used_by p)

-- the key of the name of a mark below an object: how long the name is, the name, and then the object
abbrev pub mark_key : List ℕ → List ℕ → List ℕ
mark_key name scope = length name ∷ (name ++ scope)

-- the key of the use of a mark's name
abbrev pub own_mark : UsedName → Option (List ℕ)
own_mark u = key_if (is_of_mark u.kind) (mark_key u.name u.scope)

-- the key of a part that is one
abbrev pub key_of_mark : Part → Option (List ℕ)
key_of_mark p = option_and_then own_mark (used_by p)

-- a name is that of a scale in a group under an object without a layout
abbrev pub is_plot_scale : GivenName → Bool
is_plot_scale g = number_of g.kind == number_of given.Scale && is_in_plot g.scale

-- the key of such a name
abbrev pub own_in_plot : GivenName → Option (List ℕ)
own_in_plot g = key_if (is_plot_scale g) g.name

-- the key of a part that gives one
abbrev pub key_in_plot : Part → Option (List ℕ)
key_in_plot p = option_and_then own_in_plot (given_by p)

-- a name is that of a scale of a group
abbrev pub is_inner_scale : GivenName → Bool
is_inner_scale g = number_of given.Scale == number_of g.kind && not (length g.scope == 0)

-- the key of such a name
abbrev pub own_elsewhere : GivenName → Option (List ℕ)
own_elsewhere g = key_if (is_inner_scale g) g.name

-- the key of a part that gives one
abbrev pub key_elsewhere : Part → Option (List ℕ)
key_elsewhere p = option_and_then own_elsewhere (given_by p)

-- the key of a part
abbrev pub key_by : By → Part → Option (List ℕ)
key_by by.Name = key_of_name
key_by by.Source = key_of_source
key_by by.Mark = key_of_mark
key_by by.InPlot = key_in_plot
key_by by.Elsewhere = key_elsewhere

-- a part has this key
abbrev pub is_key : List ℕ → Option (List ℕ) → Bool
is_key q None = false
is_key q (Some key) = bytes_eq q key

-- the number of the first part with a key, where the parts are counted from a number on
abbrev pub first_from : By → List ℕ → ℕ → List Part → Option ℕ
first_from how q n parts = position_from (λ p. is_key q (key_by how p)) n parts

-- the first part with a key is found under it
abbrev pub IsIndexFrom : By → BTreeMap (Vec ℕ Global) ℕ → ℕ → List Part → Type 0
IsIndexFrom how index n parts = (q : List ℕ) → number_at index q ≡ first_from how q n parts

pub record IsIndex (how : By) (index : BTreeMap (Vec ℕ Global) ℕ) (parts : List Part) : Type 0 where
  pub finds : IsIndexFrom how index 0 parts

-- the name that the part of a number gives
abbrev pub name_at : List Part → Option ℕ → Option GivenName
name_at parts number = option_and_then (λ i. option_and_then given_by (slice_get parts i)) number
