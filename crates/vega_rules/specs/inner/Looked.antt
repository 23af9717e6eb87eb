-- Names by fronts of keys.
use Rattle.std.specs.Prelude.{ℕ, Option, List, take, find, bytes_eq, option_and_then}
use Rattle.std.specs.Option.{option_or}
use Rattle.vega_parts.specs.declared.part.Part.{Part}
use Rattle.vega_parts.specs.declared.part.GivenName.{GivenName}
use Rattle.vega_rules.specs.Names.{given_names}
use Rattle.vega_rules.specs.inner.Index.{key_of_given}

-- the first name with a key
abbrev pub given_at : List Part → List ℕ → Option GivenName
given_at parts key = find (λ g. bytes_eq key (key_of_given g)) (given_names parts)

-- the same by a front of the key
abbrev pub given_front : List Part → ℕ → Option (List ℕ) → Option GivenName
given_front parts room key = option_and_then (λ k. given_at parts (take room k)) key

-- by the fronts of two keys
abbrev pub given_fronts : List Part → ℕ → Option (List ℕ) → Option (List ℕ) → Option GivenName
given_fronts parts room key other = option_or (given_front parts room key) (given_front parts room other)
