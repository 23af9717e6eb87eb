-- Which names an index finds.
use Rattle.std.specs.Prelude.{◌≡◌, ℕ, List, Vec, bytes_eq}
use Rattle.std.specs.List.{position_from}
use Rattle.std.specs.BTreeMap.{BTreeMap}
use Rattle.std.specs.declared.alloc.Global.{Global}
use Rattle.vl_names.specs.inner.Keyed.{number_at}

-- under each name is the number of the first of this name, where they are counted from a number on
abbrev pub IsIndexFrom : BTreeMap (Vec ℕ Global) ℕ → ℕ → List (List ℕ) → Type 0
IsIndexFrom index number names = (q : List ℕ) → number_at index q ≡ position_from (bytes_eq q) number names

-- under each name is the number of the first of this name
pub record IsIndex (index : BTreeMap (Vec ℕ Global) ℕ) (names : List (List ℕ)) : Type 0 where
  pub found : IsIndexFrom index 0 names
