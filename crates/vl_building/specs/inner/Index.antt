-- Which of a list an index finds.
use Rattle.std.specs.Prelude.{◌≡◌, ℕ, Bool, Option, List, Vec, slice_get}
use Rattle.std.specs.Option.{option_and_then}
use Rattle.std.specs.List.{position_from}
use Rattle.std.specs.BTreeMap.{BTreeMap}
use Rattle.std.specs.declared.alloc.Global.{Global}
use Rattle.vl_building.specs.inner.Keyed.{number_at}

-- the element of a number, if there is one
abbrev pub at_number : {A : Type 0} → List A → Option ℕ → Option A
at_number all number = option_and_then (slice_get all) number

-- the first that a key finds is under it, where they are counted from a number on
abbrev pub IsIndexFrom : {A : Type 0} → (List ℕ → A → Bool) → BTreeMap (Vec ℕ Global) ℕ → ℕ → List A → Type 0
IsIndexFrom finds index number all = (q : List ℕ) → number_at index q ≡ position_from (finds q) number all

-- the first that a key finds is under it
pub record IsIndex {A : Type 0} (finds : List ℕ → A → Bool) (index : BTreeMap (Vec ℕ Global) ℕ) (all : List A) : Type 0 where
  pub found : IsIndexFrom finds index 0 all
