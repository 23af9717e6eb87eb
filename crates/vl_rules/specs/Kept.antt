-- What holds of a specification without a fault.
use Rattle.std.specs.Prelude.{◌≡◌, None, []}
use Rattle.std.specs.List.{All}
use Rattle.json_exact.specs.declared.json.Json.{Json}
use Rattle.vl_spec.specs.declared.spec.VlSpec.{VlSpec}
use Rattle.vl_names.specs.Names.{name_faults}
use Rattle.vl_trails.specs.Faults.{earliest_placed}
use Rattle.vl_rules.specs.Folds.{too_many_rows}
use Rattle.vl_rules.specs.Marked.{MarkedAt, judged, marked}
use Rattle.vl_rules.specs.Rules.{rule_faults}
use Rattle.vl_rules.specs.Units.{lone_ends, one_too_many, useless_size, without_data}
use Rattle.vl_rules.specs.Views.{view_faults}

-- a unit breaks no rule
pub record UnitIsKept (tree : Json) (u : MarkedAt) : Type 0 where
  -- it has rows
  pub rows : without_data tree u ≡ []
  -- it has a start beside each end
  pub ends : lone_ends tree u ≡ []
  -- it has a size only where its mark has a use for one
  pub size : useless_size tree u ≡ []
  -- its folds multiply to at most 8
  pub folds : too_many_rows u ≡ []

-- no rule is broken in a specification, as a tree says it
pub record IsKeptAs (tree : Json) (s : VlSpec) : Type 0 where
  -- its names are given once, known, and in need of none that needs them
  pub names : name_faults tree s ≡ []
  -- there are at most 32 units
  pub few : one_too_many (marked s) ≡ []
  -- each of them is right
  pub units : All (UnitIsKept tree) (judged s)
  -- scales say what fits them, and selections keep what there is
  pub views : view_faults tree None s ≡ []

-- no rule is broken in a specification, as some tree says it
abbrev pub IsKept : VlSpec → Type 0
IsKept s = (tree : Json) × IsKeptAs tree s

-- Where there is no first fault, no rule is broken.
abbrev pub WithoutFaultsKept : Type 0
WithoutFaultsKept = (tree : Json) (s : VlSpec) → earliest_placed tree (rule_faults tree None s) ≡ None → IsKeptAs tree s

-- Where no rule is broken, there is no fault.
abbrev pub KeptWithoutFaults : Type 0
KeptWithoutFaults = (tree : Json) (s : VlSpec) → IsKeptAs tree s → rule_faults tree None s ≡ []
