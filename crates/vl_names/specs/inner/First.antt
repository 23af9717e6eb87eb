-- Places under names.
use Rattle.std.specs.Prelude.{◌≡◌, ℕ, Option, List, Vec}
use Rattle.std.specs.Ordering.{nat_cmp}
use Rattle.std.specs.Cmp.Lexicographic.{slice_cmp}
use Rattle.std.specs.BTreeMap.{BTreeMap, get_by}
use Rattle.std.specs.declared.alloc.Global.{Global}
use Rattle.json_exact.specs.declared.json.Json.{Json}
use Rattle.vl_names.specs.declared.given.Given.{Given}
use Rattle.vl_names.specs.Twice.{first_given}

-- the place under a name
abbrev pub place_under : BTreeMap (Vec ℕ Global) (List ℕ) → List ℕ → Option (List ℕ)
place_under firsts name = get_by (λ (k : Vec ℕ Global). slice_cmp nat_cmp name k.items) firsts

-- under each name stands where it is first given
abbrev pub IsFirst : Json → BTreeMap (Vec ℕ Global) (List ℕ) → List Given → Type 0
IsFirst tree firsts all = (q : List ℕ) → place_under firsts q ≡ first_given tree all q
