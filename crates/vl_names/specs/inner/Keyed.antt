-- Numbers under keys that are lists of numbers.
use Rattle.std.specs.Prelude.{ℕ, Option, List, Vec}
use Rattle.std.specs.Ordering.{nat_cmp}
use Rattle.std.specs.Cmp.Lexicographic.{slice_cmp}
use Rattle.std.specs.BTreeMap.{BTreeMap, get_by}
use Rattle.std.specs.declared.alloc.Global.{Global}

-- the number under a key
abbrev pub number_at : BTreeMap (Vec ℕ Global) ℕ → List ℕ → Option ℕ
number_at map key = get_by (λ (k : Vec ℕ Global). slice_cmp nat_cmp key k.items) map
