-- Names that are lent.
use Rattle.std.specs.Prelude.{ℕ, List, Vec, map}
use Rattle.std.specs.Borrow.{Bor}
use Rattle.std.specs.declared.alloc.Global.{Global}

-- the names themselves
abbrev pub lent : Vec (Bor (List ℕ)) Global → List (List ℕ)
lent names = map (λ n. n.now) names.items
