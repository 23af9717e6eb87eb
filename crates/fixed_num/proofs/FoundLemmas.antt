-- What is found one by one.
use Rattle.std.proofs.Common.{◌≡◌, Option, Some, None, List, [], ◌∷◌, ◌++◌, append_assoc, refl, ap}
use Rattle.fixed_num.specs.Ranges.{◌>>=◌}

-- the values that were found, and then the others
abbrev pub after : {X : Type 0} → List X → Option (List X) → Option (List X)
after values None = None
after values (Some others) = Some (values ++ others)

-- one more value
pub one_more : {X : Type 0} (values : List X) (v : X) (o : Option (List X))
    → after (values ++ v ∷ []) o ≡ after values (o >>= (λ others. Some (v ∷ others)))
one_more values v None = refl
one_more values v (Some others) = ap Some (rw append_assoc refl)
