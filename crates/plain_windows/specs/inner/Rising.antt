-- Rising lists.
use Rattle.std.specs.Prelude.{◌≡◌, false, List, [], ◌∷◌}
use Rattle.std.specs.declared.cmp.Ordering.{Ordering}
use Rattle.std.specs.Ordering.{is_gt}

-- an element isn't greater than another
abbrev pub AtMost : {X : Type 0} → (X → X → Ordering) → X → X → Type 0
AtMost c x y = is_gt (c x y) ≡ false

-- no element is less than m
abbrev pub From : {X : Type 0} → (X → X → Ordering) → X → List X → Type 0
From c m [] = Unit {0}
From c m (n ∷ ns) = AtMost c m n × From c m ns

-- no element is less than those before it
abbrev pub Rises : {X : Type 0} → (X → X → Ordering) → List X → Type 0
Rises c [] = Unit {0}
Rises c (n ∷ ns) = From c n ns × Rises c ns
