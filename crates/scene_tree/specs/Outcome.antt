-- What comes of drawing a chart.
use Rattle.std.specs.Prelude.{ℕ, Option, Some, None, List, [], ◌∷◌}

-- a picture or a part of one; a number out of range; or more panels than a chart may have
pub data Outcome (X : Type 0) : Type 0 where
  Drawn : X → Outcome X
  Overflow : Outcome X
  Panels : ℕ → Outcome X

-- what is not drawn stops all that needs it
infixl 10 ◌>>=◌
abbrev pub ◌>>=◌ : {X Y : Type 0} → Outcome X → (X → Outcome Y) → Outcome Y
(Drawn x) >>= f = f x
Overflow >>= f = Overflow
(Panels n) >>= f = Panels n

-- what is made of a picture or a part of one
abbrev pub outcome_map : {X Y : Type 0} → (X → Y) → Outcome X → Outcome Y
outcome_map f outcome = outcome >>= (λ x. Drawn (f x))

-- of numbers that may be out of range
abbrev pub in_reach : {X : Type 0} → Option X → Outcome X
in_reach (Some x) = Drawn x
in_reach None = Overflow

-- all of the parts, if each is drawn; else what comes of the first that isn't
abbrev pub all_drawn : {X : Type 0} → List (Outcome X) → Outcome (List X)
all_drawn [] = Drawn []
all_drawn (outcome ∷ outcomes) = do
  x ← outcome
  xs ← all_drawn outcomes
  Drawn (x ∷ xs)

-- it is drawn, and this holds of it
abbrev pub IsDrawn : {X : Type 0} → Outcome X → (X → Type 0) → Type 0
IsDrawn (Drawn x) P = P x
IsDrawn Overflow P = ⊥
IsDrawn (Panels n) P = ⊥
