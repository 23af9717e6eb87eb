-- Steps that may stop, one after another.
use Rattle.std.specs.Prelude.{Result, Ok, Err}

-- the next step goes on from what this one gave; where this one stopped, the whole stops there
infixl 10 ◌>>=◌
abbrev pub ◌>>=◌ : {A B E : Type 0} → Result A E → (A → Result B E) → Result B E
(Ok x) >>= f = f x
(Err e) >>= f = Err e
