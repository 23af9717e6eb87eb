-- Labels as the code writes them, character by character. No public clause cites this.
use Rattle.std.specs.Prelude.{◌≡◌, ℕ, Bool, List, ◌∷◌, ◌++◌, ℤ, Option, Some, None, option_map, false, Result, Ok, Err}
use Rattle.std.specs.List.{flat_map}
use Rattle.std.specs.Option.{is_some}
use Rattle.time_calc.specs.declared.labels.LabelError.{LabelError}
use Rattle.time_calc.specs.declared.labels.LabelError.TheVariants as fault
use Rattle.time_calc.specs.declared.directives.Written.{Written}
use Rattle.time_calc.specs.declared.directives.Written.TheVariants.{Digits, Name}
use Rattle.time_calc.specs.Labels.{pieces, piece_text, digits}

-- what is written of a directive
abbrev pub written_text : Written → List ℕ
written_text (Digits places number) = digits places number
written_text (Name name) = name.now

-- the text of the pieces of some characters
unfoldable pub text_of : ℤ → Bool → List ℕ → Option (List ℕ)
text_of instant after_percent cs = option_map (flat_map (piece_text instant)) (pieces after_percent cs)

-- a text was made longer by what a character adds; it answers whether a percent sign stands before the next
abbrev pub Adds : ℤ → Bool → ℕ → List ℕ → List ℕ → Result Bool LabelError → Type 0
Adds instant after_percent c old new (Ok next) =
    (rest : List ℕ) → option_map (λ t. old ++ t) (text_of instant after_percent (c ∷ rest)) ≡ option_map (λ t. new ++ t) (text_of instant next rest)
Adds instant after_percent c old new (Err fault.Pattern) = (rest : List ℕ) → text_of instant after_percent (c ∷ rest) ≡ None
Adds instant after_percent c old new (Err fault.Instant) = ⊥
Adds instant after_percent c old new (Err fault.Memory) = Unit {0}

-- an answer is a text, or its fault is the pattern's where there is none
abbrev pub Labels : Option (List ℕ) → Result (List ℕ) LabelError → Type 0
Labels given (Ok text) = given ≡ Some text
Labels given (Err fault.Pattern) = given ≡ None
Labels given (Err fault.Instant) = ⊥
Labels given (Err fault.Memory) = Unit {0}

-- what a character leaves to the next: whether that belongs to a percent sign before it; none where the character is no letter of a directive
abbrev pub IsAfter : Bool → ℕ → Option Bool → Type 0
IsAfter after_percent c (Some next) = (rest : List ℕ) → is_some (pieces after_percent (c ∷ rest)) ≡ is_some (pieces next rest)
IsAfter after_percent c None = (rest : List ℕ) → is_some (pieces after_percent (c ∷ rest)) ≡ false
