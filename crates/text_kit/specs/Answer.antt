-- What a call answers, where memory may be refused.
use Rattle.std.specs.Prelude.{◌≡◌, Option, Some, None, Result, Ok, Err}

-- the error is this cause; None stands for refused memory, which is always free
abbrev pub IsFault : {Y F : Type 0} → Option F → Result Y F → Type 0
IsFault None given = Unit {0}
IsFault (Some fault) given = given ≡ Err fault

-- What was answered, seen by view, is what the definition gives, unless memory was refused.
-- cause says which fault an error of the program stands for, None where it is refused memory.
abbrev pub GivesAs : {X E Y F : Type 0} → (X → Y) → (E → Option F) → Result X E → Result Y F → Type 0
GivesAs view cause (Ok x) given = given ≡ Ok (view x)
GivesAs view cause (Err e) given = IsFault (cause e) given
