-- The text of a field, character by character.
use Rattle.std.specs.Prelude.{ℕ, ◌==◌, Bool, true, false, List, [], ◌∷◌, ◌++◌, encode_utf8, if◌then◌else◌}
use Rattle.vl_building.specs.Fields.{BACKSLASH, is_mark}

-- a `\` that waits
abbrev pub waiting : Bool → List ℕ
waiting true = BACKSLASH ∷ []
waiting false = []

-- what a character adds behind one that waits or not
abbrev pub stepped : Bool → ℕ → List ℕ
stepped waits c =
    if is_mark c then encode_utf8 c
    else (if c == BACKSLASH then waiting waits else waiting waits ++ encode_utf8 c)

-- what bytes give behind a `\` that waits or not
abbrev pub waits_behind : Bool → List ℕ → List ℕ
waits_behind waits [] = waiting waits
waits_behind waits (c ∷ others) =
    if is_mark c then c ∷ waits_behind false others
    else (if c == BACKSLASH then waiting waits ++ waits_behind true others
    else waiting waits ++ c ∷ waits_behind false others)
