-- The forms of words, and what they ask for.
use Rattle.std.specs.Prelude.{◌≡◌, refl, ℕ, ◌==◌, ◌&&◌, not, Bool, true, false, Option, Some, None, List, [], ◌∷◌, map, if◌then◌else◌}
use Rattle.std.specs.Prelude.{codes, String, string_bytes}
use Rattle.std.specs.Str.{bytes_eq}

-- what words ask for, with the name of the file of a specification
pub data Ask : Type 0 where
  -- the picture
  Render : List ℕ → Ask
  -- the replies to a script
  Play : List ℕ → Ask
  -- the text of its Vega specification
  Compile : List ℕ → Ask

-- the file that holds the specification
abbrev pub spec_name : Ask → List ℕ
spec_name (Render name) = name
spec_name (Play name) = name
spec_name (Compile name) = name

-- whether a script is read
abbrev pub reads_script : Ask → Bool
reads_script (Render name) = false
reads_script (Play name) = true
reads_script (Compile name) = false

-- a word that names a file: it isn't empty, and doesn't begin with `-`
abbrev pub is_file_name : List ℕ → Bool
is_file_name [] = false
is_file_name (first ∷ others) = not (first == 45)

-- `render SPEC`, `play SPEC` and `compile SPEC`
abbrev pub plainly_asked : List ℕ → List ℕ → Option Ask
plainly_asked word name =
    if bytes_eq word (codes "render") then Some (Render name)
    else (if bytes_eq word (codes "play") then Some (Play name)
    else (if bytes_eq word (codes "compile") then Some (Compile name)
    else None))

-- what words ask for: `render SPEC`, `play SPEC`, `play --plain SPEC` or `compile SPEC`; None where they are no form of words
abbrev pub asked_of : List (List ℕ) → Option Ask
asked_of (word ∷ name ∷ []) = if is_file_name name then plainly_asked word name else None
asked_of (word ∷ flag ∷ name ∷ []) =
    if bytes_eq word (codes "play") && bytes_eq flag (codes "--plain") && is_file_name name then Some (Play name) else None
asked_of words = None

-- the same of the program's words
abbrev pub asked_in : {Z : Type 0} → List (String Z) → Option Ask
asked_in words = asked_of (map string_bytes words)

-- The rules at work.

a_picture : asked_of (codes "render" ∷ codes "a.json" ∷ []) ≡ Some (Render (codes "a.json"))
a_picture = refl

a_script_over_the_plain_engine : asked_of (codes "play" ∷ codes "--plain" ∷ codes "a.json" ∷ []) ≡ Some (Play (codes "a.json"))
a_script_over_the_plain_engine = refl

a_vega_text : asked_of (codes "compile" ∷ codes "a.json" ∷ []) ≡ Some (Compile (codes "a.json"))
a_vega_text = refl

an_unknown_flag : asked_of (codes "play" ∷ codes "--fast" ∷ []) ≡ None
an_unknown_flag = refl

no_words : asked_of [] ≡ None
no_words = refl
