-- Files of a folder: their bytes and what they say, or why they are refused.
use Rattle.std.specs.Prelude.{◌≡◌, refl, ℕ, ◌^◌, nat_le, Option, Some, None, List, [], ◌∷◌, length, Result, Ok, Err, if◌then◌else◌, codes}
use Rattle.std.specs.Result.{result_map_both}
use Rattle.fixed_num.specs.Steps.{◌>>=◌}
use Rattle.json_exact.specs.declared.json.Json.{Json}
use Rattle.chart_io.specs.Outside.{Files, file_of}
use Rattle.chart_opening.specs.declared.refusal.Refusal.{Refusal}
use Rattle.chart_opening.specs.declared.refusal.Refusal.TheVariants as refusal
use Rattle.chart_opening.specs.Texts.{Reading}

-- how many bytes a file may have: 16 MiB
abbrev pub most_bytes : ℕ
most_bytes = 2 ^ 24

-- the bytes of a file of this name, as the folder tells it: it has to be there, and not to be too long
abbrev pub bytes_in : List ℕ → Option (List ℕ) → Result (List ℕ) Refusal
bytes_in name None = Err (refusal.Missing name)
bytes_in name (Some bytes) = if nat_le (length bytes) most_bytes then Ok bytes else Err (refusal.Size name)

abbrev pub bytes_of : Files → List ℕ → Result (List ℕ) Refusal
bytes_of files name = bytes_in name (file_of files name)

-- the tree of bytes that a file of this name has
abbrev pub tree_in : Reading → List ℕ → List ℕ → Result Json Refusal
tree_in reading name bytes = result_map_both (λ tree. tree) (λ place. refusal.Json name place) (reading bytes)

-- the tree of a file
abbrev pub tree_of_file : Reading → Files → List ℕ → Result Json Refusal
tree_of_file reading files name = bytes_of files name >>= λ bytes. tree_in reading name bytes

-- The rules at work.

no_file : bytes_of ((codes "a", 1 ∷ []) ∷ []) (codes "b") ≡ Err (refusal.Missing (codes "b"))
no_file = refl

a_short_file : bytes_of ((codes "a", 1 ∷ []) ∷ []) (codes "a") ≡ Ok (1 ∷ [])
a_short_file = refl
