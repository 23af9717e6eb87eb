-- Lines whose end has not been read yet.
use Rattle.std.specs.Prelude.{◌≡◌, ◌≤◌, ◌<◌, ◌+◌, ◌==◌, ℕ, Bool, true, false, List, [], ◌∷◌, ◌++◌, length, take, if◌then◌else◌}
use Rattle.std.specs.List.{All}
use Rattle.param_flow.specs.Script.{lines_of, most_line_bytes, is_silent}
use Rattle.play_script.specs.declared.pending.Pending.{Pending}

-- a line without a carriage return at its end
abbrev pub without_last_return : List ℕ → List ℕ
without_last_return [] = []
without_last_return (b ∷ []) = if b == 13 then [] else b ∷ []
without_last_return (b ∷ c ∷ bs) = b ∷ without_last_return (c ∷ bs)

-- no byte is a line feed
abbrev pub HasNoFeed : List ℕ → Type 0
HasNoFeed = All (λ b. (b == 10) ≡ false)

-- Of some bytes of a script these lines have ended, and these bytes are those of the line that hasn't. Whatever bytes follow, these are the
-- lines.
pub record AreSplit (taken : List ℕ) (done : List (List ℕ)) (begun : List ℕ) : Type 0 where
  pub few : length done ≤ length taken
  pub no_feed : HasNoFeed begun
  pub lines : (rest : List ℕ) → lines_of (taken ++ rest) ≡ done ++ lines_of (begun ++ rest)

-- the line that bytes are before a line feed, or before the script's end
abbrev pub ended_by : Bool → List ℕ → List ℕ
ended_by true bytes = without_last_return bytes
ended_by false bytes = bytes

-- the first bytes of a line are kept, two more than a line may have
abbrev pub Keeps : Pending → List ℕ → Type 0
Keeps pending line = pending.first.items ≡ take (most_line_bytes + 2) line

-- bytes that show of a line all that a reply needs: the line, or that it is too long, and in both cases whether it is silent
pub record IsShownOf (line shown : List ℕ) : Type 0 where
  pub silence : is_silent shown ≡ is_silent line
  pub short : length shown ≤ most_line_bytes → shown ≡ line
  pub long : most_line_bytes < length shown → most_line_bytes < length line
