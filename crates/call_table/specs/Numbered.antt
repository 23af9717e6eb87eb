-- Rows whose keys are counted.
use Rattle.std.specs.Prelude.{ℕ, ◌<◌, ◌≤◌, ◌+◌, ◌*◌, List, length, All, AllPairs}
use Rattle.cell_value.specs.declared.state.Key.{Key}
use Rattle.cell_value.specs.declared.state.Keyed.{Keyed}
use Rattle.plain_rows.specs.Rows.{IsBefore, keys_of}

-- rising keys, at most as many as a number, which two for each id and the branch stay below
pub record AreNumbered (n : ℕ) (keys : List Key) : Type 0 where
  pub rise : AllPairs IsBefore keys
  pub below : All (λ (key : Key). 2 * key.id + key.branch < n) keys
  pub branches : All (λ (key : Key). key.branch < 2) keys
  pub count : length keys ≤ n

-- the branches of rows are below a number
abbrev pub BranchesBelow : ℕ → List Keyed → Type 0
BranchesBelow most rows = All (λ (key : Key). key.branch < most) (keys_of rows)
