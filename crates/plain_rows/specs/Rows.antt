-- Lists of keyed rows.
use Rattle.std.specs.Prelude.{◌≡◌, refl, ℕ, [], ◌*◌, ◌^◌, ◌<◌, ◌≤◌, ◌⊎◌, List, map, length, All, AllPairs}
use Rattle.std.proofs.Common.{inl, inr, lit≤, arith}
use Rattle.cell_value.specs.declared.state.Key.{Key}
use Rattle.cell_value.specs.declared.state.Keyed.{Keyed}
use Rattle.cell_value.specs.State.{greatest_id}

-- one key stands before another: its id is less, or it has the same id and a lesser branch
abbrev pub IsBefore : Key → Key → Type 0
IsBefore a b = (a.id < b.id) ⊎ ((a.id ≡ b.id) × (a.branch < b.branch))

-- how many rows a list may have
abbrev pub most_listed : ℕ
most_listed = 16 * 10 ^ 5

-- the keys of a list of rows: they rise, their ids are those that rows may have, and there are not too many
pub record AreKeys (keys : List Key) : Type 0 where
  pub rise : AllPairs IsBefore keys
  pub small_ids : All (λ (key : Key). key.id ≤ greatest_id) keys
  pub few : length keys ≤ most_listed

abbrev pub keys_of : List Keyed → List Key
keys_of rows = map (λ (keyed : Keyed). keyed.key) rows

-- a list of rows, as every call takes and gives it
abbrev pub AreRows : List Keyed → Type 0
AreRows rows = AreKeys (keys_of rows)

-- The rules at work.

abbrev key : ℕ → ℕ → Key
key id branch = record { id = id; branch = branch }

keys_of_two_rows : IsBefore (key 1 5) (key 2 0)
keys_of_two_rows = inl (omega arith)

keys_of_one_folded_row : IsBefore (key 2 0) (key 2 1)
keys_of_one_folded_row = inr (refl, omega arith)

no_rows : AreRows []
no_rows = record {
  rise = λ i j key less below. absurd (omega (arith, below));
  small_ids = λ k key below. absurd (omega (arith, below));
  few = lit≤ tt;
}
