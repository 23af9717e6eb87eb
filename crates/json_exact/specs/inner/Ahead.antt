-- What is ahead of a reader of values, by the place where it is. No clause needs more of it than how it goes on.
use Rattle.std.specs.Prelude.{ℕ, zero, suc, ◌-◌, ◌==◌, List, [], ◌∷◌, length, drop, Result, Ok, Err, Option, Some, None, if◌then◌else◌}
use Rattle.fixed_num.specs.Steps.{◌>>=◌}
use Rattle.fixed_num.specs.Front.{first, stop}
use Rattle.json_exact.specs.declared.json.Json.{Json}
use Rattle.json_exact.specs.declared.value_reader.Stage.{Stage}
use Rattle.json_exact.specs.declared.value_reader.Stage.TheVariants as stage
use Rattle.json_exact.specs.inner.Reader.{skip_white, padded_at, value_at, run_at, text_at}

-- nothing may be left behind
abbrev pub end_at : {A : Type 0} → A → List ℕ → Result A ℕ
end_at x rest = if length rest == 0 then Ok x else stop rest

-- the values that are still to come, no more than so many of them
abbrev pub left_ahead : Stage → ℕ → List ℕ → Result (List Json) ℕ
left_ahead stage.End most rest = end_at [] rest
left_ahead stage.Whole zero rest = stop rest
left_ahead stage.Whole (suc most) rest = text_at rest >>= λ tree. Ok (tree ∷ [])
left_ahead stage.Items most rest = run_at 93 (λ done. padded_at (value_at 127)) most [] rest >>= λ x. end_at x.0 (skip_white x.1)

-- an item of a list, and what follows it
abbrev pub item_then : List ℕ → Result (Json × Stage × List ℕ) ℕ
item_then bytes = do
  x ← padded_at (value_at 127) bytes
  if first x.1 == 44 then Ok (x.0, stage.Items, drop 1 x.1)
      else (if first x.1 == 93 then Ok (x.0, stage.End, skip_white (drop 1 x.1)) else stop x.1)

-- the next value, and what follows it
abbrev pub step_at : Stage → ℕ → List ℕ → Result (Option (Json × Stage × List ℕ)) ℕ
step_at stage.End most rest = end_at None rest
step_at stage.Whole zero rest = stop rest
step_at stage.Whole (suc most) rest = text_at rest >>= λ tree. Ok (Some (tree, stage.End, []))
step_at stage.Items zero rest = stop rest
step_at stage.Items (suc most) rest = item_then rest >>= λ x. Ok (Some x)

-- a fault is told by how many bytes are left at it
abbrev pub placed : {A : Type 0} → ℕ → Result A ℕ → Result A ℕ
placed size (Ok x) = Ok x
placed size (Err left) = Err (size - left)
