-- How many fields are read.
use Rattle.std.proofs.Common.{◌≡◌, ℕ, ◌+◌, ◌≤◌, Some, List, [], length, ap, arith}
use Rattle.std.specs.Option.{unwrap_or}
use Rattle.selection_events.specs.declared.selection.SelectionOf.{SelectionOf}
use Rattle.vega_events.specs.Premises.{count_kept}

pub of_click : (s : SelectionOf) (fields : List (List ℕ)) (old new : ℕ) → s.click ≡ Some fields → new ≤ old + length fields → new ≤ old + count_kept s
of_click s fields old new is few =
    let same : length (unwrap_or s.click []) ≡ length fields = ap (λ o. length (unwrap_or o [])) is in grind arith

pub of_toggle : (s : SelectionOf) (fields : List (List ℕ)) (old new : ℕ) → s.toggle ≡ Some fields → new ≤ old + length fields → new ≤ old + count_kept s
of_toggle s fields old new is few =
    let same : length (unwrap_or s.toggle []) ≡ length fields = ap (λ o. length (unwrap_or o [])) is in grind arith
