-- Units by their numbers.
use Rattle.std.proofs.Common.{◌≡◌, ℕ, ◌≤◌, List, ◌++◌, map, length, None, option_map, option_to_list, sym, ap, ◌∙◌}
use Rattle.std.proofs.lemmas.List.{append-nil}
use Rattle.std.proofs.lemmas.Option.{slice_get-map, slice_get_past}
use Rattle.vl_compose.specs.declared.here.UnitHere.{UnitHere}
use Rattle.vl_compose.specs.Shown.{unit_shown}
use Rattle.scale_infer.specs.declared.sharers.Sharer.{Sharer}
use Rattle.scale_infer.specs.Scales.{sharer_of, sharer_at}

-- past the last unit there is none
none_past : (units : List UnitHere) (channel number : ℕ) → length units ≤ number
    → sharer_at (map unit_shown units) channel number ≡ option_map (sharer_of channel) None
none_past units channel number past =
    ap (option_map (sharer_of channel)) (slice_get-map unit_shown units number ∙ ap (option_map unit_shown) (slice_get_past units number past))

-- so nothing is added for it
pub nothing_more : (units : List UnitHere) (channel number : ℕ) (sharers : List Sharer) → length units ≤ number
    → sharers ≡ sharers ++ option_to_list (sharer_at (map unit_shown units) channel number)
nothing_more units channel number sharers past =
    sym (ap (λ o. sharers ++ option_to_list o) (none_past units channel number past) ∙ append-nil sharers)
