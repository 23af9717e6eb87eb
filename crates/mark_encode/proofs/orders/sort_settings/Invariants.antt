use Rattle.std.proofs.Common.{◌≡◌, ◌++◌, drop, map}
use Rattle.std.specs.List.{enumerate_from}
use Rattle.mark_encode.specs.Orders.{setting_of}
use Rattle.mark_encode.proofs.orders.sort_settings.Given as goal

abbrev pub invariant-loop-place : goal.invariant-loop-place
invariant-loop-place l =
    l.settings ++ map (setting_of l.directions) (enumerate_from l.place (drop l.place l.fields))
    ≡ map (setting_of l.directions) (enumerate_from 0 l.fields)
