use Rattle.std.proofs.Common.{◌≡◌, drop}
use Rattle.std.specs.Prelude.{is_none}
use Rattle.std.specs.List.{position_from}
use Rattle.vl_names.specs.Params.{unknown_view}
use Rattle.vl_names.specs.inner.Keyed.{number_at}
use Rattle.vl_names.proofs.params.unknown_view.Given as goal

abbrev pub invariant-loop-number : goal.invariant-loop-number
invariant-loop-number l = position_from (λ name. is_none (number_at l.index name)) l.number (drop l.number l.names)
    ≡ unknown_view (number_at l.index) l.names
