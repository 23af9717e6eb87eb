-- Channels of layers round a unit.
use Rattle.std.proofs.Common.{◌≡◌, ℕ, ◌+◌, ◌<◌, List, drop, get_or, length, sym, ap, ◌∙◌}
use Rattle.std.specs.List.{fold}
use Rattle.vl_spec.specs.declared.channels.ChannelOf.{ChannelOf}
use Rattle.vl_normalize.specs.Channels.{with_around}
use Rattle.vl_compose.specs.declared.here.ViewHere.{ViewHere}
use Rattle.vl_compose.specs.Rounds.{ViewAt, Round}
use Rattle.vl_compose.specs.Shown.{round_shown, view_shown}
use Rattle.vl_compose.specs.Units.{own_channels}
use Rattle.vl_rules.proofs.ShownLemmas.{next_shown}

-- the channels at the last of some views, where those at the view before them are these
abbrev pub channels_from : List ChannelOf → Round → List ChannelOf
channels_from channels round = fold (λ around (v : ViewAt). with_around (own_channels v.kind) around) channels round

-- one more view
pub one_more_view : (round : List ViewHere) (n : ℕ) (here : ViewHere) (channels new whole : List ChannelOf) → n < length round → here ≡ get_or round n here →
    new ≡ with_around (own_channels (view_shown here).kind) channels →
    channels_from channels (drop n (round_shown round)) ≡ whole → channels_from new (drop (n + 1) (round_shown round)) ≡ whole
one_more_view round n here channels new whole within is added so_far =
    ap (λ cs. channels_from cs (drop (n + 1) (round_shown round))) added
    ∙ ap (channels_from channels) (sym (next_shown round n here within is))
    ∙ so_far
