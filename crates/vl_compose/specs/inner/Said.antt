-- What is said of a channel.
use Rattle.std.specs.Prelude.{ℕ, ◌==◌, Option, List, find}
use Rattle.std.specs.Option.{option_map}
use Rattle.vl_spec.specs.declared.sizes.Sharing.{Sharing}
use Rattle.vl_spec.specs.declared.sizes.SharingOf.{SharingOf}

-- the first entry of the channel
abbrev pub said_among : List SharingOf → ℕ → Option Sharing
said_among entries code = option_map (λ (s : SharingOf). s.sharing) (find (λ (s : SharingOf). s.channel == code) entries)
