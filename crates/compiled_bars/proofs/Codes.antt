-- What is asked of the codes and the expressions in bars.
use Rattle.std.proofs.Common.{ℕ, List, arith}
use Rattle.std.specs.Prelude.{IfSome, None, replicate}
use Rattle.json_exact.specs.declared.json.Json.{Json}
use Rattle.vega_spec.specs.declared.spec.Group.{Group, roll-Group}
use Rattle.vega_spec.specs.declared.spec.VgMark.{roll-VgMark}
use Rattle.vega_model.specs.Codes.{Asked, Each, OfSpec, OfGroup, OfMark, OfChannel, OfChannels}
use Rattle.vega_model.specs.RoundTrip.{asked_codes, asked_readings, HasCodes, HasReadings}
use Rattle.compiled_bars.specs.Bars.{bars_over, bars_mark, channels, no_group, width}
use Rattle.compiled_bars.proofs.Width.{width_is_read}

-- a mark that is no group has none of a group's members
of_none : (asked : Asked) → OfGroup asked (roll-Group no_group)
unfolding roll-Group denote.Hole.Carrier.roll
of_none asked = (tt, tt, tt, tt)

-- five channels are there, and fifteen are not
of_channels : (asked : Asked) (x y : List ℕ) → OfChannels asked (channels x y)
of_channels asked x y =
    let here : Unit {0} × Unit {0} = (tt, tt) in
    let behind : Each (λ o. IfSome o (OfChannel asked)) (replicate 11 None) =
    (tt, (tt, (tt, (tt, (tt, (tt, (tt, (tt, (tt, (tt, (tt, tt))))))))))) in
    (here, (tt, (tt, (here, (here, (here, (tt, (tt, (here, behind)))))))))

of_mark : (asked : Asked) (name x y : List ℕ) → OfMark asked (roll-VgMark (bars_mark name x y))
unfolding roll-VgMark denote.Hole.Carrier.roll
of_mark asked name x y = ((tt, of_channels asked x y), of_none asked)

-- two types of scales and one expression are asked for
of_bars : (asked : Asked) (name x y : List ℕ) (values : Json) → asked.scale_type 2 → asked.scale_type 0 → asked.expression width →
    OfSpec asked (bars_over name x y values)
unfolding roll-Group denote.Hole.Carrier.roll Rattle.vega_spec.specs.declared.spec.Group.TheBlock.hidden-the_row-VgMark-0
    denote.Hole.Carrier.hidden
of_bars asked name x y values band linear expression = (
  ((tt, tt), tt, ((band, tt, tt), ((linear, tt, tt), tt)), (of_mark asked name x y, tt)),
  expression,
  tt,
)

pub codes_are : (name x y : List ℕ) (values : Json) → HasCodes (bars_over name x y values)
codes_are name x y values = of_bars asked_codes name x y values (omega arith) (omega arith) tt

pub readings_are : (name x y : List ℕ) (values : Json) → HasReadings (bars_over name x y values)
readings_are name x y values = of_bars asked_readings name x y values tt tt width_is_read
