-- Channels in the program.
use Rattle.mark_encode.specs.declared.looks.LookChannels.{LookChannels}
use Rattle.mark_encode.specs.declared.places.PlaceChannels.{PlaceChannels}
use Rattle.mark_encode.specs.declared.prepared.Styles.{Styles}
use Rattle.mark_encode.specs.declared.rules.EndChannels.{EndChannels}
use Rattle.mark_encode.specs.declared.rules.RuleChannels.{RuleChannels}
use Rattle.mark_encode.specs.declared.spans.Along.{Along}
use Rattle.mark_encode.specs.declared.symbols.SymbolChannels.{SymbolChannels}
use Rattle.mark_encode.specs.declared.texts.TextChannels.{TextChannels}
use Rattle.mark_encode.specs.Looks.{LookValues}
use Rattle.mark_encode.specs.Places.{PlaceValues}
use Rattle.mark_encode.specs.Rules.{EndValues, RuleValues}
use Rattle.mark_encode.specs.Spans.{AlongValues}
use Rattle.mark_encode.specs.Symbols.{SymbolValues}
use Rattle.mark_encode.specs.Texts.{StyleValues, TextValues}
use Rattle.mark_encode.specs.inner.Scaled.{scaled_all}

-- the values in the channels of one direction
abbrev pub along_values : Along → AlongValues
along_values a = record { near = scaled_all a.near.values; far = scaled_all a.far.values; middle = scaled_all a.middle.values; size = scaled_all a.size.values }

abbrev pub place_values : PlaceChannels → PlaceValues
place_values a = record { near = scaled_all a.near.values; middle = scaled_all a.middle.values }

abbrev pub end_values : EndChannels → EndValues
end_values a = record { near = scaled_all a.near.values; far = scaled_all a.far.values; whole = a.whole }

-- the values in the channels that say how an item is painted
abbrev pub look_values : LookChannels → LookValues
look_values a = record {
  fill = scaled_all a.fill.values;
  stroke = scaled_all a.stroke.values;
  stroke_width = scaled_all a.stroke_width.values;
  opacity = scaled_all a.opacity.values;
}

-- the values in the channels of a rule, of a symbol and of a text
abbrev pub rule_values : RuleChannels → RuleValues
rule_values a = record { across = end_values a.across; down = end_values a.down }

abbrev pub symbol_values : SymbolChannels → SymbolValues
symbol_values a = record {
  across = place_values a.across;
  down = place_values a.down;
  size = scaled_all a.size.values;
  shape = scaled_all a.shape.values;
}

abbrev pub style_values : Styles → StyleValues
style_values a = record { size = scaled_all a.size; align = scaled_all a.align; baseline = scaled_all a.baseline }

abbrev pub text_values : TextChannels → TextValues
text_values a = record {
  across = place_values a.across;
  down = place_values a.down;
  dx = scaled_all a.dx.values;
  dy = scaled_all a.dy.values;
  style = style_values a.style;
  words = scaled_all a.words;
}
