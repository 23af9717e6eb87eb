-- The legends of a copy of an object, channel by channel.
use Rattle.std.proofs.Common.{◌≡◌, ℕ, ◌+◌, ◌<◌, ◌≤◌, List, [], ◌∷◌, ◌++◌, length, drop, get_or, Option, Some, None, sym, ap, ◌∙◌}
use Rattle.std.specs.List.{filter_map, flat_map, cons_option, enumerate_from}
use Rattle.std.specs.Option.{option_to_list}
use Rattle.std.proofs.lemmas.List.{append-nil, append_assoc, drop_more, at_drop_all}
use Rattle.fixed_num.specs.Ranges.{◌>>=◌}
use Rattle.vega_spec.specs.declared.guides.Legend.{Legend}
use Rattle.vega_guides.specs.declared.channels.LegendChannel.{LegendChannel}
use Rattle.vega_guides.specs.Legends.{scale_shown, legend_shown}
use Rattle.plot_scenes.specs.declared.legends.LegendShown.{LegendShown}
use Rattle.vega_drawing.specs.Scales.{ScaleHere, scale_named, laid_over}
use Rattle.vega_drawing.specs.Frames.{Frame}
use Rattle.vega_drawing.specs.Guides.{legend_in_channel, legend_channels}

module _ (object : ℕ) (frame : Frame) (index : ℕ) (l : Legend) (place : ℕ) (channel : LegendChannel) where
  abbrev pub legend_over : ScaleHere → LegendShown
  legend_over s = record {
    channel = place;
    object = object;
    index = index;
    legend = legend_shown channel l;
    scale = laid_over frame.width frame.height s;
  }

  -- a legend that names no scale, or one that no scale has
  pub no_name : scale_shown channel l ≡ None → legend_in_channel object frame (index, l) (place, channel) ≡ None
  no_name e = ap (λ o. o >>= λ name. scale_named frame.scales name >>= λ s. Some (legend_over s)) e

  pub no_scale : (name : List ℕ) → scale_shown channel l ≡ Some name → scale_named frame.scales name ≡ None
      → legend_in_channel object frame (index, l) (place, channel) ≡ None
  no_scale name e none = ap (λ o. o >>= λ name. scale_named frame.scales name >>= λ s. Some (legend_over s)) e ∙ ap (λ o. o >>= λ s. Some (legend_over s)) none

  pub one_legend : (name : List ℕ) (s : ScaleHere) → scale_shown channel l ≡ Some name → scale_named frame.scales name ≡ Some s
      → legend_in_channel object frame (index, l) (place, channel) ≡ Some (legend_over s)
  one_legend name s e found =
      ap (λ o. o >>= λ name. scale_named frame.scales name >>= λ s. Some (legend_over s)) e ∙ ap (λ o. o >>= λ s. Some (legend_over s)) found

-- a legend in each channel in which it names a scale
abbrev pub in_channels : ℕ → Frame → ℕ × Legend → List LegendShown
in_channels object frame l = filter_map (legend_in_channel object frame l) legend_channels

-- nothing is added
pub none_listed : {X : Type 0} (o : Option X) (old : List X) → o ≡ None → old ≡ old ++ option_to_list o
none_listed o old none = sym (append-nil old) ∙ ap (λ o. old ++ option_to_list o) (sym none)

-- what may be added comes before others
listed_before : {X : Type 0} (o : Option X) (old rest : List X) → (old ++ option_to_list o) ++ rest ≡ old ++ cons_option o rest
listed_before None old rest = ap (λ l. l ++ rest) (append-nil old)
listed_before (Some x) old rest = append_assoc old (x ∷ []) rest

pub four_listed : {X : Type 0} (a b c d : Option X) (old : List X)
    → (((old ++ option_to_list a) ++ option_to_list b) ++ option_to_list c) ++ option_to_list d
    ≡ old ++ cons_option a (cons_option b (cons_option c (cons_option d [])))
four_listed a b c d old =
    sym (append-nil ((((old ++ option_to_list a) ++ option_to_list b) ++ option_to_list c) ++ option_to_list d))
    ∙ listed_before d (((old ++ option_to_list a) ++ option_to_list b) ++ option_to_list c) []
    ∙ listed_before c ((old ++ option_to_list a) ++ option_to_list b) (cons_option d [])
    ∙ listed_before b (old ++ option_to_list a) (cons_option c (cons_option d []))
    ∙ listed_before a old (cons_option b (cons_option c (cons_option d [])))

-- what the elements of a list give by their places
module _ {X Y : Type 0} (f : ℕ × X → List Y) (xs : List X) (i : ℕ) where
  pub next_enumerated : (x : X) (old new whole : List Y) → i < length xs → x ≡ get_or xs i x
      → old ++ flat_map f (enumerate_from i (drop i xs)) ≡ whole → new ≡ old ++ f (i, x)
      → new ++ flat_map f (enumerate_from (i + 1) (drop (i + 1) xs)) ≡ whole
  next_enumerated x old new whole within is before adds =
      ap (λ l. l ++ flat_map f (enumerate_from (i + 1) (drop (i + 1) xs))) adds
      ∙ append_assoc old (f (i, x)) (flat_map f (enumerate_from (i + 1) (drop (i + 1) xs)))
      ∙ ap (λ l. old ++ flat_map f (enumerate_from i l)) (sym (drop_more xs i x within ∙ ap (λ y. y ∷ drop (i + 1) xs) (sym is)))
      ∙ before

  pub all_enumerated : (old whole : List Y) → length xs ≤ i → old ++ flat_map f (enumerate_from i (drop i xs)) ≡ whole → old ≡ whole
  all_enumerated old whole past before =
      sym (append-nil old) ∙ ap (λ l. old ++ l) (sym (at_drop_all (λ l. flat_map f (enumerate_from i l)) xs i past)) ∙ before

-- four that may be added, one after the other
pub four_pushed : {X : Type 0} (a b c d : Option X) (old first second third new : List X) → first ≡ old ++ option_to_list a
    → second ≡ first ++ option_to_list b → third ≡ second ++ option_to_list c → new ≡ third ++ option_to_list d
    → new ≡ old ++ cons_option a (cons_option b (cons_option c (cons_option d [])))
four_pushed a b c d old first second third new one two three four =
    four ∙ ap (λ l. l ++ option_to_list d) (three ∙ ap (λ l. l ++ option_to_list c) (two ∙ ap (λ l. l ++ option_to_list b) one))
    ∙ four_listed a b c d old
