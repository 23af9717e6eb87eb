-- The channels of a drag have scales.
use Rattle.std.proofs.Common.{◌≡◌, ℕ, Bool, true, false, cond, Option, Some, None, List, [], ◌∷◌, map, get_or, subst, sym}
use Rattle.std.specs.Prelude.{IfSome}
use Rattle.std.specs.Option.{option_map, option_or}
use Rattle.std.specs.List.{All, find}
use Rattle.std.proofs.lemmas.List.Elements.{All-head, All-tail, All-map}
use Rattle.fixed_num.specs.Ranges.{◌>>=◌}
use Rattle.scale_kit.specs.declared.scale.Scale.{Scale}
use Rattle.scale_kit.specs.declared.scale.ScaleIn.{ScaleIn}
use Rattle.scale_kit.specs.declared.scale.ScaleSet.{ScaleSet}
use Rattle.scale_kit.specs.Scale.{IsScale, AreScales}
use Rattle.selection_events.specs.declared.drags.ChannelHere.{ChannelHere}
use Rattle.selection_events.specs.Drags.{HasScale}
use Rattle.selection_events.specs.Events.{channel_here}
use Rattle.vega_selections.specs.declared.selections.VgSelection.{VgSelection}
use Rattle.vega_events.specs.Scales.{is_of_panel, is_of_chart, scale_in, scale_name, inverted_by}

find_step : {X : Type 0} (P : X → Type 0) (b : Bool) (x : X) (o : Option X) → P x → IfSome o P → IfSome (cond b (Some x) o) P
find_step P true x o here later = here
find_step P false x o here later = later

all_find : {X : Type 0} (P : X → Type 0) (test : X → Bool) (xs : List X) → All P xs → IfSome (find test xs) P
all_find P test [] h = _
all_find P test (x ∷ xs) h = find_step P (test x) x (find test xs) (All-head P x xs h) (all_find P test xs (All-tail P x xs h))

either_has : (a b : Option ScaleIn) → IfSome a (λ s. IsScale s.scale) → IfSome b (λ s. IsScale s.scale)
    → IfSome (option_map (λ (s : ScaleIn). s.scale) (option_or a b)) IsScale
either_has None None h k = _
either_has None (Some s) h k = k
either_has (Some s) b h k = h

scale_in_is : (set : ScaleSet) (index : ℕ) (name : List ℕ) → AreScales set → IfSome (scale_in set index name) IsScale
scale_in_is set index name h =
    either_has (find (is_of_panel index name) set.scales) (find (is_of_chart name) set.scales)
    (all_find (λ (s : ScaleIn). IsScale s.scale) (is_of_panel index name) set.scales h)
    (all_find (λ (s : ScaleIn). IsScale s.scale) (is_of_chart name) set.scales h)

then_has : (o : Option (List ℕ)) (f : List ℕ → Option Scale) → ((name : List ℕ) → IfSome (f name) IsScale) → IfSome (o >>= f) IsScale
then_has None f h = _
then_has (Some name) f h = h name

-- each channel of a selection has a scale that is one, if it has some
pub channels_have_scales : (set : ScaleSet) (v : VgSelection) (index : ℕ) (channels : List ChannelHere) → AreScales set
    → channels ≡ map (channel_here (inverted_by set v) index v.selection) v.selection.drag → All HasScale channels
channels_have_scales set v index channels h is =
    subst (All HasScale) (sym is)
    (All-map HasScale (channel_here (inverted_by set v) index v.selection) v.selection.drag
    (λ k d below. then_has (scale_name v (get_or v.selection.drag k d).channel) (scale_in set index) (λ name. scale_in_is set index name h)))

-- what a drag inverts is a scale
pub inverted_is_scale : (set : ScaleSet) (v : VgSelection) (index : ℕ) (name channel : List ℕ) (found : Option Scale) → AreScales set
    → found ≡ inverted_by set v index name channel → IfSome found IsScale
inverted_is_scale set v index name channel found h is =
    subst (λ o. IfSome o IsScale) (sym is) (then_has (scale_name v channel) (scale_in set index) (λ other. scale_in_is set index other h))
