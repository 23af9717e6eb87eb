-- Sets of scales that stand within others.
use Rattle.std.proofs.Common.{◌≡◌, ℕ, ℤ, Bool, true, false, cond, List, [], ◌∷◌, ◌++◌, map, Bor, refl, sym, ap, ◌∙◌, subst}
use Rattle.std.specs.Prelude.{not, ◌||◌}
use Rattle.std.specs.List.{filter}
use Rattle.std.specs.Str.{bytes_eq}
use Rattle.std.proofs.lemmas.List.{map-append}
use Rattle.std.proofs.lemmas.List.Elements.{All-append, All-filter}
use Rattle.scale_kit.specs.Scale.{IsPixel, IsScale, AreScales}
use Rattle.scale_kit.specs.declared.scale.ScaleIn.{ScaleIn}
use Rattle.scale_kit.specs.declared.scale.ScaleSet.{ScaleSet}
use Rattle.mark_encode.specs.Channels.{is_named, scales_within}
use Rattle.vega_drawing.specs.declared.frames.Frame.{Frame as HeldFrame}
use Rattle.vega_drawing.specs.declared.scales.ScaleHere.{ScaleHere as HeldScale}
use Rattle.vega_drawing.specs.declared.scales.ScaleKept.{ScaleKept}
use Rattle.vega_drawing.specs.Scales.{ScaleHere, name_of, has_scale, and_outer, scale_in, set_of}
use Rattle.vega_drawing.specs.inner.Framed.{IsFrame}
use Rattle.vega_drawing.specs.inner.Kept.{kept_seen, scale_seen, AreKeptScales}

module _ (width height : ℤ) (own : List ScaleHere) where
  -- scales in a plot have their names
  named_alike : (own : List ScaleHere) (name : List ℕ) → is_named (set_of width height own) name ≡ has_scale own name
  named_alike [] name = refl
  named_alike (s ∷ others) name = ap (λ b. bytes_eq (name_of s) name || b) (named_alike others name)

  abbrev is_shown : ScaleIn → Bool
  is_shown made = not (is_named (set_of width height own) made.name)

  either : (a b : Bool) (s : ScaleHere) (made : List ScaleIn) (shown : List ScaleHere) → a ≡ b → made ≡ map (scale_in width height) shown
      → cond a (scale_in width height s ∷ made) made ≡ map (scale_in width height) (cond b (s ∷ shown) shown)
  either true true s made shown e is = ap (λ l. scale_in width height s ∷ l) is
  either false false s made shown e is = is
  either true false s made shown e is = absurd (cc)
  either false true s made shown e is = absurd (cc)

  -- the outer ones that aren't hidden
  shown_alike : (outer : List ScaleHere) → filter is_shown (map (scale_in width height) outer)
      ≡ map (scale_in width height) (filter (λ s. not (has_scale own (name_of s))) outer)
  shown_alike [] = refl
  shown_alike (s ∷ others) =
      either (is_shown (scale_in width height s)) (not (has_scale own (name_of s))) s (filter is_shown (map (scale_in width height) others))
      (filter (λ s. not (has_scale own (name_of s))) others) (ap not (named_alike own (name_of s))) (shown_alike others)

  -- own scales in a plot within the outer ones are all that have names
  pub set_within : (outer : List ScaleHere)
      → scales_within (set_of width height own) (set_of width height outer) ≡ set_of width height (and_outer outer own)
  set_within outer = λ i. record { scales = all i }
    where
      all : map (scale_in width height) own ++ filter is_shown (map (scale_in width height) outer)
          ≡ map (scale_in width height) (and_outer outer own)
      all =
          ap (λ l. map (scale_in width height) own ++ l) (shown_alike outer)
          ∙ sym (map-append (scale_in width height) own (filter (λ s. not (has_scale own (name_of s))) outer))

-- scales within others are such as drawing asks for
pub within_sound : (own outer : ScaleSet) → AreScales own → AreScales outer → AreScales (scales_within own outer)
within_sound own outer sound round =
    let shown = λ (s : ScaleIn). not (is_named own s.name) in
    All-append (λ (s : ScaleIn). IsScale s.scale) own.scales (filter shown outer.scales) sound
    (All-filter shown (λ (s : ScaleIn). IsScale s.scale) outer.scales round)

-- ---- what holds of a copy with another set

-- of its own scales within those round it
pub within_frame : (named : HeldFrame) (scales : Bor (List HeldScale)) (set : Bor ScaleSet) (own : List ScaleKept) (laid : ScaleSet) → IsFrame named
    → AreKeptScales scales.now → map scale_seen scales.now ≡ and_outer (map scale_seen named.scales.now) (map kept_seen own)
    → laid ≡ set_of named.width named.height (map kept_seen own) → AreScales laid → set.now ≡ scales_within laid named.set.now
    → IsFrame (record named { scales = scales; set = set })
within_frame named scales set own laid is kept seen value sound within = record {
  scales = kept;
  set = within ∙ (λ i. scales_within (value i) (is.set i))
      ∙ set_within named.width named.height (map kept_seen own) (map scale_seen named.scales.now)
      ∙ ap (set_of named.width named.height) (sym seen);
  sound = subst AreScales (sym within) (within_sound laid named.set.now sound is.sound);
  axes = is.axes;
  width = is.width;
  height = is.height;
}

-- with its size
pub sized_frame : (frame : HeldFrame) (set : Bor ScaleSet) (laid : ScaleSet) (width height : ℤ) → IsFrame frame
    → set.now ≡ laid → laid ≡ set_of width height (map scale_seen frame.scales.now) → AreScales laid → IsPixel width → IsPixel height
    → IsFrame (record frame { set = set; width = width; height = height })
sized_frame frame set laid width height is same value sound wide high = record {
  scales = is.scales;
  set = same ∙ value;
  sound = subst AreScales (sym same) sound;
  axes = is.axes;
  width = wide;
  height = high;
}
