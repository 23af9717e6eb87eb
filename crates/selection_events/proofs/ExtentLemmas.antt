-- The extents that a drag leaves.
use Rattle.std.proofs.Common.{◌≡◌, ℕ, ℤ, ◌≤ℤ◌, ◌<ℤ◌, Bool, true, false, cond, ◌&&◌, Option, Some, None, List, [], ◌∷◌, map, refl, sym, subst, ◌∙◌, arith}
use Rattle.std.proofs.lemmas.Int.{ints, clamps}
use Rattle.std.proofs.lemmas.Bool.Decides.{Decides-int_eq}
use Rattle.std.specs.Prelude.{IsTrue, int_lt, int_le}
use Rattle.std.specs.Int.{int_min, int_max}
use Rattle.std.specs.Ordering.{int_eq}
use Rattle.std.specs.List.{AllZip}
use Rattle.fixed_num.specs.Ranges.{◌>>=◌, all_found, is_within}
use Rattle.cell_value.specs.declared.state.Extent.{Extent}
use Rattle.time_calc.specs.Instants.{stands_for_instant, instant_number, first_instant, last_instant}
use Rattle.scale_kit.specs.declared.scale.Scale.{Scale}
use Rattle.scale_kit.specs.declared.scale.Scale.TheVariants.{Linear, Time, Band, Point, Ordinal, Ramp}
use Rattle.scale_kit.specs.Scale.{IsScale}
use Rattle.scale_kit.specs.Lines.{cut_to}
use Rattle.scale_kit.specs.Places.{inverse_within, exact_inverse}
use Rattle.scene_tree.specs.declared.scene.Panel.{Panel}
use Rattle.selection_events.specs.declared.selection.SelectionOf.{SelectionOf}
use Rattle.selection_events.specs.declared.selection.DragOf.{DragOf}
use Rattle.selection_events.specs.declared.drags.Drag.{Drag}
use Rattle.selection_events.specs.declared.drags.ChannelHere.{ChannelHere}
use Rattle.selection_events.specs.Drags.{is_time, can_invert, extent_between, extent_on, extent_of, ends_of}
use Rattle.selection_events.specs.Events.{Inverts, channel_here}
use Rattle.selection_events.specs.Kept.{IsExtentOf}

-- ---- instants

abbrev InTime : ℤ → Type 0
InTime z = IsTrue (stands_for_instant z)

-- of two instants in range each that is picked is one
picked : (b : Bool) (x y : ℤ) → InTime x → InTime y → InTime (cond b x y)
picked true x y h i = h
picked false x y h i = i

both_hold : (a b : Bool) → a ≡ true → b ≡ true → (a && b) ≡ true
both_hold true b e f = f
both_hold false b e f = e

both_parts : (a b : Bool) → (a && b) ≡ true → (a ≡ true) × (b ≡ true)
both_parts true b h = (refl, h)
both_parts false b h = absurd (cc h)

at_most : (a b : ℤ) → a ≤ℤ b → int_le a b ≡ true
at_most a b h = grind (arith, ints)

is_most : (a b : ℤ) → int_le a b ≡ true → a ≤ℤ b
is_most a b h = omega (arith, ints, h)

-- between two numbers that are within bounds all are
within_both : (low high a b z : ℤ) → is_within low high a ≡ true → is_within low high b ≡ true → a ≤ℤ z → z ≤ℤ b → is_within low high z ≡ true
within_both low high a b z h k from to =
    let first = is_most low a (both_parts (int_le low a) (int_le a high) h).0 in
    let last = is_most b high (both_parts (int_le low b) (int_le b high) k).1 in
    both_hold _ _ (at_most low z (omega (arith, ints, first, from))) (at_most z high (omega (arith, ints, last, to)))

from_beginning : (a b v : ℤ) → a ≤ℤ b → a ≤ℤ int_max a (int_min v b)
from_beginning a b v h = omega (arith, ints, clamps, h)

to_end : (a b v : ℤ) → a ≤ℤ b → int_max a (int_min v b) ≤ℤ b
to_end a b v h = omega (arith, ints, clamps, h)

-- a number cut to a domain of instants is one
cut_is_in_time : (a b v : ℤ) → a ≤ℤ b → InTime a → InTime b → InTime (cut_to (a, b) v)
cut_is_in_time a b v h from to =
    within_both (instant_number first_instant) (instant_number last_instant) a b (cut_to (a, b) v) from to (from_beginning a b v h) (to_end a b v h)

-- what is inverted on a scale of time is an instant
inverse_in_time : (s : Scale) (p : ℤ) → IsScale s → IsTrue (is_time s) → InTime (inverse_within s p)
inverse_in_time (Linear d0 d1 r0 r1) p h t = absurd (cc t)
inverse_in_time (Time d0 d1 r0 r1) p h t = cut_is_in_time d0 d1 (exact_inverse (Time d0 d1 r0 r1) p) h.0 h.1.0 h.1.1
inverse_in_time (Band domain inner outer r0 r1) p h t = absurd (cc t)
inverse_in_time (Point domain outer r0 r1) p h t = absurd (cc t)
inverse_in_time (Ordinal domain range) p h t = absurd (cc t)
inverse_in_time (Ramp time d0 d1 from to) p h t = absurd (cc t)

-- ---- one extent

less_than : (a b : ℤ) → (a ≡ b → ⊥) → int_min a b <ℤ int_max a b
less_than a b apart = grind (arith, ints)

-- the extent of a channel between two numbers
made : ChannelHere → Bool → ℤ → ℤ → Extent
made c temporal a b = record { channel = c.channel; field = c.field; temporal = temporal; lo = int_min a b; hi = int_max a b }

module _ (c : ChannelHere) (d : DragOf) (channel : c.channel ≡ d.channel) (field : c.field ≡ d.field) where
  made_is : (temporal : Bool) (a b : ℤ) → (a ≡ b → ⊥) → (IsTrue temporal → InTime a × InTime b) → IsExtentOf temporal d (made c temporal a b)
  unfolding made
  made_is temporal a b apart instants = record {
    channel = channel;
    field = field;
    time = refl;
    less = less_than a b apart;
    instants = λ t. (picked (int_lt b a) b a (instants t).1 (instants t).0, picked (int_lt b a) a b (instants t).0 (instants t).1);
  }

  by_equality : (temporal : Bool) (a b : ℤ) (e : Extent) → (IsTrue temporal → InTime a × InTime b) → (t : Bool) → int_eq a b ≡ t
      → cond t None (Some (made c temporal a b)) ≡ Some e → IsExtentOf temporal d e
  by_equality temporal a b e instants true is found = absurd (cc found)
  by_equality temporal a b e instants false is found =
      let same : made c temporal a b ≡ e = cc found in
      subst (IsExtentOf temporal d) same
      (made_is temporal a b (λ equal. absurd (cc (sym is ∙ (Decides-int_eq a b).1 equal))) instants)

  between_is : (temporal : Bool) (a b : ℤ) (e : Extent) → (IsTrue temporal → InTime a × InTime b)
      → extent_between c temporal a b ≡ Some e → IsExtentOf temporal d e
  unfolding made
  between_is temporal a b e instants found = by_equality temporal a b e instants (int_eq a b) refl found

  by_inverse : (s : Scale) (ends : ℤ × ℤ) (e : Extent) → IsScale s → (t : Bool)
      → cond t (extent_between c (is_time s) (inverse_within s ends.0) (inverse_within s ends.1)) None ≡ Some e → IsExtentOf (is_time s) d e
  by_inverse s ends e is true found =
      between_is (is_time s) (inverse_within s ends.0) (inverse_within s ends.1) e
      (λ t. (inverse_in_time s ends.0 is t, inverse_in_time s ends.1 is t)) found
  by_inverse s ends e is false found = absurd (cc found)

  on_is : (s : Scale) (ends : ℤ × ℤ) (e : Extent) → IsScale s → extent_on c s ends ≡ Some e → IsExtentOf (is_time s) d e
  on_is s ends e is found = by_inverse s ends e is (can_invert s) found

  by_scale : (temporal : Bool) (o : Option Scale) (ends : ℤ × ℤ) (e : Extent) → ((s : Scale) → o ≡ Some s → IsScale s × (is_time s ≡ temporal))
      → (o >>= (λ s. extent_on c s ends)) ≡ Some e → IsExtentOf temporal d e
  by_scale temporal None ends e known found = absurd (cc found)
  by_scale temporal (Some s) ends e known found =
      subst (λ t. IsExtentOf t d e) (known s refl).1 (on_is s ends e (known s refl).0 found)

-- the extent of a channel of a selection in a panel
extent_is : (scale : Inverts) (index : ℕ) (s : SelectionOf) (d : DragOf) (panel : Panel) (drag : Drag) (temporal : Bool) (e : Extent)
    → ((found : Scale) → scale index s.name d.channel ≡ Some found → IsScale found × (is_time found ≡ temporal))
    → extent_of panel drag (channel_here scale index s d) ≡ Some e → IsExtentOf temporal d e
extent_is scale index s d panel drag temporal e known found =
    by_scale (channel_here scale index s d) d refl refl temporal (scale index s.name d.channel) (ends_of panel drag d.channel) e known found

-- ---- all extents

two_found : (o : Option Extent) (p : Option (List Extent)) (es : List Extent) → (o >>= (λ x. p >>= (λ xs. Some (x ∷ xs)))) ≡ Some es
    → (x : Extent) × (xs : List Extent) × (o ≡ Some x) × (p ≡ Some xs) × (x ∷ xs ≡ es)
two_found None p es found = absurd (cc found)
two_found (Some x) None es found = absurd (cc found)
two_found (Some x) (Some xs) es found = (x, xs, refl, refl, cc found)

module _ (scale : Inverts) (index : ℕ) (s : SelectionOf) (panel : Panel) (drag : Drag) (temporal : DragOf → Bool)
    (known : (d : DragOf) (found : Scale) → scale index s.name d.channel ≡ Some found → IsScale found × (is_time found ≡ temporal d)) where
  -- one for each channel
  pub extents_are : (ds : List DragOf) (es : List Extent)
      → all_found (map (extent_of panel drag) (map (channel_here scale index s) ds)) ≡ Some es → AllZip (λ d e. IsExtentOf (temporal d) d e) ds es
  extents_are [] es found =
      let same : [] ≡ es = cc found in subst (AllZip (λ d e. IsExtentOf (temporal d) d e) []) same tt
  extents_are (d ∷ ds) es found =
      let parts =
      two_found (extent_of panel drag (channel_here scale index s d)) (all_found (map (extent_of panel drag) (map (channel_here scale index s) ds))) es found in
      subst (AllZip (λ d e. IsExtentOf (temporal d) d e) (d ∷ ds)) parts.4
      (extent_is scale index s d panel drag (temporal d) parts.0 (known d) parts.2, extents_are ds parts.1 parts.3)
