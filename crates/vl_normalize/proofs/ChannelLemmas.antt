-- Channels that a mark has a use for.
use Rattle.std.proofs.Common.{◌≡◌, ℕ, ◌==◌, Bool, true, false, ◌&&◌, Option, Some, None, List, [], ◌∷◌, cond, find, refl, ap, sym, ◌∙◌}
use Rattle.std.proofs.Common.{append-nil, eqb-true, true≢false}
use Rattle.std.specs.Prelude.{filter}
use Rattle.std.specs.Option.{option_and_then}
use Rattle.vl_spec.specs.declared.channels.ChannelOf.{ChannelOf}
use Rattle.vl_spec.specs.declared.marks.Mark.{Mark}
use Rattle.vl_spec.specs.declared.marks.Mark.TheVariants as mark
use Rattle.vl_spec.specs.declared.marks.MarkDefinition.{MarkDefinition}
use Rattle.vl_normalize.specs.declared.codes.TheConstants.{ROW, COLUMN, FACET}
use Rattle.vl_normalize.specs.Channels.{with_around, one_shown, shown}
use Rattle.vl_normalize.specs.Facets.{facet_by, facet_of}
use Rattle.vl_normalize.specs.Marks.{is_used, used, is_line_type, pointed, line_of, points_of}

module _ {A : Type 0} (p : A → Bool) where
  kept_first : (x : A) (xs : List A) (b : Bool) → p x ≡ b → filter p xs ≡ filter p (filter p xs)
      → cond b (x ∷ filter p xs) (filter p xs) ≡ filter p (cond b (x ∷ filter p xs) (filter p xs))
  kept_first x xs true e same = ap (λ ys. x ∷ ys) same ∙ sym (ap (λ b. cond b (x ∷ filter p (filter p xs)) (filter p (filter p xs))) e)
  kept_first x xs false e same = same

  -- what passes passes again
  pub filtered_twice : (xs : List A) → filter p xs ≡ filter p (filter p xs)
  filtered_twice [] = refl
  filtered_twice (x ∷ xs) = kept_first x xs (p x) refl (filtered_twice xs)

  module _ (q : A → Bool) (apart : (x : A) → q x ≡ true → p x ≡ false) where
    lost_first : (x : A) (xs : List A) (b : Bool) → p x ≡ b → find q (filter p xs) ≡ None → find q (cond b (x ∷ filter p xs) (filter p xs)) ≡ None
    lost_first x xs true e none = tested (q x) refl
      where
        tested : (b : Bool) → q x ≡ b → cond b (Some x) (find q (filter p xs)) ≡ None
        tested true f = absurd (true≢false (sym e ∙ apart x f))
        tested false f = none
    lost_first x xs false e none = none

    -- what doesn't pass isn't found among what does
    pub not_found : (xs : List A) → find q (filter p xs) ≡ None
    not_found [] = refl
    not_found (x ∷ xs) = lost_first x xs (p x) refl (not_found xs)

-- no channel of these codes is of use to a mark
module _ (m : Option Mark) (channels : List ChannelOf) where
  absent : (code : ℕ) → is_used m code ≡ false → shown (used m channels) code ≡ None
  absent code unused =
      ap (option_and_then (λ (c : ChannelOf). one_shown c.shows))
      (not_found (λ (c : ChannelOf). is_used m c.channel) (λ (c : ChannelOf). c.channel == code)
      (λ c is. ap (is_used m) (eqb-true c.channel code is) ∙ unused) channels)

  pub no_facet : facet_of (used m channels) ≡ None
  no_facet = λ i. facet_by (absent ROW refl i) (absent COLUMN refl i) (absent FACET refl i)

pub alone : (own : List ChannelOf) → with_around own [] ≡ own
alone own = append-nil own

no_point : (b : Bool) → (b && false) ≡ false
no_point true = refl
no_point false = refl

-- the line and the points of a line with points have none
pub line_is_bare : (d : MarkDefinition) → pointed (Some (mark.Definition (line_of d))) ≡ None
line_is_bare d = ap (λ b. cond b (Some (line_of d)) None) (no_point (is_line_type d.type_))

pub points_are_bare : (d : MarkDefinition) → pointed (Some (mark.Definition (points_of d))) ≡ None
points_are_bare d = refl

-- a mark is a line with points, or it isn't
pub pointed_or_not : (m : Option Mark) (P : Option MarkDefinition → Type 0) → (pointed m ≡ None → P None) → ((d : MarkDefinition) → P (Some d)) → P (pointed m)
pointed_or_not m P without with_them = by_case (pointed m) refl
  where
    by_case : (o : Option MarkDefinition) → pointed m ≡ o → P o
    by_case None e = without e
    by_case (Some d) e = with_them d
