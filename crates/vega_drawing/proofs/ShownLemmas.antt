-- Marks that keep the rules with facts that fit them: the first and the others, and those in a group.
use Rattle.std.proofs.Common.{◌≡◌, ℕ, Bool, true, false, List, [], ◌∷◌, length, refl, sym, subst, ◌<◌, arith}
use Rattle.vega_spec.specs.declared.spec.Group.{out-Group}
use Rattle.vega_spec.specs.declared.spec.VgMark.{VgMark, out-VgMark}
use Rattle.vega_copies.specs.declared.facts.CopyFacts.{CopyFacts, out-CopyFacts}
use Rattle.vega_copies.specs.declared.facts.MarkFacts.{MarkFacts}
use Rattle.vega_copies.specs.inner.Kept.{KeepsObject, KeepsMarks}
use Rattle.vega_copies.specs.Outlines.{Object, Marks, NoMarks, AGroup}
use Rattle.vega_copies.specs.inner.FactsSeen.{MarksFit}
use Rattle.vega_copies.specs.inner.Outlined.{is_group, group_object, marks_in, marks_of}
use Rattle.vega_copies.proofs.OutlineLemmas.{plain_first, group_first}
use Rattle.vega_copies.proofs.SeenFacts.{fits_first, fits_rest}
use Rattle.vega_drawing.specs.inner.Drawn.{MayShow, CopyFits}

abbrev inside_of_group : VgMark → Marks
inside_of_group m = marks_of (marks_in (out-Group (out-VgMark m).group))

-- ---- what marks keep

alone : (o : Object) (inside others : Marks) → KeepsMarks (AGroup o inside others) → KeepsMarks (AGroup o inside NoMarks)
alone o inside others (kept, below, rest) = (kept, below, tt)

behind : (o : Object) (inside others : Marks) → KeepsMarks (AGroup o inside others) → KeepsMarks others
behind o inside others (kept, below, rest) = rest

below_group : (o : Object) (inside others : Marks) → KeepsMarks (AGroup o inside others) → KeepsMarks inside
below_group o inside others (kept, below, rest) = below

object_of : (o : Object) (inside others : Marks) → KeepsMarks (AGroup o inside others) → KeepsObject o
object_of o inside others (kept, below, rest) = kept

module _ (m : VgMark) (ms : List VgMark) (kept : KeepsMarks (marks_of (m ∷ ms))) where
  pub kept_first : KeepsMarks (marks_of (m ∷ []))
  kept_first = by_type (is_group (out-VgMark m)) refl
    where
      by_type : (b : Bool) → is_group (out-VgMark m) ≡ b → KeepsMarks (marks_of (m ∷ []))
      by_type true e =
          subst KeepsMarks (sym (group_first m NoMarks e))
          (alone (group_object 0 (out-VgMark m)) (inside_of_group m) (marks_of ms) (subst KeepsMarks (group_first m (marks_of ms) e) kept))
      by_type false e = subst KeepsMarks (sym (plain_first m NoMarks e)) tt

  pub kept_rest : KeepsMarks (marks_of ms)
  kept_rest = by_type (is_group (out-VgMark m)) refl
    where
      by_type : (b : Bool) → is_group (out-VgMark m) ≡ b → KeepsMarks (marks_of ms)
      by_type true e =
          behind (group_object 0 (out-VgMark m)) (inside_of_group m) (marks_of ms) (subst KeepsMarks (group_first m (marks_of ms) e) kept)
      by_type false e = subst KeepsMarks (plain_first m (marks_of ms) e) kept

module _ (m : VgMark) (e : is_group (out-VgMark m) ≡ true) (kept : KeepsMarks (marks_of (m ∷ []))) where
  opened_alone : KeepsMarks (AGroup (group_object 0 (out-VgMark m)) (inside_of_group m) NoMarks)
  opened_alone = subst KeepsMarks (group_first m NoMarks e) kept

  -- what an object keeps doesn't ask for its number
  pub object_shown : (number : ℕ) → KeepsObject (group_object number (out-VgMark m))
  object_shown number =
      let o = object_of (group_object 0 (out-VgMark m)) (inside_of_group m) NoMarks opened_alone in
      record { sets = o.sets; scales = o.scales; domains = o.domains; bounds = o.bounds; axes = o.axes; columns = o.columns }

  -- the marks in a group with the facts of a copy
  pub shows_inside : (c : CopyFacts) → CopyFits (out-VgMark m) c → MayShow (marks_in (out-Group (out-VgMark m).group)) (out-CopyFacts c).inside
  shows_inside c fits =
      record { kept = below_group (group_object 0 (out-VgMark m)) (inside_of_group m) NoMarks opened_alone; fit = fits.inside }

-- ---- with facts that fit

no_facts : (m : VgMark) (ms : List VgMark) → MarksFit (marks_of (m ∷ ms)) [] → ⊥
no_facts m ms fit = by_type (is_group (out-VgMark m)) refl
  where
    by_type : (b : Bool) → is_group (out-VgMark m) ≡ b → ⊥
    by_type true e = subst (λ row. MarksFit row []) (group_first m (marks_of ms) e) fit
    by_type false e = subst (λ row. MarksFit row []) (plain_first m (marks_of ms) e) fit

-- there are facts of the first
pub some_facts : (m : VgMark) (ms : List VgMark) (found : List MarkFacts) → MayShow (m ∷ ms) found → 0 < length found
some_facts m ms [] show = absurd (no_facts m ms show.fit)
some_facts m ms (f ∷ fs) show = omega arith

pub show_first : (m : VgMark) (ms : List VgMark) (f : MarkFacts) (fs : List MarkFacts) → MayShow (m ∷ ms) (f ∷ fs) → MayShow (m ∷ []) (f ∷ [])
show_first m ms f fs show = record { kept = kept_first m ms show.kept; fit = fits_first m ms f fs show.fit }

pub show_rest : (m : VgMark) (ms : List VgMark) (f : MarkFacts) (fs : List MarkFacts) → MayShow (m ∷ ms) (f ∷ fs) → MayShow ms fs
show_rest m ms f fs show = record { kept = kept_rest m ms show.kept; fit = fits_rest m ms f fs show.fit }
