-- Facts of copies as they are seen, the first and the others, and facts that fit.
use Rattle.std.proofs.Common.{◌≡◌, ℕ, ◌+◌, Bool, true, false, List, [], ◌∷◌, map, refl, sym, ap, ◌∙◌, subst}
use Rattle.std.specs.List.{All, AllZip, enumerate_from}
use Rattle.expr_eval.specs.Values.{Values}
use Rattle.vega_spec.specs.declared.spec.Group.{out-Group}
use Rattle.vega_spec.specs.declared.spec.VgMark.{VgMark, out-VgMark}
use Rattle.vega_copies.specs.declared.facts.CopyFacts.{CopyFacts, out-CopyFacts, fold_out-CopyFacts}
use Rattle.vega_copies.specs.declared.facts.MarkFacts.{MarkFacts, out-MarkFacts, fold_out-MarkFacts}
use Rattle.vega_copies.specs.declared.facts.Step.{Step}
use Rattle.vega_copies.specs.Outlines.{Marks}
use Rattle.vega_copies.specs.Facts.{FoundOf, CopyFound, copies_in, gathered}
use Rattle.vega_copies.specs.inner.FactsSeen.{ListsOnPaths, OnPath, AtPlace, path_to, copy_here, mark_here, copy_seen, copies_seen}
use Rattle.vega_copies.specs.inner.FactsSeen.{marks_seen, values_seen, facts_seen, MarksFit, FactsFit, OneFits}
use Rattle.vega_copies.specs.inner.Outlined.{is_group, group_object, marks_in, marks_of}
use Rattle.vega_copies.proofs.OutlineLemmas.{plain_first, group_first}

-- ---- copies and marks by their parts

places_seen : {A B C : Type 0} (f : A → B) (g : ℕ × B → C) (n : ℕ) (xs : List A)
    → map g (enumerate_from n (map f xs)) ≡ map (λ (x : ℕ × A). g (x.0, f x.1)) (enumerate_from n xs)
places_seen f g n [] = refl
places_seen f g n (x ∷ xs) = ap (λ l. g (n, f x) ∷ l) (places_seen f g (n + 1) xs)

module _ (lists : ListsOnPaths) where
  -- a copy: its own facts, and what was found of the marks in it
  pub copy_opened : (c : CopyFacts) (path : List Step) (outer : Values)
      → copy_seen lists c path outer
      ≡ record { facts = facts_seen lists c path outer; inside = marks_seen lists path (values_seen c outer) 0 (out-CopyFacts c).inside }
  copy_opened c path outer = ap (λ (seen : OnPath). seen path outer) (fold_out-CopyFacts OnPath AtPlace (copy_here lists) mark_here c)

  -- a mark and those behind it: its copies
  pub marks_first : (path : List Step) (values : Values) (place : ℕ) (m : MarkFacts) (ms : List MarkFacts)
      → marks_seen lists path values place (m ∷ ms)
      ≡ FoundOf (gathered (copies_seen lists path values place 0 (out-MarkFacts m).copies))
      (out-MarkFacts m).across (marks_seen lists path values (place + 1) ms)
  marks_first path values place m ms =
      ap (λ (seen : AtPlace). seen path values place (marks_seen lists path values (place + 1) ms))
      (fold_out-MarkFacts OnPath AtPlace (copy_here lists) mark_here m)
      ∙ ap (λ copies. FoundOf (gathered copies) (out-MarkFacts m).across (marks_seen lists path values (place + 1) ms))
      (places_seen (copy_seen lists) (λ (copy : ℕ × OnPath). copy.1 (path_to path place copy.0) values) 0 (out-MarkFacts m).copies)

-- copies that were put together are as they were
pub copies_in_gathered : (copies : List CopyFound) → copies_in (gathered copies) ≡ copies
copies_in_gathered [] = refl
copies_in_gathered (first ∷ others) = ap (λ l. first ∷ l) (copies_in_gathered others)

-- ---- facts that fit, of the first of some marks and of the others

abbrev pub inside_of_group : VgMark → Marks
inside_of_group m = marks_of (marks_in (out-Group (out-VgMark m).group))

module _ (m : VgMark) (ms : List VgMark) (found : MarkFacts) (more : List MarkFacts) where
  group_opens : is_group (out-VgMark m) ≡ true → MarksFit (marks_of (m ∷ ms)) (found ∷ more)
      → All (FactsFit (group_object 0 (out-VgMark m)) (inside_of_group m)) (out-MarkFacts found).copies × MarksFit (marks_of ms) more
  group_opens e fit = subst (λ row. MarksFit row (found ∷ more)) (group_first m (marks_of ms) e) fit

  plain_opens : is_group (out-VgMark m) ≡ false → MarksFit (marks_of (m ∷ ms)) (found ∷ more) → MarksFit (marks_of ms) more
  plain_opens e fit = subst (λ row. MarksFit row (found ∷ more)) (plain_first m (marks_of ms) e) fit

pub group_fits : (m : VgMark) (found : MarkFacts) → is_group (out-VgMark m) ≡ true → OneFits m found
    → All (FactsFit (group_object 0 (out-VgMark m)) (inside_of_group m)) (out-MarkFacts found).copies
group_fits m found e fit = (group_opens m [] found [] e fit).0

module _ (m : VgMark) (ms : List VgMark) (found : MarkFacts) (more : List MarkFacts) where
  pub fits_first : MarksFit (marks_of (m ∷ ms)) (found ∷ more) → OneFits m found
  fits_first fit = by_type (is_group (out-VgMark m)) refl
    where
      by_type : (b : Bool) → is_group (out-VgMark m) ≡ b → OneFits m found
      by_type true e =
          subst (λ row. MarksFit row (found ∷ [])) (sym (group_first m (marks_of []) e)) ((group_opens m ms found more e fit).0, tt)
      by_type false e = subst (λ row. MarksFit row (found ∷ [])) (sym (plain_first m (marks_of []) e)) tt

  pub fits_rest : MarksFit (marks_of (m ∷ ms)) (found ∷ more) → MarksFit (marks_of ms) more
  fits_rest fit = by_type (is_group (out-VgMark m)) refl
    where
      by_type : (b : Bool) → is_group (out-VgMark m) ≡ b → MarksFit (marks_of ms) more
      by_type true e = (group_opens m ms found more e fit).1
      by_type false e = plain_opens m ms found more e fit

fits_not : (m : VgMark) (ms : List VgMark) → MarksFit (marks_of (m ∷ ms)) [] → ⊥
fits_not m ms fit = by_type (is_group (out-VgMark m)) refl
  where
    by_type : (b : Bool) → is_group (out-VgMark m) ≡ b → ⊥
    by_type true e = subst (λ row. MarksFit row []) (group_first m (marks_of ms) e) fit
    by_type false e = subst (λ row. MarksFit row []) (plain_first m (marks_of ms) e) fit

pub each_fits : (marks : List VgMark) (found : List MarkFacts) → MarksFit (marks_of marks) found → AllZip OneFits marks found
each_fits [] [] fit = tt
each_fits [] (f ∷ fs) fit = absurd fit
each_fits (m ∷ ms) [] fit = absurd (fits_not m ms fit)
each_fits (m ∷ ms) (f ∷ fs) fit = (fits_first m ms f fs fit, each_fits ms fs (fits_rest m ms f fs fit))
