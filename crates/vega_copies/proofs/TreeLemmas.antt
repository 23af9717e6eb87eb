-- Tests of trees of marks, mark by mark.
use Rattle.std.proofs.Common.{◌≡◌, ℕ, suc, ◌+◌, ◌-◌, ◌^◌, ◌<◌, ◌≤◌, ◌&&◌, min, nat_lt, Bool, true, false, List, [], ◌∷◌, length, drop}
use Rattle.std.proofs.Common.{get_or, refl, sym, ap, ◌∙◌, arith}
use Rattle.std.specs.Option.{option_map_or}
use Rattle.std.proofs.lemmas.List.{drop_more}
use Rattle.std.proofs.lemmas.Bool.Decides.{nat_tests}
use Rattle.vega_spec.specs.declared.spec.Group.{out-Group}
use Rattle.vega_spec.specs.declared.spec.VgMark.{VgMark, out-VgMark}
use Rattle.vega_spec.specs.declared.spec.VgSpec.{VgSpec}
use Rattle.vega_lists.specs.Products.{Products, no_folds}
use Rattle.vega_copies.specs.Outlines.{Marks, NoMarks, AMark, AGroup, opened, outline_of, object_here, numbered, count_marks, count_groups}
use Rattle.vega_copies.specs.Fitting.{products_in_copy, products_fitted, folds_fit_in, folds_fit}
use Rattle.vega_copies.specs.Tested.{keeps_object, are_few, is_outline}
use Rattle.vega_copies.specs.inner.Outlined.{marks_in, is_group, marks_of}
use Rattle.vega_copies.specs.inner.Tested.{are_objects, group_folds_fit, group_is_kept}
use Rattle.vega_copies.proofs.OutlineLemmas.{plain_first, group_first, opened_object, opened_marks, group_counted, group_grouped}

and_true : (a : Bool) → (a && true) ≡ a
and_true true = refl
and_true false = refl

and_assoc : (a b c : Bool) → (a && (b && c)) ≡ ((a && (b && true)) && c)
and_assoc true true c = refl
and_assoc true false c = refl
and_assoc false b c = refl

and_later : (a b : Bool) → (a && b) ≡ ((a && true) && b)
and_later true b = refl
and_later false b = refl

-- objects of the first mark, and of the others
pub objects_first : (m : VgMark) (ms : List VgMark)
    → are_objects (marks_of (m ∷ ms)) ≡ (are_objects (marks_of (m ∷ [])) && are_objects (marks_of ms))
objects_first m ms = by_type (is_group (out-VgMark m)) refl
  where
    by_type : (b : Bool) → is_group (out-VgMark m) ≡ b
        → are_objects (marks_of (m ∷ ms)) ≡ (are_objects (marks_of (m ∷ [])) && are_objects (marks_of ms))
    by_type true e =
        ap are_objects (group_first m (marks_of ms) e)
        ∙ and_assoc (keeps_object (object_here (out-Group (out-VgMark m).group))) (are_objects (marks_of (marks_in (out-Group (out-VgMark m).group))))
        (are_objects (marks_of ms))
        ∙ sym (ap (λ first. are_objects first && are_objects (marks_of ms)) (group_first m NoMarks e))
    by_type false e =
        ap are_objects (plain_first m (marks_of ms) e)
        ∙ sym (ap (λ first. are_objects first && are_objects (marks_of ms)) (plain_first m NoMarks e))

-- a mark alone
pub group_objects : (m : VgMark) → is_group (out-VgMark m) ≡ true → group_is_kept (out-VgMark m) ≡ are_objects (marks_of (m ∷ []))
group_objects m e =
    ap (λ inside. keeps_object (object_here (out-Group (out-VgMark m).group)) && inside)
    (sym (and_true (are_objects (marks_of (marks_in (out-Group (out-VgMark m).group))))))
    ∙ sym (ap are_objects (group_first m NoMarks e))

pub plain_objects : (m : VgMark) → is_group (out-VgMark m) ≡ false → true ≡ are_objects (marks_of (m ∷ []))
plain_objects m e = sym (ap are_objects (plain_first m NoMarks e))

module _ (marks : List VgMark) (i : ℕ) (m : VgMark) (kept : Bool) (within : i < length marks) (is : m ≡ get_or marks i m)
    (tested : kept ≡ are_objects (marks_of (m ∷ []))) (whole : are_objects (marks_of (drop i marks)) ≡ are_objects (marks_of marks)) where
  by_first : (are_objects (marks_of (m ∷ [])) && are_objects (marks_of (drop (i + 1) marks))) ≡ are_objects (marks_of marks)
  by_first =
      sym (ap (λ ms. are_objects (marks_of ms)) (drop_more marks i m within ∙ ap (λ one. one ∷ drop (i + 1) marks) (sym is))
      ∙ objects_first m (drop (i + 1) marks))
      ∙ whole

  -- one that isn't kept settles it
  pub objects_stop : kept ≡ false → false ≡ are_objects (marks_of marks)
  objects_stop fails =
      sym (ap (λ first. first && are_objects (marks_of (drop (i + 1) marks))) (sym tested ∙ fails)) ∙ by_first

  -- one that is leaves the others
  pub objects_go_on : kept ≡ true → are_objects (marks_of (drop (i + 1) marks)) ≡ are_objects (marks_of marks)
  objects_go_on passes =
      sym (ap (λ first. first && are_objects (marks_of (drop (i + 1) marks))) (sym tested ∙ passes)) ∙ by_first

-- folds of the first mark, and of the others
pub fits_first : (products : Products) (m : VgMark) (ms : List VgMark)
    → folds_fit_in products (marks_of (m ∷ ms)) ≡ (folds_fit_in products (marks_of (m ∷ [])) && folds_fit_in products (marks_of ms))
fits_first products m ms = by_type (is_group (out-VgMark m)) refl
  where
    by_type : (b : Bool) → is_group (out-VgMark m) ≡ b
        → folds_fit_in products (marks_of (m ∷ ms)) ≡ (folds_fit_in products (marks_of (m ∷ [])) && folds_fit_in products (marks_of ms))
    by_type true e =
        ap (folds_fit_in products) (group_first m (marks_of ms) e)
        ∙ and_later (group_folds_fit products (out-VgMark m)) (folds_fit_in products (marks_of ms))
        ∙ sym (ap (λ first. folds_fit_in products first && folds_fit_in products (marks_of ms)) (group_first m NoMarks e))
    by_type false e =
        ap (folds_fit_in products) (plain_first m (marks_of ms) e)
        ∙ sym (ap (λ first. folds_fit_in products first && folds_fit_in products (marks_of ms)) (plain_first m NoMarks e))

pub group_fits : (products : Products) (m : VgMark) → is_group (out-VgMark m) ≡ true
    → group_folds_fit products (out-VgMark m) ≡ folds_fit_in products (marks_of (m ∷ []))
group_fits products m e = sym (and_true (group_folds_fit products (out-VgMark m))) ∙ sym (ap (folds_fit_in products) (group_first m NoMarks e))

pub plain_fits : (products : Products) (m : VgMark) → is_group (out-VgMark m) ≡ false → true ≡ folds_fit_in products (marks_of (m ∷ []))
plain_fits products m e = sym (ap (folds_fit_in products) (plain_first m NoMarks e))

-- counts up to a greatest number
pub one_more_counted : (count n first rest whole all greatest : ℕ) → n ≡ min first greatest → whole ≡ first + rest
    → min (count + whole) greatest ≡ min all greatest → min (min (count + n) greatest + rest) greatest ≡ min all greatest
one_more_counted count n first rest whole all greatest a b c = grind (arith, a, b, c)

pub all_counted : (count all greatest : ℕ) → count ≤ greatest → min (count + 0) greatest ≡ min all greatest → count ≡ min all greatest
all_counted count all greatest a b = grind (arith, a, b)

pub group_counted_alone : (m : VgMark) (inside : List VgMark) (n : ℕ) → is_group (out-VgMark m) ≡ true
    → inside ≡ marks_in (out-Group (out-VgMark m).group) → n ≡ min (count_marks (marks_of inside)) (2 ^ 64 - 1)
    → n ≡ min (count_marks (marks_of (m ∷ []))) (2 ^ 64 - 1)
group_counted_alone m inside n e there counted =
    counted ∙ ap (λ ms. min (count_marks (marks_of ms)) (2 ^ 64 - 1)) there
    ∙ ap (λ k. min k (2 ^ 64 - 1)) (nothing_more _ _ (group_counted m [] e))
  where
    nothing_more : (inside whole : ℕ) → whole ≡ inside + 0 → inside ≡ whole
    nothing_more inside whole a = omega (arith, a)

pub group_grouped_alone : (m : VgMark) (inside : List VgMark) (n : ℕ) → is_group (out-VgMark m) ≡ true
    → inside ≡ marks_in (out-Group (out-VgMark m).group) → n ≡ min (count_groups (marks_of inside)) (2 ^ 64 - 1)
    → min (n + 1) (2 ^ 64 - 1) ≡ min (count_groups (marks_of (m ∷ []))) (2 ^ 64 - 1)
group_grouped_alone m inside n e there counted =
    one_more_than _ _ n (group_grouped m [] e) (counted ∙ ap (λ ms. min (count_groups (marks_of ms)) (2 ^ 64 - 1)) there)
  where
    one_more_than : (inside whole n : ℕ) → whole ≡ suc (inside + 0) → n ≡ min inside (2 ^ 64 - 1)
        → min (n + 1) (2 ^ 64 - 1) ≡ min whole (2 ^ 64 - 1)
    one_more_than inside whole n a b = grind (arith, a, b)

pub few_counted : (n : ℕ) → nat_lt (min n (2 ^ 64 - 1)) 4294967296 ≡ nat_lt n (2 ^ 32)
few_counted n = grind (arith, nat_tests)

pub few_grouped : (n : ℕ) → nat_lt (min n (2 ^ 64 - 1)) 4294967295 ≡ nat_lt (1 + n) (2 ^ 32)
few_grouped n = grind (arith, nat_tests)

-- numbers of marks and groups are not looked at
pub objects_numbered : (unit number : ℕ) (marks : Marks) → are_objects (numbered unit number marks) ≡ are_objects marks
objects_numbered unit number NoMarks = refl
objects_numbered unit number (AMark old m others) = objects_numbered (suc unit) number others
objects_numbered unit number (AGroup o inside others) = λ i.
    keeps_object o && (objects_numbered unit (suc number) inside i
    && objects_numbered (unit + count_marks inside) (suc number + count_groups inside) others i)

pub fits_numbered : (unit number : ℕ) (marks : Marks) (products : Products)
    → folds_fit_in products (numbered unit number marks) ≡ folds_fit_in products marks
fits_numbered unit number NoMarks products = refl
fits_numbered unit number (AMark old m others) products = fits_numbered (suc unit) number others products
fits_numbered unit number (AGroup o inside others) products = λ i.
    option_map_or (λ next. fits_numbered unit (suc number) inside next i) (products_fitted (products_in_copy o.facet products) o.sets) false
    && fits_numbered (unit + count_marks inside) (suc number + count_groups inside) others products i

pub marks_numbered : (unit number : ℕ) (marks : Marks) → count_marks (numbered unit number marks) ≡ count_marks marks
marks_numbered unit number NoMarks = refl
marks_numbered unit number (AMark old m others) = ap suc (marks_numbered (suc unit) number others)
marks_numbered unit number (AGroup o inside others) = λ i.
    marks_numbered unit (suc number) inside i + marks_numbered (unit + count_marks inside) (suc number + count_groups inside) others i

pub groups_numbered : (unit number : ℕ) (marks : Marks) → count_groups (numbered unit number marks) ≡ count_groups marks
groups_numbered unit number NoMarks = refl
groups_numbered unit number (AMark old m others) = groups_numbered (suc unit) number others
groups_numbered unit number (AGroup o inside others) = λ i.
    suc (groups_numbered unit (suc number) inside i + groups_numbered (unit + count_marks inside) (suc number + count_groups inside) others i)

-- the test of the top is that of its members and its marks
outline_tested : (g : VgSpec) → is_outline keeps_object (outline_of g)
    ≡ (keeps_object (object_here (out-Group g.group)) && (are_objects (marks_of (marks_in (out-Group g.group)))
    && (are_few (marks_of (marks_in (out-Group g.group)))
    && folds_fit (object_here (out-Group g.group)).sets (marks_of (marks_in (out-Group g.group))))))
outline_tested g =
    let marks = (opened g.group).marks in
    (λ i. keeps_object (opened g.group).object && (objects_numbered 0 1 marks i
    && ((nat_lt (marks_numbered 0 1 marks i) (2 ^ 32) && nat_lt (1 + groups_numbered 0 1 marks i) (2 ^ 32))
    && option_map_or (λ next. fits_numbered 0 1 marks next i) (products_fitted no_folds (opened g.group).object.sets) false)))
    ∙ (λ i. keeps_object (opened_object g.group i) && (are_objects (opened_marks g.group i)
    && (are_few (opened_marks g.group i) && folds_fit (opened_object g.group i).sets (opened_marks g.group i))))

-- what holds of the top and all groups leaves the folds to be tested
abbrev pub all_kept : VgSpec → Bool
all_kept g = keeps_object (object_here (out-Group g.group)) && (are_objects (marks_of (marks_in (out-Group g.group)))
    && are_few (marks_of (marks_in (out-Group g.group))))

folds_left : (a b c fit : Bool) → (a && (b && c)) ≡ true → (a && (b && (c && fit))) ≡ fit
folds_left true true true fit e = refl
folds_left true true false fit e = absurd (cc)
folds_left true false c fit e = absurd (cc)
folds_left false b c fit e = absurd (cc)

none_left : (a b c fit : Bool) → (a && (b && c)) ≡ false → (a && (b && (c && fit))) ≡ false
none_left true true true fit e = absurd (cc)
none_left true true false fit e = refl
none_left true false c fit e = refl
none_left false b c fit e = refl

pub outline_by_folds : (g : VgSpec) → true ≡ all_kept g
    → folds_fit (object_here (out-Group g.group)).sets (marks_of (marks_in (out-Group g.group))) ≡ is_outline keeps_object (outline_of g)
outline_by_folds g e =
    sym (outline_tested g ∙ folds_left (keeps_object (object_here (out-Group g.group))) (are_objects (marks_of (marks_in (out-Group g.group))))
    (are_few (marks_of (marks_in (out-Group g.group)))) _ (sym e))

pub no_outline : (g : VgSpec) → false ≡ all_kept g → false ≡ is_outline keeps_object (outline_of g)
no_outline g e =
    sym (outline_tested g ∙ none_left (keeps_object (object_here (out-Group g.group))) (are_objects (marks_of (marks_in (out-Group g.group))))
    (are_few (marks_of (marks_in (out-Group g.group)))) _ (sym e))
