-- Counts of plots in facets, up to the greatest number of 64 bits.
use Rattle.std.proofs.Common.{◌≡◌, ℕ, zero, suc, ◌+◌, ◌<◌, ◌≤◌, min, Bool, true, false, cond, Option, Some, None, List, [], ◌∷◌, map, length, drop, get_or}
use Rattle.std.proofs.Common.{Result, Err, refl, sym, ap, ap₂, ◌∙◌, subst, arith}
use Rattle.std.specs.Option.{option_map}
use Rattle.std.proofs.lemmas.List.{drop_more}
use Rattle.fixed_num.specs.Ranges.{◌>>=◌}
use Rattle.cell_value.specs.State.{Dataset, dataset_of}
use Rattle.expr_eval.specs.declared.error.EvalError.{EvalError}
use Rattle.expr_eval.specs.declared.error.EvalError.TheVariants.{Overflow, Memory}
use Rattle.expr_eval.specs.Answers.{Evaluates}
use Rattle.vega_spec.specs.declared.spec.Group.{Group, out-Group}
use Rattle.vega_spec.specs.declared.spec.VgMark.{VgMark, VgMark-F, out-VgMark}
use Rattle.vega_copies.specs.declared.copies.CopyOf.{CopyOf}
use Rattle.vega_copies.specs.declared.names.Level.{Level}
use Rattle.vega_copies.specs.declared.names.NamesAt.{NamesAt}
use Rattle.vega_copies.specs.Outlines.{object_here}
use Rattle.vega_copies.specs.Scopes.{Names, names_in_object}
use Rattle.vega_copies.specs.Panels.{plots_in_facets}
use Rattle.vega_copies.specs.inner.Levels.{names_at, names_over, names_with_level}
use Rattle.vega_copies.specs.inner.Outlined.{marks_of, is_group, group_object}
use Rattle.vega_copies.specs.inner.Copied.{copy_seen}
use Rattle.vega_copies.specs.inner.Counted.{most_counted, counted, is_panel, plots_inside, plots_with_level, plots_of_copy}
use Rattle.vega_lists.specs.Inside.{RowsByName}
use Rattle.vega_copies.specs.inner.Standing.{MayStand}
use Rattle.vega_copies.proofs.OutlineLemmas.{plain_first, group_first}
use Rattle.vega_copies.proofs.StandLemmas.{stand_first, stand_rest, names_of_copy}

-- a count with those that are found, each up to the greatest number
abbrev pub counted_from : ℕ → List (Option ℕ) → Option ℕ
counted_from count [] = Some count
counted_from count (found ∷ others) = found >>= λ n. counted_from (min (count + n) most_counted) others

-- one more
pub one_more : (count n : ℕ) (found : Option ℕ) (others : List (Option ℕ)) (whole : Option ℕ) → found ≡ Some n
    → counted_from count (found ∷ others) ≡ whole → counted_from (min (count + n) most_counted) others ≡ whole
one_more count n found others whole e so_far = sym (ap (λ o. o >>= λ n. counted_from (min (count + n) most_counted) others) e) ∙ so_far

-- what stops one stops all
pub one_stops : (count : ℕ) (found : Option ℕ) (others : List (Option ℕ)) (whole : Option ℕ) (error : EvalError) → counted_from count (found ∷ others) ≡ whole
    → Evaluates {X = ℕ} (Err error) found → Evaluates {X = ℕ} (Err error) whole
one_stops count found others whole Overflow so_far e = sym so_far ∙ ap (λ o. o >>= λ n. counted_from (min (count + n) most_counted) others) e
one_stops count found others whole Memory so_far e = tt

-- the same of a list, at a place of it
module _ {X : Type 0} (f : X → Option ℕ) (xs : List X) (i : ℕ) (x : X) (within : i < length xs) (at : x ≡ get_or xs i x) where
  left : map f (drop i xs) ≡ f x ∷ map f (drop (i + 1) xs)
  left = ap (map f) (drop_more xs i x within ∙ ap (λ z. z ∷ drop (i + 1) xs) (sym at))

  pub more_at : (count n now : ℕ) (whole : Option ℕ) → f x ≡ Some n → now ≡ min (count + n) most_counted → counted_from count (map f (drop i xs)) ≡ whole
      → counted_from now (map f (drop (i + 1) xs)) ≡ whole
  more_at count n now whole e is so_far =
      ap (λ k. counted_from k (map f (drop (i + 1) xs))) is
      ∙ one_more count n (f x) (map f (drop (i + 1) xs)) whole e (ap (counted_from count) (sym left) ∙ so_far)

-- sums that stop at a greatest number
pub capped : (most c a k : ℕ) → min (min (c + min a most) most + k) most ≡ min (c + (a + k)) most
capped most c a k = grind arith

pub below : (most n : ℕ) → min n most ≤ most
below most n = grind arith

pub seen_twice : {X Y Z : Type 0} (f : Y → Z) (see : X → Y) (xs : List X) → map (λ x. f (see x)) xs ≡ map f (map see xs)
seen_twice f see [] = refl
seen_twice f see (x ∷ xs) = ap (λ l. f (see x) ∷ l) (seen_twice f see xs)

-- the plots of a held copy
abbrev pub plots_held : List Dataset → Bool → Bool → VgMark-F Group VgMark → Names → CopyOf → Option ℕ
plots_held sources in_facet in_grid m names copy = counted (plots_of_copy sources in_facet in_grid m names (copy_seen copy))

-- ---- marks one after the other

nothing_before : (others : Option ℕ) → others ≡ (others >>= λ b. Some (0 + b))
nothing_before None = refl
nothing_before (Some b) = ap Some (omega arith)

group_before : (found : Option (List ℕ)) (many : List ℕ → ℕ) (others : Option ℕ)
    → (found >>= λ ns. others >>= λ b. Some (many ns + b)) ≡ ((found >>= λ ns. Some (many ns + 0)) >>= λ a. others >>= λ b. Some (a + b))
group_before None many others = refl
group_before (Some ns) many None = refl
group_before (Some ns) many (Some b) = ap Some (omega arith)

module _ (sources : List Dataset) (in_facet in_grid : Bool) (names : Names) where
  abbrev plots : List VgMark → Option ℕ
  plots marks = plots_in_facets sources (marks_of marks) in_facet in_grid names

  -- the plots of a mark alone
  abbrev pub plots_alone : VgMark → Option ℕ
  plots_alone m = counted (plots (m ∷ []))

  first_counted : (m : VgMark) (ms : List VgMark) → plots (m ∷ ms) ≡ (plots (m ∷ []) >>= λ a. plots ms >>= λ b. Some (a + b))
  first_counted m ms = by_type (is_group (out-VgMark m)) refl
    where
      by_type : (b : Bool) → is_group (out-VgMark m) ≡ b → plots (m ∷ ms) ≡ (plots (m ∷ []) >>= λ a. plots ms >>= λ b. Some (a + b))
      by_type true e =
          ap (λ row. plots_in_facets sources row in_facet in_grid names) (group_first m (marks_of ms) e)
          ∙ group_before _ _ (plots ms)
          ∙ ap (λ row. plots_in_facets sources row in_facet in_grid names >>= λ a. plots ms >>= λ b. Some (a + b)) (sym (group_first m (marks_of []) e))
      by_type false e =
          ap (λ row. plots_in_facets sources row in_facet in_grid names) (plain_first m (marks_of ms) e)
          ∙ nothing_before (plots ms)
          ∙ ap (λ row. plots_in_facets sources row in_facet in_grid names >>= λ a. plots ms >>= λ b. Some (a + b)) (sym (plain_first m (marks_of []) e))

  -- what stops one mark stops all
  pub mark_stops : (marks : List VgMark) (i : ℕ) (m : VgMark) (error : EvalError) → i < length marks → m ≡ get_or marks i m
      → Evaluates {X = ℕ} (Err error) (plots (m ∷ [])) → Evaluates {X = ℕ} (Err error) (plots marks)
  mark_stops marks i m Memory within at stops = tt
  mark_stops [] i m Overflow within at stops = absurd (omega (arith, within))
  mark_stops (x ∷ xs) zero m Overflow within at stops =
      first_counted x xs ∙ ap (λ o. o >>= λ a. plots xs >>= λ b. Some (a + b)) (ap (λ y. plots (y ∷ [])) (sym at) ∙ stops)
  mark_stops (x ∷ xs) (suc i) m Overflow within at stops =
      first_counted x xs ∙ ap (λ o. plots (x ∷ []) >>= λ a. o >>= λ b. Some (a + b)) (mark_stops xs i m Overflow (omega (arith, within)) at stops)
      ∙ nothing_behind (plots (x ∷ []))
    where
      nothing_behind : (o : Option ℕ) → (o >>= λ a. None >>= λ b. Some (a + b)) ≡ None
      nothing_behind None = refl
      nothing_behind (Some a) = refl

  capped_sum : (c : ℕ) (first others : Option ℕ) (rest : List (Option ℕ))
      → ((n : ℕ) → counted_from (min (c + min n most_counted) most_counted) rest
      ≡ option_map (λ b. min (min (c + min n most_counted) most_counted + b) most_counted) others)
      → counted_from c (counted first ∷ rest) ≡ option_map (λ n. min (c + n) most_counted) (first >>= λ a. others >>= λ b. Some (a + b))
  capped_sum c None others rest h = refl
  capped_sum c (Some a) None rest h = h a
  capped_sum c (Some a) (Some b) rest h = h a ∙ ap Some (capped most_counted c a b)

  counted_all : (marks : List VgMark) (c : ℕ) → c ≤ most_counted
      → counted_from c (map plots_alone marks) ≡ option_map (λ n. min (c + n) most_counted) (plots marks)
  counted_all [] c small = ap Some (ended most_counted c small)
    where
      ended : (most c : ℕ) → c ≤ most → c ≡ min (c + 0) most
      ended most c small = grind (arith, small)
  counted_all (m ∷ ms) c small =
      capped_sum c (plots (m ∷ [])) (plots ms) (map plots_alone ms) (λ n. counted_all ms (min (c + min n most_counted) most_counted) (below most_counted _))
      ∙ ap (option_map (λ n. min (c + n) most_counted)) (sym (first_counted m ms))

  from_nothing : (o : Option ℕ) → option_map (λ n. min (0 + n) most_counted) o ≡ counted o
  from_nothing None = refl
  from_nothing (Some n) = ap (λ k. Some (min k most_counted)) (omega arith)

  -- the marks give all plots
  pub marks_count : (marks : List VgMark) → counted_from 0 (map plots_alone marks) ≡ counted (plots marks)
  marks_count marks = counted_all marks 0 (omega arith) ∙ from_nothing (plots marks)

-- ---- a copy

-- a copy that is a plot itself
pub with_itself : (b : Bool) (inside : Option ℕ) (n one whole : ℕ) → counted inside ≡ Some n → one ≡ cond b 1 0 → whole ≡ min (n + one) most_counted
    → counted (option_map (λ k. cond b 1 0 + k) inside) ≡ Some whole
with_itself b None n one whole e o w = absurd (cc)
with_itself b (Some k) n one whole e o w =
    let is : min k most_counted ≡ n = same (min k most_counted) n e in
    ap Some (turned most_counted (cond b 1 0) k ∙ ap₂ (λ m l. min (m + l) most_counted) is (sym o) ∙ sym w)
  where
    same : (a b : ℕ) → Some a ≡ Some b → a ≡ b
    same a b h = cc

    turned : (most one k : ℕ) → min (one + k) most ≡ min (min k most + one) most
    turned most one k = grind arith

pub none_with_itself : (b : Bool) (inside : Option ℕ) (error : EvalError) → Evaluates {X = ℕ} (Err error) (counted inside)
    → Evaluates {X = ℕ} (Err error) (counted (option_map (λ k. cond b 1 0 + k) inside))
none_with_itself b None Overflow e = refl
none_with_itself b (Some k) Overflow e = absurd (cc)
none_with_itself b inside Memory e = tt

-- names that are lacking count nothing
names_stop : (b : Bool) (inside : Names → Option ℕ) (found : Option Names) (error : EvalError) → Evaluates {X = Names} (Err error) found
    → Evaluates {X = ℕ} (Err error) (option_map (λ k. cond b 1 0 + k) (found >>= inside))
names_stop b inside found Overflow e = ap (λ o. option_map (λ k. cond b 1 0 + k) (o >>= inside)) e
names_stop b inside found Memory e = tt

-- nor what can't be counted in a copy
none_inside : (b : Bool) (inside : Option ℕ) (error : EvalError) → Evaluates {X = ℕ} (Err error) inside
    → Evaluates {X = ℕ} (Err error) (option_map (λ k. cond b 1 0 + k) inside)
none_inside b inside Overflow e = ap (option_map (λ k. cond b 1 0 + k)) e
none_inside b inside Memory e = tt

pub stops_counted : (plots : Option ℕ) (error : EvalError) → Evaluates {X = ℕ} (Err error) plots → Evaluates {X = ℕ} (Err error) (counted plots)
stops_counted plots Overflow e = ap counted e
stops_counted plots Memory e = tt

-- each of some marks may stand where all may
pub stand_at : (rows : RowsByName) (marks : List VgMark) (i : ℕ) (m : VgMark)
    → MayStand rows marks → i < length marks → m ≡ get_or marks i m → MayStand rows (m ∷ [])
stand_at rows [] i m stand lt at = absurd (omega (arith, lt))
stand_at rows (x ∷ xs) zero m stand lt at = subst (λ y. MayStand rows (y ∷ [])) (sym at) (stand_first rows x xs stand)
stand_at rows (x ∷ xs) (suc i) m stand lt at = stand_at rows xs i m (stand_rest rows x xs stand) (omega (arith, lt)) at

-- what a copy of a group counts, by the names in it
module _ (outer : NamesAt) (m : VgMark) (copy : CopyOf) (in_facet in_grid : Bool) where
  abbrev sources_read : List Dataset
  sources_read = map dataset_of outer.sources.now

  abbrev named : Option Names
  named = names_in_object sources_read (names_over outer copy.parts) (object_here (out-Group (out-VgMark m).group))

  abbrev plots_here : Option ℕ
  plots_here = plots_of_copy sources_read in_facet in_grid (out-VgMark m) (names_at outer.stores.now outer.sources.now outer.levels.now) (copy_seen copy)

  by_names : plots_here ≡ option_map (λ k. cond (is_panel in_facet in_grid (out-VgMark m)) 1 0 + k)
      (named >>= plots_inside sources_read in_facet (out-VgMark m))
  by_names =
      ap (λ (found : Option Names).
      option_map (λ k. cond (is_panel in_facet in_grid (out-VgMark m)) 1 0 + k) (found >>= plots_inside sources_read in_facet (out-VgMark m)))
      (names_of_copy sources_read outer (group_object 0 (out-VgMark m)) copy)

  pub copy_stops : (error : EvalError) → Evaluates {X = Names} (Err error) named → Evaluates {X = ℕ} (Err error) plots_here
  copy_stops error e =
      subst (Evaluates {X = ℕ} (Err error)) (sym by_names)
      (names_stop (is_panel in_facet in_grid (out-VgMark m)) (plots_inside sources_read in_facet (out-VgMark m)) named error e)

  module _ (level : Level) (are : named ≡ Some (names_with_level outer level)) where
    abbrev within : Option ℕ
    within = plots_inside sources_read in_facet (out-VgMark m) (names_with_level outer level)

    by_level : plots_here ≡ option_map (λ k. cond (is_panel in_facet in_grid (out-VgMark m)) 1 0 + k) within
    by_level =
        by_names
        ∙ ap (λ (found : Option Names).
        option_map (λ k. cond (is_panel in_facet in_grid (out-VgMark m)) 1 0 + k) (found >>= plots_inside sources_read in_facet (out-VgMark m))) are

    -- what was counted in it
    pub copy_counts : (result : Result ℕ EvalError)
        → Evaluates result (counted (plots_with_level sources_read in_facet in_grid (out-VgMark m) (names_with_level outer level)))
        → Evaluates result (counted plots_here)
    copy_counts result counts = subst (λ o. Evaluates result (counted o)) (sym by_level) counts

    pub inside_stops : (error : EvalError) → Evaluates {X = ℕ} (Err error) within → Evaluates {X = ℕ} (Err error) plots_here
    inside_stops error e =
        subst (Evaluates {X = ℕ} (Err error)) (sym by_level) (none_inside (is_panel in_facet in_grid (out-VgMark m)) within error e)
