-- A source by its name, and by its index.
use Rattle.std.proofs.Common.{◌≡◌, ℕ, zero, suc, ◌+◌, ◌<◌, ◌≤◌, Bool, true, false, Option, Some, None, List, [], ◌∷◌, ◌++◌}
use Rattle.std.proofs.Common.{length, map, refl, sym, ap, subst, ◌∙◌, arith, length-append}
use Rattle.std.specs.Prelude.{◌≢◌, sum_by, if◌then◌else◌}
use Rattle.std.specs.List.{All}
use Rattle.std.specs.Option.{option_map}
use Rattle.std.specs.Str.{bytes_eq}
use Rattle.std.proofs.lemmas.Slice.Eq.{bytes_eq-Decides}
use Rattle.std.proofs.lemmas.List.Sums.{sum_by-cons}
use Rattle.std.proofs.lemmas.List.Elements.{All-head, All-tail}
use Rattle.fixed_num.specs.Ranges.{◌>>=◌, all_found}
use Rattle.cell_value.specs.Datum.{Datum}
use Rattle.cell_value.specs.State.{Dataset}
use Rattle.expr_eval.specs.Values.{Values}
use Rattle.param_flow.specs.declared.command.ChangeOf.{ChangeOf}
use Rattle.param_flow.specs.Change.{rows_after, count_staying}
use Rattle.param_flow.specs.Machine.{source_after, count_left}
use Rattle.param_flow.specs.inner.Sources.{data_at, with_data, rows_in, count_in, names_of, name_at, AreApart}
use Rattle.param_flow.proofs.LeftRows.{pairs_first, pairs_rest}

same_text : (a b : List ℕ) → a ≡ b → bytes_eq a b ≡ true
same_text a b e = (bytes_eq-Decides a b).1 e

other_text : (a b : List ℕ) → a ≢ b → bytes_eq a b ≡ false
other_text a b h = by_test (bytes_eq a b) refl
  where
    by_test : (same : Bool) → bytes_eq a b ≡ same → same ≡ false
    by_test true e = absurd (h ((bytes_eq-Decides a b).0 e))
    by_test false e = refl

-- what holds of all names holds of that at an index
name_within : (P : List ℕ → Type 0) (sources : List Dataset) (index : ℕ) → index < length sources → All P (names_of sources)
    → P (name_at sources index)
name_within P [] index within h = absurd (omega (arith, within))
name_within P (source ∷ sources) zero within h = All-head P source.name (names_of sources) h
name_within P (source ∷ sources) (suc index) within h =
    name_within P sources index (omega (arith, within)) (All-tail P source.name (names_of sources) h)

module _ (values : Values) (name : List ℕ) (change : ChangeOf) (new : List Datum) where
  -- sources of other names stay
  others_stay : (sources : List Dataset) → All (λ other. name ≢ other) (names_of sources)
      → all_found (map (source_after values name change new) sources) ≡ Some sources
  others_stay [] h = refl
  others_stay (source ∷ sources) h =
      let first : name ≢ source.name = All-head (λ other. name ≢ other) source.name (names_of sources) h in
      let other = other_text source.name name (λ same. first (sym same)) in
      let more = others_stay sources (All-tail (λ other. name ≢ other) source.name (names_of sources) h) in
      rw (other, more) refl

  others_count : (sources : List Dataset) → All (λ other. name ≢ other) (names_of sources)
      → sum_by (count_left values name change) sources ≡ count_in sources
  others_count [] h = refl
  others_count (source ∷ sources) h =
      let first : name ≢ source.name = All-head (λ other. name ≢ other) source.name (names_of sources) h in
      let other = other_text source.name name (λ same. first (sym same)) in
      let more = others_count sources (All-tail (λ other. name ≢ other) source.name (names_of sources) h) in
      let rows : List Datum = source.rows in
      let count : Dataset → ℕ = count_left values name change in
      let here : count source ≡ length rows = ap (λ same. if same then count_staying values change.remove rows else length rows) other in
      let sum = sum_by-cons count source sources in
      let long = length-append rows (rows_in sources) in
      omega (arith, here, more, sum, long)

  after_first : (source : Dataset) (sources : List Dataset) (found : Option (List Datum))
      → (option_map (λ rows. record { name = source.name; rows = rows ++ new }) found >>= λ (first : Dataset).
      Some sources >>= λ others. Some (first ∷ others))
      ≡ option_map (with_data (source ∷ sources) 0) (option_map (λ left. left ++ new) found)
  after_first source sources None = refl
  after_first source sources (Some rows) = refl

  after_others : (source : Dataset) (sources : List Dataset) (index : ℕ) (found : Option (List Datum))
      → (Some source >>= λ first. option_map (with_data sources index) found >>= λ others. Some (first ∷ others))
      ≡ option_map (with_data (source ∷ sources) (suc index)) found
  after_others source sources index None = refl
  after_others source sources index (Some rows) = refl

  -- the source of a name that no other has is changed
  pub changed_at : (sources : List Dataset) (index : ℕ) → index < length sources → AreApart (names_of sources)
      → name_at sources index ≡ name
      → all_found (map (source_after values name change new) sources)
      ≡ option_map (with_data sources index) (option_map (λ left. left ++ new) (rows_after values change (data_at sources index)))
  changed_at [] index within apart is = absurd (omega (arith, within))
  changed_at (source ∷ sources) zero within apart is =
      let others = subst (λ name. All (λ other. name ≢ other) (names_of sources)) is
      (pairs_first (λ a b. a ≢ b) source.name (names_of sources) apart) in
      rw (same_text source.name name is, others_stay sources others) (after_first source sources (rows_after values change source.rows))
  changed_at (source ∷ sources) (suc index) within apart is =
      let far : source.name ≢ name_at sources index = name_within (λ other. source.name ≢ other) sources index (omega (arith, within))
      (pairs_first (λ a b. a ≢ b) source.name (names_of sources) apart) in
      let other = other_text source.name name (λ same. far (same ∙ sym is)) in
      let more = changed_at sources index (omega (arith, within)) (pairs_rest (λ a b. a ≢ b) source.name (names_of sources) apart) is in
      rw (other, more)
      (after_others source sources index (option_map (λ left. left ++ new) (rows_after values change (data_at sources index))))

  -- how many rows it would leave
  pub counted_at : (sources : List Dataset) (index : ℕ) → index < length sources → AreApart (names_of sources)
      → name_at sources index ≡ name
      → sum_by (count_left values name change) sources + length (data_at sources index)
      ≡ count_in sources + count_staying values change.remove (data_at sources index)
  counted_at [] index within apart is = absurd (omega (arith, within))
  counted_at (source ∷ sources) zero within apart is =
      let others = subst (λ name. All (λ other. name ≢ other) (names_of sources)) is
      (pairs_first (λ a b. a ≢ b) source.name (names_of sources) apart) in
      let rows : List Datum = source.rows in
      let count : Dataset → ℕ = count_left values name change in
      let rest = others_count sources others in
      let here : count source ≡ count_staying values change.remove rows =
      ap (λ same. if same then count_staying values change.remove rows else length rows) (same_text source.name name is) in
      let sum = sum_by-cons count source sources in
      let long = length-append rows (rows_in sources) in
      omega (arith, rest, here, sum, long)
  counted_at (source ∷ sources) (suc index) within apart is =
      let far : source.name ≢ name_at sources index = name_within (λ other. source.name ≢ other) sources index (omega (arith, within))
      (pairs_first (λ a b. a ≢ b) source.name (names_of sources) apart) in
      let other = other_text source.name name (λ same. far (same ∙ sym is)) in
      let more = counted_at sources index (omega (arith, within)) (pairs_rest (λ a b. a ≢ b) source.name (names_of sources) apart) is in
      let rows : List Datum = source.rows in
      let count : Dataset → ℕ = count_left values name change in
      let here : count source ≡ length rows = ap (λ same. if same then count_staying values change.remove rows else length rows) other in
      let sum = sum_by-cons count source sources in
      let long = length-append rows (rows_in sources) in
      omega (arith, more, here, sum, long)

-- no more rows are in one source than in all
pub few_at : (sources : List Dataset) (index : ℕ) → length (data_at sources index) ≤ count_in sources
few_at [] index = omega arith
few_at (source ∷ sources) zero = let long = length-append source.rows (rows_in sources) in omega (arith, long)
few_at (source ∷ sources) (suc index) =
    let more = few_at sources index in
    let long = length-append source.rows (rows_in sources) in
    omega (arith, more, long)
