-- What is given for the sources of a specification.
use Rattle.std.proofs.Common.{◌≡◌, ℕ, Option, List, [], ◌∷◌, map, zip, Result, Ok, Err, refl, ap, subst, ◌∙◌}
use Rattle.std.specs.Result.{result_map_both}
use Rattle.fixed_num.specs.Steps.{◌>>=◌}
use Rattle.chart_io.specs.Outside.{Files}
use Rattle.cell_value.specs.declared.state.ChartState.{ChartState}
use Rattle.cell_value.specs.Row.{Cells}
use Rattle.vega_spec.specs.declared.data.DataSet.{DataSet}
use Rattle.vega_spec.specs.declared.spec.VgSpec.{VgSpec}
use Rattle.chart_opening.specs.declared.refusal.Refusal.{Refusal}
use Rattle.chart_opening.specs.declared.refusal.OpenStop.{OpenStop}
use Rattle.chart_opening.specs.Opening.{state_within, opening_by}
use Rattle.chart_opening.specs.Sources.{Given, given_by, rows_by, all_of, source_sets}
use Rattle.chart_opening.specs.Texts.{Reading}
use Rattle.chart_opening.specs.inner.Folders.{IsRead}
use Rattle.chart_opening.specs.inner.Reading.{the_reading}
use Rattle.chart_opening.specs.inner.Rows.{read_by, state_read}

-- results that are read one by one are those of all that is given
module _ {S G R : Type 0} (given : S → Result G Refusal) (rows : S × G → Result R Refusal) where
  one_read : (s : S) (sets : List S) (r : Result G Refusal) (left : Result (List G) Refusal) (others : Result (List (Result R Refusal)) Refusal)
      → others ≡ (left >>= λ gs. Ok (map rows (zip sets gs)))
      → (result_map_both (λ g. rows (s, g)) (λ why. why) r >>= λ x. others >>= λ xs. Ok (x ∷ xs))
      ≡ ((r >>= λ g. left >>= λ gs. Ok (g ∷ gs)) >>= λ gs. Ok (map rows (zip (s ∷ sets) gs)))
  one_read s sets (Ok g) (Ok gs) others same = ap (λ o. o >>= λ xs. Ok (rows (s, g) ∷ xs)) same
  one_read s sets (Ok g) (Err why) others same = ap (λ o. o >>= λ xs. Ok (rows (s, g) ∷ xs)) same
  one_read s sets (Err why) left others same = refl

  each_read : (sets : List S)
      → all_of (map (λ s. result_map_both (λ g. rows (s, g)) (λ why. why) (given s)) sets)
      ≡ (all_of (map given sets) >>= λ gs. Ok (map rows (zip sets gs)))
  each_read [] = refl
  each_read (s ∷ sets) = one_read s sets (given s) (all_of (map given sets)) _ (each_read sets)

then_state : (g : VgSpec) (sets : List DataSet) (given : Result (List Given) Refusal)
    → ((given >>= λ gs. Ok (map rows_by (zip sets gs))) >>= state_read g)
    ≡ (given >>= λ gs. all_of (map rows_by (zip sets gs)) >>= state_within g)
then_state g sets (Ok gs) = refl
then_state g sets (Err why) = refl

-- the state of what is read is the one in which the specification opens
pub opens_as : (g : VgSpec) (reading : Reading) (files : Files)
    → (all_of (map (read_by reading files) (source_sets g)) >>= state_read g) ≡ opening_by reading files g
opens_as g reading files =
    ap (λ o. o >>= state_read g) (each_read (given_by reading files) rows_by (source_sets g))
    ∙ then_state g (source_sets g) (all_of (map (given_by reading files) (source_sets g)))

module _ (a b : ℕ) (told tells : Option Files) where
  -- the same sources
  pub over_sets : (result : Result (List (Result (List Cells) Refusal)) OpenStop) (sets others : List DataSet) → sets ≡ others
      → IsRead a b told tells result (λ files. all_of (map (read_by the_reading files) sets))
      → IsRead a b told tells result (λ files. all_of (map (read_by the_reading files) others))
  over_sets result sets others same read =
      let at : List DataSet → Type 0 = λ xs. IsRead a b told tells result (λ files. all_of (map (read_by the_reading files) xs)) in
      subst at same read

  -- the specification opens so
  pub opened_as : (result : Result ChartState OpenStop) (g : VgSpec)
      → IsRead a b told tells result (λ files. all_of (map (read_by the_reading files) (source_sets g)) >>= state_read g)
      → IsRead a b told tells result (λ files. opening_by the_reading files g)
  opened_as result g read =
      let at : (Files → Result ChartState Refusal) → Type 0 = λ given. IsRead a b told tells result given in
      subst at (λ i files. opens_as g the_reading files i) read
