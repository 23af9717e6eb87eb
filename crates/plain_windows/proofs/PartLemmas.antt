-- The rows of a frame.
use Rattle.std.proofs.Common.{◌≡◌, ℕ, zero, suc, ◌+◌, ◌-◌, ◌<◌, ◌≤◌, Bool, List, [], ◌∷◌, filter, fold, length, take, drop, get_or, arith}
use Rattle.std.proofs.Common.{ap, ap₂, ◌∙◌, take_all, true}
use Rattle.std.specs.Prelude.{◌==◌, ◌&&◌}
use Rattle.std.proofs.lemmas.Bool.{and_parts, eqb-true}
use Rattle.std.proofs.lemmas.List.{length-map, get_or-map, drop_more, take-map, drop-map}
use Rattle.std.proofs.lemmas.List.Sums.{length-filter, count_by-le-length}
use Rattle.cell_value.specs.Datum.{Datum}
use Rattle.plain_orders.specs.Partitions.{datum_at, data_at}
use Rattle.plain_windows.specs.declared.frames.Frame.{Frame}
use Rattle.plain_windows.specs.inner.Views.{part}

-- the last of some elements
last_among : {X : Type 0} (xs : List X) (from n : ℕ) (d : X) → from + suc n ≤ length xs
    → fold (λ earlier y. y) (get_or xs from d) (take n (drop (from + 1) xs)) ≡ get_or xs (from + n) d
last_among xs from zero d l = ap (λ k. get_or xs k d) (omega arith)
last_among xs from (suc n) d l =
    ap (λ ys. fold (λ earlier y. y) (get_or xs from d) (take (suc n) ys)) (drop_more xs (from + 1) d (omega (arith, l)))
    ∙ last_among xs (from + 1) n d (omega (arith, l))
    ∙ ap (λ k. get_or xs k d) (omega arith)

-- the whole of a list
pub all_of : {X : Type 0} (frame : Frame) (xs : List X) → frame.from ≡ 0 → frame.to ≡ length xs → part frame xs ≡ xs
all_of frame xs begins ends =
    ap₂ (λ from n. take (n - from) (drop from xs)) begins ends ∙ take_all (length xs - 0) xs (omega arith)

pub all_if : {X : Type 0} (frame : Frame) (n : ℕ) (xs : List X) → n ≡ length xs → (frame.from == 0 && frame.to == n) ≡ true
    → part frame xs ≡ xs
all_if frame n xs long is =
    let both = and_parts (frame.from == 0) (frame.to == n) is in
    all_of frame xs (eqb-true frame.from 0 both.0) (eqb-true frame.to n both.1 ∙ long)

module _ (rows : List Datum) (places : List ℕ) where
  abbrev all : List Datum
  all = data_at rows places

  pub wide : length all ≡ length places
  wide = length-map places (datum_at rows)

  abbrev pub nothing : Datum
  nothing = datum_at [] 0

  pub there : (i : ℕ) → i < length places → get_or all i nothing ≡ datum_at rows (get_or places i 0)
  there i below = get_or-map (datum_at rows) places i 0 nothing below

  pub few_pass : (p : Datum → Bool) → length (filter p all) ≤ length places
  few_pass p = omega (arith, length-filter p all, count_by-le-length p all, wide)

  module _ (frame : Frame) where
    -- the rows of a frame by their places
    pub part_seen : part frame all ≡ data_at rows (part frame places)
    part_seen =
        ap (take (frame.to - frame.from)) (drop-map (datum_at rows) frame.from places)
        ∙ take-map (datum_at rows) (frame.to - frame.from) (drop frame.from places)

    pub no_part : frame.to ≤ frame.from → part frame all ≡ []
    no_part none =
        let none_left : frame.to - frame.from ≡ 0 = omega (arith, none) in ap (λ k. take k (drop frame.from all)) none_left

    module _ (short : frame.to ≤ length places) (some : frame.from < frame.to) where
      abbrev others : List Datum
      others = take (frame.to - (frame.from + 1)) (drop (frame.from + 1) all)

      pub first_part : part frame all ≡ get_or all frame.from nothing ∷ others
      first_part =
          let more : frame.to - frame.from ≡ suc (frame.to - (frame.from + 1)) = omega (arith, some) in
          let inside : frame.from < length all = omega (arith, some, short, wide) in
          ap (λ k. take k (drop frame.from all)) more
          ∙ ap (take (suc (frame.to - (frame.from + 1)))) (drop_more all frame.from nothing inside)

      pub last_part : fold (λ earlier row. row) (get_or all frame.from nothing) others ≡ get_or all (frame.to - 1) nothing
      last_part =
          let inside : frame.from + suc (frame.to - (frame.from + 1)) ≤ length all = omega (arith, some, short, wide) in
          let end : frame.from + (frame.to - (frame.from + 1)) ≡ frame.to - 1 = omega (arith, some) in
          last_among all frame.from (frame.to - (frame.from + 1)) nothing inside ∙ ap (λ k. get_or all k nothing) end
