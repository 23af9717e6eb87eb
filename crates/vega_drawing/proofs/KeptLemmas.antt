-- Scales with the domains that fit them.
use Rattle.std.proofs.Common.{◌≡◌, ◌⊎◌, inl, inr, ℕ, Bool, List, [], ◌∷◌, ◌++◌, length, map, Some, sym, ◌∙◌, subst, append-nil, arith}
use Rattle.std.specs.Prelude.{not, IsTrue}
use Rattle.std.specs.List.{All, AllZip, filter}
use Rattle.std.specs.Str.{bytes_eq}
use Rattle.std.proofs.lemmas.List.Elements.{All-nil, All-cons, All-head, All-tail, All-append, All-map, All-filter}
use Rattle.vega_scales.specs.declared.scaled.Scaled.{Scaled}
use Rattle.vega_scales.specs.Scales.{is_built, FitsScale, KeepsBounds}
use Rattle.vega_spec.specs.declared.scales.Scale.{Scale as VegaScale}
use Rattle.vega_drawing.specs.declared.scales.ScaleKept.{ScaleKept}
use Rattle.vega_drawing.specs.declared.spots.GridSpot.{GridSpot}
use Rattle.vega_drawing.specs.Scales.{ScaleHere, name_of, has_scale, and_outer, own_scale, own_scales, scale_named, past}
use Rattle.vega_drawing.specs.inner.Kept.{kept_seen, IsKeptScale, IsFitHere}
use Rattle.vega_drawing.proofs.SeenLemmas.{found_keeps}

pub kept_and_outer : (own : List ScaleKept) (outer : List ScaleHere) → All IsKeptScale own → All IsFitHere outer
    → All IsFitHere (and_outer outer (map kept_seen own))
kept_and_outer own outer kept round =
    let test = λ (s : ScaleHere). not (has_scale (map kept_seen own) (name_of s)) in
    All-append IsFitHere (map kept_seen own) (filter test outer) (All-map IsFitHere kept_seen own kept) (All-filter test IsFitHere outer round)

pub kept_past : (spot : GridSpot) (scales : List ScaleHere) → All IsFitHere scales → All IsFitHere (map (past spot) scales)
kept_past spot scales kept = All-map IsFitHere (past spot) scales kept

-- the scale that a name stands for
pub named_kept : (scales : List ScaleHere) (name : List ℕ) (s : ScaleHere) → All IsFitHere scales → scale_named scales name ≡ Some s → IsFitHere s
named_kept scales name s kept e = found_keeps IsFitHere (λ s. bytes_eq (name_of s) name) scales s kept e

-- ---- scales of an object with domains that were found

-- each fits its scale
own_fit : (of : VegaScale → Bool) (scales : List VegaScale) (domains : List Scaled) → All (λ s. IsTrue (is_built s)) scales → All KeepsBounds scales
    → AllZip FitsScale scales domains → All IsFitHere (own_scales of scales domains)
own_fit of [] [] built bounds fits = All-nil IsFitHere
own_fit of [] (d ∷ ds) built bounds fits = absurd fits
own_fit of (s ∷ ss) [] built bounds fits = absurd fits
own_fit of (s ∷ ss) (d ∷ ds) built bounds fits =
    All-cons IsFitHere (own_scale of (s, d)) (own_scales of ss ds)
    (record { built = All-head (λ s. IsTrue (is_built s)) s ss built; bounds = All-head KeepsBounds s ss bounds; fits = fits.0 })
    (own_fit of ss ds (All-tail (λ s. IsTrue (is_built s)) s ss built) (All-tail KeepsBounds s ss bounds) fits.1)

all_seen : (kept : List ScaleKept) → All IsFitHere (map kept_seen kept) → All IsKeptScale kept
all_seen [] all = All-nil IsKeptScale
all_seen (s ∷ others) all =
    All-cons IsKeptScale s others (All-head IsFitHere (kept_seen s) (map kept_seen others) all)
    (all_seen others (All-tail IsFitHere (kept_seen s) (map kept_seen others) all))

pub own_kept : (of : VegaScale → Bool) (scales : List VegaScale) (domains : List Scaled) (kept : List ScaleKept)
    → map kept_seen kept ≡ own_scales of scales domains → All (λ s. IsTrue (is_built s)) scales → All KeepsBounds scales
    → AllZip FitsScale scales domains → All IsKeptScale kept
own_kept of scales domains kept is built bounds fits = all_seen kept (subst (All IsFitHere) (sym is) (own_fit of scales domains built bounds fits))

-- one of two lists has ended
pub own_ended : (of : VegaScale → Bool) (done all : List ScaleHere) (scales : List VegaScale) (domains : List Scaled)
    → (length scales ≡ 0) ⊎ (length domains ≡ 0) → done ++ own_scales of scales domains ≡ all → done ≡ all
own_ended of done all [] domains end is = sym (append-nil done) ∙ is
own_ended of done all (s ∷ ss) [] end is = sym (append-nil done) ∙ is
own_ended of done all (s ∷ ss) (d ∷ ds) (inl end) is = absurd (omega arith)
own_ended of done all (s ∷ ss) (d ∷ ds) (inr end) is = absurd (omega arith)
