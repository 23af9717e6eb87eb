-- Headers at a place.
use Rattle.std.proofs.Common.{◌≡◌, ◌⊎◌, inl, inr, filter_map, ℕ, Option, List, [], ◌∷◌, ◌++◌, length, sym, ◌∙◌, append-nil, arith}
use Rattle.std.specs.Prelude.{zip}
use Rattle.cell_value.specs.declared.cell.Cell.{Cell}
use Rattle.vega_spec.specs.declared.marks.Header.{Header as HeaderPlace}
use Rattle.plot_scenes.specs.declared.headers.Header.{Header}
use Rattle.vega_drawing.specs.Grids.{header_for}

-- headers at a place, where nothing is left
pub headers_ended : (place : HeaderPlace) (out all : List Header) (places : List (Option HeaderPlace)) (cells : List (List ℕ × Cell))
    → (length places ≡ 0) ⊎ (length cells ≡ 0) → out ++ filter_map (header_for place) (zip places cells) ≡ all → out ≡ all
headers_ended place out all [] cells end is = sym (append-nil out) ∙ is
headers_ended place out all (first ∷ places) [] end is = sym (append-nil out) ∙ is
headers_ended place out all (first ∷ places) (cell ∷ cells) (inl end) is = absurd (omega arith)
headers_ended place out all (first ∷ places) (cell ∷ cells) (inr end) is = absurd (omega arith)
