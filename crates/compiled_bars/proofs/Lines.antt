-- What is written of bars is read as them.
use Rattle.std.proofs.Common.{◌≡◌, ℕ, ℤ, ◌≤◌, List, [], ◌∷◌, map, refl, sym, ap, subst, ◌∙◌}
use Rattle.std.specs.Prelude.{◌≢◌}
use Rattle.std.specs.List.{AllByRecursion}
use Rattle.std.specs.Str.{IsUtf8}
use Rattle.json_exact.specs.declared.json.Json.{Json}
use Rattle.json_exact.specs.declared.json.Json.TheVariants as json
use Rattle.json_exact.specs.Reading.{Reads, depth}
use Rattle.json_exact.proofs.Complete.{text_again-whole}
use Rattle.json_exact.proofs.Whole.{is_complete}
use Rattle.expr_syntax.specs.Writing.{text_of}
use Rattle.vega_model.specs.Reading.{read_of}
use Rattle.vega_writing.specs.Spec.{tree_of}
use Rattle.compiled_bars.specs.Bars.{bars_over, width}
use Rattle.compiled_bars.specs.Rows.{row_object, values_over, IsRow}
use Rattle.compiled_bars.specs.Laws.{line_of, Says}
use Rattle.compiled_bars.proofs.Width.{width_text}
use Rattle.compiled_bars.proofs.Written.{bars_are}
use Rattle.compiled_bars.proofs.Whole.{are_read}
use Rattle.compiled_bars.proofs.Spelled.{IsSpelled, plain, is_read}
use Rattle.compiled_bars.proofs.SpelledBars.{tree_spelled, values_spelled}
use Rattle.compiled_bars.proofs.Depths.{tree_low, values_low}

width_utf8 : IsUtf8 (text_of width)
width_utf8 = subst IsUtf8 (sym width_text) (plain _ refl)

bars_spelled : (name x y : List ℕ) (values : Json) → IsUtf8 name → IsUtf8 x → IsUtf8 y → IsSpelled values →
    IsSpelled (tree_of (bars_over name x y values))
bars_spelled name x y values n u v s =
    subst IsSpelled (sym (bars_are name x y values)) (tree_spelled name x y (text_of width) values n u v width_utf8 s)

bars_low : (name x y : List ℕ) (values : Json) → depth values ≤ 125 → depth (tree_of (bars_over name x y values)) ≤ 128
bars_low name x y values low =
    subst (λ (t : Json). depth t ≤ 128) (sym (bars_are name x y values)) (tree_low name x y (text_of width) values low)

-- bars over values that a text spells
pub line_says : (name x y : List ℕ) (values : Json) → IsUtf8 name → IsUtf8 x → IsUtf8 y → IsSpelled values → depth values ≤ 125 →
    Says (line_of (bars_over name x y values)) (bars_over name x y values)
line_says name x y values n u v s low =
    let reads : Reads (line_of (bars_over name x y values)) (tree_of (bars_over name x y values)) =
    is_read _ (bars_spelled name x y values n u v s) (bars_low name x y values low) in (
      reads,
      λ other r.
          let same : tree_of (bars_over name x y values) ≡ other = is_complete _ _ other (text_again-whole _ _ reads) r in
          ap read_of (sym same) ∙ are_read name x y values,
    )

-- bars over rows
pub written_are_read : (name x y : List ℕ) (rows : List (List ℕ × ℤ)) → IsUtf8 name → IsUtf8 x → IsUtf8 y → x ≢ y →
    AllByRecursion IsRow rows → Says (line_of (bars_over name x y (values_over x y rows))) (bars_over name x y (values_over x y rows))
written_are_read name x y rows n u v apart are =
    line_says name x y (values_over x y rows) n u v (values_spelled x y rows u v apart are) (values_low x y rows)

-- ---- rows of any kind

objects_are : {V : Type 0} (row : V → List ℕ × ℤ) (x y : List ℕ) (vs : List V)
    → map (λ v. row_object x y (row v)) vs ≡ map (row_object x y) (map row vs)
objects_are row x y [] = refl
objects_are row x y (v ∷ vs) = ap (λ (objects : List Json). row_object x y (row v) ∷ objects) (objects_are row x y vs)

-- objects of values that have a category and an amount each
pub values_are : {V : Type 0} (row : V → List ℕ × ℤ) (x y : List ℕ) (vs : List V)
    → json.List (map (λ v. row_object x y (row v)) vs) ≡ values_over x y (map row vs)
values_are row x y vs = ap json.List (objects_are row x y vs)
