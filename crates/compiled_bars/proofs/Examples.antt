-- A text of bars, worked out.
use Rattle.std.proofs.Common.{◌≡◌, ℕ, List, [], ◌∷◌, ◌++◌, pos, ap, ◌∙◌}
use Rattle.std.specs.Prelude.{codes}
use Rattle.std.specs.Fmt.{digits}
use Rattle.fixed_num.specs.Decimal.{spelling, size_spelling, fraction_spelling, fraction_digits}
use Rattle.json_exact.specs.declared.json.Json.{Json}
use Rattle.json_exact.specs.declared.json.Json.TheBlock.{hidden-the_row-Json-0, hidden-the_row-Member-1}
use Rattle.json_exact.specs.Writing.{text_of}
use Rattle.compiled_bars.specs.Bars.{bars_over}
use Rattle.compiled_bars.specs.Rows.{values_over}
use Rattle.compiled_bars.specs.Laws.{line_of}
use Rattle.compiled_bars.proofs.Tree.{tree}
use Rattle.compiled_bars.proofs.Width.{width_text}
use Rattle.compiled_bars.proofs.Written.{bars_are}

-- two values
abbrev two : Json
two = values_over (codes "a") (codes "b") ((codes "A", pos 28000000) ∷ (codes "B", pos 55000000) ∷ [])

abbrev line : List ℕ
line =
    codes "{\"data\":[{\"name\":\"t\",\"values\":[{\"a\":\"A\",\"b\":28},{\"a\":\"B\",\"b\":55}]}],"
    ++ codes "\"scales\":[{\"name\":\"x\",\"type\":\"band\","
    ++ codes "\"domain\":{\"data\":\"t\",\"field\":\"a\",\"sort\":true},"
    ++ codes "\"range\":\"width\",\"paddingInner\":0.1,\"paddingOuter\":0.05},"
    ++ codes "{\"name\":\"y\",\"type\":\"linear\",\"domain\":{\"data\":\"t\",\"field\":\"b\"},"
    ++ codes "\"range\":\"height\",\"zero\":true,\"nice\":true}],"
    ++ codes "\"marks\":[{\"type\":\"rect\",\"from\":{\"data\":\"t\"},\"encode\":{\"update\":{"
    ++ codes "\"x\":{\"field\":\"a\",\"scale\":\"x\"},\"width\":{\"scale\":\"x\",\"band\":1},"
    ++ codes "\"y\":{\"field\":\"b\",\"scale\":\"y\"},\"y2\":{\"value\":null,\"scale\":\"y\"},"
    ++ codes "\"fill\":{\"value\":\"#4c78a8\"}}}}],"
    ++ codes "\"$schema\":\"https://vega.github.io/schema/vega/v5.json\","
    ++ codes "\"width\":{\"signal\":\"20 * bandspace(domain('x').length, 0.1, 0.05)\"},\"height\":200,\"padding\":5}" ++ 10 ∷ []

bars_of_two : line_of (bars_over (codes "t") (codes "a") (codes "b") two) ≡ line
unfolding hidden-the_row-Json-0 hidden-the_row-Member-1 denote.Hole.Carrier.hidden
    spelling size_spelling fraction_spelling fraction_digits digits
bars_of_two =
    ap (λ (t : Json). text_of t ++ 10 ∷ []) (bars_are (codes "t") (codes "a") (codes "b") two)
    ∙ ap (λ (e : List ℕ). text_of (tree (codes "t") (codes "a") (codes "b") two e) ++ 10 ∷ []) width_text
