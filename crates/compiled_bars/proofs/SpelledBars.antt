-- A text spells the tree of bars.
use Rattle.std.proofs.Common.{◌≡◌, ℕ, ℤ, ◌≤◌, true, false, List, [], ◌∷◌, pos, map, refl, arith}
use Rattle.std.specs.Prelude.{◌≢◌, bytes_eq, nat_lt, codes}
use Rattle.std.specs.List.{list_all, AllByRecursion}
use Rattle.std.specs.Str.{IsUtf8}
use Rattle.std.proofs.lemmas.Bool.{false_from_ne_true}
use Rattle.std.proofs.lemmas.Int.{ints}
use Rattle.fixed_num.specs.Number.{IsNumber}
use Rattle.expr_syntax.proofs.Grounds.{bytes_true}
use Rattle.json_exact.specs.declared.json.Json.{Json}
use Rattle.json_exact.specs.declared.json.Json.TheVariants as json
use Rattle.json_exact.specs.Reading.{yes, null}
use Rattle.compiled_bars.specs.Rows.{row_object, values_over, IsRow}
use Rattle.compiled_bars.proofs.Tree as tree
use Rattle.compiled_bars.proofs.Spelled.{IsSpelled, AreSpelled, plain, spelled_text, spelled_number, spelled_list, spelled_object}

word : (t : List ℕ) → list_all (λ b. nat_lt b 128) t ≡ true → IsSpelled (json.Text t)
word t e = spelled_text t (plain t e)

true_spelled : IsSpelled (json.Flag true)
true_spelled = (codes "true", yes)

null_spelled : IsSpelled json.Null
null_spelled = (codes "null", null)

in_range : (n : ℕ) → n ≤ 200000000 → IsNumber (pos n)
in_range n small = (omega (arith, ints), omega (arith, ints))

channel_spelled : (scale field : List ℕ) → IsUtf8 scale → IsUtf8 field → IsSpelled (tree.channel scale field)
channel_spelled scale field s f = spelled_object _ refl (
  plain (codes "field") refl,
  spelled_text field f,
  (
    plain (codes "scale") refl,
    spelled_text scale s,
    tt,
  ),
)

band_spelled : IsSpelled tree.band_channel
band_spelled = spelled_object _ refl (
  plain (codes "scale") refl,
  word (codes "x") refl,
  (
    plain (codes "band") refl,
    spelled_number (pos 1000000) (in_range 1000000 (omega arith)),
    tt,
  ),
)

base_spelled : IsSpelled tree.base_channel
base_spelled = spelled_object _ refl (
  plain (codes "value") refl,
  null_spelled,
  (
    plain (codes "scale") refl,
    word (codes "y") refl,
    tt,
  ),
)

fill_spelled : IsSpelled tree.fill_channel
fill_spelled = spelled_object _ refl (plain (codes "value") refl, word (codes "#4c78a8") refl, tt)

channels_spelled : (x y : List ℕ) → IsUtf8 x → IsUtf8 y → IsSpelled (tree.channels x y)
channels_spelled x y u v = spelled_object _ refl (
  plain (codes "x") refl,
  channel_spelled (codes "x") x (plain (codes "x") refl) u,
  (
    plain (codes "width") refl,
    band_spelled,
    (
      plain (codes "y") refl,
      channel_spelled (codes "y") y (plain (codes "y") refl) v,
      (
        plain (codes "y2") refl,
        base_spelled,
        (
          plain (codes "fill") refl,
          fill_spelled,
          tt,
        ),
      ),
    ),
  ),
)

encode_spelled : (x y : List ℕ) → IsUtf8 x → IsUtf8 y → IsSpelled (tree.encode x y)
encode_spelled x y u v = spelled_object _ refl (plain (codes "update") refl, channels_spelled x y u v, tt)

from_spelled : (name : List ℕ) → IsUtf8 name → IsSpelled (json.Object (tree.member (codes "data") (tree.text name) ∷ []))
from_spelled name n = spelled_object _ refl (plain (codes "data") refl, spelled_text name n, tt)

mark_spelled : (name x y : List ℕ) → IsUtf8 name → IsUtf8 x → IsUtf8 y → IsSpelled (tree.mark name x y)
mark_spelled name x y n u v = spelled_object _ refl (
  plain (codes "type") refl,
  word (codes "rect") refl,
  (
    plain (codes "from") refl,
    from_spelled name n,
    (
      plain (codes "encode") refl,
      encode_spelled x y u v,
      tt,
    ),
  ),
)

x_domain_spelled : (name x : List ℕ) → IsUtf8 name → IsUtf8 x → IsSpelled (json.Object (
    tree.member (codes "data") (tree.text name) ∷ tree.member (codes "field") (tree.text x)
    ∷ tree.member (codes "sort") (json.Flag true) ∷ []))
x_domain_spelled name x n u = spelled_object _ refl (
  plain (codes "data") refl,
  spelled_text name n,
  (
    plain (codes "field") refl,
    spelled_text x u,
    (
      plain (codes "sort") refl,
      true_spelled,
      tt,
    ),
  ),
)

y_domain_spelled : (name y : List ℕ) → IsUtf8 name → IsUtf8 y → IsSpelled (json.Object (
    tree.member (codes "data") (tree.text name) ∷ tree.member (codes "field") (tree.text y) ∷ []))
y_domain_spelled name y n v = spelled_object _ refl (
  plain (codes "data") refl,
  spelled_text name n,
  (
    plain (codes "field") refl,
    spelled_text y v,
    tt,
  ),
)

x_scale_spelled : (name x : List ℕ) → IsUtf8 name → IsUtf8 x → IsSpelled (tree.x_scale name x)
x_scale_spelled name x n u = spelled_object _ refl (
  plain (codes "name") refl,
  word (codes "x") refl,
  (
    plain (codes "type") refl,
    word (codes "band") refl,
    (
      plain (codes "domain") refl,
      x_domain_spelled name x n u,
      (
        plain (codes "range") refl,
        word (codes "width") refl,
        (
          plain (codes "paddingInner") refl,
          spelled_number (pos 100000) (in_range 100000 (omega arith)),
          (
            plain (codes "paddingOuter") refl,
            spelled_number (pos 50000) (in_range 50000 (omega arith)),
            tt,
          ),
        ),
      ),
    ),
  ),
)

y_scale_spelled : (name y : List ℕ) → IsUtf8 name → IsUtf8 y → IsSpelled (tree.y_scale name y)
y_scale_spelled name y n v = spelled_object _ refl (
  plain (codes "name") refl,
  word (codes "y") refl,
  (
    plain (codes "type") refl,
    word (codes "linear") refl,
    (
      plain (codes "domain") refl,
      y_domain_spelled name y n v,
      (
        plain (codes "range") refl,
        word (codes "height") refl,
        (
          plain (codes "zero") refl,
          true_spelled,
          (
            plain (codes "nice") refl,
            true_spelled,
            tt,
          ),
        ),
      ),
    ),
  ),
)

data_spelled : (name : List ℕ) (values : Json) → IsUtf8 name → IsSpelled values → IsSpelled (tree.data_set name values)
data_spelled name values n s = spelled_object _ refl (
  plain (codes "name") refl,
  spelled_text name n,
  (
    plain (codes "values") refl,
    s,
    tt,
  ),
)

width_spelled : (expression : List ℕ) → IsUtf8 expression → IsSpelled (tree.width expression)
width_spelled expression e = spelled_object _ refl (plain (codes "signal") refl, spelled_text expression e, tt)

-- the tree of bars is spelled, where its texts are UTF-8 and its values are spelled
pub tree_spelled : (name x y expression : List ℕ) (values : Json) → IsUtf8 name → IsUtf8 x → IsUtf8 y → IsUtf8 expression →
    IsSpelled values → IsSpelled (tree.tree name x y values expression)
tree_spelled name x y expression values n u v e s = spelled_object _ refl (
  plain (codes "data") refl,
  spelled_list _ (data_spelled name values n s, tt),
  (
    plain (codes "scales") refl,
    spelled_list _ (x_scale_spelled name x n u, (y_scale_spelled name y n v, tt)),
    (
      plain (codes "marks") refl,
      spelled_list _ (mark_spelled name x y n u v, tt),
      (
        plain (codes "$schema") refl,
        word (codes "https://vega.github.io/schema/vega/v5.json") refl,
        (
          plain (codes "width") refl,
          width_spelled expression e,
          (
            plain (codes "height") refl,
            spelled_number (pos 200000000) (in_range 200000000 (omega arith)),
            (
              plain (codes "padding") refl,
              spelled_number (pos 5000000) (in_range 5000000 (omega arith)),
              tt,
            ),
          ),
        ),
      ),
    ),
  ),
)

-- ---- the values

row_spelled : (x y : List ℕ) (row : List ℕ × ℤ) → IsUtf8 x → IsUtf8 y → bytes_eq x y ≡ false → IsRow row →
    IsSpelled (row_object x y row)
row_spelled x y row u v differ is =
    spelled_object _ (rw differ refl) (u, spelled_text row.0 is.0, (v, spelled_number row.1 is.1, tt))

rows_spelled : (x y : List ℕ) (rows : List (List ℕ × ℤ)) → IsUtf8 x → IsUtf8 y → bytes_eq x y ≡ false → AllByRecursion IsRow rows →
    AreSpelled (map (row_object x y) rows)
rows_spelled x y [] u v differ are = tt
rows_spelled x y (row ∷ rows) u v differ are = (row_spelled x y row u v differ are.0, rows_spelled x y rows u v differ are.1)

-- the values are spelled, where the fields differ
pub values_spelled : (x y : List ℕ) (rows : List (List ℕ × ℤ)) → IsUtf8 x → IsUtf8 y → x ≢ y → AllByRecursion IsRow rows →
    IsSpelled (values_over x y rows)
values_spelled x y rows u v apart are =
    spelled_list _ (rows_spelled x y rows u v (false_from_ne_true _ (λ e. apart (bytes_true x y e))) are)
