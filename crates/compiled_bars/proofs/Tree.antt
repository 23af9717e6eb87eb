-- The tree of bars, member by member.
use Rattle.std.specs.Prelude.{ℕ, List, [], ◌∷◌, codes, pos, true}
use Rattle.json_exact.specs.declared.json.Json.{Json}
use Rattle.json_exact.specs.declared.json.Json.TheVariants as json
use Rattle.json_exact.specs.declared.json.Member.{Member}

-- a member
abbrev pub member : List ℕ → Json → Member
member name value = record { name = name; value = value }

-- a text
abbrev pub text : List ℕ → Json
text t = json.Text t

-- the place of a field on a scale
abbrev pub channel : List ℕ → List ℕ → Json
channel scale field = json.Object (member (codes "field") (text field) ∷ member (codes "scale") (text scale) ∷ [])

-- the width of a band
abbrev pub band_channel : Json
band_channel = json.Object (member (codes "scale") (text (codes "x")) ∷ member (codes "band") (json.Number (pos 1000000)) ∷ [])

-- the base of the bars
abbrev pub base_channel : Json
base_channel = json.Object (member (codes "value") json.Null ∷ member (codes "scale") (text (codes "y")) ∷ [])

-- their colour
abbrev pub fill_channel : Json
fill_channel = json.Object (member (codes "value") (text (codes "#4c78a8")) ∷ [])

-- what each bar shows
abbrev pub channels : List ℕ → List ℕ → Json
channels x y = json.Object (
    member (codes "x") (channel (codes "x") x) ∷ member (codes "width") band_channel ∷
    member (codes "y") (channel (codes "y") y) ∷ member (codes "y2") base_channel ∷ member (codes "fill") fill_channel ∷ [])

-- the encode sets
abbrev pub encode : List ℕ → List ℕ → Json
encode x y = json.Object (member (codes "update") (channels x y) ∷ [])

-- the bars
abbrev pub mark : List ℕ → List ℕ → List ℕ → Json
mark name x y = json.Object (
    member (codes "type") (text (codes "rect")) ∷
    member (codes "from") (json.Object (member (codes "data") (text name) ∷ [])) ∷
    member (codes "encode") (encode x y) ∷ [])

-- the scale along x
abbrev pub x_scale : List ℕ → List ℕ → Json
x_scale name x = json.Object (
    member (codes "name") (text (codes "x")) ∷ member (codes "type") (text (codes "band")) ∷
    member (codes "domain") (json.Object (
    member (codes "data") (text name) ∷ member (codes "field") (text x) ∷ member (codes "sort") (json.Flag true) ∷ [])) ∷
    member (codes "range") (text (codes "width")) ∷
    member (codes "paddingInner") (json.Number (pos 100000)) ∷ member (codes "paddingOuter") (json.Number (pos 50000)) ∷ [])

-- the scale upward
abbrev pub y_scale : List ℕ → List ℕ → Json
y_scale name y = json.Object (
    member (codes "name") (text (codes "y")) ∷ member (codes "type") (text (codes "linear")) ∷
    member (codes "domain") (json.Object (member (codes "data") (text name) ∷ member (codes "field") (text y) ∷ [])) ∷
    member (codes "range") (text (codes "height")) ∷ member (codes "zero") (json.Flag true) ∷
    member (codes "nice") (json.Flag true) ∷ [])

-- the data set
abbrev pub data_set : List ℕ → Json → Json
data_set name values = json.Object (member (codes "name") (text name) ∷ member (codes "values") values ∷ [])

-- the width of the plot
abbrev pub width : List ℕ → Json
width expression = json.Object (member (codes "signal") (text expression) ∷ [])

-- the whole
abbrev pub tree : List ℕ → List ℕ → List ℕ → Json → List ℕ → Json
tree name x y values expression = json.Object (
    member (codes "data") (json.List (data_set name values ∷ [])) ∷
    member (codes "scales") (json.List (x_scale name x ∷ y_scale name y ∷ [])) ∷
    member (codes "marks") (json.List (mark name x y ∷ [])) ∷
    member (codes "$schema") (text (codes "https://vega.github.io/schema/vega/v5.json")) ∷
    member (codes "width") (width expression) ∷ member (codes "height") (json.Number (pos 200000000)) ∷
    member (codes "padding") (json.Number (pos 5000000)) ∷ [])
