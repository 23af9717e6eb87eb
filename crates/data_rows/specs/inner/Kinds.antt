-- Kinds in a map.
use Rattle.std.specs.Prelude.{◌≡◌, ℕ, Option, List}
use Rattle.std.specs.Borrow.{Bor}
use Rattle.std.specs.Ordering.{nat_cmp}
use Rattle.std.specs.Cmp.Lexicographic.{slice_cmp}
use Rattle.std.specs.BTreeMap as tree
use Rattle.data_rows.specs.declared.kinds.ParseKind.{ParseKind}
use Rattle.data_rows.specs.Parse.{kind_of}

-- the kind under a name
abbrev pub kind_in : tree.BTreeMap (Bor (List ℕ)) ParseKind → List ℕ → Option ParseKind
kind_in kinds name = tree.get_by (λ k. slice_cmp nat_cmp name k.now) kinds

-- the map has the kinds of these fields
abbrev pub AreKinds : List (List ℕ × ParseKind) → tree.BTreeMap (Bor (List ℕ)) ParseKind → Type 0
AreKinds parse kinds = (name : List ℕ) → kind_in kinds name ≡ kind_of parse name
