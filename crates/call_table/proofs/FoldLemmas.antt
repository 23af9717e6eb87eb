-- The room that a fold has over few rows.
use Rattle.std.proofs.Common.{◌≡◌, ℕ, ◌*◌, ◌<◌, ◌≤◌, ◌^◌, List, length, All, sym, subst, arith, lit≤}
use Rattle.std.proofs.lemmas.List.Elements.{All-weaker}
use Rattle.std.proofs.Math.Nat.{mul-le-mul_right}
use Rattle.cell_value.specs.declared.state.Key.{Key}
use Rattle.cell_value.specs.declared.state.Keyed.{Keyed}
use Rattle.plain_rows.specs.declared.transforms.FoldOf.{FoldOf}
use Rattle.plain_rows.specs.Rows.{keys_of, most_listed}
use Rattle.plain_rows.specs.Folds.{folded}
use Rattle.plain_rows.proofs.FoldLemmas.{branches_below, length_folded}
use Rattle.call_table.specs.Numbered.{BranchesBelow}

product : (a b : ℕ) → a ≤ 1000 → b ≤ 1000 → a * b ≤ 1000000
product a b p q = let h = mul-le-mul_right b p in omega arith

-- a fold has room over few rows with few fields
pub room : (f : FoldOf) (rows : List Keyed) (most : ℕ) → BranchesBelow most rows → length f.fields ≤ 1000 → most ≤ 1000
    → All (λ (key : Key). key.branch < 2 ^ 32) (keys_of (folded f rows))
room f rows most h p q =
    let fits : 1000000 ≤ 2 ^ 32 = lit≤ tt in
    let size = product most (length f.fields) q p in
    All-weaker (λ (k : Key). k.branch < most * length f.fields) (λ (k : Key). k.branch < 2 ^ 32) (λ k small. omega (arith, small, fits, size))
    (keys_of (folded f rows)) (branches_below f most rows h)

pub few_made : (f : FoldOf) (rows : List Keyed) → length f.fields ≤ 1000 → length rows ≤ 1000 → length (folded f rows) ≤ most_listed
few_made f rows p q =
    let fits : 1000000 ≤ most_listed = lit≤ tt in
    let size = product (length rows) (length f.fields) q p in
    omega (arith, length_folded f rows, fits, size)

pub made_below : (f : FoldOf) (rows : List Keyed) (most : ℕ) (out : List Keyed)
    → BranchesBelow most rows → out ≡ folded f rows → BranchesBelow (most * length f.fields) out
made_below f rows most out h e = subst (BranchesBelow (most * length f.fields)) (sym e) (branches_below f most rows h)
