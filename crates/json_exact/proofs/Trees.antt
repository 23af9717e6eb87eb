-- The trees of numbers at the front.
use Rattle.std.proofs.Common.{◌≡◌, ℕ, List, Ok, Err, ℤ, Option, Some, None, refl, ap, sym}
use Rattle.fixed_num.specs.JsonNumber.{Parts, decimal_value}
use Rattle.fixed_num.specs.Ranges.{in_range}
use Rattle.fixed_num.specs.Steps.{◌>>=◌}
use Rattle.fixed_num.specs.Front.{Read, parts_at, decimal_at}
use Rattle.fixed_num.proofs.Numerals.{decimal_parts}
use Rattle.json_exact.specs.declared.json.Json.TheVariants as json
use Rattle.json_exact.specs.inner.Reader.{tree_of, number_tree, number_at}

read_tree : (bytes rest : List ℕ) (v : Option ℤ) → Ok (v, rest) ≡ decimal_at bytes → number_at bytes ≡ Ok (tree_of v, rest)
unfolding number_at
read_tree bytes rest v e =
    let d = decimal_parts bytes rest v (sym e) in
    let tree : number_tree (decimal_value d.0) ≡ tree_of v = ap tree_of d.2 in
    rw (d.1, tree) refl

pub number_read : (bytes rest : List ℕ) (m : ℤ) → Ok (Some m, rest) ≡ decimal_at bytes → number_at bytes ≡ Ok (json.Number m, rest)
number_read bytes rest m e = read_tree bytes rest (Some m) e

pub huge_read : (bytes rest : List ℕ) → Ok (None, rest) ≡ decimal_at bytes → number_at bytes ≡ Ok (json.Huge, rest)
huge_read bytes rest e = read_tree bytes rest None e

abbrev valued : Parts × List ℕ → Read (Option ℤ)
valued x = Ok (in_range (decimal_value x.0), x.1)

stopped : (r : Read Parts) (left : ℕ) → (r >>= valued) ≡ Err left → r ≡ Err left
stopped (Ok x) left e = absurd cc
stopped (Err k) left e = cc

pub no_number_read : (bytes : List ℕ) (left : ℕ) → Err left ≡ decimal_at bytes → number_at bytes ≡ Err left
unfolding number_at decimal_at
no_number_read bytes left e = rw (stopped (parts_at bytes) left (sym e)) refl

pub ruleset number_trees = (number_read, huge_read, no_number_read)
