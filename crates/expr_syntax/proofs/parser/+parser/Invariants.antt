use Rattle.std.proofs.Common.{◌≡◌, ◌+◌, ◌-◌, ◌*◌, [], Ok}
use Rattle.std.specs.Prelude.{map}
use Rattle.expr_syntax.specs.Grammar.{height, list_max}
use Rattle.expr_syntax.specs.inner.Parser.{arguments_at, most_arguments, chain_at, tree_at, inside_of}
use Rattle.expr_syntax.proofs.parser.+parser.Given as goal

abbrev pub decreases-tree_at : goal.decreases-tree_at
decreases-tree_at l = 100 * (l.nesting + l.limit) + 10 * l.level + 9

abbrev pub decreases-choice_at : goal.decreases-choice_at
decreases-choice_at l = 100 * (l.nesting + l.limit) + 88

abbrev pub decreases-branches_at : goal.decreases-branches_at
decreases-branches_at l = 100 * (l.nesting + l.limit) + 87

abbrev pub decreases-binary_at : goal.decreases-binary_at
decreases-binary_at l = 100 * (l.nesting + l.limit) + 10 * l.level + 8

abbrev pub decreases-chain_at : goal.decreases-chain_at
decreases-chain_at l = 100 * (l.nesting + l.limit) + 10 * l.level + 7

abbrev pub decreases-joined_at : goal.decreases-joined_at
decreases-joined_at l = 100 * (l.nesting + l.limit) + 10 * l.level + 6

abbrev pub decreases-unary_at : goal.decreases-unary_at
decreases-unary_at l = 100 * (l.nesting + l.limit) + 18

abbrev pub decreases-primary_at : goal.decreases-primary_at
decreases-primary_at l = 100 * (l.nesting + l.limit) + 8

abbrev pub decreases-pair_at : goal.decreases-pair_at
decreases-pair_at l = 100 * (l.nesting + l.limit) + 7

abbrev pub decreases-named_at : goal.decreases-named_at
decreases-named_at l = 100 * (l.nesting + l.limit) + 7

abbrev pub decreases-called_at : goal.decreases-called_at
decreases-called_at l = 100 * (l.nesting + l.limit) + 6

abbrev pub decreases-builtin_at : goal.decreases-builtin_at
decreases-builtin_at l = 100 * (l.nesting + l.limit) + 5

abbrev pub decreases-call_at : goal.decreases-call_at
decreases-call_at l = 100 * (l.nesting + l.limit) + 4

abbrev pub decreases-arguments_at : goal.decreases-arguments_at
decreases-arguments_at l = 100 * (l.nesting + l.limit) + 3

abbrev pub decreases-inside_of : goal.decreases-inside_of
decreases-inside_of l = 100 * (l.nesting + l.limit) + 2

abbrev pub invariant-arguments_at-loop : goal.invariant-arguments_at-loop
invariant-arguments_at-loop l = record {
  read : arguments_at (inside_of l.nesting l.limit) (most_arguments - l.counter) l.arguments l.rest
      ≡ arguments_at (inside_of l.nesting l.limit) most_arguments [] l.tokens;
  told : l.highest ≡ list_max (map height l.arguments);
}

abbrev pub invariant-binary_at-loop-tight : goal.invariant-binary_at-loop-tight
invariant-binary_at-loop-tight l = record {
  read : tree_at l.nesting l.limit l.tight l.tokens ≡ Ok (l.left.tree, l.rest);
  told : l.left.height ≡ height l.left.tree;
}

abbrev pub invariant-chain_at-loop : goal.invariant-chain_at-loop
invariant-chain_at-loop l = record {
  read : chain_at (tree_at l.nesting (l.limit - 1) (l.level - 1)) l.limit l.level (l.limit - l.counter) l.left.tree l.rest
      ≡ chain_at (tree_at l.nesting (l.limit - 1) (l.level - 1)) l.limit l.level l.limit l.fn.first.tree l.tokens;
  told : l.left.height ≡ height l.left.tree;
}
