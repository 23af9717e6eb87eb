-- Each primary is read, whatever ends it.
use Rattle.std.proofs.Common.{◌≡◌, ℕ, zero, suc, ◌≤◌, ◌<◌, max, Bool, true, false, List, [], ◌∷◌, ◌++◌, length, Some, None, Ok, ℤ, refl}
use Rattle.std.proofs.Common.{sym, ap, ◌∙◌, arith, inl, inr, ◌||◌, ◌&&◌}
use Rattle.std.specs.Prelude.{codes, map, bytes_eq, nat_lt, nat_le, slice_get}
use Rattle.std.specs.Option.{option_map_or}
use Rattle.std.proofs.lemmas.Bool.{cases_Bool, lt-ltb, false≢true, leb-true}
use Rattle.std.proofs.lemmas.Bool.Decides.{nat_tests}
use Rattle.case_table.specs.Names.{index_of, builtins}
use Rattle.case_table.specs.Arguments.{admits, admitted_numbers, lies_between}
use Rattle.expr_syntax.specs.declared.expr.Expr.{Expr}
use Rattle.expr_syntax.specs.declared.expr.Expr.TheVariants as expr
use Rattle.expr_syntax.specs.declared.token.Token.{Token}
use Rattle.expr_syntax.specs.declared.token.Token.TheVariants.{Name, Number, Quoted, Mark}
use Rattle.expr_syntax.specs.declared.token.Mark.TheVariants as mark
use Rattle.expr_syntax.specs.Grammar.{height, list_max, is_reserved, store_of}
use Rattle.expr_syntax.specs.inner.Parser.{Reader, starts, name_at, quoted_at, selected_at, stored_at, domain_length_at, field_at}
use Rattle.expr_syntax.specs.inner.Parser.{starts_data, asks_store, arguments_at, most_arguments, call_at, called_at, parameter_at}
use Rattle.expr_syntax.specs.inner.Parser.{named_at, bracketed_at, pair_at, primary_at, tree_at}
use Rattle.expr_syntax.proofs.Grounds.{bytes_true, store-before, both, not_both}
use Rattle.expr_syntax.proofs.Stops.{stops, no_open, no_point}
use Rattle.expr_syntax.proofs.Levels.{at_primary, primary_in}

-- ---- forms without parts

pub number_again : (nesting limit : ℕ) (m : ℤ) (rest : List Token)
    → tree_at nesting (suc limit) 0 (Number m ∷ rest) ≡ Ok (expr.Number m, rest)
unfolding primary_at
number_again nesting limit m rest = at_primary nesting limit _ _ (λ whole element. refl)

pub text_again : (nesting limit : ℕ) (t : List ℕ) (rest : List Token)
    → tree_at nesting (suc limit) 0 (Quoted t ∷ rest) ≡ Ok (expr.Text t, rest)
unfolding primary_at
text_again nesting limit t rest = at_primary nesting limit _ _ (λ whole element. refl)

pub truth_again : (nesting limit : ℕ) (rest : List Token)
    → tree_at nesting (suc limit) 0 (Name (codes "true") ∷ rest) ≡ Ok (expr.Flag true, rest)
unfolding primary_at named_at
truth_again nesting limit rest = at_primary nesting limit _ _ (λ whole element. refl)

pub falsehood_again : (nesting limit : ℕ) (rest : List Token)
    → tree_at nesting (suc limit) 0 (Name (codes "false") ∷ rest) ≡ Ok (expr.Flag false, rest)
unfolding primary_at named_at
falsehood_again nesting limit rest = at_primary nesting limit _ _ (λ whole element. refl)

pub null_again : (nesting limit : ℕ) (rest : List Token) → tree_at nesting (suc limit) 0 (Name (codes "null") ∷ rest) ≡ Ok (expr.Null, rest)
unfolding primary_at named_at
null_again nesting limit rest = at_primary nesting limit _ _ (λ whole element. refl)

pub field_again : (nesting limit : ℕ) (name : List ℕ) (rest : List Token)
    → tree_at nesting (suc limit) 0 (Name (codes "datum") ∷ Mark mark.Point ∷ Name name ∷ rest) ≡ Ok (expr.Field name, rest)
unfolding primary_at named_at field_at starts name_at
field_again nesting limit name rest = at_primary nesting limit _ _ (λ whole element. refl)

pub quoted_field_again : (nesting limit : ℕ) (name : List ℕ) (rest : List Token)
    → tree_at nesting (suc limit) 0 (Name (codes "datum") ∷ Mark mark.OpenSquare ∷ Quoted name ∷ Mark mark.CloseSquare ∷ rest)
    ≡ Ok (expr.Field name, rest)
unfolding primary_at named_at field_at starts quoted_at
quoted_field_again nesting limit name rest = at_primary nesting limit _ _ (λ whole element. refl)

pub selected_again : (nesting limit : ℕ) (p : List ℕ) (rest : List Token)
    → tree_at nesting (suc limit) 0
    (Name (codes "vlSelectionTest") ∷ Mark mark.Open ∷ Quoted (store_of p) ∷ Mark mark.Comma ∷ Name (codes "datum") ∷ Mark mark.Close
    ∷ rest) ≡ Ok (expr.Selected p, rest)
unfolding primary_at named_at parameter_at called_at selected_at starts quoted_at name_at
selected_again nesting limit p rest = at_primary nesting limit _ _ (λ whole element. rw (store-before p) refl)

pub stored_again : (nesting limit : ℕ) (p : List ℕ) (rest : List Token)
    → tree_at nesting (suc limit) 0
    (Name (codes "length") ∷ Mark mark.Open ∷ Name (codes "data") ∷ Mark mark.Open ∷ Quoted (store_of p) ∷ Mark mark.Close ∷ Mark mark.Close
    ∷ rest) ≡ Ok (expr.Stored p, rest)
unfolding primary_at named_at parameter_at called_at starts_data stored_at starts quoted_at name_at
stored_again nesting limit p rest = at_primary nesting limit _ _ (λ whole element. rw (store-before p) refl)

pub domain_length_again : (nesting limit : ℕ) (s : List ℕ) (rest : List Token)
    → tree_at nesting (suc limit) 0
    (Name (codes "domain") ∷ Mark mark.Open ∷ Quoted s ∷ Mark mark.Close ∷ Mark mark.Point ∷ Name (codes "length") ∷ rest)
    ≡ Ok (expr.DomainLength s, rest)
unfolding primary_at named_at parameter_at called_at domain_length_at starts quoted_at name_at
domain_length_again nesting limit s rest = at_primary nesting limit _ _ (λ whole element. refl)

-- ---- parameters

neither : (a b : Bool) → (a || b) ≡ false → (a ≡ false) × (b ≡ false)
neither true b e = absurd (false≢true (sym e))
neither false b e = (refl, e)

-- a name that is no reserved word
pub record Free (name : List ℕ) : Type 0 where
  pub no_true : bytes_eq name (codes "true") ≡ false
  pub no_false : bytes_eq name (codes "false") ≡ false
  pub no_null : bytes_eq name (codes "null") ≡ false
  pub no_datum : bytes_eq name (codes "datum") ≡ false

pub is_free : (name : List ℕ) → is_reserved name ≡ false → Free name
is_free name e =
    let d = neither _ _ e in
    let c = neither _ _ d.0 in
    let b = neither _ _ c.0 in
    record { no_true = b.0; no_false = b.1; no_null = c.1; no_datum = d.1 }

named-free : (element : Reader) (limit : ℕ) (name : List ℕ) (tokens : List Token) → Free name
    → named_at element limit name tokens ≡ parameter_at element limit name tokens
unfolding named_at
named-free element limit name tokens f = rw (f.no_true, f.no_false, f.no_null, f.no_datum) refl

pub parameter_again : (nesting limit : ℕ) (name : List ℕ) (rest : List Token) → is_reserved name ≡ false → stops 0 rest ≡ true
    → tree_at nesting (suc limit) 0 (Name name ∷ rest) ≡ Ok (expr.Param name, rest)
unfolding primary_at parameter_at
parameter_again nesting limit name rest free stop =
    let a = no_open 0 rest stop in
    let b = no_point 0 rest stop in
    at_primary nesting limit _ _ (λ whole element. rw (named-free element (suc limit) name rest (is_free name free), a, b) refl)

pub member_again : (nesting limit : ℕ) (name field : List ℕ) (rest : List Token) → is_reserved name ≡ false
    → tree_at nesting (suc limit) 0 (Name name ∷ Mark mark.Point ∷ Name field ∷ rest) ≡ Ok (expr.Member name field, rest)
unfolding primary_at parameter_at starts name_at
member_again nesting limit name field rest free =
    at_primary nesting limit _ _
    (λ whole element. rw (named-free element (suc limit) name (Mark mark.Point ∷ Name field ∷ rest) (is_free name free)) refl)

-- ---- brackets and pairs

pub brackets_again : (nesting limit : ℕ) (inside rest : List Token) (e : Expr)
    → tree_at nesting (suc limit) 8 (inside ++ Mark mark.Close ∷ rest) ≡ Ok (e, Mark mark.Close ∷ rest)
    → tree_at (suc nesting) (suc limit) 0 (Mark mark.Open ∷ (inside ++ Mark mark.Close ∷ rest)) ≡ Ok (e, rest)
unfolding primary_at bracketed_at starts
brackets_again nesting limit inside rest e h = rw (primary_in nesting limit _, h) refl

pub pair_again : (nesting limit : ℕ) (front back rest : List Token) (first second : Expr) → max (height first) (height second) < suc limit
    → tree_at nesting limit 8 (front ++ Mark mark.Comma ∷ (back ++ Mark mark.CloseSquare ∷ rest))
    ≡ Ok (first, Mark mark.Comma ∷ (back ++ Mark mark.CloseSquare ∷ rest))
    → tree_at nesting limit 8 (back ++ Mark mark.CloseSquare ∷ rest) ≡ Ok (second, Mark mark.CloseSquare ∷ rest)
    → tree_at (suc nesting) (suc limit) 0 (Mark mark.OpenSquare ∷ (front ++ Mark mark.Comma ∷ (back ++ Mark mark.CloseSquare ∷ rest)))
    ≡ Ok (expr.Pair first second, rest)
unfolding primary_at pair_at starts
pair_again nesting limit front back rest first second low h k =
    let fits : nat_lt (max (height first) (height second)) (suc limit) ≡ true = lt-ltb _ _ low in
    rw (primary_in nesting limit _, h, k, fits) refl

-- ---- calls

-- the name of a builtin is no other word
pub no_builtin : (word name : List ℕ) (code : ℕ) → index_of builtins word ≡ None → index_of builtins name ≡ Some code
    → bytes_eq name word ≡ false
no_builtin word name code none known = elim (cases_Bool (bytes_eq name word)) [
  | inr s ↦ s
  | inl s ↦
      let same : index_of builtins name ≡ None = ap (index_of builtins) (bytes_true name word s) ∙ none in
      absurd cc
]

builtin-free : (name : List ℕ) (code : ℕ) → index_of builtins name ≡ Some code → Free name
builtin-free name code known = record {
  no_true = no_builtin (codes "true") name code refl known;
  no_false = no_builtin (codes "false") name code refl known;
  no_null = no_builtin (codes "null") name code refl known;
  no_datum = no_builtin (codes "datum") name code refl known;
}

upper : (count : ℕ) (b : ℕ × ℕ) → lies_between count b ≡ true → count ≤ b.1
upper count b e = grind (arith, nat_tests)

-- none of the greatest numbers is above the bound
abbrev few : List (ℕ × ℕ) → Bool
few [] = true
few (b ∷ table) = nat_le b.1 most_arguments && few table

bounded : (count code : ℕ) (table : List (ℕ × ℕ)) → few table ≡ true
    → option_map_or (lies_between count) (slice_get table code) false ≡ true → count ≤ most_arguments
bounded count code [] all e = absurd (false≢true e)
bounded count zero (b ∷ table) all e =
    let most = upper count b e in
    let here = leb-true b.1 most_arguments (both _ _ all).0 in
    omega arith
bounded count (suc code) (b ∷ table) all e = bounded count code table (both _ _ all).1 e

pub few_arguments : (code count : ℕ) → admits code count ≡ true → count ≤ most_arguments
few_arguments code count e = bounded count code admitted_numbers refl e

called-builtin : (element : Reader) (limit : ℕ) (name : List ℕ) (code : ℕ) (tokens : List Token) → index_of builtins name ≡ Some code
    → starts_data tokens ≡ false → called_at element limit name tokens ≡ call_at element limit code tokens
unfolding called_at
called-builtin element limit name code tokens known off =
    let a = no_builtin (codes "vlSelectionTest") name code refl known in
    let b = no_builtin (codes "domain") name code refl known in
    let c : asks_store name tokens ≡ false = not_both (bytes_eq name (codes "length")) (starts_data tokens) off in
    rw (a, b, c, known) refl

pub call_again : (nesting limit : ℕ) (name : List ℕ) (code : ℕ) (inside rest : List Token) (arguments : List Expr)
    → index_of builtins name ≡ Some code → admits code (length arguments) ≡ true → list_max (map height arguments) < suc limit
    → starts_data (inside ++ Mark mark.Close ∷ rest) ≡ false
    → arguments_at (tree_at nesting limit 8) most_arguments [] (inside ++ Mark mark.Close ∷ rest) ≡ Ok (arguments, Mark mark.Close ∷ rest)
    → tree_at (suc nesting) (suc limit) 0 (Name name ∷ Mark mark.Open ∷ (inside ++ Mark mark.Close ∷ rest))
    ≡ Ok (expr.Call code arguments, rest)
unfolding primary_at parameter_at call_at starts
call_again nesting limit name code inside rest arguments known admitted low off h =
    let fits : nat_lt (list_max (map height arguments)) (suc limit) ≡ true = lt-ltb _ _ low in
    rw (
      primary_in nesting limit _,
      named-free (tree_at nesting limit 8) (suc limit) name (Mark mark.Open ∷ (inside ++ Mark mark.Close ∷ rest))
          (builtin-free name code known),
      called-builtin (tree_at nesting limit 8) (suc limit) name code (inside ++ Mark mark.Close ∷ rest) known off,
      h,
      admitted,
      fits,
    ) refl
