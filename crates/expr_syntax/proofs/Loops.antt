-- The steps of the parser's loops, and the levels that it chooses from.
use Rattle.std.proofs.Common.{◌≡◌, ℕ, zero, suc, ◌+◌, ◌-◌, ◌≤◌, ◌<◌, max, true, false, List, [], ◌∷◌, ◌++◌, drop, Option, Some, None, Ok}
use Rattle.std.proofs.Common.{Err, refl, sym, ap, subst, ◌∙◌, arith}
use Rattle.std.specs.Prelude.{map}
use Rattle.text_kit.specs.Answer.{IsFault}
use Rattle.expr_syntax.specs.declared.expr.Expr.{Expr}
use Rattle.expr_syntax.specs.declared.expr.BinOp.{BinOp}
use Rattle.expr_syntax.specs.declared.token.Token.{Token}
use Rattle.expr_syntax.specs.declared.token.Mark.TheVariants as mark
use Rattle.expr_syntax.specs.Grammar.{height, list_max}
use Rattle.expr_syntax.specs.inner.Parser.{Reader, Read, starts, operator_at, arguments_at, joined_at, chain_at, binary_at, primary_at}
use Rattle.expr_syntax.specs.inner.Parser.{unary_at, choice_at, tree_at, inside_of}
use Rattle.expr_syntax.proofs.Levels.{primary_of, unary_in, binary_in, choice_in, nothing_low}

-- ---- arguments

module _ (element : Reader) (out : List Expr) (count i : ℕ) (rest : List Token) (total : Read (List Expr)) where
  one : i < count → arguments_at element (count - i) out rest ≡ arguments_at element (suc (count - (i + 1))) out rest
  one lt =
      let k : count - i ≡ suc (count - (i + 1)) = omega arith in
      rw k refl

  -- another argument follows
  pub goes_on : (x : Expr) (after : List Token) → i < count → element rest ≡ Ok (x, after) → starts mark.Comma after ≡ true
      → arguments_at element (count - i) out rest ≡ total
      → arguments_at element (count - (i + 1)) (out ++ x ∷ []) (drop 1 after) ≡ total
  unfolding arguments_at
  goes_on x after lt h comma kept =
      let step : arguments_at element (suc (count - (i + 1))) out rest
      ≡ arguments_at element (count - (i + 1)) (out ++ x ∷ []) (drop 1 after) = rw (h, comma) refl in
      sym step ∙ sym (one lt) ∙ kept

  -- the last one
  pub closes : (x : Expr) (after : List Token) → i < count → element rest ≡ Ok (x, after) → starts mark.Comma after ≡ false
      → arguments_at element (count - i) out rest ≡ total → total ≡ Ok (out ++ x ∷ [], after)
  unfolding arguments_at
  closes x after lt h comma kept =
      let step : arguments_at element (suc (count - (i + 1))) out rest ≡ Ok (out ++ x ∷ [], after) = rw (h, comma) refl in
      sym kept ∙ one lt ∙ step

  -- one that could not be read
  pub fails : (fault : Option (Unit {0})) → i < count → IsFault fault (element rest) → arguments_at element (count - i) out rest ≡ total
      → IsFault fault total
  unfolding arguments_at
  fails None lt h kept = tt
  fails (Some u) lt h kept =
      let step : arguments_at element (suc (count - (i + 1))) out rest ≡ Err u = rw h refl in
      sym kept ∙ one lt ∙ step

  -- too many
  pub runs_out : count ≤ i → arguments_at element (count - i) out rest ≡ total → total ≡ Err tt
  unfolding arguments_at
  runs_out le kept =
      let k : count - i ≡ 0 = omega arith in
      let step : arguments_at element (count - i) out rest ≡ Err tt = rw k refl in
      sym kept ∙ step

-- the height of the highest argument, with one more
pub highest_more : (out : List Expr) (e : Expr) → list_max (map height (out ++ e ∷ [])) ≡ max (list_max (map height out)) (height e)
highest_more [] e = omega arith
highest_more (d ∷ out) e = let more = highest_more out e in omega arith

-- ---- operators

module _ (lower : Reader) (limit level i : ℕ) (left : Expr) (rest : List Token) (total : Read Expr) where
  one_link : i < limit → chain_at lower limit level (limit - i) left rest ≡ chain_at lower limit level (suc (limit - (i + 1))) left rest
  one_link lt =
      let k : limit - i ≡ suc (limit - (i + 1)) = omega arith in
      rw k refl

  pub links : (o : BinOp) (whole : Expr) (after : List Token) → i < limit → operator_at level rest ≡ Some o
      → joined_at lower limit o left (drop 1 rest) ≡ Ok (whole, after) → chain_at lower limit level (limit - i) left rest ≡ total
      → chain_at lower limit level (limit - (i + 1)) whole after ≡ total
  unfolding chain_at
  links o whole after lt found h kept =
      let step : chain_at lower limit level (suc (limit - (i + 1))) left rest ≡ chain_at lower limit level (limit - (i + 1)) whole after =
      rw found (rw h refl) in
      sym step ∙ sym (one_link lt) ∙ kept

  pub unlinked : i < limit → operator_at level rest ≡ None → chain_at lower limit level (limit - i) left rest ≡ total
      → total ≡ Ok (left, rest)
  unfolding chain_at
  unlinked lt found kept =
      let step : chain_at lower limit level (suc (limit - (i + 1))) left rest ≡ Ok (left, rest) = rw found refl in
      sym kept ∙ one_link lt ∙ step

  pub breaks : (o : BinOp) (fault : Option (Unit {0})) → i < limit → operator_at level rest ≡ Some o
      → IsFault fault (joined_at lower limit o left (drop 1 rest)) → chain_at lower limit level (limit - i) left rest ≡ total
      → IsFault fault total
  unfolding chain_at
  breaks o None lt found h kept = tt
  breaks o (Some u) lt found h kept =
      let step : chain_at lower limit level (suc (limit - (i + 1))) left rest ≡ Err u = rw found (rw h refl) in
      sym kept ∙ one_link lt ∙ step

  pub chain_out : limit ≤ i → chain_at lower limit level (limit - i) left rest ≡ total → total ≡ Err tt
  unfolding chain_at
  chain_out le kept =
      let k : limit - i ≡ 0 = omega arith in
      let step : chain_at lower limit level (limit - i) left rest ≡ Err tt = rw k refl in
      sym kept ∙ step

-- all of the room
pub whole_room : (lower : Reader) (limit level : ℕ) (e : Expr) (rest : List Token)
    → chain_at lower limit level (limit - 0) e rest ≡ chain_at lower limit level limit e rest
whole_room lower limit level e rest =
    let k : limit - 0 ≡ limit = omega arith in
    rw k refl

-- the first operand could not be read
pub fails_first : (tight lower : Reader) (limit level : ℕ) (tokens : List Token) (fault : Option (Unit {0})) → IsFault fault (tight tokens)
    → IsFault fault (binary_at tight lower limit level tokens)
unfolding binary_at
fails_first tight lower limit level tokens None h = tt
fails_first tight lower limit level tokens (Some u) h = rw h refl

-- ---- levels

pub no_height : (nesting limit level : ℕ) (tokens : List Token) → limit ≡ 0 → tree_at nesting limit level tokens ≡ Err tt
no_height nesting limit level tokens e = rw e (nothing_low nesting level tokens)

pub no_bracket : (nesting limit : ℕ) (tokens : List Token) → nesting ≡ 0 → inside_of nesting limit tokens ≡ Err tt
unfolding inside_of
no_bracket nesting limit tokens e = rw e refl

pub one_bracket : (nesting limit : ℕ) (tokens : List Token) → 0 < nesting
    → inside_of nesting limit tokens ≡ tree_at (nesting - 1) limit 8 tokens
unfolding inside_of
one_bracket zero limit tokens some = absurd (omega arith)
one_bracket (suc nesting) limit tokens some =
    let k : suc nesting - 1 ≡ nesting = omega arith in
    rw k refl

pub primary_there : (nesting limit level : ℕ) (tokens : List Token) → 0 < limit → level ≡ 0
    → tree_at nesting limit level tokens ≡ primary_at (inside_of nesting limit) (inside_of nesting (limit - 1)) limit tokens
primary_there nesting zero level tokens some e = absurd (omega arith)
primary_there nesting (suc limit) level tokens some e =
    let k : suc limit - 1 ≡ limit = omega arith in
    rw (e, k) (primary_of nesting limit tokens)

pub unary_there : (nesting limit level : ℕ) (tokens : List Token) → 0 < limit → level ≡ 1
    → tree_at nesting limit level tokens ≡ unary_at (tree_at nesting limit 0) (tree_at nesting (limit - 1) 1) limit tokens
unary_there nesting zero level tokens some e = absurd (omega arith)
unary_there nesting (suc limit) level tokens some e =
    let k : suc limit - 1 ≡ limit = omega arith in
    rw (e, k) (unary_in nesting limit tokens)

pub choice_there : (nesting limit level : ℕ) (tokens : List Token) → 0 < limit → level ≡ 8
    → tree_at nesting limit level tokens ≡ choice_at (tree_at nesting limit 7) (tree_at nesting (limit - 1) 8) limit tokens
choice_there nesting zero level tokens some e = absurd (omega arith)
choice_there nesting (suc limit) level tokens some e =
    let k : suc limit - 1 ≡ limit = omega arith in
    rw (e, k) (choice_in nesting limit tokens)

pub binary_there : (nesting limit level : ℕ) (tokens : List Token) → 0 < limit → 2 ≤ level → level ≤ 7
    → tree_at nesting limit level tokens
    ≡ binary_at (tree_at nesting limit (level - 1)) (tree_at nesting (limit - 1) (level - 1)) limit level tokens
binary_there nesting zero level tokens some low high = absurd (omega arith)
binary_there nesting (suc limit) zero tokens some low high = absurd (omega arith)
binary_there nesting (suc limit) (suc zero) tokens some low high = absurd (omega arith)
binary_there nesting (suc limit) (suc (suc k)) tokens some low high =
    let l : suc limit - 1 ≡ limit = omega arith in
    let m : suc (suc k) - 1 ≡ suc k = omega arith in
    rw (l, m) (binary_in nesting limit k tokens (omega arith))

-- what a level reads, where the tighter one has read a left operand
pub loosens : (nesting limit k : ℕ) (tokens rest : List Token) (e : Expr) → 0 < limit → 1 ≤ k → k ≤ 6
    → tree_at nesting limit k tokens ≡ Ok (e, rest)
    → tree_at nesting limit (k + 1) tokens ≡ chain_at (tree_at nesting (limit - 1) (k + 1 - 1)) limit (k + 1) limit e rest
unfolding binary_at
loosens nesting limit k tokens rest e some low high h =
    let m : k + 1 - 1 ≡ k = omega arith in
    let tight : tree_at nesting limit (k + 1 - 1) tokens ≡ Ok (e, rest) = ap (λ (j : ℕ). tree_at nesting limit j tokens) m ∙ h in
    binary_there nesting limit (k + 1) tokens some (omega arith) (omega arith) ∙ rw tight refl

fault_step : (nesting limit k : ℕ) (tokens : List Token) (fault : Option (Unit {0})) → 0 < limit → 1 ≤ k → k ≤ 6
    → IsFault fault (tree_at nesting limit k tokens) → IsFault fault (tree_at nesting limit (suc k) tokens)
fault_step nesting limit k tokens fault some low high h =
    let m : suc k - 1 ≡ k = omega arith in
    let F : ℕ → Type 0 = λ j. IsFault fault (tree_at nesting limit j tokens) in
    let G : Read Expr → Type 0 = λ r. IsFault fault r in
    subst G (sym (binary_there nesting limit (suc k) tokens some (omega arith) (omega arith)))
    (fails_first (tree_at nesting limit (suc k - 1)) (tree_at nesting (limit - 1) (suc k - 1)) limit (suc k) tokens fault
    (subst F (sym m) h))

-- what a tighter level can't read, a looser one can't either
pub fault_up : (d k level nesting limit : ℕ) (tokens : List Token) (fault : Option (Unit {0})) → 0 < limit → 1 ≤ k → level ≡ k + d
    → level ≤ 7 → IsFault fault (tree_at nesting limit k tokens) → IsFault fault (tree_at nesting limit level tokens)
fault_up zero k level nesting limit tokens fault some low same high h =
    let is : k ≡ level = omega arith in
    let F : ℕ → Type 0 = λ j. IsFault fault (tree_at nesting limit j tokens) in
    subst F is h
fault_up (suc d) k level nesting limit tokens fault some low same high h =
    fault_up d (suc k) level nesting limit tokens fault some (omega arith) (omega arith) high
    (fault_step nesting limit k tokens fault some low (omega arith) h)
