-- Where no signal of an object needs itself, its signals stand in an order.
use Rattle.std.proofs.Common.{◌≡◌, inl, inr, ℕ, suc, ◌<◌, ◌≤◌, Bool, true, false, cond, List, [], ◌∷◌, length, get_or, All, Option, Some}
use Rattle.std.proofs.Common.{None, IfSome, refl, sym, ap, ◌∙◌, subst, arith}
use Rattle.std.specs.Option.{option_map_or}
use Rattle.need_graph.specs.Needs.{Needs, needs_through, needs_itself}
use Rattle.need_graph.proofs.NeedLemmas.{joined, sound, complete}
use Rattle.vega_signals.specs.Needs.{Need, IsPlaced}
use Rattle.vega_standing.proofs.Among.{In}

-- how many numbers pass
abbrev passing : (ℕ → Bool) → List ℕ → ℕ
passing p [] = 0
passing p (x ∷ xs) = cond (p x) (suc (passing p xs)) (passing p xs)

one_more : (b : Bool) (m n : ℕ) → m ≤ n → cond b (suc m) m ≤ suc n
one_more true m n le = omega arith
one_more false m n le = omega arith

module _ (p : ℕ → Bool) where
  at_most : (xs : List ℕ) → passing p xs ≤ length xs
  at_most [] = omega arith
  at_most (x ∷ xs) = one_more (p x) (passing p xs) (length xs) (at_most xs)

  here : (b : Bool) (m n : ℕ) → b ≡ false → m ≤ n → cond b (suc m) m < suc n
  here true m n e le = absurd cc
  here false m n e le = omega arith

  later : (b : Bool) (m n : ℕ) → m < n → cond b (suc m) m < suc n
  later true m n lt = omega arith
  later false m n lt = omega arith

  -- where one doesn't, they are fewer than all
  spared : (xs : List ℕ) (w : ℕ) → In w xs → p w ≡ false → passing p xs < length xs
  spared [] w i e = absurd i
  spared (x ∷ xs) w (inl same) e = here (p x) (passing p xs) (length xs) (ap p (sym same) ∙ e) (at_most xs)
  spared (x ∷ xs) w (inr i) e = later (p x) (passing p xs) (length xs) (spared xs w i e)

module _ (p q : ℕ → Bool) (within : (x : ℕ) → p x ≡ true → q x ≡ true) where
  step : (a b : Bool) (m n : ℕ) → (a ≡ true → b ≡ true) → m ≤ n → cond a (suc m) m ≤ cond b (suc n) n
  step true true m n h le = omega arith
  step true false m n h le = let e : false ≡ true = h refl in absurd cc
  step false true m n h le = omega arith
  step false false m n h le = le

  no_more : (xs : List ℕ) → passing p xs ≤ passing q xs
  no_more [] = omega arith
  no_more (x ∷ xs) = step (p x) (q x) (passing p xs) (passing q xs) (within x) (no_more xs)

  one_here : (a b : Bool) (m n : ℕ) → a ≡ false → b ≡ true → m ≤ n → cond a (suc m) m < cond b (suc n) n
  one_here true b m n e f le = absurd cc
  one_here false true m n e f le = omega arith
  one_here false false m n e f le = absurd cc

  one_later : (a b : Bool) (m n : ℕ) → (a ≡ true → b ≡ true) → m < n → cond a (suc m) m < cond b (suc n) n
  one_later true true m n h lt = omega arith
  one_later true false m n h lt = let e : false ≡ true = h refl in absurd cc
  one_later false true m n h lt = omega arith
  one_later false false m n h lt = lt

  -- where one passes the other alone, fewer pass
  fewer : (xs : List ℕ) (w : ℕ) → In w xs → p w ≡ false → q w ≡ true → passing p xs < passing q xs
  fewer [] w i e f = absurd i
  fewer (x ∷ xs) w (inl same) e f =
      one_here (p x) (q x) (passing p xs) (passing q xs) (ap p (sym same) ∙ e) (ap q (sym same) ∙ f) (no_more xs)
  fewer (x ∷ xs) w (inr i) e f = one_later (p x) (q x) (passing p xs) (passing q xs) (within x) (fewer xs w i e f)

-- `own` are the numbers of the own signals in a graph in which none of these needs itself
module _ (graph : List (List ℕ)) (own : List ℕ) where
  abbrev reaches : ℕ → ℕ → Bool
  reaches = needs_through graph (length graph)

  -- a place counts from 1 on, and behind it stand the own signals that one needs
  abbrev rank : ℕ → ℕ
  rank v = suc (passing (reaches v) own)

  free_through : (v : ℕ) → needs_itself graph v ≡ false → reaches v v ≡ false
  unfolding needs_itself
  free_through v e = e

  rank_bounded : (v : ℕ) → In v own → needs_itself graph v ≡ false → rank v ≤ length own
  rank_bounded v i free = let less = spared (reaches v) own v i (free_through v free) in omega (arith, less)

  rank_less : (v w : ℕ) → In w own → needs_itself graph w ≡ false → Needs graph v w → rank w < rank v
  rank_less v w i free needs =
      let less = fewer (reaches w) (reaches v) (λ x e. complete graph (joined graph needs (sound graph (length graph) w x e)))
      own w i (free_through w free) (complete graph needs) in
      omega (arith, less)

  module _ (node : List ℕ → Option ℕ) (known : (name : List ℕ) (v : ℕ) → node name ≡ Some v → In v own × (needs_itself graph v ≡ false)) where
    -- the place of an own signal; 0 of any other name
    abbrev pub place : List ℕ → ℕ
    place name = option_map_or rank (node name) 0

    -- what is needed where it is an own signal
    abbrev Reached : ℕ → List ℕ → Type 0
    Reached v name = IfSome (node name) (Needs graph v)

    lesser : (v : ℕ) (name : List ℕ) (found : Option ℕ) → node name ≡ found → IfSome found (Needs graph v) → option_map_or rank found 0 < rank v
    lesser v name None e h = omega arith
    lesser v name (Some w) e h = let k = known name w e in rank_less v w k.0 k.1 h

    -- a signal whose needs the graph has stands in its place
    pub placed : (need : Need) (v : ℕ) → node need.0 ≡ Some v → All (Reached v) need.1 → IsPlaced place (length own) need
    placed need v e each = record {
      from_one = subst (λ (o : Option ℕ). 1 ≤ option_map_or rank o 0) (sym e) (omega arith);
      bounded = let k = known need.0 v e in subst (λ (o : Option ℕ). option_map_or rank o 0 ≤ length own) (sym e) (rank_bounded v k.0 k.1);
      lesser = λ k d lt. subst (λ (o : Option ℕ). place (get_or need.1 k d) < option_map_or rank o 0) (sym e)
          (lesser v (get_or need.1 k d) (node (get_or need.1 k d)) refl (each k d lt));
    }
