-- Rounds of the values of signals.
use Rattle.std.proofs.Common.{◌≡◌, ℕ, zero, suc, ◌+◌, ◌-◌, ◌<◌, ◌≤◌, Bool, true, false, cond, List, [], ◌∷◌, ◌++◌, take, map, filter}
use Rattle.std.proofs.Common.{flat_map, length, get_or, Option, Some, None, length-append, append_assoc, add-one, max, Result, Ok, Err}
use Rattle.std.proofs.Common.{IfOk, IfSome, refl, sym, ap, ap₂, ◌∙◌, subst, arith}
use Rattle.std.specs.List.{filter_map, cons_option}
use Rattle.std.specs.Option.{option_map_or}
use Rattle.std.proofs.Math.Seq.{take-suc}
use Rattle.std.proofs.lemmas.List.{length-map, map-append, append-nil, take_all}
use Rattle.text_kit.specs.declared.memory.OutOfMemory.{OutOfMemory}
use Rattle.cell_value.specs.declared.cell.Cell.{Cell}
use Rattle.cell_value.specs.State.{Dataset}
use Rattle.cell_value.specs.Datum.{Datum}
use Rattle.expr_eval.specs.Values.{Values}
use Rattle.vega_spec.specs.declared.data.DataSet.{DataSet}
use Rattle.vega_spec.specs.declared.signals.Signal.{Signal}
use Rattle.vega_spec.specs.declared.transforms.Extent.{Extent}
use Rattle.vega_spec.specs.declared.transforms.Transform.{Transform}
use Rattle.vega_lists.specs.Scopes.{Scope}
use Rattle.vega_lists.specs.Transforms.{transforms_of}
use Rattle.vega_lists.specs.Lists.{begun_rows}
use Rattle.vega_signals.specs.Extents.{Settled, is_computed, computed_here, extent_asked, extent_over, rows_left, extents_in}
use Rattle.vega_signals.specs.Extents.{with_rows_left, set_extents, extent_names}
use Rattle.vega_signals.specs.Settling.{values_inside, own_names, next_own, own_after}

-- what is made of the last in each round
module _ {X : Type 0} (next : X → X) (after : ℕ → X) (each : (n : ℕ) → after (suc n) ≡ next (after n)) where
  -- where a round changes nothing, no later one does
  stays : (n k : ℕ) → next (after n) ≡ after n → after (n + k) ≡ after n
  stays n zero e = let same : n + 0 ≡ n = omega arith in ap after same
  stays n (suc k) e =
      let more : n + suc k ≡ suc (n + k) = omega arith in
      ap after more ∙ each (n + k) ∙ ap next (stays n k e) ∙ e

  pub settled_at : (n rounds : ℕ) (now made : X) → n ≤ rounds → now ≡ after n → made ≡ next now → made ≡ now → made ≡ after rounds
  settled_at n rounds now made le is e same =
      let back : n + (rounds - n) ≡ rounds = omega arith in
      same ∙ is ∙ sym (stays n (rounds - n) (ap next (sym is) ∙ sym e ∙ same ∙ is)) ∙ ap after back

-- the names of values
abbrev pub names : Settled → List (List ℕ)
names values = map (λ (value : List ℕ × Option Cell). value.0) values

more_computed : (s : Signal) (b : Bool) (value : Option Cell) (rest : Settled) (kept : List Signal) → names rest ≡ map (λ (s : Signal). s.name) kept
    → names (cond b ((s.name, value) ∷ []) [] ++ rest) ≡ map (λ (s : Signal). s.name) (cond b (s ∷ kept) kept)
more_computed s true value rest kept e = ap (λ (l : List (List ℕ)). s.name ∷ l) e
more_computed s false value rest kept e = e

more_extents : (o : Option Extent) (rows : List Datum) (rest : Settled) (kept : List Extent) → names rest ≡ map (λ (e : Extent). e.signal) kept
    → names (option_map_or (λ e. extent_over rows e ∷ []) o [] ++ rest) ≡ map (λ (e : Extent). e.signal) (cons_option o kept)
more_extents None rows rest kept e = e
more_extents (Some x) rows rest kept e = ap (λ (l : List (List ℕ)). x.signal ∷ l) e

-- the names of what a round gives, whatever is read
module _ (values : Values) where
  computed_names : (signals : List Signal) → names (flat_map (computed_here values) signals) ≡ map (λ (s : Signal). s.name) (filter is_computed signals)
  computed_names [] = refl
  computed_names (s ∷ signals) =
      more_computed s (is_computed s) _ (flat_map (computed_here values) signals) (filter is_computed signals) (computed_names signals)

  names_in_set : (scope : Scope) (ts : List Transform) (rows : List Datum)
      → names (extents_in values scope ts rows) ≡ map (λ (e : Extent). e.signal) (filter_map extent_asked ts)
  names_in_set scope [] rows = refl
  names_in_set scope (t ∷ ts) rows =
      more_extents (extent_asked t) rows (extents_in values scope ts (rows_left values scope t rows)) (filter_map extent_asked ts)
      (names_in_set scope ts (rows_left values scope t rows))

  set_names : (sources : List Dataset) (scope : Scope) (sets : List DataSet) → names (set_extents values sources scope sets) ≡ flat_map extent_names sets
  set_names sources scope [] = refl
  set_names sources scope (set ∷ sets) =
      map-append (λ (value : List ℕ × Option Cell). value.0) (extents_in values scope (transforms_of set) (begun_rows sources scope set)) _
      ∙ ap₂ (λ (a b : List (List ℕ)). a ++ b) (names_in_set scope (transforms_of set) (begun_rows sources scope set))
      (set_names sources (with_rows_left values sources scope set) sets)

module _ (sources : List Dataset) (lists : Scope) (outer : Values) (params : Settled) (signals : List Signal) (sets : List DataSet) where
  -- a round gives as many values as there are signals
  pub counted : (now : Settled) → length (next_own sources lists outer params signals sets now) ≡ length params + length (own_names signals sets)
  counted now =
      let values = values_inside now outer in
      let computed = flat_map (computed_here values) signals in
      let extents = set_extents values sources lists sets in
      let first = map (λ (s : Signal). s.name) (filter is_computed signals) in
      let second = flat_map extent_names sets in
      let a : length computed ≡ length first =
      sym (length-map computed (λ (value : List ℕ × Option Cell). value.0)) ∙ ap length (computed_names values signals) in
      let b : length extents ≡ length second =
      sym (length-map extents (λ (value : List ℕ × Option Cell). value.0)) ∙ ap length (set_names values sources lists sets) in
      omega (arith, length-append (params ++ computed) extents, length-append params computed, length-append first second, a, b)

  -- where there are no values but the settable ones, a round gives these
  nothing_unset : length (own_names signals sets) ≡ 0 → own_after sources lists outer params signals sets 1 ≡ params
  nothing_unset none =
      let values = values_inside params outer in
      only params (flat_map (computed_here values) signals) (set_extents values sources lists sets) (omega (arith, counted params))
    where
      only : (a b c : Settled) → length (a ++ b ++ c) ≤ length a → a ++ b ++ c ≡ a
      only a [] [] le = append-nil (a ++ []) ∙ append-nil a
      only a [] (x ∷ c) le = absurd (omega (arith, le, length-append (a ++ []) (x ∷ c), length-append a []))
      only a (x ∷ b) c le = absurd (omega (arith, le, length-append (a ++ (x ∷ b)) c, length-append a (x ∷ b)))

  by_count : (n rounds : ℕ) → length (own_names signals sets) ≡ n → rounds ≡ max 1 n
      → own_after sources lists outer params signals sets rounds ≡ own_after sources lists outer params signals sets (length (own_names signals sets))
  by_count zero rounds e is =
      ap (own_after sources lists outer params signals sets) is ∙ nothing_unset e ∙ sym (ap (own_after sources lists outer params signals sets) e)
  by_count (suc n) rounds e is =
      let same : rounds ≡ length (own_names signals sets) = omega arith in
      ap (own_after sources lists outer params signals sets) same

  -- as many rounds as there are values more than the settable ones, and one at least, settle them
  pub settled_ok : (first : Settled) (rounds : ℕ) (result : Result Settled OutOfMemory) → first ≡ next_own sources lists outer params signals sets params
      → rounds ≡ max 1 (length first - length params) → IfOk result (λ now. now ≡ own_after sources lists outer params signals sets rounds)
      → IfOk result (λ now. now ≡ own_after sources lists outer params signals sets (length (own_names signals sets)))
  settled_ok first rounds (Err refused) e is h = tt
  settled_ok first rounds (Ok now) e is h =
      let total : length first ≡ length params + length (own_names signals sets) = ap length e ∙ counted params in
      let more : rounds ≡ max 1 (length (own_names signals sets)) = omega arith in
      h ∙ by_count (length (own_names signals sets)) rounds refl more

  -- where there are more rounds than one, there are as many as signals that aren't given
  pub counted_rounds : (first : Settled) (rounds : ℕ) → first ≡ next_own sources lists outer params signals sets params
      → rounds ≡ max 1 (length first - length params) → 1 < rounds → rounds ≡ length (own_names signals sets)
  counted_rounds first rounds e is more =
      let total : length first ≡ length params + length (own_names signals sets) = ap length e ∙ counted params in
      omega (arith, total, is, more)

-- what was found after some rounds
pub found_as : (after : ℕ → Settled) (found : Option Settled) (now : Settled) (rounds n : ℕ) → found ≡ Some now
    → IfSome found (λ now. now ≡ after rounds) → rounds ≡ n → now ≡ after n
found_as after found now rounds n is holds same = subst (λ o. IfSome o (λ now. now ≡ after rounds)) is holds ∙ ap after same

flat_more : {X Y : Type 0} (f : X → List Y) (xs : List X) (x : X) → flat_map f (xs ++ x ∷ []) ≡ flat_map f xs ++ f x
flat_more f [] x = append-nil (f x)
flat_more f (z ∷ zs) x = ap (λ l. f z ++ l) (flat_more f zs x) ∙ sym (append_assoc (f z) (flat_map f zs) (f x))

-- one element more
pub more_flat : {X Y : Type 0} (f : X → List Y) (xs : List X) (i : ℕ) (x : X) (before now next : List Y) → i < length xs → x ≡ get_or xs i x
    → now ≡ before ++ flat_map f (take i xs) → next ≡ now ++ f x → next ≡ before ++ flat_map f (take (i + 1) xs)
more_flat f xs i x before now next lt at e is =
    let more : take (i + 1) xs ≡ take i xs ++ x ∷ [] = ap (λ k. take k xs) (add-one i) ∙ take-suc xs i x lt ∙ ap (λ z. take i xs ++ z ∷ []) (sym at) in
    is ∙ ap (λ l. l ++ f x) e ∙ append_assoc before (flat_map f (take i xs)) (f x)
    ∙ ap (λ l. before ++ l) (sym (ap (flat_map f) more ∙ flat_more f (take i xs) x))

-- one element more that is the same in both
pub same_more : {X : Type 0} (a b : List X) (i : ℕ) (x y : X) → i < length a → i < length b → x ≡ get_or a i x → y ≡ get_or b i y → x ≡ y
    → take i a ≡ take i b → take (i + 1) a ≡ take (i + 1) b
same_more a b i x y p q at there same e =
    ap (λ k. take k a) (add-one i) ∙ take-suc a i x p ∙ ap (λ z. take i a ++ z ∷ []) (sym at ∙ same ∙ there)
    ∙ ap (λ l. l ++ get_or b i y ∷ []) e ∙ sym (ap (λ k. take k b) (add-one i) ∙ take-suc b i y q)

-- all of both
pub same_all : {X : Type 0} (a b : List X) (i : ℕ) → length a ≤ i → length b ≤ i → take i a ≡ take i b → a ≡ b
same_all a b i p q e = sym (take_all i a p) ∙ e ∙ take_all i b q
