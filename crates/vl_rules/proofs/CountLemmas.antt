-- The unit that is counted behind some.
use Rattle.std.proofs.Common.{◌≡◌, ℕ, zero, suc, ◌-◌, ◌<◌, ◌≤◌, Bool, true, false, Option, Some, None, List, [], ◌∷◌, ◌++◌, cond, flat_map}
use Rattle.std.proofs.Common.{take, refl, sym, ap, ◌∙◌, arith}
use Rattle.std.proofs.lemmas.Bool.Decides.{nat_tests}
use Rattle.std.specs.Prelude.{is_some, nat_lt, slice_get}
use Rattle.std.specs.Option.{option_map, option_map_or}
use Rattle.vl_normalize.specs.Marks.{pointed}
use Rattle.vl_trails.specs.Faults.{wrong_at}
use Rattle.vl_trails.specs.Trails.{Trail}
use Rattle.vl_rules.specs.declared.marked.TheConstants.{MOST_UNITS}
use Rattle.vl_rules.specs.Marked.{MarkedAt}
use Rattle.vl_rules.specs.Units.{counted, one_too_many}
use Rattle.vl_rules.specs.inner.Counted.{times_counted, trail_behind, wrong_there}

-- those of a unit are behind
later : (u : MarkedAt) (others : List MarkedAt) (k m n : ℕ) → m ≤ k → k - m ≡ n →
    trail_behind others n ≡ cond (nat_lt k m) (Some u.trail) (trail_behind others (k - m))
later u others k m n past is =
    let no_more : nat_lt k m ≡ false = grind (arith, nat_tests) in
    ap (trail_behind others) (sym is) ∙ sym (λ i. cond (no_more i) (Some u.trail) (trail_behind others (k - m)))

-- one more unit, which counts once or twice
behind_more : (twice : Bool) (u : MarkedAt) (others : List MarkedAt) (n : ℕ) →
    ((k : ℕ) → option_map (λ (v : MarkedAt). v.trail) (slice_get (flat_map counted others) k) ≡ trail_behind others k) →
    option_map (λ (v : MarkedAt). v.trail) (slice_get (cond twice (u ∷ u ∷ []) (u ∷ []) ++ flat_map counted others) n)
    ≡ cond (nat_lt n (cond twice 2 1)) (Some u.trail) (trail_behind others (n - cond twice 2 1))
behind_more true u others zero rest = refl
behind_more true u others (suc zero) rest = refl
behind_more true u others (suc (suc n)) rest =
    let past : 2 ≤ suc (suc n) = omega arith in
    let is : suc (suc n) - 2 ≡ n = omega arith in
    rest n ∙ later u others (suc (suc n)) 2 n past is
behind_more false u others zero rest = refl
behind_more false u others (suc n) rest =
    let past : 1 ≤ suc n = omega arith in
    let is : suc n - 1 ≡ n = omega arith in
    rest n ∙ later u others (suc n) 1 n past is

pub behind_is : (units : List MarkedAt) (n : ℕ) →
    option_map (λ (u : MarkedAt). u.trail) (slice_get (flat_map counted units) n) ≡ trail_behind units n
behind_is [] n = refl
behind_is (u ∷ others) n = behind_more (is_some (pointed u.mark)) u others n (behind_is others)

at_least_one : (twice : Bool) → 1 ≤ cond twice 2 1
at_least_one true = omega arith
at_least_one false = omega arith

-- one more unit before others that tell the same
front_more : (u : MarkedAt) (short long : List MarkedAt) (most n many : ℕ) → n < suc most → 1 ≤ many →
    ((k : ℕ) → k < most → trail_behind short k ≡ trail_behind long k) →
    cond (nat_lt n many) (Some u.trail) (trail_behind short (n - many)) ≡ cond (nat_lt n many) (Some u.trail) (trail_behind long (n - many))
front_more u short long most n many within counts rest = by (nat_lt n many) refl
  where
    by : (b : Bool) → nat_lt n many ≡ b →
        cond b (Some u.trail) (trail_behind short (n - many)) ≡ cond b (Some u.trail) (trail_behind long (n - many))
    by true e = refl
    by false e =
        let past : many ≤ n = grind (arith, nat_tests) in
        let less : n - many < most = omega arith in
        rest (n - many) less

-- those behind as many needn't be looked at
pub behind_front : (most : ℕ) (units : List MarkedAt) (n : ℕ) → n < most → trail_behind (take most units) n ≡ trail_behind units n
behind_front zero units n h = absurd (omega arith)
behind_front (suc most) [] n h = refl
behind_front (suc most) (u ∷ others) n h =
    front_more u (take most others) others most n (times_counted u.mark) h (at_least_one (is_some (pointed u.mark))) (behind_front most others)

-- what is wrong with one too many, by the steps to it
by_trail : (o : Option MarkedAt) → wrong_there (option_map (λ (u : MarkedAt). u.trail) o) ≡ option_map_or (λ (u : MarkedAt). wrong_at u.trail ∷ []) o []
by_trail None = refl
by_trail (Some u) = refl

pub too_many_is : (units : List MarkedAt) (o : Option Trail) → o ≡ trail_behind units MOST_UNITS → wrong_there o ≡ one_too_many units
too_many_is units o is =
    ap wrong_there (is ∙ sym (behind_is units MOST_UNITS)) ∙ by_trail (slice_get (flat_map counted units) MOST_UNITS)

-- the first 33 tell
pub front_tells : (most : ℕ) (units : List MarkedAt) → MOST_UNITS < most → one_too_many (take most units) ≡ one_too_many units
front_tells most units more =
    sym (too_many_is (take most units) (trail_behind (take most units) MOST_UNITS) refl)
    ∙ ap wrong_there (behind_front most units MOST_UNITS more)
    ∙ too_many_is units (trail_behind units MOST_UNITS) refl

-- one that isn't behind as many
pub not_yet : (u : MarkedAt) (others : List MarkedAt) (left many : ℕ) → many ≡ times_counted u.mark → many ≤ left →
    trail_behind (u ∷ others) left ≡ trail_behind others (left - many)
not_yet u others left many is past =
    let no_more : nat_lt left many ≡ false = grind (arith, nat_tests) in
    (λ i. cond (nat_lt left (sym is i)) (Some u.trail) (trail_behind others (left - sym is i)))
    ∙ (λ i. cond (no_more i) (Some u.trail) (trail_behind others (left - many)))

-- the one behind them
pub it_is : (u : MarkedAt) (others : List MarkedAt) (left many : ℕ) → many ≡ times_counted u.mark → left < many → trail_behind (u ∷ others) left ≡ Some u.trail
it_is u others left many is within =
    let more : nat_lt left many ≡ true = grind (arith, nat_tests) in
    (λ i. cond (nat_lt left (sym is i)) (Some u.trail) (trail_behind others (left - sym is i)))
    ∙ (λ i. cond (more i) (Some u.trail) (trail_behind others (left - many)))
