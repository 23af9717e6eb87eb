-- Lines of scripts, and the line feeds between them.
use Rattle.std.proofs.Common.{◌≡◌, ℕ, Bool, true, false, ◌&&◌, if◌then◌else◌, eqb, List, [], ◌∷◌, ◌++◌, refl, ap, ◌∙◌}
use Rattle.std.specs.List.{slice_split}
use Rattle.std.proofs.lemmas.List.Elements.{All-nil, All-cons, All-head, All-tail}
use Rattle.std.proofs.lemmas.Bool.{true≢false}
use Rattle.std.proofs.lemmas.List.Splits.{slice_split_none, slice_split_at}
use Rattle.param_flow.specs.Script.{without_returns, lines_of}
use Rattle.play_script.specs.inner.Pending.{without_last_return, HasNoFeed}

abbrev NotFeed : ℕ → Type 0
NotFeed b = eqb b 10 ≡ false

-- a line feed keeps what stands before it, but for one carriage return
at_the_last : (b : ℕ) (rest more : List ℕ) (x : Bool) → rest ≡ 10 ∷ more
    → (if x && true then rest else b ∷ rest) ≡ (if x then [] else b ∷ []) ++ 10 ∷ more
at_the_last b rest more true e = e
at_the_last b rest more false e = ap (λ xs. b ∷ xs) e

before_another : (b c : ℕ) (x y : Bool) (rest more : List ℕ) → y ≡ false → rest ≡ more → (if x && y then rest else b ∷ rest) ≡ b ∷ more
before_another b c x true rest more e same = absurd (true≢false e)
before_another b c true false rest more e same = ap (λ xs. b ∷ xs) same
before_another b c false false rest more e same = ap (λ xs. b ∷ xs) same

returns_at_feed : (rest : List ℕ) → without_returns (10 ∷ rest) ≡ 10 ∷ without_returns rest
returns_at_feed [] = refl
returns_at_feed (c ∷ rest) = refl

returns_before_feed : (line rest : List ℕ) → HasNoFeed line
    → without_returns (line ++ 10 ∷ rest) ≡ without_last_return line ++ 10 ∷ without_returns rest
returns_before_feed [] rest h = returns_at_feed rest
returns_before_feed (b ∷ []) rest h = at_the_last b (without_returns (10 ∷ rest)) (without_returns rest) (eqb b 13) (returns_at_feed rest)
returns_before_feed (b ∷ c ∷ line) rest h =
    let others = All-tail NotFeed b (c ∷ line) h in
    before_another b c (eqb b 13) (eqb c 10) _ _ (All-head NotFeed c line others) (returns_before_feed (c ∷ line) rest others)

no_returns : (line : List ℕ) → HasNoFeed line → without_returns line ≡ line
no_returns [] h = refl
no_returns (b ∷ []) h = refl
no_returns (b ∷ c ∷ line) h =
    let others = All-tail NotFeed b (c ∷ line) h in
    before_another b c (eqb b 13) (eqb c 10) _ _ (All-head NotFeed c line others) (no_returns (c ∷ line) others)

last_of_one : (b : ℕ) (x : Bool) → HasNoFeed (b ∷ []) → HasNoFeed (if x then [] else b ∷ [])
last_of_one b true h = All-nil NotFeed
last_of_one b false h = h

no_feed_before : (line : List ℕ) → HasNoFeed line → HasNoFeed (without_last_return line)
no_feed_before [] h = h
no_feed_before (b ∷ []) h = last_of_one b (eqb b 13) h
no_feed_before (b ∷ c ∷ line) h =
    All-cons NotFeed b (without_last_return (c ∷ line)) (All-head NotFeed b (c ∷ line) h)
    (no_feed_before (c ∷ line) (All-tail NotFeed b (c ∷ line) h))

-- a line before a line feed, and the lines after it
pub line_at_feed : (line rest : List ℕ) → HasNoFeed line → lines_of (line ++ 10 ∷ rest) ≡ without_last_return line ∷ lines_of rest
line_at_feed line rest h =
    ap (slice_split (λ b. eqb b 10)) (returns_before_feed line rest h)
    ∙ slice_split_at (λ b. eqb b 10) (without_last_return line) 10 (without_returns rest) (no_feed_before line h) refl

-- a line at the script's end
pub line_at_end : (line : List ℕ) → HasNoFeed line → lines_of line ≡ line ∷ []
line_at_end line h = ap (slice_split (λ b. eqb b 10)) (no_returns line h) ∙ slice_split_none (λ b. eqb b 10) line h
