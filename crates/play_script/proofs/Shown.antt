-- What is kept of a line, and what is shown of it.
use Rattle.std.proofs.Common.{◌⊎◌, inl, inr, ◌≡◌, ◌≢◌, ℕ, zero, suc, ◌+◌, ◌-◌, ◌≤◌, ◌<◌, Bool, true, false, cond, List, [], ◌∷◌, ◌++◌}
use Rattle.std.proofs.Common.{length, take, get_or, refl, sym, ap, ◌∙◌, arith, length-take, ne_eqb}
use Rattle.std.proofs.lemmas.Grind.{common_steps}
use Rattle.std.proofs.lemmas.Bool.{cases_lt}
use Rattle.param_flow.specs.Script.{is_silent, most_line_bytes}
use Rattle.play_script.specs.inner.Pending.{without_last_return, IsShownOf, ended_by}

-- a byte more, where so many bytes are kept already, and where there is room
pub kept_full : (n : ℕ) (first line : List ℕ) (b : ℕ) → first ≡ take n line → n ≤ length first → first ≡ take n (line ++ b ∷ [])
kept_full n first line b e full =
    let size : length first ≡ length (take n line) = ap length e in
    let within : n ≤ length line = grind (arith, length-take) in
    grind (arith, common_steps)

pub kept_room : (n : ℕ) (first line : List ℕ) (b : ℕ) → first ≡ take n line → length first < n → first ++ b ∷ [] ≡ take n (line ++ b ∷ [])
kept_room n first line b e room =
    let size : length first ≡ length (take n line) = ap length e in
    let within : length line < n = grind (arith, length-take) in
    grind (arith, common_steps)

-- lines without their last carriage return
return_dropped : (front : List ℕ) → without_last_return (front ++ 13 ∷ []) ≡ front
return_dropped [] = refl
return_dropped (b ∷ []) = refl
return_dropped (b ∷ c ∷ front) = ap (λ xs. b ∷ xs) (return_dropped (c ∷ front))

other_kept : (front : List ℕ) (last : ℕ) → last ≢ 13 → without_last_return (front ++ last ∷ []) ≡ front ++ last ∷ []
other_kept [] last h = ap (λ x. cond x [] (last ∷ [])) (ne_eqb last 13 h)
other_kept (b ∷ []) last h = ap (λ xs. b ∷ xs) (other_kept [] last h)
other_kept (b ∷ c ∷ front) last h = ap (λ xs. b ∷ xs) (other_kept (c ∷ front) last h)

pub last_dropped : (line : List ℕ) (d : ℕ) → 1 ≤ length line → get_or line (length line - 1) d ≡ 13
    → take (length line - 1) line ≡ without_last_return line
last_dropped line d some e =
    let parts : line ≡ take (length line - 1) line ++ get_or line (length line - 1) d ∷ [] = grind (arith, common_steps) in
    sym (ap without_last_return (parts ∙ ap (λ b. take (length line - 1) line ++ b ∷ []) e) ∙ return_dropped (take (length line - 1) line))

pub last_kept : (line : List ℕ) (d : ℕ) → 1 ≤ length line → get_or line (length line - 1) d ≢ 13 → line ≡ without_last_return line
last_kept line d some h =
    let parts : line ≡ take (length line - 1) line ++ get_or line (length line - 1) d ∷ [] = grind (arith, common_steps) in
    parts ∙ sym (other_kept (take (length line - 1) line) (get_or line (length line - 1) d) h) ∙ sym (ap without_last_return parts)

-- the end of a line takes one byte at most, and not the first of two
one_shorter : (feed : Bool) (line : List ℕ) → length line ≤ length (ended_by feed line) + 1
one_shorter false line = omega arith
one_shorter true [] = omega arith
one_shorter true (b ∷ []) = omega arith
one_shorter true (b ∷ c ∷ line) = let h = one_shorter true (c ∷ line) in omega arith

same_silence : (feed : Bool) (line : List ℕ) → 2 ≤ length line → is_silent (ended_by feed line) ≡ is_silent line
same_silence false line h = refl
same_silence true [] h = refl
same_silence true (b ∷ []) h = absurd (omega arith)
same_silence true (b ∷ c ∷ line) h = refl

front_silence : (n : ℕ) (line : List ℕ) → 0 < n → is_silent (take n line) ≡ is_silent line
front_silence n [] h = grind (arith, common_steps)
front_silence (suc n) (b ∷ line) h = refl
front_silence zero (b ∷ line) h = absurd (omega arith)

-- a line that is kept whole, and one that is too long
shown_of : (n : ℕ) (feed : Bool) (line : List ℕ) → n ≡ most_line_bytes → (n + 2 < length line) ⊎ (length line ≤ n + 2)
    → IsShownOf (ended_by feed line) (ended_by feed (take (n + 2) line))
shown_of n feed line same (inr whole) =
    let all : take (n + 2) line ≡ line = grind (arith, common_steps) in
    let e : ended_by feed (take (n + 2) line) ≡ ended_by feed line = ap (ended_by feed) all in
    record { silence = ap is_silent e; short = λ short. e; long = λ long. rw (← e) long }
shown_of n feed line same (inl more) =
    let front : length (take (n + 2) line) ≡ n + 2 = grind (arith, length-take) in
    let kept = one_shorter feed (take (n + 2) line) in
    let all = one_shorter feed line in
    record {
      silence = same_silence feed (take (n + 2) line) (omega arith) ∙ front_silence (n + 2) line (omega arith)
          ∙ sym (same_silence feed line (omega arith));
      short = λ short. absurd (omega arith);
      long = λ long. omega arith;
    }

pub is_shown : (feed : Bool) (first line shown : List ℕ) → first ≡ take (most_line_bytes + 2) line → shown ≡ ended_by feed first
    → IsShownOf (ended_by feed line) shown
is_shown feed first line shown e is = rw is (rw e (shown_of most_line_bytes feed line refl (cases_lt (most_line_bytes + 2) (length line))))
