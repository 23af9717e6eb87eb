-- Counts that stand still at the greatest u64, and which calls of an object in memory fail.
use Rattle.std.specs.Prelude.{◌≡◌, refl, true, false, ℕ, ◌+◌, ◌-◌, ◌^◌, ◌==◌, min, Bool, List, [], ◌∷◌, if◌then◌else◌}
use Rattle.std.specs.List.{list_any}

-- one more, up to the greatest u64
abbrev pub one_more : ℕ → ℕ
one_more n = min (n + 1) (2 ^ 64 - 1)

-- the count of faults after a call, by whether the call has failed
abbrev pub faults_after : ℕ → Bool → ℕ
faults_after faults has_failed = if has_failed then one_more faults else faults

-- the calls of an object: the numbers of those that fail, how many were made, and how many have failed
pub record CallCounts : Type 0 where
  pub fails : List ℕ
  pub made : ℕ
  pub failed : ℕ

-- no call was made yet
abbrev pub no_calls : List ℕ → CallCounts
no_calls fails = record { fails = fails; made = 0; failed = 0 }

-- whether the next call fails: its number, from 1, stands among those that fail
abbrev pub next_fails : CallCounts → Bool
next_fails calls = list_any (λ n. n == one_more calls.made) calls.fails

-- the counts after one more call, by whether it has failed
abbrev pub after_call : CallCounts → Bool → CallCounts
after_call calls has_failed = record {
  fails = calls.fails;
  made = one_more calls.made;
  failed = faults_after calls.failed has_failed;
}

-- The rules at work.

one_more_at_the_greatest : one_more (2 ^ 64 - 1) ≡ 2 ^ 64 - 1
one_more_at_the_greatest = refl

the_first_goes_well : next_fails (no_calls (2 ∷ [])) ≡ false
the_first_goes_well = refl

the_second_fails : next_fails (after_call (no_calls (2 ∷ [])) false) ≡ true
the_second_fails = refl
