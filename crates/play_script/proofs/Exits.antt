-- What playing answers, from how far the script has come.
use Rattle.std.proofs.Common.{◌≡◌, ◌⊎◌, ◌↔◌, inl, inr, ℕ, ◌+◌, ◌≤◌, ◌<◌, List, [], ◌∷◌, ◌++◌, length, take, drop, Option, Some, None}
use Rattle.std.proofs.Common.{IfSome, Result, Ok, Err, refl, sym, ap, subst, ◌∙◌, append_assoc, append-nil, take-append-drop, arith}
use Rattle.std.proofs.Common.{length-append, length-take}
use Rattle.std.proofs.lemmas.List.{take_at}
use Rattle.chart_io.specs.Outside.{Kept, Moved}
use Rattle.param_flow.specs.Script.{lines_of, ended_lines, most_script_bytes, no_line}
use Rattle.play_script.specs.declared.errors.PlayError.{PlayError}
use Rattle.play_script.specs.declared.errors.PlayError.TheVariants.{Read, Write, Size, Memory}
use Rattle.play_script.specs.declared.pending.Pending.{Pending}
use Rattle.play_script.specs.Played.{Sinks, AreDone, AreBegun, IsReached, IsPlayed, HasTaken, IsPastSize}
use Rattle.play_script.specs.inner.Pending.{Keeps, IsShownOf}
use Rattle.play_script.specs.inner.Progress.{IsStop, AreAnswered, Stands, PlayedSo}
use Rattle.play_script.proofs.Done.{none_begun}
use Rattle.play_script.proofs.Standing.{stands_first, stands_ended, at_end}

-- the bytes that were taken

taken_none : (told : Option (List ℕ)) → HasTaken told told []
taken_none None = tt
taken_none (Some bytes) = refl

taken_more : (told old now : Option (List ℕ)) (taken buf : List ℕ) (n : ℕ) → HasTaken told old taken → Moved old now buf n
    → HasTaken told now (taken ++ take n buf)
taken_more None old now taken buf n has moved = tt
taken_more (Some bytes) None now taken buf n has moved = absurd has
taken_more (Some bytes) (Some rest) now taken buf n has moved =
    rw moved.0 (has ∙ (ap (λ xs. taken ++ xs) (sym (take-append-drop n rest)) ∙ sym (append_assoc taken (take n rest) (drop n rest)))
    ∙ ap (λ xs. (taken ++ xs) ++ drop n rest) (sym moved.2))

taken_same : (told old now : Option (List ℕ)) (taken : List ℕ) → HasTaken told old taken → Kept old now → HasTaken told now taken
taken_same None old now taken has kept = tt
taken_same (Some bytes) None now taken has kept = absurd has
taken_same (Some bytes) (Some rest) now taken has kept = rw kept has

-- at the end of the script nothing is left, and they are all of its bytes
taken_all : (told old now : Option (List ℕ)) (taken buf : List ℕ) (n : ℕ) → n ≡ 0 → HasTaken told old taken → Moved old now buf n
    → IfSome told (λ bytes. (now ≡ Some []) × (taken ≡ bytes))
taken_all None old now taken buf n none has moved = tt
taken_all (Some bytes) None now taken buf n none has moved = absurd has
taken_all (Some bytes) (Some rest) now taken buf n none has moved =
    let empty : rest ≡ [] = moved.3 none in
    let gone : drop n rest ≡ [] = rw (empty, none) refl in
    (moved.0 ∙ ap Some gone, sym (has ∙ ap (λ xs. taken ++ xs) empty ∙ append-nil taken))

-- what stops a line is no fault of the script
stop_no_read : (cause : PlayError) → IsStop cause → cause ≡ Read → ⊥
stop_no_read cause (inl write) e = let both : Write ≡ Read = sym write ∙ e in absurd (cc)
stop_no_read cause (inr memory) e = let both : Memory ≡ Read = sym memory ∙ e in absurd (cc)

module _ {S : Type 0} (Replies : S → ℕ → List ℕ → List ℕ → List ℕ → S → Type 0) (st : S) (before : Sinks) where
  -- how far a script has come between two reads
  pub record Going (told left : Option (List ℕ)) (count : ℕ) (line : Pending) (st_now : S) (now : Sinks) : Type 0 where
    pub taken : List ℕ
    pub counted : length taken ≡ count
    pub few : count ≤ most_script_bytes
    pub has : HasTaken told left taken
    pub stands : Stands Replies st before taken line st_now now

  -- nothing was read
  pub going_first : (told : Option (List ℕ)) (line : Pending) → Keeps line [] → line.number ≡ 1 → Going told told 0 line st before
  going_first told line kept number =
      record {
        taken = [];
        counted = refl;
        few = omega arith;
        has = taken_none told;
        stands = stands_first Replies st before line kept number;
      }

  -- the clause on a script that may be told
  abbrev ToldSo : {X : Type 0} → Option (List ℕ) → Option (List ℕ) → S → Sinks → Result X PlayError → Type 0
  ToldSo told left st_now now result =
      (taken : List ℕ) × HasTaken told left taken × IfSome told (λ bytes. IsPlayed Replies bytes taken st st_now before now result)

  told_so : {X : Type 0} (told left : Option (List ℕ)) (taken : List ℕ) (st_now : S) (now : Sinks) (result : Result X PlayError)
      → HasTaken told left taken
      → ((bytes rest : List ℕ) → bytes ≡ taken ++ rest → IsPlayed Replies bytes taken st st_now before now result)
      → ToldSo told left st_now now result
  told_so None left taken st_now now result has played = (taken, tt, tt)
  told_so (Some bytes) None taken st_now now result has played = absurd has
  told_so (Some bytes) (Some rest) taken st_now now result has played = (taken, has, played bytes rest has)

  played_stop : (X : Type 0) (bytes taken : List ℕ) (st_now : S) (now : Sinks) (cause : PlayError) → IsStop cause
      → length taken ≤ most_script_bytes
      → AreBegun Replies 1 (lines_of bytes) st st_now before now → IsPlayed Replies {X = X} bytes taken st st_now before now (Err cause)
  played_stop X bytes taken st_now now cause (inl e) few h =
      let at : PlayError → Type 0 = λ c. IsPlayed Replies {X = X} bytes taken st st_now before now (Err c) in
      let here : at Write = (few, h) in subst at (sym e) here
  played_stop X bytes taken st_now now cause (inr e) few h =
      let at : PlayError → Type 0 = λ c. IsPlayed Replies {X = X} bytes taken st st_now before now (Err c) in
      let here : at Memory = (few, h) in subst at (sym e) here

  -- memory was refused before the first read
  pub nothing_played : (X : Type 0) (told : Option (List ℕ)) (cause : PlayError) → cause ≡ Memory
      → PlayedSo Replies {X = X} told told st st before before (Err cause)
  nothing_played X told cause e = (
    ([], [], [], no_line st 1),
    told_so {X = X} told told [] st before (Err cause) (taken_none told)
        (λ bytes rest has. played_stop X bytes [] st before cause (inr e) (omega arith) (none_begun Replies 1 (lines_of bytes) st before)),
  )

  -- a read that failed, or that took one byte more than the script may have
  read_told : (X : Type 0) (told old left : Option (List ℕ)) (count : ℕ) (line : Pending) (st_now : S) (now : Sinks) (buf : List ℕ)
      → Going told old count line st_now now → 0 < length buf
      → (cause : PlayError) → (cause ≡ Read) ⊎ (cause ≡ Size) → (cause ≡ Read → Kept old left)
      → (cause ≡ Size → (count ≡ most_script_bytes) × Moved old left buf 1)
      → ToldSo {X = X} told left st_now now (Err cause)
  read_told X told old left count line st_now now buf h some cause (inl e) kept past =
      let at : PlayError → Type 0 = λ c. ToldSo {X = X} told left st_now now (Err c) in
      let counted = h.counted in
      let few = h.few in
      subst at (sym e) (told_so {X = X} told left h.taken st_now now (Err Read) (taken_same told old left h.taken h.has (kept e))
      (λ bytes rest has. (omega arith, stands_ended Replies st before h.taken line st_now now h.stands)))
  read_told X told old left count line st_now now buf h some cause (inr e) kept past =
      let at : PlayError → Type 0 = λ c. ToldSo {X = X} told left st_now now (Err c) in
      let lines : List ℕ → Type 0 = λ xs. AreDone Replies 1 (ended_lines xs) st st_now before now in
      let counted = h.counted in
      let full = (past e).0 in
      let one : length (take 1 buf) ≡ 1 = grind (arith, length-take) in
      let long = length-append h.taken (take 1 buf) in
      let first : take most_script_bytes (h.taken ++ take 1 buf) ≡ h.taken =
      take_at h.taken (take 1 buf) most_script_bytes (counted ∙ full) in
      subst at (sym e) (told_so {X = X} told left (h.taken ++ take 1 buf) st_now now (Err Size)
      (taken_more told old left h.taken buf 1 h.has (past e).1)
      (λ bytes rest has. (omega arith, subst lines (sym first) (stands_ended Replies st before h.taken line st_now now h.stands))))

  pub read_answers : (X Y : Type 0) (told old left : Option (List ℕ)) (count : ℕ) (line : Pending) (st_now : S) (now : Sinks) (buf : List ℕ)
      (cause : PlayError) (result : Result Y PlayError)
      → result ≡ Err cause → Going told old count line st_now now → 0 < length buf → (cause ≡ Read) ⊎ (cause ≡ Size)
      → (result ≡ Err Read → Kept old left)
      → (result ≡ Err Size → (count ≡ most_script_bytes) × Moved old left buf 1)
      → PlayedSo Replies {X = X} told left st st_now before now (Err cause)
  read_answers X Y told old left count line st_now now buf cause result is h some why kept past =
      let done = h.stands.done in (
        (h.stands.ended, done.out, done.notes, done.is),
        read_told X told old left count line st_now now buf h some cause why
            (λ e. kept (is ∙ ap Err e)) (λ e. past (is ∙ ap Err e)),
      )

  -- the script's end
  answered_reached : {X : Type 0} (lines : List (List ℕ)) (st_now : S) (now : Sinks) (result : Result X PlayError)
      → AreAnswered Replies 1 lines st st_now before now result → IsReached Replies st st_now
  answered_reached lines st_now now (Ok x) h = (lines, h.out, h.notes, h.is)
  answered_reached lines st_now now (Err cause) h = (take h.1.0 lines, h.1.1.out, h.1.1.notes, h.1.1.is)

  whole_played : {X : Type 0} (bytes taken : List ℕ) (st_now : S) (now : Sinks) (result : Result X PlayError) → taken ≡ bytes
      → length taken ≤ most_script_bytes
      → AreAnswered Replies 1 (lines_of taken) st st_now before now result → IsPlayed Replies bytes taken st st_now before now result
  whole_played bytes taken st_now now (Ok x) e few h =
      let at : List ℕ → Type 0 = λ xs. AreDone Replies 1 (lines_of xs) st st_now before now in (e, few, subst at e h)
  whole_played {X} bytes taken st_now now (Err cause) e few h =
      let at : List ℕ → Type 0 = λ xs. AreBegun Replies 1 (lines_of xs) st st_now before now in
      played_stop X bytes taken st_now now cause h.0 few (subst at e h.1)

  end_told : {X : Type 0} (told left : Option (List ℕ)) (taken : List ℕ) (st_now : S) (now : Sinks) (result : Result X PlayError)
      → IfSome told (λ bytes. (left ≡ Some []) × (taken ≡ bytes))
      → length taken ≤ most_script_bytes → AreAnswered Replies 1 (lines_of taken) st st_now before now result
      → ToldSo told left st_now now result
  end_told None left taken st_now now result all few h = (taken, tt, tt)
  end_told (Some bytes) left taken st_now now result all few h =
      (taken, rw all.0 (sym all.1 ∙ sym (append-nil taken)), whole_played bytes taken st_now now result all.1 few h)

  module _ (told old left : Option (List ℕ)) (count : ℕ) (line : Pending) (mid st_now : S) (m now : Sinks) (buf : List ℕ) (n : ℕ)
      (h : Going told old count line mid m) (moved : Moved old left buf n) where
    pub end_answers : {X : Type 0} (shown : List ℕ) (result : Result X PlayError) → n ≡ 0 → m.faults ≤ now.faults
        → ((bytes : List ℕ) → Keeps line bytes → IsShownOf bytes shown)
        → ((whole : List ℕ) → IsShownOf whole shown → AreAnswered Replies line.number (whole ∷ []) mid st_now m now result)
        → PlayedSo Replies told left st st_now before now result
    end_answers shown result none more is_shown answered =
        let counted = h.counted in
        let few = h.few in
        let all = at_end Replies st before h.taken line mid m h.stands now st_now more shown result is_shown answered in (
          answered_reached (lines_of h.taken) st_now now result all,
          end_told told left h.taken st_now now result
              (taken_all told old left h.taken buf n none h.has moved) (omega arith) all,
        )

    pub end_no_read : {X : Type 0} (shown : List ℕ) (result : Result X PlayError)
        → ((bytes : List ℕ) → Keeps line bytes → IsShownOf bytes shown)
        → ((whole : List ℕ) → IsShownOf whole shown → AreAnswered Replies line.number (whole ∷ []) mid st_now m now result)
        → result ≡ Err Read → ⊥
    end_no_read shown (Ok x) is_shown answered e = absurd (cc)
    end_no_read shown (Err cause) is_shown answered e =
        stop_no_read cause (answered h.stands.begun (is_shown h.stands.begun h.stands.kept)).0 (cc)

    module _ (few : count + n ≤ most_script_bytes) (within : n ≤ length buf) where
      piece_few : (length h.taken + length (take n buf) ≤ most_script_bytes) × (length (h.taken ++ take n buf) ≡ count + n)
      piece_few =
          let counted = h.counted in
          let long : length (take n buf) ≡ n = grind (arith, length-take) in
          (omega arith, length-append h.taken (take n buf) ∙ omega arith)

      -- a piece was done
      pub going_on : (next : ℕ) (line_now : Pending) → next ≡ count + n
          → ((st : S) (before : Sinks) (taken : List ℕ) → length taken + length (take n buf) ≤ most_script_bytes
          → Stands Replies st before taken line mid m
          → Stands Replies st before (taken ++ take n buf) line_now st_now now)
          → Going told left next line_now st_now now
      going_on next line_now sum on = record {
        taken = h.taken ++ take n buf;
        counted = piece_few.1 ∙ sym sum;
        few = omega arith;
        has = taken_more told old left h.taken buf n h.has moved;
        stands = on st before h.taken piece_few.0 h.stands;
      }

      -- a piece was not done to its end, and not because the script could not be read
      module _ (cause : PlayError) (stopped : (st : S) (before : Sinks) (taken : List ℕ)
          → length taken + length (take n buf) ≤ most_script_bytes → Stands Replies st before taken line mid m
          → IsStop cause × ((rest : List ℕ) → AreBegun Replies 1 (lines_of ((taken ++ take n buf) ++ rest)) st st_now before now)) where
        pub piece_answers : (X : Type 0) → PlayedSo Replies {X = X} told left st st_now before now (Err cause)
        piece_answers X =
            let stop = stopped st before h.taken piece_few.0 h.stands in
            let begun = stop.1 [] in
            let long = piece_few.1 in
            let at : List ℕ → Type 0 = λ xs. AreBegun Replies 1 (lines_of xs) st st_now before now in (
              (take begun.0 (lines_of ((h.taken ++ take n buf) ++ [])), begun.1.out, begun.1.notes, begun.1.is),
              told_so {X = X} told left (h.taken ++ take n buf) st_now now (Err cause) (taken_more told old left h.taken buf n h.has moved)
                  (λ bytes rest has. played_stop X bytes (h.taken ++ take n buf) st_now now cause stop.0 (omega arith)
                  (subst at (sym has) (stop.1 rest))),
            )

        pub piece_no_read : cause ≡ Read → ⊥
        piece_no_read = stop_no_read cause (stopped st before h.taken piece_few.0 h.stands).0

  -- `Size` comes where more was taken than a script may have
  other_cause : {X : Type 0} (result : Result X PlayError) (bytes taken rest : List ℕ) → (result ≡ Err Size → ⊥) → bytes ≡ taken ++ rest
      → length taken ≤ most_script_bytes
      → (result ≡ Err Size) ↔ IsPastSize bytes (Some rest)
  other_cause result bytes taken rest other e few =
      let long : length bytes ≡ length taken + length rest = ap length e ∙ length-append taken rest in
      ((λ same. absurd (other same)), λ past. absurd (omega arith))

  size_in : {X : Type 0} (bytes taken rest : List ℕ) (st_now : S) (now : Sinks) (result : Result X PlayError) → bytes ≡ taken ++ rest
      → IsPlayed Replies bytes taken st st_now before now result
      → (result ≡ Err Size) ↔ IsPastSize bytes (Some rest)
  size_in bytes taken rest st_now now (Ok x) e h = other_cause (Ok x) bytes taken rest (λ same. absurd (cc)) e h.1
  size_in {X} bytes taken rest st_now now (Err Read) e h = other_cause {X = X} (Err Read) bytes taken rest (λ same. absurd (cc)) e h.0
  size_in {X} bytes taken rest st_now now (Err Write) e h = other_cause {X = X} (Err Write) bytes taken rest (λ same. absurd (cc)) e h.0
  size_in {X} bytes taken rest st_now now (Err Memory) e h = other_cause {X = X} (Err Memory) bytes taken rest (λ same. absurd (cc)) e h.0
  size_in bytes taken rest st_now now (Err Size) e h =
      let long : length bytes ≡ length taken + length rest = ap length e ∙ length-append taken rest in
      let more = h.0 in
      ((λ same. omega arith), λ past. refl)

  pub size_is : {X : Type 0} (told left : Option (List ℕ)) (st_now : S) (now : Sinks) (result : Result X PlayError)
      → ToldSo told left st_now now result
      → IfSome told (λ bytes. (result ≡ Err Size) ↔ IsPastSize bytes left)
  size_is None left st_now now result h = tt
  size_is (Some bytes) None st_now now result h = absurd h.1
  size_is (Some bytes) (Some rest) st_now now result h = size_in bytes h.0 rest st_now now result h.1 h.2
