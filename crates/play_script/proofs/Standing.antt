-- How far a script has come, step by step.
use Rattle.std.proofs.Common.{◌≡◌, ◌≢◌, inr, ℕ, ◌+◌, ◌≤◌, ◌<◌, ◌^◌, ◌-◌, min, suc, true, List, [], ◌∷◌, ◌++◌, length, take, drop, get_or}
use Rattle.std.proofs.Common.{Result, Ok, Err, OnOk, IfErr, sym, ap, subst, ◌∙◌, append_assoc, append-nil, take-append-drop, length-append}
use Rattle.std.proofs.Common.{length-take, arith}
use Rattle.std.proofs.lemmas.Grind.{common_steps}
use Rattle.param_flow.specs.Script.{lines_of, ended_lines, most_script_bytes, no_line}
use Rattle.play_script.specs.declared.errors.PlayError.{PlayError}
use Rattle.play_script.specs.declared.errors.PlayError.TheVariants.{Memory}
use Rattle.play_script.specs.declared.pending.Pending.{Pending}
use Rattle.play_script.specs.Played.{Sinks, AreDone, AreBegun}
use Rattle.play_script.specs.inner.Pending.{Keeps, IsShownOf, ended_by, without_last_return}
use Rattle.play_script.specs.inner.Progress.{IsStop, AreAnswered, Stands, GoesOn}
use Rattle.play_script.proofs.Done.{none_begun, joined_done, joined_begun}
use Rattle.play_script.proofs.Sinks.{appended_nothing}
use Rattle.play_script.proofs.Split.{split_first, split_on, split_feed, split_end, split_ended}

-- the number of the line after a line feed
next_number : (number count : ℕ) (lines bytes : ℕ) → number ≡ suc lines → count ≡ suc lines → lines ≤ bytes → bytes ≤ most_script_bytes
    → (next : ℕ) → next ≡ min (number + 1) (2 ^ 64 - 1) → next ≡ suc count
next_number number count lines bytes is more few short next e = omega arith

module _ {S : Type 0} (Replies : S → ℕ → List ℕ → List ℕ → List ℕ → S → Type 0) (st : S) where
  -- nothing has been taken
  pub stands_first : (now : Sinks) (line : Pending) → Keeps line [] → line.number ≡ 1 → Stands Replies st now [] line st now
  stands_first now line kept number = record {
    ended = [];
    begun = [];
    split = split_first;
    number = number;
    kept = kept;
    counted = omega arith;
    done = record {
      out = [];
      notes = [];
      is = no_line st 1;
      appended = appended_nothing now.held;
      noted = λ sound. appended_nothing now.noted;
    };
  }

  module _ (before : Sinks) (taken : List ℕ) (line : Pending) (mid : S) (m : Sinks) (h : Stands Replies st before taken line mid m) where
    -- the lines that have ended are first lines, whatever bytes follow
    begun_here : (all more : List (List ℕ)) → all ≡ h.ended ++ more → AreBegun Replies 1 all st mid before m
    begun_here all more e =
        joined_begun Replies st mid mid before m m h.counted (omega arith) h.ended [] line.number h.number h.done more all e
        (none_begun Replies line.number [] mid m)

    -- at a read that fails
    pub stands_ended : AreDone Replies 1 (ended_lines taken) st mid before m
    stands_ended =
        let at : List (List ℕ) → Type 0 = λ lines. AreDone Replies 1 lines st mid before m in
        subst at (sym (split_ended taken h.ended h.begun h.split)) h.done

    -- a byte that is no line feed
    pub pushed : {X : Type 0} (byte : ℕ) (next : Pending) (result : Result X PlayError) → byte ≢ 10
        → OnOk result ((bytes : List ℕ) → Keeps line bytes → Keeps next (bytes ++ byte ∷ [])) → IfErr result (λ cause. cause ≡ Memory)
        → next.number ≡ line.number
        → GoesOn Replies st before (taken ++ byte ∷ []) next mid m result
    pushed byte next (Ok x) other kept memory same = record {
      ended = h.ended;
      begun = h.begun ++ byte ∷ [];
      split = split_on taken h.ended h.begun byte other h.split;
      number = same ∙ h.number;
      kept = kept h.begun h.kept;
      counted = h.counted;
      done = h.done;
    }
    pushed byte next (Err cause) other kept memory same =
        let split = split_on taken h.ended h.begun byte other h.split in (
          inr memory,
          λ rest. begun_here (lines_of ((taken ++ byte ∷ []) ++ rest)) (lines_of ((h.begun ++ byte ∷ []) ++ rest))
              (split.lines rest),
        )

    -- a line that has ended, by what is shown of it
    module _ (now : Sinks) (st_now : S) (more : m.faults ≤ now.faults) (shown : List ℕ) where
      pub fed_ok : (byte : ℕ) (next : Pending) → byte ≡ 10 → length taken ≤ most_script_bytes
          → ((bytes : List ℕ) → Keeps line bytes → IsShownOf (ended_by true bytes) shown)
          → ((whole : List ℕ) → IsShownOf whole shown → AreDone Replies line.number (whole ∷ []) mid st_now m now) → Keeps next []
          → next.number ≡ min (line.number + 1) (2 ^ 64 - 1)
          → Stands Replies st before (taken ++ byte ∷ []) next st_now now
      fed_ok byte next feed short is_shown done kept number =
          let whole = without_last_return h.begun in
          record {
            ended = h.ended ++ whole ∷ [];
            begun = [];
            split = split_feed taken h.ended h.begun byte feed h.split;
            number = next_number line.number (length (h.ended ++ whole ∷ [])) (length h.ended) (length taken) h.number
                (length-append h.ended (whole ∷ []) ∙ omega arith) h.split.few short next.number number;
            kept = kept;
            counted = let first = h.counted in omega arith;
            done = joined_done Replies st mid st_now before m now h.counted more h.ended (whole ∷ []) line.number h.number h.done
                (done whole (is_shown h.begun h.kept));
          }

      pub fed_err : (byte : ℕ) → byte ≡ 10 → ((bytes : List ℕ) → Keeps line bytes → IsShownOf (ended_by true bytes) shown)
          → (cause : PlayError)
          → ((whole : List ℕ) → IsShownOf whole shown → IsStop cause × AreBegun Replies line.number (whole ∷ []) mid st_now m now)
          → IsStop cause × ((rest : List ℕ) → AreBegun Replies 1 (lines_of ((taken ++ byte ∷ []) ++ rest)) st st_now before now)
      fed_err byte feed is_shown cause stopped =
          let whole = without_last_return h.begun in
          let w = stopped whole (is_shown h.begun h.kept) in
          let split = split_feed taken h.ended h.begun byte feed h.split in (
            w.0,
            λ rest. joined_begun Replies st mid st_now before m now h.counted more h.ended (whole ∷ []) line.number h.number h.done
                (lines_of rest) (lines_of ((taken ++ byte ∷ []) ++ rest))
                (split.lines rest ∙ append_assoc h.ended (whole ∷ []) (lines_of rest)) w.1,
          )

      -- the last line, at the script's end
      pub at_end : {X : Type 0} (result : Result X PlayError) → ((bytes : List ℕ) → Keeps line bytes → IsShownOf bytes shown)
          → ((whole : List ℕ) → IsShownOf whole shown → AreAnswered Replies line.number (whole ∷ []) mid st_now m now result)
          → AreAnswered Replies 1 (lines_of taken) st st_now before now result
      at_end (Ok x) is_shown answered =
          let at : List (List ℕ) → Type 0 = λ lines. AreDone Replies 1 lines st st_now before now in
          subst at (sym (split_end taken h.ended h.begun h.split))
          (joined_done Replies st mid st_now before m now h.counted more h.ended (h.begun ∷ []) line.number h.number h.done
          (answered h.begun (is_shown h.begun h.kept)))
      at_end (Err cause) is_shown answered =
          let w = answered h.begun (is_shown h.begun h.kept) in (
            w.0,
            joined_begun Replies st mid st_now before m now h.counted more h.ended (h.begun ∷ []) line.number h.number h.done []
                (lines_of taken)
                (split_end taken h.ended h.begun h.split ∙ ap (λ lines. h.ended ++ lines) (sym (append-nil (h.begun ∷ [])))) w.1,
          )

-- a piece, byte by byte
piece_seam : (taken piece : List ℕ) (i d : ℕ) → i < length piece
    → (taken ++ take i piece) ++ get_or piece i d ∷ [] ≡ taken ++ take (i + 1) piece
piece_seam taken piece i d within = grind (arith, common_steps)

pub piece_short : (taken piece : List ℕ) (i : ℕ) → length taken + length piece ≤ most_script_bytes
    → length (taken ++ take i piece) ≤ most_script_bytes
piece_short taken piece i short = let long = length-append taken (take i piece) in grind (arith, length-take)

piece_rest : (taken piece rest : List ℕ) (i d : ℕ) → i < length piece
    → ((taken ++ take i piece) ++ get_or piece i d ∷ []) ++ (drop (i + 1) piece ++ rest) ≡ (taken ++ piece) ++ rest
piece_rest taken piece rest i d within =
    ap (λ xs. xs ++ (drop (i + 1) piece ++ rest)) (piece_seam taken piece i d within)
    ∙ append_assoc taken (take (i + 1) piece) (drop (i + 1) piece ++ rest)
    ∙ ap (λ xs. taken ++ xs) (sym (append_assoc (take (i + 1) piece) (drop (i + 1) piece) rest))
    ∙ ap (λ xs. taken ++ (xs ++ rest)) (take-append-drop (i + 1) piece)
    ∙ sym (append_assoc taken piece rest)

module _ {S : Type 0} (Replies : S → ℕ → List ℕ → List ℕ → List ℕ → S → Type 0) (st st_now : S) (before now : Sinks)
    (taken piece : List ℕ) (i : ℕ) where
  pub piece_stopped : (cause : PlayError) (d : ℕ) → i < length piece
      → IsStop cause × ((rest : List ℕ)
      → AreBegun Replies 1 (lines_of (((taken ++ take i piece) ++ get_or piece i d ∷ []) ++ rest)) st st_now before now)
      → IsStop cause × ((rest : List ℕ) → AreBegun Replies 1 (lines_of ((taken ++ piece) ++ rest)) st st_now before now)
  piece_stopped cause d within h =
      let at : List ℕ → Type 0 = λ xs. AreBegun Replies 1 (lines_of xs) st st_now before now in
      (h.0, λ rest. subst at (piece_rest taken piece rest i d within) (h.1 (drop (i + 1) piece ++ rest)))

  pub piece_done : (line : Pending) → length piece ≤ i → Stands Replies st before (taken ++ take i piece) line st_now now
      → Stands Replies st before (taken ++ piece) line st_now now
  piece_done line all h =
      let whole : take i piece ≡ piece = grind (arith, common_steps) in
      let at : List ℕ → Type 0 = λ xs. Stands Replies st before (taken ++ xs) line st_now now in
      subst at whole h
