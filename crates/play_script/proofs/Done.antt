-- What comes of lines that are done one after another.
use Rattle.std.proofs.Common.{◌≡◌, ◌⊎◌, inl, inr, ℕ, suc, ◌+◌, ◌≤◌, ◌<◌, true, false, List, [], ◌∷◌, ◌++◌, length, take, drop, Option}
use Rattle.std.proofs.Common.{Result, Ok, Err, OnOk, IfErr, refl, sym, ap, subst, ◌∙◌, append_assoc, append-nil, take-append-drop, arith}
use Rattle.std.proofs.lemmas.List.{take_at}
use Rattle.chart_io.specs.Outside.{Appended, AppendedPrefix}
use Rattle.param_flow.specs.Script.{is_silent, most_line_bytes, refused_line, IsLine, IsOutput, silent, too_long, replied, no_line}
use Rattle.param_flow.specs.Script.{one_line}
use Rattle.play_script.specs.declared.errors.PlayError.{PlayError}
use Rattle.play_script.specs.Played.{Sinks, sinks, AreKept, AreWritten, IsLineDone, AreDone, AreBegun}
use Rattle.play_script.specs.inner.Pending.{IsShownOf}
use Rattle.play_script.specs.inner.Progress.{IsStop, AreSent, AreAnswered}
use Rattle.play_script.proofs.Sinks.{appended_begins, appended_nothing, kept_begins, appended_both, begun_both, map_written, join_written}

-- a text was written beside notes of which nothing is said
pub sent : {X : Type 0} (Holds : List ℕ → List ℕ → Type 0) (held held_now noted : Option (List ℕ)) (faults : ℕ)
    (result : Result X PlayError) (text : List ℕ) → Holds text []
    → IfErr result IsStop → OnOk result (Appended held held_now text) → AppendedPrefix held held_now text
    → AreSent Holds (sinks held noted faults) (sinks held_now noted faults) result
sent Holds held held_now noted faults (Ok x) text is stop ok prefix =
    record { out = text; notes = []; is = is; appended = ok; noted = λ sound. appended_nothing noted }
sent Holds held held_now noted faults (Err cause) text is stop ok prefix = (
  stop,
  record {
    out = text;
    notes = [];
    is = is;
    appended = prefix;
    noted = λ sound. appended_begins noted noted [] (appended_nothing noted);
  },
)

module _ {S : Type 0} (Replies : S → ℕ → List ℕ → List ℕ → List ℕ → S → Type 0) where
  -- the output of one line
  one_of : (st now : S) (n : ℕ) (line reply note : List ℕ) → IsLine Replies st n line reply note now
      → IsOutput Replies st n (line ∷ []) reply note now
  one_of st now n line reply note is =
      let at : List ℕ → Type 0 = λ xs. IsOutput Replies st n (line ∷ []) xs note now in
      let notes : List ℕ → Type 0 = λ xs. IsOutput Replies st n (line ∷ []) (reply ++ []) xs now in
      subst at (append-nil reply) (subst notes (append-nil note) (one_line st now now n line reply note [] [] [] is (no_line now (suc n))))

  line_sent : {X : Type 0} (st st_now : S) (n : ℕ) (line : List ℕ) (before now : Sinks) (result : Result X PlayError)
      → AreSent (λ reply note. IsLine Replies st n line reply note st_now) before now result
      → AreAnswered Replies n (line ∷ []) st st_now before now result
  line_sent st st_now n line before now (Ok x) h = map_written Appended _ _ before now (λ reply note. one_of st st_now n line reply note) h
  line_sent st st_now n line before now (Err cause) h =
      (h.0, (1, map_written AppendedPrefix _ _ before now (λ reply note. one_of st st_now n line reply note) h.1))

  -- a silent line, and one that is too long
  pub silent_done : (st : S) (n : ℕ) (line shown : List ℕ) (now : Sinks) → IsShownOf line shown → is_silent shown ≡ true
      → AreDone Replies n (line ∷ []) st st now now
  silent_done st n line shown now h e = record {
    out = [];
    notes = [];
    is = one_of st st n line [] [] (silent st n line (sym h.silence ∙ e));
    appended = appended_nothing now.held;
    noted = λ sound. appended_nothing now.noted;
  }

  pub refused_done : {X : Type 0} (st : S) (n : ℕ) (line shown : List ℕ) (held held_now noted : Option (List ℕ)) (faults : ℕ)
      (result : Result X PlayError)
      → IsShownOf line shown → is_silent shown ≡ false → most_line_bytes < length shown → IfErr result IsStop
      → OnOk result (Appended held held_now refused_line)
      → AppendedPrefix held held_now refused_line
      → AreAnswered Replies n (line ∷ []) st st (sinks held noted faults) (sinks held_now noted faults) result
  refused_done st n line shown held held_now noted faults result h loud long stop ok prefix =
      line_sent st st n line (sinks held noted faults) (sinks held_now noted faults) result
      (sent _ held held_now noted faults result refused_line (too_long st n line (sym h.silence ∙ loud) (h.long long)) stop ok prefix)

  -- nothing was done
  pub none_begun : (n : ℕ) (lines : List (List ℕ)) (st : S) (now : Sinks) → AreBegun Replies n lines st st now now
  none_begun n lines st now = (
    0,
    record {
      out = [];
      notes = [];
      is = no_line st n;
      appended = appended_begins now.held now.held [] (appended_nothing now.held);
      noted = λ sound. appended_begins now.noted now.noted [] (appended_nothing now.noted);
    },
  )

  -- any other line
  module _ (st st_now : S) (n : ℕ) (line shown : List ℕ) (before now : Sinks) (h : IsShownOf line shown) (loud : is_silent shown ≡ false)
      (short : length shown ≤ most_line_bytes) where
    replied_so : (reply note : List ℕ) → Replies st n shown reply note st_now → IsLine Replies st n line reply note st_now
    replied_so reply note is =
        let at : List ℕ → Type 0 = λ xs. IsLine Replies st n xs reply note st_now in
        subst at (h.short short) (replied st st_now n shown reply note loud short is)

    line_begun : ((st_now ≡ st) × AreKept before now) ⊎ AreWritten AppendedPrefix (λ reply note. Replies st n shown reply note st_now)
        before now → AreBegun Replies n (line ∷ []) st st_now before now
    line_begun (inl none) =
        let at : S → Type 0 = λ s. IsOutput Replies st n [] [] [] s in (
          0,
          record {
            out = [];
            notes = [];
            is = subst at (sym none.0) (no_line st n);
            appended = kept_begins before.held now.held none.1.0;
            noted = λ sound. kept_begins before.noted now.noted (none.1.1 sound);
          },
        )
    line_begun (inr w) =
        (1, map_written AppendedPrefix _ _ before now (λ reply note is. one_of st st_now n line reply note (replied_so reply note is)) w)

    pub line_done : {X : Type 0} (result : Result X PlayError) → IsLineDone Replies n shown st st_now before now result
        → AreAnswered Replies n (line ∷ []) st st_now before now result
    line_done (Ok x) w = map_written Appended _ _ before now
        (λ reply note is. one_of st st_now n line reply note (replied_so reply note is)) w
    line_done (Err cause) w = (w.0, line_begun w.1)

  -- lines after lines
  join_output : (st mid now : S) (n m : ℕ) (xs ys : List (List ℕ)) (a b c d : List ℕ) → m ≡ n + length xs
      → IsOutput Replies st n xs a c mid → IsOutput Replies mid m ys b d now → IsOutput Replies st n (xs ++ ys) (a ++ b) (c ++ d) now
  join_output st mid now n m [] ys a b c d e (no_line s k) is =
      let same : m ≡ n = omega arith in
      let at : ℕ → Type 0 = λ k. IsOutput Replies st k ys b d now in subst at same is
  join_output st mid now n m (line ∷ xs) ys a b c d e (one_line s next t k l reply note rest notes ls first others) is =
      let more : m ≡ suc n + length xs = omega arith in
      let both = one_line st next now n line reply note (rest ++ b) (notes ++ d) (xs ++ ys) first
      (join_output next mid now (suc n) m xs ys rest b notes d more others is) in
      let at : List ℕ → Type 0 = λ out. IsOutput Replies st n (line ∷ (xs ++ ys)) out (note ++ (notes ++ d)) now in
      let at_notes : List ℕ → Type 0 = λ all. IsOutput Replies st n (line ∷ (xs ++ ys)) ((reply ++ rest) ++ b) all now in
      subst at_notes (sym (append_assoc note notes d)) (subst at (sym (append_assoc reply rest b)) both)

  first_lines : (ended lines more all : List (List ℕ)) (k : ℕ) → all ≡ ended ++ (lines ++ more)
      → ended ++ take k lines ≡ take (length (ended ++ take k lines)) all
  first_lines ended lines more all k e =
      let parts : all ≡ (ended ++ take k lines) ++ (drop k lines ++ more) =
      e ∙ ap (λ xs. ended ++ (xs ++ more)) (sym (take-append-drop k lines))
      ∙ ap (λ xs. ended ++ xs) (append_assoc (take k lines) (drop k lines) more)
      ∙ sym (append_assoc ended (take k lines) (drop k lines ++ more)) in
      sym (ap (take (length (ended ++ take k lines))) parts
      ∙ take_at (ended ++ take k lines) (drop k lines ++ more) (length (ended ++ take k lines)) refl)

  module _ (st mid st_now : S) (before m now : Sinks) (first : before.faults ≤ m.faults) (next : m.faults ≤ now.faults)
      (ended lines : List (List ℕ)) (n : ℕ) (number : n ≡ suc (length ended))
      (done : AreDone Replies 1 ended st mid before m) where
    pub joined_done : AreDone Replies n lines mid st_now m now → AreDone Replies 1 (ended ++ lines) st st_now before now
    joined_done h =
        join_written Appended appended_both _ _ _ before m now first next
        (λ a b c d. join_output st mid st_now 1 n ended lines a b c d (number ∙ omega arith)) done h

    pub joined_begun : (more all : List (List ℕ)) → all ≡ ended ++ (lines ++ more) → AreBegun Replies n lines mid st_now m now
        → AreBegun Replies 1 all st st_now before now
    joined_begun more all e h =
        let at : List (List ℕ) → Type 0 =
        λ ls. AreWritten AppendedPrefix (λ out notes. IsOutput Replies st 1 ls out notes st_now) before now in (
          length (ended ++ take h.0 lines),
          subst at (first_lines ended lines more all h.0 e)
              (join_written AppendedPrefix begun_both _ _ _ before m now first next
              (λ a b c d. join_output st mid st_now 1 n ended (take h.0 lines) a b c d (number ∙ omega arith)) done h.1),
        )
