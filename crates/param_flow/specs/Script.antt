-- Scripts of lines, whatever the lines say and whatever they are done to.
use Rattle.std.specs.Prelude.{◌≡◌, refl, ℕ, suc, ◌<◌, ◌≤◌, ◌^◌, ◌==◌, ◌&&◌, Bool, true, false, List, [], ◌∷◌, ◌++◌, length, if◌then◌else◌}
use Rattle.std.specs.Prelude.{codes}
use Rattle.std.specs.List.{slice_split}

-- a script without the carriage returns that stand directly before a line feed
abbrev pub without_returns : List ℕ → List ℕ
without_returns [] = []
without_returns (b ∷ []) = b ∷ []
without_returns (b ∷ c ∷ bs) = if b == 13 && c == 10 then without_returns (c ∷ bs) else b ∷ without_returns (c ∷ bs)

-- The lines of a script, without their ends. (After the line feed of the last line an empty line stands, which gets no reply.)
abbrev pub lines_of : List ℕ → List (List ℕ)
lines_of bytes = slice_split (λ b. b == 10) (without_returns bytes)

-- all but the last
abbrev pub without_last : List (List ℕ) → List (List ℕ)
without_last [] = []
without_last (line ∷ []) = []
without_last (line ∷ next ∷ lines) = line ∷ without_last (next ∷ lines)

-- the lines of a script that end in it by a line feed
abbrev pub ended_lines : List ℕ → List (List ℕ)
ended_lines bytes = without_last (lines_of bytes)

-- how many bytes a line may have without its end: 1 MiB
abbrev pub most_line_bytes : ℕ
most_line_bytes = 2 ^ 20

-- how many bytes a script may have: 256 MiB
abbrev pub most_script_bytes : ℕ
most_script_bytes = 2 ^ 28

-- an empty line, and one that begins with `#`, gets no reply, however long it is
abbrev pub is_silent : List ℕ → Bool
is_silent [] = true
is_silent (b ∷ bs) = b == 35

-- the reply to a line that is no command, or is too long
abbrev pub refused_line : List ℕ
refused_line = codes "refused line\n"

-- Of a kind of script it is said what is replied to a line that is neither silent nor too long: `Replies st n line reply note now` where
-- the line, by its number n among all lines from 1, is replied to in the state st by this reply on the output and this note on the notes,
-- and leaves the state now.
module _ {S : Type 0} (Replies : S → ℕ → List ℕ → List ℕ → List ℕ → S → Type 0) where
  -- what comes of any line
  pub data IsLine : S → ℕ → List ℕ → List ℕ → List ℕ → S → Type 0 where
    -- a silent line gets no reply
    silent : (st : S) (n : ℕ) (line : List ℕ) → is_silent line ≡ true → IsLine st n line [] [] st
    -- a line that is too long is refused
    too_long : (st : S) (n : ℕ) (line : List ℕ) → is_silent line ≡ false → most_line_bytes < length line
        → IsLine st n line refused_line [] st
    -- any other is replied to
    replied : (st now : S) (n : ℕ) (line reply note : List ℕ) → is_silent line ≡ false → length line ≤ most_line_bytes
        → Replies st n line reply note now → IsLine st n line reply note now

  -- the output of lines and their notes, and the state after them: replies and notes joined, each from the state that
  -- the lines before it left
  pub data IsOutput : S → ℕ → List (List ℕ) → List ℕ → List ℕ → S → Type 0 where
    no_line : (st : S) (n : ℕ) → IsOutput st n [] [] [] st
    one_line : (st mid now : S) (n : ℕ) (line reply note rest notes : List ℕ) (lines : List (List ℕ))
        → IsLine st n line reply note mid → IsOutput mid (suc n) lines rest notes now
        → IsOutput st n (line ∷ lines) (reply ++ rest) (note ++ notes) now

  -- the output of a script, and its notes
  abbrev pub IsOutputOf : S → List ℕ → List ℕ → List ℕ → S → Type 0
  IsOutputOf st script out notes now = IsOutput st 1 (lines_of script) out notes now

-- The rules at work.

a_line_with_a_return : lines_of (codes "[]\r\n#\r") ≡ codes "[]" ∷ codes "#\r" ∷ []
a_line_with_a_return = refl

a_last_line_with_its_end : lines_of (codes "a\n\nb\n") ≡ codes "a" ∷ [] ∷ codes "b" ∷ [] ∷ []
a_last_line_with_its_end = refl

only_one_return_is_dropped : lines_of (codes "a\r\r\n") ≡ codes "a\r" ∷ [] ∷ []
only_one_return_is_dropped = refl

no_script : lines_of [] ≡ [] ∷ []
no_script = refl

a_line_without_its_end : ended_lines (codes "a\n\nb") ≡ codes "a" ∷ [] ∷ []
a_line_without_its_end = refl
