-- How a run ends: its status, its line on the notes, and what that says of words, files and script.
use Rattle.std.specs.Prelude.{◌≡◌, ◌⊎◌, ◌≤◌, ℕ, true, Option, Some, None, IfSome, IsSomeAnd, List, [], ◌∷◌, ◌++◌, length, codes}
use Rattle.chart_io.specs.Outside.{Rose, Files, Appended, AppendedPrefix}
use Rattle.param_flow.specs.Script.{most_script_bytes}
use Rattle.play_script.specs.Played.{IsPastSize}
use Rattle.chart_opening.specs.declared.refusal.Refusal.{Refusal}
use Rattle.chart_opening.specs.Texts.{Reading}
use Rattle.chart_run.specs.Words.{Ask, reads_script}
use Rattle.chart_run.specs.Refusals.{refusal_status, refusal_text, IsRefused}
use Rattle.chart_run.specs.Wanted.{IsAccepted}

pub data End : Type 0 where
  -- the whole output was written
  Done : End
  -- the words are no form of words
  Words : End
  -- the files were refused
  Refused : Refusal → End
  -- the folder or the script could not be read
  ReadFault : End
  -- the output could not be written
  WriteFault : End
  -- memory was refused
  NoMemory : End
  -- more bytes of the script were taken than a script may have
  LongScript : End

abbrev pub end_status : End → ℕ
end_status Done = 0
end_status Words = 1
end_status (Refused why) = refusal_status why
end_status ReadFault = 7
end_status WriteFault = 8
end_status NoMemory = 9
end_status LongScript = 10

-- what the notes get: nothing where all is done, else a line
abbrev pub end_note : End → List ℕ
end_note Done = []
end_note Words = codes "chart: words\n"
end_note (Refused why) = refusal_text why ++ 10 ∷ []
end_note ReadFault = codes "chart: read\n"
end_note WriteFault = codes "chart: write\n"
end_note NoMemory = codes "chart: memory\n"
end_note LongScript = codes "chart: size script\n"

-- the fact holds of what is asked for, where something is, and of the files, where the folder tells them
abbrev pub Told : Option Ask → Option Files → (Ask → Files → Type 0) → Type 0
Told asked told P = IfSome asked (λ ask. IfSome told (P ask))

-- a script is asked for
abbrev pub AsksScript : Option Ask → Type 0
AsksScript asked = IsSomeAnd asked (λ ask. reads_script ask ≡ true)

-- the script was read to its end, and is within its size
abbrev pub IsReadWhole : Option (List ℕ) → Option (List ℕ) → Type 0
IsReadWhole script left = IfSome script (λ bytes. (length bytes ≤ most_script_bytes) × (left ≡ Some []))

-- What an end says, by a right reading of JSON. Asked for is what the words ask; told are the folder's files; script and left are what
-- the script told before and after; Untouched says that the script is as it was; Silent that nothing was written; the rest, which
-- count of faults rose.
module _ (reading : Reading) (asked : Option Ask) (told : Option Files) (script left : Option (List ℕ))
    (Untouched Silent FolderRose ScriptRose OutRose : Type 0) where
  abbrev pub IsEnd : End → Type 0
  IsEnd Done = Told asked told (IsAccepted reading) × (AsksScript asked → IsReadWhole script left)
  IsEnd Words = (asked ≡ None) × Silent × Untouched
  IsEnd (Refused why) = IfSome told (λ files. IsRefused reading asked files why) × Silent × Untouched
  IsEnd ReadFault = (FolderRose × Silent × Untouched) ⊎ (Told asked told (IsAccepted reading) × AsksScript asked × ScriptRose)
  IsEnd WriteFault = Told asked told (IsAccepted reading) × OutRose
  IsEnd NoMemory = Unit {0}
  IsEnd LongScript = Told asked told (IsAccepted reading) × AsksScript asked × IfSome script (λ bytes. IsPastSize bytes left)

-- a beginning of the text was appended, and all of it unless the count of faults rose
pub record IsNoted (faults faults_now : ℕ) (old now : Option (List ℕ)) (text : List ℕ) : Type 0 where
  pub begun : AppendedPrefix old now text
  pub whole : (Rose faults faults_now → ⊥) → Appended old now text
