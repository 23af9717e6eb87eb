-- How runs end: where opening files stops them, and where playing, printing or compiling does.
use Rattle.std.proofs.Common.{◌≡◌, ◌↔◌, ℕ, true, false, Option, Some, None, List, Result, Ok, Err, IfSome, IfErr, IsErrOf, refl, ap, inl}
use Rattle.std.proofs.Common.{inr}
use Rattle.std.specs.Result.{result_err}
use Rattle.chart_io.specs.Outside.{Files, Kept}
use Rattle.play_script.specs.Played.{IsPastSize}
use Rattle.play_script.specs.declared.errors.PlayError.{PlayError}
use Rattle.play_script.specs.declared.errors.PlayError.TheVariants as error
use Rattle.chart_opening.specs.declared.refusal.Refusal.{Refusal}
use Rattle.chart_opening.specs.declared.refusal.OpenStop.{OpenStop}
use Rattle.chart_opening.specs.declared.refusal.OpenStop.TheVariants as opening
use Rattle.chart_opening.specs.inner.Reading.{the_reading}
use Rattle.chart_run.specs.declared.stop.RunStop.{RunStop}
use Rattle.chart_run.specs.declared.stop.RunStop.TheVariants as stop
use Rattle.chart_run.specs.Words.{Ask, Play, reads_script}
use Rattle.chart_run.specs.Refusals.{opened_for}
use Rattle.chart_run.specs.Wanted.{IsAccepted}
use Rattle.chart_run.specs.Ends.{IsEnd, IsReadWhole}
use Rattle.chart_run.specs.inner.Stops.{stop_end, end_of, stop_at, handed, IsOpenStop, IsPrintStop, IsOpenOrPrintStop}

-- where a cause refuses the files that are told, it is the refusal of what is asked for
abbrev pub Refuses : Ask → Option Files → RunStop → Type 0
Refuses ask told cause = (why : Refusal) → cause ≡ stop.Refused why → IfSome told (λ files. opened_for the_reading ask files ≡ Err why)

module _ (ask : Ask) (told : Option Files) (script left : Option (List ℕ)) (Untouched Silent FolderRose ScriptRose OutRose : Type 0) where
  -- where opening stops a run, nothing was written and no script read
  pub opened_end : (cause : RunStop) → IsOpenStop cause → Refuses ask told cause
      → Silent → Untouched → (cause ≡ stop.Read → FolderRose)
      → IsEnd the_reading (Some ask) told script left Untouched Silent FolderRose ScriptRose OutRose (stop_end cause)
  opened_end stop.Words is over silent same read = absurd is
  opened_end (stop.Refused why) is over silent same read = (over why refl, silent, same)
  opened_end stop.Read is over silent same read = inl (read refl, silent, same)
  opened_end stop.Write is over silent same read = absurd is
  opened_end stop.Memory is over silent same read = tt
  opened_end stop.ScriptSize is over silent same read = absurd is

module _ (ask : Ask) (told : Option Files) (Untouched Silent FolderRose ScriptRose OutRose : Type 0) where
  -- how the writing of a text ends a run that reads no script
  pub written_end : (script left : Option (List ℕ)) (r : Result (Unit {0}) RunStop) → (reads_script ask ≡ false) → IfSome told (IsAccepted the_reading ask)
      → IfErr r IsPrintStop → (IsErrOf r stop.Write → OutRose)
      → IsEnd the_reading (Some ask) told script left Untouched Silent FolderRose ScriptRose OutRose (end_of (result_err r))
  written_end script left (Ok done) unread accepted stops write = (accepted, λ asks. absurd (apart asks))
    where
      apart : reads_script ask ≡ true → ⊥
      apart asks = absurd cc
  written_end script left (Err stop.Words) unread accepted stops write = absurd stops
  written_end script left (Err (stop.Refused why)) unread accepted stops write = absurd stops
  written_end script left (Err stop.Read) unread accepted stops write = absurd stops
  written_end script left (Err stop.Write) unread accepted stops write = (accepted, write refl)
  written_end script left (Err stop.Memory) unread accepted stops write = tt
  written_end script left (Err stop.ScriptSize) unread accepted stops write = absurd stops

module _ (name : List ℕ) (told : Option Files) (Untouched Silent FolderRose ScriptRose OutRose : Type 0) where
  -- how playing ends a run
  pub played_end : (script left : Option (List ℕ)) (r : Result (Unit {0}) PlayError) → IfSome told (IsAccepted the_reading (Play name))
      → (IsErrOf r error.Read → ScriptRose) → (IsErrOf r error.Write → OutRose)
      → IfSome script (λ bytes. (r ≡ Err error.Size) ↔ IsPastSize bytes left)
      → ((done : Unit {0}) → r ≡ Ok done → IsReadWhole script left)
      → IsEnd the_reading (Some (Play name)) told script left Untouched Silent FolderRose ScriptRose OutRose (end_of (result_err (handed r)))
  played_end script left (Ok done) accepted read write size whole = (accepted, λ asks. whole done refl)
  played_end script left (Err error.Read) accepted read write size whole = inr (accepted, refl, read refl)
  played_end script left (Err error.Write) accepted read write size whole = (accepted, write refl)
  played_end script left (Err error.Memory) accepted read write size whole = tt
  played_end script left (Err error.Size) accepted read write size whole = (accepted, refl, past script size)
    where
      past : (s : Option (List ℕ)) → IfSome s (λ bytes. (◌≡◌ {A = Result (Unit {0}) PlayError} (Err error.Size) (Err error.Size))
          ↔ IsPastSize bytes left) → IfSome s (λ bytes. IsPastSize bytes left)
      past None h = tt
      past (Some bytes) h = h.0 refl

-- the script was too long exactly where playing says so
pub handed_size : (told left : Option (List ℕ)) (r : Result (Unit {0}) PlayError)
    → IfSome told (λ bytes. (r ≡ Err error.Size) ↔ IsPastSize bytes left)
    → IfSome told (λ bytes. (handed r ≡ Err stop.ScriptSize) ↔ IsPastSize bytes left)
handed_size None left r size = tt
handed_size (Some bytes) left r size = (λ is. size.0 (back r is), λ past. ap handed (size.1 past))
  where
    back : (r : Result (Unit {0}) PlayError) → handed r ≡ Err stop.ScriptSize → r ≡ Err error.Size
    back (Ok done) is = absurd cc
    back (Err error.Read) is = absurd cc
    back (Err error.Write) is = absurd cc
    back (Err error.Memory) is = absurd cc
    back (Err error.Size) is = refl

-- over what is accepted nothing has to be shown of what isn't
pub nothing_refused : (told : Option Files) (ask : Ask) (P : Type 0) → IfSome told (IsAccepted the_reading ask)
    → IfSome told (λ files. (IsAccepted the_reading ask files → ⊥) → P)
nothing_refused None ask P accepted = tt
nothing_refused (Some files) ask P accepted = λ none. absurd (none accepted)

-- what was told is told still
pub kept_same : (told : Option (List ℕ)) → Kept told told
kept_same None = tt
kept_same (Some bytes) = refl

-- what stops opening stops a run so
pub open_stop : (cause : OpenStop) → IsOpenStop (stop_at cause)
open_stop (opening.Refused why) = tt
open_stop opening.Read = tt
open_stop opening.Memory = tt

-- a run stops for a failed read only where opening does
pub read_stop : (cause : OpenStop) → stop_at cause ≡ stop.Read → cause ≡ opening.Read
read_stop (opening.Refused why) is = absurd cc
read_stop opening.Read is = refl
read_stop opening.Memory is = absurd cc

-- what stops the writing of a text is among what stops a run of one
pub print_stop : (r : Result (Unit {0}) RunStop) → IfErr r IsPrintStop → IfErr r IsOpenOrPrintStop
print_stop (Ok done) is = tt
print_stop (Err stop.Words) is = absurd is
print_stop (Err (stop.Refused why)) is = absurd is
print_stop (Err stop.Read) is = absurd is
print_stop (Err stop.Write) is = tt
print_stop (Err stop.Memory) is = tt
print_stop (Err stop.ScriptSize) is = absurd is
