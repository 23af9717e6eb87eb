-- What an end of a run says of its status, of what refuses it, and of what is wanted.
use Rattle.std.proofs.Common.{◌≡◌, ◌≤◌, ◌<◌, ◌⊎◌, ◌↔◌, ℕ, suc, true, Option, Some, None, List, length, Result, Ok, Err, IfSome, OnOk, refl}
use Rattle.std.proofs.Common.{sym, subst, inl, inr, ap, ◌∙◌, arith}
use Rattle.std.specs.Result.{result_err}
use Rattle.chart_io.specs.Outside.{Files, Appended}
use Rattle.param_flow.specs.Script.{most_script_bytes}
use Rattle.play_script.specs.Played.{IsPastSize}
use Rattle.chart_opening.specs.declared.opened.Opened.{Opened}
use Rattle.chart_opening.specs.declared.refusal.Refusal.{Refusal}
use Rattle.chart_opening.specs.declared.refusal.Refusal.TheVariants as refusal
use Rattle.chart_opening.specs.inner.Reading.{the_reading}
use Rattle.chart_run.specs.declared.stop.RunStop.{RunStop}
use Rattle.chart_run.specs.declared.stop.RunStop.TheVariants as stop
use Rattle.chart_run.specs.Words.{Ask, Render, Play, Compile, reads_script}
use Rattle.chart_run.specs.Refusals.{refusal_status, opened_for, IsRefused}
use Rattle.chart_run.specs.Wanted.{IsAccepted, IsAnswered, IsRepliedTo, MayFail, script_for}
use Rattle.chart_run.specs.Ends.{End, Done, Words, Refused, ReadFault, WriteFault, NoMemory, LongScript, end_status, IsEnd, Told}
use Rattle.chart_run.specs.inner.Stops.{end_of, IsTold, IsCutOff}
use Rattle.chart_run.specs.inner.Runs.{IsTexted, IsRepliedSo}

-- the status comes wherever the refusal holds, unless reading failed or memory was refused
abbrev pub Comes : ℕ → Refusal → Type 0
Comes status why = (status ≡ refusal_status why) ⊎ ((status ≡ 7) ⊎ (status ≡ 9))

-- what is opened isn't refused
not_both : (given : Result Opened Refusal) (opened : Opened) (why : Refusal) → given ≡ Ok opened → given ≡ Err why → ⊥
not_both given opened why is refused = absurd cc

-- there is one refusal
one_refusal : (given : Result Opened Refusal) (why other : Refusal) → given ≡ Err why → given ≡ Err other → why ≡ other
one_refusal given why other a b = let e : ◌≡◌ {A = Result Opened Refusal} (Err why) (Err other) = sym a ∙ b in cc

accepted_not_refused : (ask : Ask) (files : Files) (why : Refusal) → IsAccepted the_reading ask files → IsRefused the_reading (Some ask) files why → ⊥
accepted_not_refused ask files why (opened, is) refused = not_both (opened_for the_reading ask files) opened why is refused

-- what holds of the end before the telling, and of want of memory, holds of the end after it
told_by : (P : End → Type 0) (cause : Option RunStop) (end : End) → IsTold cause end → P (end_of cause) → P NoMemory → P end
told_by P None end is holds memory = subst P (sym is) holds
told_by P (Some stop.Words) end is holds memory = subst P (sym is) holds
told_by P (Some (stop.Refused why)) end (inl is) holds memory = subst P (sym is) holds
told_by P (Some (stop.Refused why)) end (inr is) holds memory = subst P (sym is) memory
told_by P (Some stop.Read) end is holds memory = subst P (sym is) holds
told_by P (Some stop.Write) end is holds memory = subst P (sym is) holds
told_by P (Some stop.Memory) end is holds memory = subst P (sym is) holds
told_by P (Some stop.ScriptSize) end is holds memory = subst P (sym is) holds

-- the end of a run, told on the notes, says what the end before the telling says
pub told_end : (asked : Option Ask) (told : Option Files) (script left : Option (List ℕ)) (Untouched Silent FolderRose ScriptRose OutRose : Type 0)
    (cause : Option RunStop) (end : End) → IsTold cause end
    → IsEnd the_reading asked told script left Untouched Silent FolderRose ScriptRose OutRose (end_of cause)
    → IsEnd the_reading asked told script left Untouched Silent FolderRose ScriptRose OutRose end
told_end asked told script left Untouched Silent FolderRose ScriptRose OutRose cause end is holds =
    told_by (λ (e : End). IsEnd the_reading asked told script left Untouched Silent FolderRose ScriptRose OutRose e) cause end is holds tt

-- the end of a run that was stopped so
pub end_so : (done : Result (Unit {0}) RunStop) (field cause : RunStop) (end : End) → done ≡ Err field → field ≡ cause → IsTold (Some cause) end
    → IsTold (result_err done) end
end_so done field cause end is same told = subst (λ (r : Result (Unit {0}) RunStop). IsTold (result_err r) end) (sym (is ∙ ap Err same)) told

-- the end of a run that was done
pub end_done : (done : Result (Unit {0}) RunStop) (field : Unit {0}) → done ≡ Ok field → IsTold (result_err done) Done
end_done done field is = subst (λ (r : Result (Unit {0}) RunStop). IsTold (result_err r) Done) (sym is) refl

-- a refusal brings its status
pub refused_comes : (asked : Option Ask) (files : Files) (script left : Option (List ℕ)) (Untouched Silent FolderRose ScriptRose OutRose : Type 0)
    (status : ℕ) (end : End) → status ≡ end_status end
    → IsEnd the_reading asked (Some files) script left Untouched Silent FolderRose ScriptRose OutRose end
    → (why : Refusal) → IsRefused the_reading asked files why → Comes status why
refused_comes None files script left Untouched Silent FolderRose ScriptRose OutRose status end e is why refused = absurd refused
refused_comes (Some ask) files script left Untouched Silent FolderRose ScriptRose OutRose status Done e is why refused =
    absurd (accepted_not_refused ask files why is.0 refused)
refused_comes (Some ask) files script left Untouched Silent FolderRose ScriptRose OutRose status Words e is why refused =
    let none : ◌≡◌ {A = Option Ask} (Some ask) None = is.0 in absurd cc
refused_comes (Some ask) files script left Untouched Silent FolderRose ScriptRose OutRose status (Refused other) e is why refused =
    inl (e ∙ ap refusal_status (one_refusal (opened_for the_reading ask files) other why is.0 refused))
refused_comes (Some ask) files script left Untouched Silent FolderRose ScriptRose OutRose status ReadFault e is why refused = inr (inl e)
refused_comes (Some ask) files script left Untouched Silent FolderRose ScriptRose OutRose status WriteFault e is why refused =
    absurd (accepted_not_refused ask files why is.0 refused)
refused_comes (Some ask) files script left Untouched Silent FolderRose ScriptRose OutRose status NoMemory e is why refused = inr (inr e)
refused_comes (Some ask) files script left Untouched Silent FolderRose ScriptRose OutRose status LongScript e is why refused =
    absurd (accepted_not_refused ask files why is.0 refused)

-- a script that is told, of which too many bytes were taken, is too long
past_is_long : (bytes : List ℕ) (left : Option (List ℕ)) → IsPastSize bytes left → most_script_bytes < length bytes
past_is_long bytes None past = absurd past
past_is_long bytes (Some rest) past = omega arith

module _ (ask : Ask) (files : Files) (told left : Option (List ℕ)) (Untouched Silent FolderRose ScriptRose OutRose : Type 0)
    (status : ℕ) where
  -- accepted files, without a fault and with a script within its size, are done, or memory was refused
  pub complete_end : (script : List ℕ) → script_for ask told ≡ Some script → (end : End) → status ≡ end_status end
      → IsEnd the_reading (Some ask) (Some files) told left Untouched Silent FolderRose ScriptRose OutRose end → IsAccepted the_reading ask files
      → length script ≤ most_script_bytes → (MayFail ask FolderRose ScriptRose OutRose → ⊥) → (status ≡ 0) ⊎ (status ≡ 9)
  complete_end script is_script Done e is accepted few none = inl e
  complete_end script is_script Words e is accepted few none = let no : ◌≡◌ {A = Option Ask} (Some ask) None = is.0 in absurd cc
  complete_end script is_script (Refused why) e is accepted few none = absurd (accepted_not_refused ask files why accepted is.0)
  complete_end script is_script ReadFault e (inl fault) accepted few none = absurd (none (inl fault.0))
  complete_end script is_script ReadFault e (inr fault) accepted few none = absurd (none (inr (inl (fault.1, fault.2))))
  complete_end script is_script WriteFault e is accepted few none = absurd (none (inr (inr is.1)))
  complete_end script is_script NoMemory e is accepted few none = inr e
  complete_end script is_script LongScript e is accepted few none = absurd (too_long ask is_script is.1)
    where
      by_size : told ≡ Some script → ⊥
      by_size s =
          let past : IsPastSize script left = subst (λ (t : Option (List ℕ)). IfSome t (λ bytes. IsPastSize bytes left)) s is.2 in
          let long = past_is_long script left past in omega arith

      too_long : (a : Ask) → script_for a told ≡ Some script → (reads_script a ≡ true) → ⊥
      too_long (Render n) s r = absurd cc
      too_long (Play n) s r = by_size s
      too_long (Compile n) s r = absurd cc

-- what is done is wanted
pub answered : (ask : Ask) (files : Files) (script : List ℕ) (left : Option (List ℕ)) (status : ℕ) (old now : Option (List ℕ)) (Fault : Type 0)
    (r : Result (Unit {0}) RunStop) (end : End)
    → IsTold (result_err r) end → status ≡ end_status end → IsTexted ask files script r old now
    → ((why : Refusal) → end ≡ Refused why → ⊥)
    → (reads_script ask ≡ true → IsCutOff r → IsRepliedTo the_reading ask files script left old now)
    → (length script ≤ most_script_bytes → (Fault → ⊥) → (status ≡ 0) ⊎ (status ≡ 9))
    → IsAnswered the_reading ask files script left status old now Fault
answered ask files script left status old now Fault r end told e is unrefused replied complete = record {
  text = is.text;
  wanted = is.wanted;
  begun = is.begun;
  whole = λ zero. only_done r told is.whole zero;
  replied = λ reads stopped. replied reads (is_cut r told stopped);
  complete = complete;
}
  where
    other : (n : ℕ) → (end' : End) → end ≡ end' → end_status end' ≡ suc n → status ≡ 0 → ⊥
    other n end' same s zero = let t = ap end_status same in omega arith

    refused_status : (why : Refusal) → (n : ℕ) × (refusal_status why ≡ suc n)
    refused_status (refusal.Missing name) = (1, refl)
    refused_status (refusal.Size name) = (9, refl)
    refused_status (refusal.Json name place) = (2, refl)
    refused_status (refusal.Spec kind path) = (3, refl)
    refused_status (refusal.Row source row field) = (4, refl)
    refused_status refusal.Rows = (9, refl)
    refused_status refusal.Overflow = (5, refl)
    refused_status (refusal.Panels count) = (10, refl)

    only_done : (r : Result (Unit {0}) RunStop) → IsTold (result_err r) end → OnOk r (Appended old now is.text)
        → status ≡ 0 → Appended old now is.text
    only_done (Ok done) told is zero = is
    only_done (Err stop.Words) told is zero = absurd (other 0 Words told refl zero)
    only_done (Err (stop.Refused why)) (inl told) is zero = let s = refused_status why in absurd (other s.0 (Refused why) told s.1 zero)
    only_done (Err (stop.Refused why)) (inr told) is zero = absurd (other 8 NoMemory told refl zero)
    only_done (Err stop.Read) told is zero = absurd (other 6 ReadFault told refl zero)
    only_done (Err stop.Write) told is zero = absurd (other 7 WriteFault told refl zero)
    only_done (Err stop.Memory) told is zero = absurd (other 8 NoMemory told refl zero)
    only_done (Err stop.ScriptSize) told is zero = absurd (other 9 LongScript told refl zero)

    -- another status than 7 and 10
    neither : (n : ℕ) → (end' : End) → end ≡ end' → end_status end' ≡ n → (n ≡ 7 → ⊥) → (n ≡ 10 → ⊥)
        → (status ≡ 7) ⊎ (status ≡ 10) → ⊥
    neither n end' same s not_7 not_10 (inl is_7) = let t = ap end_status same in not_7 (omega arith)
    neither n end' same s not_7 not_10 (inr is_10) = let t = ap end_status same in not_10 (omega arith)

    -- these two come where a run was cut off
    is_cut : (r : Result (Unit {0}) RunStop) → IsTold (result_err r) end → (status ≡ 7) ⊎ (status ≡ 10) → IsCutOff r
    is_cut (Ok done) told stopped = absurd (neither 0 Done told refl (omega arith) (omega arith) stopped)
    is_cut (Err stop.Words) told stopped = absurd (neither 1 Words told refl (omega arith) (omega arith) stopped)
    is_cut (Err (stop.Refused why)) (inl told) stopped = absurd (unrefused why told)
    is_cut (Err (stop.Refused why)) (inr told) stopped = absurd (neither 9 NoMemory told refl (omega arith) (omega arith) stopped)
    is_cut (Err stop.Read) told stopped = tt
    is_cut (Err stop.Write) told stopped = absurd (neither 8 WriteFault told refl (omega arith) (omega arith) stopped)
    is_cut (Err stop.Memory) told stopped = absurd (neither 9 NoMemory told refl (omega arith) (omega arith) stopped)
    is_cut (Err stop.ScriptSize) told stopped = tt

-- what holds of what is asked for holds where it is asked for
pub told_of : (asked : Option Ask) (told : Option Files) (ask : Ask) (P : Ask → Files → Type 0) → Some ask ≡ asked → IfSome told (P ask)
    → Told asked told P
told_of asked told ask P is holds = subst (λ (a : Option Ask). Told a told P) is holds

-- nothing was written, and the script is as it was
pub nothing_and_same : (told : Option Files) (ask : Ask) (Silent Same : Type 0)
    → IfSome told (λ files. (IsAccepted the_reading ask files → ⊥) → Silent) → Same
    → IfSome told (λ files. (IsAccepted the_reading ask files → ⊥) → Silent × Same)
nothing_and_same None ask Silent Same nothing same = tt
nothing_and_same (Some files) ask Silent Same nothing same = λ none. (nothing none, same)

-- refusals bring their statuses, where the folder tells its files
pub told_refused : (asked : Option Ask) (told : Option Files) (script left : Option (List ℕ))
    (Untouched Silent FolderRose ScriptRose OutRose : Type 0) (status : ℕ) (end : End)
    → status ≡ end_status end → IsEnd the_reading asked told script left Untouched Silent FolderRose ScriptRose OutRose end
    → IfSome told (λ files. (why : Refusal) → IsRefused the_reading asked files why → Comes status why)
told_refused asked None script left Untouched Silent FolderRose ScriptRose OutRose status end e is = tt
told_refused asked (Some files) script left Untouched Silent FolderRose ScriptRose OutRose status end e is =
    λ why refused. refused_comes asked files script left Untouched Silent FolderRose ScriptRose OutRose status end e is why refused

-- what is wanted is answered
pub told_answered : (asked : Option Ask) (told : Option Files) (script left : Option (List ℕ))
    (Untouched Silent FolderRose ScriptRose OutRose : Type 0) (status : ℕ)
    (r : Result (Unit {0}) RunStop) (end : End) (old now : Option (List ℕ))
    → IsTold (result_err r) end → status ≡ end_status end
    → IsEnd the_reading asked told script left Untouched Silent FolderRose ScriptRose OutRose end
    → Told asked told (λ ask files. IfSome (script_for ask script) (λ bytes. IsAccepted the_reading ask files → IsTexted ask files bytes r old now))
    → Told asked told (λ ask files. IfSome (script_for ask script) (λ bytes. IsRepliedSo ask files bytes left r old now))
    → Told asked told (λ ask files. IfSome (script_for ask script) (λ bytes. IsAccepted the_reading ask files
    → IsAnswered the_reading ask files bytes left status old now (MayFail ask FolderRose ScriptRose OutRose)))
told_answered None told script left Untouched Silent FolderRose ScriptRose OutRose status r end old now is_told e is text replied = tt
told_answered (Some ask) None script left Untouched Silent FolderRose ScriptRose OutRose status r end old now is_told e is text replied = tt
told_answered (Some ask) (Some files) script left Untouched Silent FolderRose ScriptRose OutRose status r end old now is_told e is text replied =
    by_script (script_for ask script) refl text replied
  where
    refuses : IsAccepted the_reading ask files → (why : Refusal) → end ≡ Refused why → ⊥
    refuses accepted why same =
        let at : End → Type 0 = λ it. IsEnd the_reading (Some ask) (Some files) script left Untouched Silent FolderRose ScriptRose OutRose it in
        let refused = subst at same is in
        accepted_not_refused ask files why accepted refused.0

    by_script : (s : Option (List ℕ)) → script_for ask script ≡ s
        → IfSome s (λ bytes. IsAccepted the_reading ask files → IsTexted ask files bytes r old now)
        → IfSome s (λ bytes. IsRepliedSo ask files bytes left r old now)
        → IfSome s (λ bytes. IsAccepted the_reading ask files
        → IsAnswered the_reading ask files bytes left status old now (MayFail ask FolderRose ScriptRose OutRose))
    by_script None same text replied = tt
    by_script (Some bytes) same text replied = λ accepted.
        answered ask files bytes left status old now (MayFail ask FolderRose ScriptRose OutRose) r end is_told e (text accepted)
        (refuses accepted) (replied accepted)
        (complete_end ask files script left Untouched Silent FolderRose ScriptRose OutRose status bytes same end e is accepted)

-- status 1 comes for wrong words alone
pub words_status : (r : Result (Unit {0}) RunStop) (end : End) (status : ℕ) → IsTold (result_err r) end → status ≡ end_status end
    → (r ≡ Err stop.Words) ↔ (status ≡ 1)
words_status r end status told e = (λ is. from_words r told is, λ one. to_words r told one)
  where
    from_words : (r : Result (Unit {0}) RunStop) → IsTold (result_err r) end → r ≡ Err stop.Words → status ≡ 1
    from_words (Ok done) told is = absurd cc
    from_words (Err stop.Words) told is = e ∙ ap end_status told
    from_words (Err (stop.Refused why)) told is = absurd cc
    from_words (Err stop.Read) told is = absurd cc
    from_words (Err stop.Write) told is = absurd cc
    from_words (Err stop.Memory) told is = absurd cc
    from_words (Err stop.ScriptSize) told is = absurd cc

    other : (n : ℕ) → (end' : End) → end ≡ end' → end_status end' ≡ n → (n ≡ 1 → ⊥) → status ≡ 1 → ⊥
    other n end' same s apart one = let t = ap end_status same in apart (omega arith)

    not_one : (why : Refusal) → refusal_status why ≡ 1 → ⊥
    not_one (refusal.Missing name) e = absurd (omega arith)
    not_one (refusal.Size name) e = absurd (omega arith)
    not_one (refusal.Json name place) e = absurd (omega arith)
    not_one (refusal.Spec kind path) e = absurd (omega arith)
    not_one (refusal.Row source row field) e = absurd (omega arith)
    not_one refusal.Rows e = absurd (omega arith)
    not_one refusal.Overflow e = absurd (omega arith)
    not_one (refusal.Panels count) e = absurd (omega arith)

    to_words : (r : Result (Unit {0}) RunStop) → IsTold (result_err r) end → status ≡ 1 → r ≡ Err stop.Words
    to_words (Ok done) told one = absurd (other 0 Done told refl (λ x. omega arith) one)
    to_words (Err stop.Words) told one = refl
    to_words (Err (stop.Refused why)) (inl told) one = absurd (other (refusal_status why) (Refused why) told refl (not_one why) one)
    to_words (Err (stop.Refused why)) (inr told) one = absurd (other 9 NoMemory told refl (λ x. omega arith) one)
    to_words (Err stop.Read) told one = absurd (other 7 ReadFault told refl (λ x. omega arith) one)
    to_words (Err stop.Write) told one = absurd (other 8 WriteFault told refl (λ x. omega arith) one)
    to_words (Err stop.Memory) told one = absurd (other 9 NoMemory told refl (λ x. omega arith) one)
    to_words (Err stop.ScriptSize) told one = absurd (other 10 LongScript told refl (λ x. omega arith) one)
