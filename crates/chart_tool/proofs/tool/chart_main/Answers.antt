use Rattle.std.proofs.Common.{◌≡◌, ◌⊎◌, ℕ, Option, List, IfSome, subst, inl, inr, arith}
use Rattle.std.specs.Result.{result_err}
use Rattle.chart_io.specs.Outside.{Files}
use Rattle.chart_opening.specs.declared.refusal.Refusal.{Refusal}
use Rattle.chart_opening.specs.declared.refusal.Refusal.TheVariants as refusal
use Rattle.chart_opening.specs.Texts.{Reading}
use Rattle.chart_opening.specs.inner.Reading.{the_reading}
use Rattle.chart_run.specs.Words.{Ask, asked_in}
use Rattle.chart_run.specs.Refusals.{refusal_status, IsRefused}
use Rattle.chart_run.specs.Ends.{End, Done, Words, Refused, ReadFault, WriteFault, NoMemory, LongScript, end_status, end_note, IsEnd, IsNoted}
use Rattle.chart_run.proofs.Ended.{told_end, told_refused, told_answered, words_status, Comes}
use Rattle.chart_run.proofs.Readings.{at_every}
use Rattle.chart_tool.proofs.tool.chart_main.Goals as goal

-- a refusal's status is none of a fault
no_fault : (why : Refusal) → (refusal_status why ≡ 7 → ⊥) × (refusal_status why ≡ 8 → ⊥)
no_fault (refusal.Missing name) = (λ e. absurd (omega arith), λ e. absurd (omega arith))
no_fault (refusal.Size name) = (λ e. absurd (omega arith), λ e. absurd (omega arith))
no_fault (refusal.Json name place) = (λ e. absurd (omega arith), λ e. absurd (omega arith))
no_fault (refusal.Spec kind path) = (λ e. absurd (omega arith), λ e. absurd (omega arith))
no_fault (refusal.Row source row field) = (λ e. absurd (omega arith), λ e. absurd (omega arith))
no_fault refusal.Rows = (λ e. absurd (omega arith), λ e. absurd (omega arith))
no_fault refusal.Overflow = (λ e. absurd (omega arith), λ e. absurd (omega arith))
no_fault (refusal.Panels count) = (λ e. absurd (omega arith), λ e. absurd (omega arith))

module _ (reading : Reading) (asked : Option Ask) (told : Option Files) (script left : Option (List ℕ))
    (Untouched Silent FolderRose ScriptRose OutRose : Type 0) where
  -- with status 7 a count of a reader rose
  read_rose : (status : ℕ) (end : End) → status ≡ end_status end
      → IsEnd reading asked told script left Untouched Silent FolderRose ScriptRose OutRose end → status ≡ 7 → FolderRose ⊎ ScriptRose
  read_rose status Done is holds seven = absurd (omega arith)
  read_rose status Words is holds seven = absurd (omega arith)
  read_rose status (Refused why) is holds seven = absurd ((no_fault why).0 (omega arith))
  read_rose status ReadFault is (inl failed) seven = inl failed.0
  read_rose status ReadFault is (inr failed) seven = inr failed.2
  read_rose status WriteFault is holds seven = absurd (omega arith)
  read_rose status NoMemory is holds seven = absurd (omega arith)
  read_rose status LongScript is holds seven = absurd (omega arith)

  -- with status 8 the count of the output rose
  write_rose : (status : ℕ) (end : End) → status ≡ end_status end
      → IsEnd reading asked told script left Untouched Silent FolderRose ScriptRose OutRose end → status ≡ 8 → OutRose
  write_rose status Done is holds eight = absurd (omega arith)
  write_rose status Words is holds eight = absurd (omega arith)
  write_rose status (Refused why) is holds eight = absurd ((no_fault why).1 (omega arith))
  write_rose status ReadFault is holds eight = absurd (omega arith)
  write_rose status WriteFault is failed eight = failed.1
  write_rose status NoMemory is holds eight = absurd (omega arith)
  write_rose status LongScript is holds eight = absurd (omega arith)

pub returns-clause-words : goal.returns-clause-words
returns-clause-words g c =
    let w = words_status c.run-done.result c.ended.ensures.ended.0 c.ended.result c.ended.ensures.ended.1 c.ended.ensures.ended.2 in
    (λ one. c.run-done.ensures.words.0 (w.1 one), λ none. w.0 (c.run-done.ensures.words.1 none))

pub returns-clause-ends : goal.returns-clause-ends
returns-clause-ends g c = at_every _ (
  c.ended.ensures.ended.0,
  c.ended.ensures.ended.2,
  subst (λ notes. IsNoted (g.N.Sink.faults notes) (g.N.Sink.faults c.ended.new.notes) (g.N.Sink.held notes) (g.N.Sink.held c.ended.new.notes)
      (end_note c.ended.ensures.ended.0)) c.run-done.ensures.notes c.ended.ensures.ended.3,
  told_end (asked_in c.args.words.now.items) (g.F.Folder.files c.args.folder.now) _ _ _ _ _ _ _ (result_err c.run-done.result)
      c.ended.ensures.ended.0 c.ended.ensures.ended.1 c.run-done.ensures.ends,
)

pub returns-clause-refused : goal.returns-clause-refused
returns-clause-refused g c = at_every
    (λ reading. IfSome (g.F.Folder.files c.args.folder.now) (λ files. (why : Refusal) → IsRefused reading (asked_in c.args.words.now.items) files why
    → Comes c.ended.result why))
    (told_refused (asked_in c.args.words.now.items) (g.F.Folder.files c.args.folder.now) _ _ _ _ _ _ _ c.ended.result c.ended.ensures.ended.0
    c.ended.ensures.ended.2
    (told_end (asked_in c.args.words.now.items) (g.F.Folder.files c.args.folder.now) _ _ _ _ _ _ _ (result_err c.run-done.result)
    c.ended.ensures.ended.0 c.ended.ensures.ended.1 c.run-done.ensures.ends))

pub returns-clause-answered : goal.returns-clause-answered
returns-clause-answered g c = at_every _
    (told_answered (asked_in c.args.words.now.items) (g.F.Folder.files c.args.folder.now) _ _ _ _ _ _ _ c.ended.result c.run-done.result
    c.ended.ensures.ended.0 _ _ c.ended.ensures.ended.1 c.ended.ensures.ended.2
    (told_end (asked_in c.args.words.now.items) (g.F.Folder.files c.args.folder.now) _ _ _ _ _ _ _ (result_err c.run-done.result)
    c.ended.ensures.ended.0 c.ended.ensures.ended.1 c.run-done.ensures.ends)
    c.run-done.ensures.text c.run-done.ensures.replied)

pub returns-clause-nothing : goal.returns-clause-nothing
returns-clause-nothing g c = at_every _ c.run-done.ensures.nothing

pub returns-clause-read_fault : goal.returns-clause-read_fault
returns-clause-read_fault g c = read_rose the_reading (asked_in c.args.words.now.items) (g.F.Folder.files c.args.folder.now) _ _ _ _ _ _ _
    c.ended.result c.ended.ensures.ended.0 c.ended.ensures.ended.2
    (told_end (asked_in c.args.words.now.items) (g.F.Folder.files c.args.folder.now) _ _ _ _ _ _ _ (result_err c.run-done.result)
    c.ended.ensures.ended.0 c.ended.ensures.ended.1 c.run-done.ensures.ends)

pub returns-clause-write_fault : goal.returns-clause-write_fault
returns-clause-write_fault g c = write_rose the_reading (asked_in c.args.words.now.items) (g.F.Folder.files c.args.folder.now) _ _ _ _ _ _ _
    c.ended.result c.ended.ensures.ended.0 c.ended.ensures.ended.2
    (told_end (asked_in c.args.words.now.items) (g.F.Folder.files c.args.folder.now) _ _ _ _ _ _ _ (result_err c.run-done.result)
    c.ended.ensures.ended.0 c.ended.ensures.ended.1 c.run-done.ensures.ends)
