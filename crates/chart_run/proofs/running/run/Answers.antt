use Rattle.std.proofs.Common.{Some, [], refl, sym, ap, ◌∙◌}
use Rattle.chart_run.specs.Words.{Render, Play, Compile, asked_in}
use Rattle.chart_run.specs.inner.Asking.{seen_ask}
use Rattle.chart_run.proofs.Ended.{told_of, nothing_and_same}
use Rattle.chart_run.proofs.Replied.{unread_replied}
use Rattle.chart_run.proofs.running.run.Goals as goal

pub returns-in-Some-Render-clause-nothing : goal.returns-in-Some-Render-clause-nothing
returns-in-Some-Render-clause-nothing g c =
    told_of (asked_in c.args.words.now.items) (g.F.Folder.files c.args.folder.now) (Render c.in-Some-Render.name.now) _
    (ap (λ a. Some (seen_ask a)) (sym c.in-Some-Render.field-0-is) ∙ c.in-Some-Render.ensures)
    (nothing_and_same (g.F.Folder.files c.args.folder.now) (Render c.in-Some-Render.name.now) _ _ c.render.ensures.nothing refl)

pub returns-in-Some-Compile-clause-nothing : goal.returns-in-Some-Compile-clause-nothing
returns-in-Some-Compile-clause-nothing g c =
    told_of (asked_in c.args.words.now.items) (g.F.Folder.files c.args.folder.now) (Compile c.in-Some-Compile.name.now) _
    (ap (λ a. Some (seen_ask a)) (sym c.in-Some-Compile.field-0-is) ∙ c.in-Some-Compile.ensures)
    (nothing_and_same (g.F.Folder.files c.args.folder.now) (Compile c.in-Some-Compile.name.now) _ _ c.compile.ensures.nothing refl)

pub returns-in-Some-Play-clause-nothing : goal.returns-in-Some-Play-clause-nothing
returns-in-Some-Play-clause-nothing g c =
    told_of (asked_in c.args.words.now.items) (g.F.Folder.files c.args.folder.now) (Play c.in-Some-Play.name.now) _
    (ap (λ a. Some (seen_ask a)) (sym c.in-Some-Play.field-0-is) ∙ c.in-Some-Play.ensures) c.play.ensures.nothing

pub returns-in-Some-Render-clause-text : goal.returns-in-Some-Render-clause-text
returns-in-Some-Render-clause-text g c =
    told_of (asked_in c.args.words.now.items) (g.F.Folder.files c.args.folder.now) (Render c.in-Some-Render.name.now) _
    (ap (λ a. Some (seen_ask a)) (sym c.in-Some-Render.field-0-is) ∙ c.in-Some-Render.ensures) c.render.ensures.text

pub returns-in-Some-Play-clause-text : goal.returns-in-Some-Play-clause-text
returns-in-Some-Play-clause-text g c =
    told_of (asked_in c.args.words.now.items) (g.F.Folder.files c.args.folder.now) (Play c.in-Some-Play.name.now) _
    (ap (λ a. Some (seen_ask a)) (sym c.in-Some-Play.field-0-is) ∙ c.in-Some-Play.ensures) c.play.ensures.text

pub returns-in-Some-Compile-clause-text : goal.returns-in-Some-Compile-clause-text
returns-in-Some-Compile-clause-text g c =
    told_of (asked_in c.args.words.now.items) (g.F.Folder.files c.args.folder.now) (Compile c.in-Some-Compile.name.now) _
    (ap (λ a. Some (seen_ask a)) (sym c.in-Some-Compile.field-0-is) ∙ c.in-Some-Compile.ensures) c.compile.ensures.text

pub returns-in-Some-Render-clause-replied : goal.returns-in-Some-Render-clause-replied
returns-in-Some-Render-clause-replied g c =
    told_of (asked_in c.args.words.now.items) (g.F.Folder.files c.args.folder.now) (Render c.in-Some-Render.name.now) _
    (ap (λ a. Some (seen_ask a)) (sym c.in-Some-Render.field-0-is) ∙ c.in-Some-Render.ensures)
    (unread_replied (g.F.Folder.files c.args.folder.now) (Render c.in-Some-Render.name.now) [] _ _ _ _ refl)

pub returns-in-Some-Play-clause-replied : goal.returns-in-Some-Play-clause-replied
returns-in-Some-Play-clause-replied g c =
    told_of (asked_in c.args.words.now.items) (g.F.Folder.files c.args.folder.now) (Play c.in-Some-Play.name.now) _
    (ap (λ a. Some (seen_ask a)) (sym c.in-Some-Play.field-0-is) ∙ c.in-Some-Play.ensures) c.play.ensures.replied

pub returns-in-Some-Compile-clause-replied : goal.returns-in-Some-Compile-clause-replied
returns-in-Some-Compile-clause-replied g c =
    told_of (asked_in c.args.words.now.items) (g.F.Folder.files c.args.folder.now) (Compile c.in-Some-Compile.name.now) _
    (ap (λ a. Some (seen_ask a)) (sym c.in-Some-Compile.field-0-is) ∙ c.in-Some-Compile.ensures)
    (unread_replied (g.F.Folder.files c.args.folder.now) (Compile c.in-Some-Compile.name.now) [] _ _ _ _ refl)
