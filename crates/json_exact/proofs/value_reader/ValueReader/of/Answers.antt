use Rattle.std.proofs.Common.{refl, ap, sym, ◌∙◌}
use Rattle.json_exact.specs.inner.Reader.{skip_white}
use Rattle.json_exact.proofs.ValueReaders.{whole_ahead, end_ahead, items_ahead}
use Rattle.json_exact.proofs.value_reader.ValueReader.of.Goals as goal

pub returns-then-first_of-ne91 : goal.returns-then-first_of-ne91
returns-then-first_of-ne91 c =
    whole_ahead c.args.bytes.now c.skip_white-front.result.now _ refl c.skip_white-front.ensures
    (λ same. c.if-first_of-ne91.true (c.first_of.ensures ∙ same))

pub returns-then-first_of-eq93 : goal.returns-then-first_of-eq93
returns-then-first_of-eq93 c =
    end_ahead c.args.bytes.now c.skip_white-front.result.now c.after_first-inside.result.now c.skip_white-rest.result.now _ refl
    c.skip_white-front.ensures (sym c.first_of.ensures ∙ c.if-first_of-ne91.false) c.after_first-inside.ensures c.skip_white-rest.ensures 0 _
    (sym c.first_of-2.ensures ∙ c.if-first_of-eq93.true) (c.skip_white.ensures ∙ ap skip_white c.after_first.ensures)

pub returns : goal.returns
returns c =
    items_ahead c.args.bytes.now c.skip_white-front.result.now c.after_first-inside.result.now c.skip_white-rest.result.now _ refl
    c.skip_white-front.ensures (sym c.first_of.ensures ∙ c.if-first_of-ne91.false) c.after_first-inside.ensures c.skip_white-rest.ensures _ refl
    (λ same. c.if-first_of-eq93.false (c.first_of-2.ensures ∙ same))
