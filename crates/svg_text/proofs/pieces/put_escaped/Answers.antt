use Rattle.std.proofs.Common.{◌≡◌, true, sym, ◌∙◌, subst, rules}
use Rattle.std.specs.List.{list_all}
use Rattle.std.specs.Str.{IsUtf8}
use Rattle.svg_text.specs.inner.Pieces.{is_plain}
use Rattle.svg_text.proofs.Plain.{plain_text}
use Rattle.svg_text.proofs.Steps.{prints_same}
use Rattle.svg_text.proofs.pieces.put_escaped.Goals as goal

pub returns-then-is_plain_text : goal.returns-then-is_plain_text
returns-then-is_plain_text g c =
    let utf8 : IsUtf8 c.args.text.now = subst IsUtf8 c.as_str.ensures c.as_str.utf8 in
    let plain : list_all is_plain c.args.text.now ≡ true = search rules in
    prints_same (c.as_str.ensures ∙ sym (plain_text c.args.text.now utf8 plain)) c.put_text.ensures
