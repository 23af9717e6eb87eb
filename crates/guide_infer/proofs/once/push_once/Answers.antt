use Rattle.std.proofs.Common.{[], ◌∷◌, ◌++◌, sym, ap, ◌∙◌}
use Rattle.std.specs.BTreeSet.{contains_text}
use Rattle.guide_infer.proofs.OnceLemmas.{new_name}
use Rattle.guide_infer.proofs.once.push_once.Goals as goal

pub returns-clause-out : goal.returns-clause-out
returns-clause-out c =
    new_name c.args.out.now c.push.new.self c.args.name.now
    (sym (c.requires c.args.name.now) ∙ ap (contains_text c.args.set.now) (sym c.as_str-text.ensures) ∙ sym c.contains.ensures ∙ c.if-contains.false)
    (c.in_ok-push.ensures.ok ∙ ap (λ name. c.args.out.now ++ name ∷ []) c.in_ok-copy.ensures)
