use Rattle.std.proofs.Common.{◌≡◌, ℕ, List, Option, IfOk, subst}
use Rattle.mark_shapes.specs.declared.shown.Shown.{Shown}
use Rattle.mark_encode.proofs.FixedLemmas.{color_of_none, color_of_first}
use Rattle.mark_encode.proofs.fixed.fixed_color.Goals as goal

pub returns-in_default : goal.returns-in_default
returns-in_default c = color_of_none c.args.values.now c.in_default.len_below

pub returns : goal.returns
returns c =
    let P : Option (Shown (List ℕ)) → Type 0 = λ given. IfOk c.color_alone.result (λ color. color ≡ given) in
    subst P (color_of_first c.args.values.now _ c.in-len1-up.len_at_least c.first-item.is) c.color_alone.ensures
