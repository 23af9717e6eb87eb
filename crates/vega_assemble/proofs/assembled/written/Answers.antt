use Rattle.std.proofs.Common.{◌≡◌, ℕ, List, map, ap, subst, ◌∙◌}
use Rattle.std.specs.Borrow.{Bor}
use Rattle.std.specs.Prelude.{IfOk}
use Rattle.vega_assemble.specs.Assembled.{written_with}
use Rattle.vega_assemble.specs.Names.{stem_for}
use Rattle.vega_assemble.proofs.assembled.written.Goals as goal

pub returns : goal.returns
returns c =
    let all : List ℕ → Type 0 = λ stem. IfOk c.written_with.result (λ g. g ≡ written_with stem c.args.s.now c.args.p.now) in
    let stem_of : List (Bor (List ℕ)) → List ℕ = λ names. stem_for (map (λ (n : Bor (List ℕ)). n.now) names) in
    subst all (c.in_ok-stem.ensures ∙ ap stem_of c.as_slice.ensures.value ∙ ap stem_for c.in_ok-names.ensures) c.written_with.ensures
