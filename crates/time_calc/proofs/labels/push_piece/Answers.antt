use Rattle.std.proofs.Common.{◌≡◌, sym, subst, true, ℕ, List, ◌∷◌, ◌++◌, Bool, option_map, FitsSigned, to_z-of_z, false}
use Rattle.std.specs.Int.{w64}
use Rattle.time_calc.specs.inner.Labels.{text_of, written_text}
use Rattle.time_calc.proofs.LabelLemmas.{adds_directive}
use Rattle.time_calc.proofs.labels.push_piece.Goals as goal

pub returns-then-after_percent : goal.returns-then-after_percent
returns-then-after_percent c =
    let instant : FitsSigned w64 c.args.instant = c.ranges.instant in
    let is = simp to_z-of_z at c.written_by.ensures in
    let added = adds_directive c.args.instant c.args.c c.in-Some.directive c.args.out.now c.push_written.new.out
    (written_text c.written_by.result) (sym c.in-Some.ensures) is c.in_ok-push_written.ensures in
    let P : Bool → Type 0 = λ b. (rest : List ℕ) → option_map (λ t. c.args.out.now ++ t) (text_of c.args.instant b (c.args.c ∷ rest))
    ≡ option_map (λ t. c.push_written.new.out ++ t) (text_of c.args.instant false rest) in
    subst P (sym c.if-after_percent.true) added
