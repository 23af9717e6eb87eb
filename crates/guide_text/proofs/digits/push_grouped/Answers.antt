use Rattle.std.proofs.Common.{◌≡◌, List, ℕ, subst, sym, ◌∙◌}
use Rattle.std.specs.Prelude.{EachIndex, slice_index, ◌≤◌}
use Rattle.std.specs.Fmt.{decimal}
use Rattle.tick_kit.proofs.LabelLemmas.{decimal_digits}
use Rattle.guide_text.proofs.digits.push_grouped.Goals as goal

pub push_with_commas-requires : goal.push_with_commas-requires
push_with_commas-requires c =
    let is : c.as_bytes.result.now ≡ decimal c.args.n = c.as_bytes.ensures.value ∙ c.in_ok-digits.ensures.ok in
    let P : List ℕ → Type 0 = λ ds. EachIndex ds (λ k. (48 ≤ slice_index ds k) × (slice_index ds k ≤ 57)) in
    subst P (sym is) (decimal_digits c.args.n c.requires)
