use Rattle.std.proofs.Common.{ap, sym, ◌∙◌}
use Rattle.fixed_num.specs.Ranges.{in_range}
use Rattle.fixed_num.proofs.RangeLemmas.{in_range_at_number}
use Rattle.scale_kit.proofs.BetweenLemmas.{place_is_number}
use Rattle.scale_kit.proofs.LineLemmas.{lt_test, place_by_ratio, place_in_point}
use Rattle.scale_kit.proofs.lines.place_of_number.Goals as goal

pub returns-then-lt : goal.returns-then-lt
returns-then-lt c =
    let rising = sym (lt_test c.args.domain.0 c.args.domain.1) ∙ sym c.lt.ensures ∙ c.if-lt.true in
    c.along.ensures ∙ ap in_range (place_by_ratio c.args.domain c.args.range c.args.v rising)

pub returns-else-lt : goal.returns-else-lt
returns-else-lt c =
    let level = sym (lt_test c.args.domain.0 c.args.domain.1) ∙ sym c.lt.ensures ∙ c.if-lt.false in
    sym (in_range_at_number c.middle.result (place_is_number c.args.range.0 c.args.range.1 _ c.requires c.middle.ensures.within))
    ∙ ap in_range (c.middle.ensures.value ∙ sym (place_in_point c.args.domain c.args.range c.args.v level))
