use Rattle.std.proofs.Common.{◌++◌, length, arith}
use Rattle.std.proofs.lemmas.List.{length-append}
use Rattle.fixed_num.proofs.RoundingLemmas.{exact_at}
use Rattle.fixed_num.proofs.DigitLemmas.{number_below}
use Rattle.fixed_num.proofs.ScaleLemmas.{rounded_to_nothing, cut_in_whole, cut_in_fraction}
use Rattle.fixed_num.proofs.json_value.scale_down.Goals as goal

pub returns-then-places-len : goal.returns-then-places-len
returns-then-places-len c =
    let digits = c.args.whole.now ++ c.args.fraction.now in
    exact_at _ _ _ c.of_size.ensures
    (rounded_to_nothing c.args.minus _ (length digits) c.args.places (number_below digits c.requires.digits)
    (omega (arith, length-append c.args.whole.now c.args.fraction.now)))

pub returns-then-kept-whole : goal.returns-then-kept-whole
returns-then-kept-whole c =
    exact_at _ _ _ c.round_off.ensures (cut_in_whole c.args.minus c.args.whole.now c.args.fraction.now _ _ c.args.places
    c.split_at.ensures.by_index.0 (omega (arith, c.split_at.ensures.back_len)))

pub returns-else-kept-whole : goal.returns-else-kept-whole
returns-else-kept-whole c =
    exact_at _ _ _ c.round_off-else-kept-whole.ensures (cut_in_fraction c.args.minus c.args.whole.now c.args.fraction.now _ _ c.args.places
    c.split_at-else-kept-whole.ensures.by_index.0 (omega (arith, c.split_at-else-kept-whole.ensures.back_len)))
