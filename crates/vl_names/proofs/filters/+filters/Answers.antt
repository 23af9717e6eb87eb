use Rattle.std.proofs.Common.{◌≡◌, ◌≤◌, List, length, subst, arith}
use Rattle.std.specs.Prelude.{OnOk}
use Rattle.vl_trails.specs.declared.fault.RuleFault.{RuleFault}
use Rattle.vl_trails.specs.Judging.{after}
use Rattle.vl_names.specs.Filters.{filter_faults}
use Rattle.vl_names.specs.inner.Looked.{known_shown}
use Rattle.vl_names.proofs.FilterLemmas.{and_faults, or_faults, not_faults}
use Rattle.vl_names.proofs.LoopLemmas.{one_item, no_item_more}
use Rattle.vl_names.proofs.filters.+filters.Goals as goal

pub judge_filter-returns-in-And : goal.judge_filter-returns-in-And
judge_filter-returns-in-And t c =
    let all : List RuleFault → Type 0 = λ fs. OnOk c.judge_list.result (c.judge_list.new.j ≡ after c.args.j.now fs) in
    subst all (and_faults (known_shown c.args.known.now) c.args.filter.now c.in-And.filters c.as_slice.result.now c.args.j.now.trail
    c.in-And.is c.as_slice.ensures) c.judge_list.ensures

pub judge_filter-returns-in-Or : goal.judge_filter-returns-in-Or
judge_filter-returns-in-Or t c =
    let all : List RuleFault → Type 0 = λ fs. OnOk c.judge_list-in-Or.result (c.judge_list-in-Or.new.j ≡ after c.args.j.now fs) in
    subst all (or_faults (known_shown c.args.known.now) c.args.filter.now c.in-Or.filters c.as_slice-in-Or.result.now c.args.j.now.trail
    c.in-Or.is c.as_slice-in-Or.ensures) c.judge_list-in-Or.ensures

pub judge_filter-returns-in-Not : goal.judge_filter-returns-in-Not
judge_filter-returns-in-Not t c =
    let all : List RuleFault → Type 0 = λ fs. OnOk c.judge_not.result (c.judge_not.new.j ≡ after c.args.j.now fs) in
    subst all (not_faults (known_shown c.args.known.now) c.args.filter.now c.in-Not.filter c.get.result.now c.args.j.now.trail
    c.in-Not.is c.get.ensures) c.judge_not.ensures

pub judge_items-loop-number-preserved : goal.judge_items-loop-number-preserved
judge_items-loop-number-preserved t c =
    one_item (filter_faults (known_shown c.args.known.now)) c.args.filters.now c.loop-number.number c.index-filters-number.result
    c.loop-number.j _ _ c.loop-number-test.true c.index-filters-number.is c.in_ok-judge_item.ensures c.loop-number.invariant

pub judge_items-returns : goal.judge_items-returns
judge_items-returns t c =
    let past = c.loop-number-test.false in
    let over : length c.args.filters.now ≤ c.loop-number.number = omega arith in
    no_item_more (filter_faults (known_shown c.args.known.now)) c.args.filters.now c.loop-number.number c.loop-number.j _ over c.loop-number.invariant
