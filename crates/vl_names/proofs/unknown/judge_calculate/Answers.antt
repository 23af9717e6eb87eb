use Rattle.std.proofs.Common.{◌≡◌, Bool, subst}
use Rattle.std.specs.Prelude.{codes, not, OnOk}
use Rattle.vl_trails.specs.Faults.{wrong_if}
use Rattle.vl_trails.specs.Judging.{after}
use Rattle.vl_trails.specs.Trails.{to_member}
use Rattle.vl_names.proofs.unknown.judge_calculate.Goals as goal

pub returns : goal.returns
returns c =
    let all : Bool → Type 0 = λ b. OnOk c.judge_member.result (c.judge_member.new.self
    ≡ after c.args.j.now (wrong_if (not b) (to_member c.args.j.now.trail (codes "calculate")))) in
    subst all c.in_ok-knows.ensures c.judge_member.ensures
