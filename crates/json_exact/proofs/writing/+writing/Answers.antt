use Rattle.std.proofs.Common.{ap, sym, ◌∙◌, ◌++◌, List, ℕ}
use Rattle.std.proofs.lemmas.Result.{IfOk-equal}
use Rattle.std.proofs.lemmas.List.{append_assoc}
use Rattle.json_exact.specs.Writing.{text_of}
use Rattle.json_exact.proofs.Written.{text_of-List, text_of-Object}
use Rattle.json_exact.proofs.writing.+writing.Goals as goal

pub push_value-returns-in_ok-push_items-in-List : goal.push_value-returns-in_ok-push_items-in-List
push_value-returns-in_ok-push_items-in-List t c =
    IfOk-equal _ _ _ _ c.push_str-in-List-2.ensures.ok
    (simp (c.in_ok-push_items-in-List.ensures, c.in_ok-push_str-in-List.ensures.ok, c.as_slice.ensures, append_assoc)
    (ap (λ (text : List ℕ). c.args.out.now ++ text) (sym (ap text_of c.in-List.is ∙ text_of-List c.in-List.items))))

pub push_value-returns-in_ok-push_members-in-Object : goal.push_value-returns-in_ok-push_members-in-Object
push_value-returns-in_ok-push_members-in-Object t c =
    IfOk-equal _ _ _ _ c.push_str-in-Object-2.ensures.ok
    (simp (c.in_ok-push_members-in-Object.ensures, c.in_ok-push_str-in-Object.ensures.ok, c.as_slice-in-Object.ensures, append_assoc)
    (ap (λ (text : List ℕ). c.args.out.now ++ text) (sym (ap text_of c.in-Object.is ∙ text_of-Object c.in-Object.members))))
