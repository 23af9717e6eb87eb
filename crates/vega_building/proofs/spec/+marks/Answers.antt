use Rattle.std.proofs.Common.{◌≡◌, ap, map, ◌∙◌, subst}
use Rattle.std.specs.Prelude.{◌++◌, ◌∷◌, [], OnOk}
use Rattle.vega_spec.specs.declared.spec.VgMark.{VgMark}
use Rattle.vega_building.specs.Spec.{mark_of}
use Rattle.vega_building.proofs.Nested.{object_is, list_is}
use Rattle.vega_building.proofs.spec.+marks.Goals as goal

pub push_mark_of-returns-in-Object : goal.push_mark_of-returns-in-Object
push_mark_of-returns-in-Object t c =
    let is : VgMark → Type 0 = λ y. OnOk c.push_object_mark.result (c.push_object_mark.new.marks ≡ c.args.marks.now ++ y ∷ []) in
    subst is (object_is c.args.tree.now c.in-Object.members _ c.in-Object.is c.as_slice.ensures) c.push_object_mark.ensures

pub marks_in-returns-in_ok-marks_of-in-List : goal.marks_in-returns-in_ok-marks_of-in-List
marks_in-returns-in_ok-marks_of-in-List t c =
    list_is c.args.tree.now c.in-List.items _ c.in-List.is (c.in_ok-marks_of-in-List.ensures ∙ ap (map mark_of) c.as_slice.ensures)
