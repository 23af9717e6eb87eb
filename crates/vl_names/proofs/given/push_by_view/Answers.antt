use Rattle.std.proofs.Common.{◌≡◌, ◌++◌, List, flat_map, subst, ap, ◌∙◌}
use Rattle.std.specs.Prelude.{codes, OnOk}
use Rattle.std.specs.List.{enumerate_from}
use Rattle.std.proofs.lemmas.List.{append_assoc}
use Rattle.vl_spec.specs.declared.transforms.Transform.{Transform}
use Rattle.vl_trails.specs.Trails.{Trail, to_member}
use Rattle.vl_names.specs.declared.given.Given.{Given}
use Rattle.vl_names.specs.Given.{given_by_transform, given_if}
use Rattle.vl_names.specs.Views.{ViewIn}
use Rattle.vl_names.specs.inner.Shown.{view_shown}
use Rattle.vl_names.proofs.given.push_by_view.Goals as goal

pub returns : goal.returns
returns c =
    let tree = c.args.tree.now in
    let v : ViewIn = view_shown c.args.here.now in
    let out : List Given = c.args.out.now in
    let own : Trail → List Given = λ trail. given_if tree (to_member trail (codes "data")) v.data_ in
    let looked : Trail → List Transform → List Given = λ trail ts. flat_map (given_by_transform tree trail) (enumerate_from 0 ts) in
    let under : c.as_slice-3.result.now ≡ to_member v.trail (codes "transform") =
    c.as_slice-3.ensures ∙ c.in_ok-transforms.ensures ∙ ap (λ (t : Trail). to_member t (codes "transform")) c.as_slice-2.ensures in
    let mine : c.push_own.new.out ≡ out ++ own v.trail = c.in_ok-push_own.ensures ∙ ap (λ (t : Trail). out ++ own t) c.as_slice.ensures in
    let all : List Given → Type 0 = λ gs. OnOk c.push_by_transforms.result (c.push_by_transforms.new.out ≡ gs) in
    subst all ((λ i. mine i ++ looked (under i) (c.transforms_in.ensures i))
    ∙ append_assoc out (own v.trail) (looked (to_member v.trail (codes "transform")) v.transform)) c.push_by_transforms.ensures
