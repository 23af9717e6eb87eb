-- What tests look at in the program: the products of names, and groups.
use Rattle.std.specs.Prelude.{ℕ, ◌&&◌, Bool, false, Option, List, [], ◌∷◌, String, unwrap_or}
use Rattle.std.specs.Option.{option_map_or}
use Rattle.std.specs.declared.alloc.Global.{Global}
use Rattle.std.specs.BTreeMap as tree
use Rattle.vega_spec.specs.declared.spec.Group.{Group, out-Group}
use Rattle.vega_spec.specs.declared.spec.VgMark.{VgMark, VgMark-F}
use Rattle.vega_lists.specs.Products.{Products, no_folds}
use Rattle.vega_copies.specs.Outlines.{Marks, object_here, facet_in}
use Rattle.vega_copies.specs.Fitting.{products_in_copy, products_fitted, folds_fit_in}
use Rattle.vega_copies.specs.Tested.{keeps_object, all_objects}
use Rattle.vega_copies.specs.inner.Outlined.{marks_in, marks_of}

-- the products of the names that an object gives itself
abbrev pub Places : Type 0
Places = tree.BTreeMap (String Global) ℕ

abbrev pub own_product : Places → List ℕ → Option ℕ
own_product places name = tree.get_by_text places name

-- the product of each name, where an object gives these itself, over the products round it
abbrev pub products_over : Places → Products → Products
products_over places outer name = unwrap_or (own_product places name) (outer name)

-- the products of names where objects give these, the inner before the outer
abbrev pub products_at : List Places → Products
products_at [] = no_folds
products_at (level ∷ outer) = products_over level (products_at outer)

-- whether the folds of a group fit, and those of the groups in it
abbrev pub group_folds_fit : Products → VgMark-F Group VgMark → Bool
group_folds_fit products m =
    option_map_or (λ next. folds_fit_in next (marks_of (marks_in (out-Group m.group))))
    (products_fitted (products_in_copy (facet_in m.from) products) (object_here (out-Group m.group)).sets) false

-- what each object among marks has is as specifications may have it
abbrev pub are_objects : Marks → Bool
are_objects = all_objects keeps_object

-- whether a group is an object as specifications may have it, and so is each group in it
abbrev pub group_is_kept : VgMark-F Group VgMark → Bool
group_is_kept m = keeps_object (object_here (out-Group m.group)) && are_objects (marks_of (marks_in (out-Group m.group)))
