-- Why the laws of rows hold.
use Rattle.std.proofs.Common.{◌≡◌, ◌≢◌, false, cond, Some, refl, ap, ◌∙◌}
use Rattle.std.specs.Prelude.{unwrap_or}
use Rattle.std.specs.declared.cmp.Ordering.{Ordering}
use Rattle.std.specs.declared.cmp.Ordering.TheVariants.{Less, Equal, Greater}
use Rattle.std.specs.Ordering.{nat_cmp, is_eq}
use Rattle.std.specs.Cmp.{tied_itself}
use Rattle.std.specs.Cmp.Lexicographic.{slice_cmp, nat_list_cmp_total}
use Rattle.std.specs.FinMap.{get, get-insert, same_map, slice_cmp-IsAntisymmetric, nat_cmp-IsAntisymmetric}
use Rattle.cell_value.specs.declared.cell.Cell.TheVariants.{Null}
use Rattle.cell_value.specs.Laws.{WhatIsSetIsRead, OtherNamesStay, AlikeRowsAreEqual}

pub what_is_set_is_read : WhatIsSetIsRead
what_is_set_is_read row name c =
    ap (λ o. unwrap_or o Null) (get-insert nat_list_cmp_total row name c name
    ∙ ap (λ r. cond (is_eq r) (Some c) (get row name)) (tied_itself nat_list_cmp_total name))

not_tied : (r : Ordering) → (r ≢ Equal) → is_eq r ≡ false
not_tied Less h = refl
not_tied Equal h = absurd (h refl)
not_tied Greater h = refl

pub other_names_stay : OtherNamesStay
other_names_stay row name c other apart =
    get-insert nat_list_cmp_total row name c other
    ∙ ap (λ b. cond b (Some c) (get row other))
    (not_tied (slice_cmp nat_cmp other name) (λ tied. apart (slice_cmp-IsAntisymmetric nat_cmp-IsAntisymmetric other name tied)))

pub alike_rows_are_equal : AlikeRowsAreEqual
alike_rows_are_equal a b h = same_map nat_list_cmp_total (slice_cmp-IsAntisymmetric nat_cmp-IsAntisymmetric) a b h
