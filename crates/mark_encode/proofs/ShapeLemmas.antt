-- Why items by the channels of the program are those of their mark.
use Rattle.std.proofs.Common.{◌≡◌, ℕ, ℤ, List, Option, Some, ap, ◌∙◌}
use Rattle.std.specs.Borrow.{Bor}
use Rattle.fixed_num.specs.Ranges.{◌>>=◌}
use Rattle.cell_value.specs.declared.state.Keyed.{Keyed}
use Rattle.cell_value.specs.Datum.{Datum}
use Rattle.expr_eval.specs.Values.{Values}
use Rattle.vega_spec.specs.declared.marks.MarkType.{MarkType}
use Rattle.mark_encode.specs.declared.channels.ChannelName.{ChannelName}
use Rattle.mark_encode.specs.declared.items.MarkChannels.{MarkChannels}
use Rattle.mark_encode.specs.Channels.{ScaledValue}
use Rattle.mark_encode.specs.Orders.{data_of}
use Rattle.mark_encode.specs.Items.{item_for, items_with, items_for}
use Rattle.mark_encode.specs.Prepared.{item_of_row}

pub same_items : (mark : MarkChannels) (type : MarkType) (unit : ℕ) (width height : ℤ) (channels : ChannelName → List ScaledValue)
    (values : Values) (rows : List (Bor Keyed))
    → ((unit : ℕ) (values : Values) (row : Datum) → item_of_row mark unit values row ≡ item_for type unit width height channels values row)
    → items_with (item_of_row mark unit values) (data_of rows) ≡ items_for type unit width height channels values (data_of rows)
same_items mark type unit width height channels values rows same = λ i. items_with (λ row. same unit values row i) (data_of rows)

-- four values in turn
pub four_then : {A B : Type 0} (f : A → A → A → A → Option B) (a b c d : Option A) (x y z w : A) → a ≡ Some x → b ≡ Some y → c ≡ Some z → d ≡ Some w
    → (a >>= λ x. b >>= λ y. c >>= λ z. d >>= λ w. f x y z w) ≡ f x y z w
four_then f a b c d x y z w p q r s =
    ap (λ o. o >>= λ x. b >>= λ y. c >>= λ z. d >>= λ w. f x y z w) p
    ∙ ap (λ o. o >>= λ y. c >>= λ z. d >>= λ w. f x y z w) q
    ∙ ap (λ o. o >>= λ z. d >>= λ w. f x y z w) r
    ∙ ap (λ o. o >>= λ w. f x y z w) s
