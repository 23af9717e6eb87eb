-- What the transforms of a Vega specification ask of rows, with what stands for the members that are absent.
use Rattle.std.specs.Prelude.{◌≡◌, refl, ℕ, ◌*◌, ℤ, pos, Option, Some, None, List, [], ◌∷◌, slice_get, unwrap_or, codes}
use Rattle.std.specs.Option.{option_map, option_map_or}
use Rattle.fixed_num.specs.Number.{million}
use Rattle.cell_value.specs.declared.cell.Cell.{Cell}
use Rattle.cell_value.specs.declared.cell.Cell.TheVariants.{Null, Flag, Number, Text, Pair}
use Rattle.expr_eval.specs.Plain.{no_values}
use Rattle.expr_eval.specs.Values.{Values}
use Rattle.plain_rows.specs.declared.transforms.BinOf.{BinOf}
use Rattle.plain_rows.specs.declared.transforms.Offset.{Offset as RowOffset}
use Rattle.plain_rows.specs.declared.transforms.Offset.TheVariants as rows
use Rattle.plain_rows.specs.declared.transforms.StackOf.{StackOf}
use Rattle.plain_rows.specs.declared.transforms.LookupOf.{LookupOf}
use Rattle.plain_rows.specs.declared.transforms.FoldOf.{FoldOf}
use Rattle.plain_rows.specs.declared.transforms.TimeOf.{TimeOf}
use Rattle.vega_spec.specs.declared.groupings.Lookup.{Lookup}
use Rattle.vega_spec.specs.declared.transforms.Bin.{Bin}
use Rattle.vega_spec.specs.declared.transforms.BinExtent.{BinExtent}
use Rattle.vega_spec.specs.declared.transforms.BinExtent.TheVariants as extent
use Rattle.vega_spec.specs.declared.transforms.Fold.{Fold}
use Rattle.vega_spec.specs.declared.transforms.Offset.{Offset}
use Rattle.vega_spec.specs.declared.transforms.Offset.TheVariants.{Zero, Normalize, Center}
use Rattle.vega_spec.specs.declared.transforms.Stack.{Stack}
use Rattle.vega_spec.specs.declared.transforms.TimeUnit.{TimeUnit}
use Rattle.vega_lists.specs.Operations.{count_in}
use Rattle.vega_lists.specs.Orders.{sort_or_empty}

-- the first and the second of two names
abbrev pub first_name : Option (List ℕ × List ℕ) → List ℕ → List ℕ
first_name names absent = option_map_or (λ both. both.0) names absent

abbrev pub second_name : Option (List ℕ × List ℕ) → List ℕ → List ℕ
second_name names absent = option_map_or (λ both. both.1) names absent

-- the one entry of `fields` is sought in the field `key` there. Without names the `values` keep their own, and without a default
-- it is null
abbrev pub lookup_settings : Lookup → LookupOf
lookup_settings l = record {
  key_here = unwrap_or (slice_get l.fields 0) [];
  key_there = l.key;
  fields = l.values;
  outs = unwrap_or l.as_ l.values;
  otherwise = unwrap_or l.default Null;
}

-- without names they are `key` and `value`
abbrev pub fold_settings : Fold → FoldOf
fold_settings f = record {
  fields = f.fields;
  out_key = first_name f.as_ (codes "key");
  out_value = second_name f.as_ (codes "value");
}

-- without names they are `unit0` and `unit1`
abbrev pub unit_settings : TimeUnit → TimeOf
unit_settings t = record {
  field = t.field;
  unit = t.units;
  out = first_name t.as_ (codes "unit0");
  out_end = second_name t.as_ (codes "unit1");
}

-- the two numbers that a cell is, if it is two
abbrev pub pair_in : Cell → Option (ℤ × ℤ)
pair_in Null = None
pair_in (Flag b) = None
pair_in (Number n) = None
pair_in (Text t) = None
pair_in (Pair a b) = Some (a, b)

-- The two numbers that bins take in: those given, or those that a signal is; without any where it is no two numbers. None where the signal
-- has no value.
abbrev pub extent_in : Values → BinExtent → Option (Option (ℤ × ℤ))
extent_in values (extent.Pair a b) = Some (Some (a, b))
extent_in values (extent.Signal name) = option_map pair_in (values.value name)

-- bins that take in these; there are at most 10 where it isn't said, and without names they are `bin0` and `bin1`
abbrev pub bin_settings : Option (ℤ × ℤ) → Bin → BinOf
bin_settings taken b = record {
  field = b.field;
  extent = taken;
  step = b.step;
  maxbins = count_in (unwrap_or b.maxbins (pos (10 * million)));
  out = first_name b.as_ (codes "bin0");
  out_end = second_name b.as_ (codes "bin1");
}

-- where a stack begins
abbrev pub offset_of : Offset → RowOffset
offset_of Zero = rows.Zero
offset_of Normalize = rows.Normalize
offset_of Center = rows.Center

-- it begins at zero where it isn't said, and without names they are `y0` and `y1`
abbrev pub stack_settings : Stack → StackOf
stack_settings s = record {
  field = s.field;
  groupby = unwrap_or s.groupby [];
  sort = sort_or_empty s.sort;
  offset = offset_of (unwrap_or s.offset Zero);
  out = first_name s.as_ (codes "y0");
  out_end = second_name s.as_ (codes "y1");
}

-- The rules at work.

a_lookup_without_names : lookup_settings record {
  from = codes "cities";
  key = codes "id";
  fields = codes "city" ∷ [];
  values = codes "lat" ∷ codes "lon" ∷ [];
  as_ = None;
  default = None;
} ≡ record {
  key_here = codes "city";
  key_there = codes "id";
  fields = codes "lat" ∷ codes "lon" ∷ [];
  outs = codes "lat" ∷ codes "lon" ∷ [];
  otherwise = Null;
}
a_lookup_without_names = refl

a_fold_without_names : fold_settings record { fields = codes "a" ∷ codes "b" ∷ []; as_ = None }
    ≡ record { fields = codes "a" ∷ codes "b" ∷ []; out_key = codes "key"; out_value = codes "value" }
a_fold_without_names = refl

a_fold_with_names : fold_settings record { fields = codes "a" ∷ []; as_ = Some (codes "k", codes "v") }
    ≡ record { fields = codes "a" ∷ []; out_key = codes "k"; out_value = codes "v" }
a_fold_with_names = refl

the_names_of_a_unit : (unit_settings record { field = codes "t"; units = 0; as_ = None }).out_end ≡ codes "unit1"
the_names_of_a_unit = refl

bins_without_members : bin_settings None record { field = codes "v"; extent = extent.Pair (pos 1) (pos 0); maxbins = None; step = None; as_ = None } ≡ record {
  field = codes "v";
  extent = None;
  step = None;
  maxbins = 10;
  out = codes "bin0";
  out_end = codes "bin1";
}
bins_without_members = refl

-- each signal is this
abbrev each_is : Option Cell → Values
each_is value = record no_values { value = λ name. value }

bins_over_a_signal : (extent_in (each_is (Some (Pair (pos 3) (pos 5)))) (extent.Signal (codes "s")) ≡ Some (Some (pos 3, pos 5)))
    × (extent_in (each_is (Some Null)) (extent.Signal (codes "s")) ≡ Some None)
    × (extent_in (each_is None) (extent.Signal (codes "s")) ≡ None)
bins_over_a_signal = (refl, refl, refl)

a_stack_without_members : stack_settings record { groupby = None; field = codes "v"; sort = None; offset = None; as_ = None }
    ≡ record { field = codes "v"; groupby = []; sort = []; offset = rows.Zero; out = codes "y0"; out_end = codes "y1" }
a_stack_without_members = refl
