-- What a definition says of its scale: what kind of cells there are, whether they are bins, whether the domain is given (by a list or by
-- a selection), and those members of `scale` by which its kind, its flags and its paddings go.
use Rattle.std.specs.Prelude.{◌≡◌, refl, ◌&&◌, not, Bool, true, false, Option, Some, None, List, [], ◌∷◌, is_some}
use Rattle.std.specs.Option.{option_map_or, option_or}
use Rattle.vl_spec.specs.declared.definitions.Definition.{Definition}
use Rattle.vl_spec.specs.declared.definitions.Bin.TheVariants as bin
use Rattle.vl_spec.specs.declared.definitions.FieldType.{FieldType}
use Rattle.vl_spec.specs.declared.definitions.FieldType.TheVariants.{Quantitative, Nominal}
use Rattle.vl_spec.specs.declared.scales.Scale.{Scale}
use Rattle.scale_infer.specs.declared.said.Said.{Said}
use Rattle.scale_infer.specs.Types.{scale_in, type_of, is_binned, is_quantitative, field_with, scale_with}

-- a definition without `scale`
abbrev pub nothing_said : FieldType → Bool → Said
nothing_said type_ binned = record {
  type_ = type_;
  is_binned = binned;
  has_domain = false;
  kind = None;
  zero = None;
  nice = None;
  padding = None;
  padding_inner = None;
  padding_outer = None;
}

-- one with a `scale`
abbrev pub scale_said : FieldType → Bool → Scale → Said
scale_said type_ binned s = record {
  type_ = type_;
  is_binned = binned;
  has_domain = is_some s.domain;
  kind = s.type_;
  zero = s.zero;
  nice = s.nice;
  padding = s.padding;
  padding_inner = s.padding_inner;
  padding_outer = s.padding_outer;
}

-- what a definition says
abbrev pub said_of : Definition → Said
said_of d = option_map_or (scale_said (type_of d) (is_binned d)) (scale_in d) (nothing_said (type_of d) (is_binned d))

-- numbers that aren't bins and whose domain isn't given: by themselves their domain may take in 0 and end at round numbers
abbrev pub is_unbound : Said → Bool
is_unbound s = is_quantitative s.type_ && (not s.is_binned && not s.has_domain)

-- a member of `scale`, from the first definition that gives it
abbrev pub first_given : {A : Type 0} → (Said → Option A) → List Said → Option A
first_given member [] = None
first_given member (s ∷ more) = option_or (member s) (first_given member more)

-- The rules at work.

a_field_without_a_scale : said_of (field_with None None None None None None) ≡ nothing_said Nominal false
a_field_without_a_scale = refl

bins_are_bound : is_unbound (said_of (field_with None None (Some (bin.Flag true)) None None None)) ≡ false
bins_are_bound = refl

numbers_are_unbound : is_unbound (said_of (field_with (Some Quantitative) None (Some (bin.Flag false)) None None (Some (scale_with None)))) ≡ true
numbers_are_unbound = refl

the_first_that_gives_it : first_given (λ (s : Said). s.kind)
    (said_of (field_with None None None None None (Some (scale_with None)))
    ∷ said_of (field_with None None None None None (Some (scale_with (Some 3))))
    ∷ said_of (field_with None None None None None (Some (scale_with (Some 2)))) ∷ []) ≡ Some 3
the_first_that_gives_it = refl
