-- The members of objects: domains.
use Rattle.std.specs.Prelude.{None, List, [], ◌∷◌, codes}
use Rattle.spec_schema.specs.declared.layout.Layout.{Layout}
use Rattle.spec_schema.specs.declared.layout.Test.TheVariants.{Has, Lacks}
use Rattle.spec_schema.specs.Tables.{may}
use Rattle.vega_schema.specs.declared.codes.TheConstants.{DOMAIN, DOMAIN_ORDER, DOMAIN_SORT, EXPRESSION, OPERATION, ORDER, REFERENCE}
use Rattle.vega_schema.specs.declared.codes.TheConstants.{REFERENCES, TEXT}

-- the domain that an expression gives
unfoldable pub domain_of_signal : Layout
domain_of_signal = record {
  object = DOMAIN;
  when = Has (codes "signal") ∷ [];
  rules =
      may (codes "signal") EXPRESSION ∷
      [];
  others = None;
}

-- the domain that a field of a data set gives
unfoldable pub domain_of_field : Layout
domain_of_field = record {
  object = DOMAIN;
  when = Has (codes "data") ∷ Has (codes "field") ∷ [];
  rules =
      may (codes "data") TEXT ∷ may (codes "field") TEXT ∷ may (codes "sort") DOMAIN_ORDER ∷
      [];
  others = None;
}

-- the domain that several fields give
unfoldable pub domain_of_fields : Layout
domain_of_fields = record {
  object = DOMAIN;
  when = Has (codes "fields") ∷ [];
  rules =
      may (codes "fields") REFERENCES ∷ may (codes "sort") DOMAIN_ORDER ∷
      [];
  others = None;
}

-- a reference to a field of a data set
unfoldable pub reference : Layout
reference = record {
  object = REFERENCE;
  when = Has (codes "data") ∷ Has (codes "field") ∷ [];
  rules =
      may (codes "data") TEXT ∷ may (codes "field") TEXT ∷
      [];
  others = None;
}

-- the order of a domain by an aggregate
unfoldable pub sort_by_operation : Layout
sort_by_operation = record {
  object = DOMAIN_SORT;
  when = Has (codes "op") ∷ Has (codes "field") ∷ [];
  rules =
      may (codes "order") ORDER ∷ may (codes "op") OPERATION ∷ may (codes "field") TEXT ∷
      [];
  others = None;
}

-- the order of a domain by its cells
unfoldable pub sort_by_cells : Layout
sort_by_cells = record {
  object = DOMAIN_SORT;
  when = Lacks (codes "op") ∷ Lacks (codes "field") ∷ [];
  rules =
      may (codes "order") ORDER ∷
      [];
  others = None;
}

-- all of these
abbrev pub all_domains : List Layout
all_domains = domain_of_signal ∷ domain_of_field ∷ domain_of_fields ∷ reference ∷ sort_by_operation ∷ sort_by_cells ∷ []
