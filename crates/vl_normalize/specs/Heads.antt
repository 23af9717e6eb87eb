-- What views have beside their kind, and what of it goes to a faceted view round a unit.
use Rattle.std.specs.Prelude.{None, []}
use Rattle.vl_spec.specs.declared.views.View.{View, View-F, out-View, roll-View}
use Rattle.vl_spec.specs.declared.views.ViewKind.{ViewKind}
use Rattle.vl_normalize.specs.declared.heads.Head.{Head}

-- what a view has beside its kind
abbrev pub head_in : {A B C D E : Type 0} → View-F A B C D E → Head
head_in v = record {
  name = v.name;
  title = v.title;
  data_ = v.data_;
  transform = v.transform;
  params = v.params;
  width = v.width;
  height = v.height;
  resolve = v.resolve;
}

abbrev pub head_of : View → Head
head_of v = head_in (out-View v)

-- a view of this kind
abbrev pub view_of : Head → ViewKind → View
view_of head kind = roll-View (record {
  name = head.name;
  title = head.title;
  data_ = head.data_;
  transform = head.transform;
  params = head.params;
  width = head.width;
  height = head.height;
  resolve = head.resolve;
  kind = kind;
})

-- nothing beside a kind
abbrev pub no_head : Head
no_head = record {
  name = None;
  title = None;
  data_ = None;
  transform = None;
  params = [];
  width = None;
  height = None;
  resolve = None;
}

-- what goes to a faceted view round a unit: all but parameters and sizes
abbrev pub outer_head : Head → Head
outer_head head = record head { params = []; width = None; height = None }

-- what stays with the unit
abbrev pub inner_head : Head → Head
inner_head head = record no_head { params = head.params; width = head.width; height = head.height }
