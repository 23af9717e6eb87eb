-- The codes and the expressions in a specification.
use Rattle.std.specs.Prelude.{ℕ, List, [], ◌∷◌, Option, IfSome}
use Rattle.expr_syntax.specs.declared.expr.Expr.{Expr}
use Rattle.vega_spec.specs.declared.domains.DomainOrder.{DomainOrder}
use Rattle.vega_spec.specs.declared.domains.DomainOrder.TheVariants as order_of
use Rattle.vega_spec.specs.declared.domains.FieldDomain.{FieldDomain}
use Rattle.vega_spec.specs.declared.domains.FieldsDomain.{FieldsDomain}
use Rattle.vega_spec.specs.declared.domains.Domain.{Domain}
use Rattle.vega_spec.specs.declared.domains.Domain.TheVariants as domain
use Rattle.vega_spec.specs.declared.scales.Scale.{Scale}
use Rattle.vega_spec.specs.declared.encode.ChannelValue.{ChannelValue}
use Rattle.vega_spec.specs.declared.encode.Channel.{Channel}
use Rattle.vega_spec.specs.declared.encode.Channel.TheVariants as channel
use Rattle.vega_spec.specs.declared.encode.Channels.{Channels}
use Rattle.vega_spec.specs.declared.encode.Encode.{Encode}
use Rattle.vega_spec.specs.declared.groupings.Aggregate.{Aggregate}
use Rattle.vega_spec.specs.declared.transforms.Transform.{Transform}
use Rattle.vega_spec.specs.declared.transforms.Transform.TheVariants as transform
use Rattle.vega_spec.specs.declared.data.DataSet.{DataSet}
use Rattle.vega_spec.specs.declared.signals.Signal.{Signal}
use Rattle.vega_spec.specs.declared.spec.Size.{Size}
use Rattle.vega_spec.specs.declared.spec.Size.TheVariants as size
use Rattle.vega_spec.specs.declared.spec.VgMark.{VgMark, VgMark'}
use Rattle.vega_spec.specs.declared.spec.Group.{Group, Group', Held-Group-marks, None', Some', Row_of-VgMark, end_of-VgMark}
use Rattle.vega_spec.specs.declared.spec.Group.{more_of-VgMark}
use Rattle.vega_spec.specs.declared.spec.VgSpec.{VgSpec}

-- something holds of each item
abbrev pub Each : {X : Type 0} → (X → Type 0) → List X → Type 0
Each P [] = Unit {0}
Each P (x ∷ xs) = P x × Each P xs

-- what is asked of the codes of operations, of time units and of types of scales, and of expressions
pub record Asked : Type 1 where
  pub operation : ℕ → Type 0
  pub unit : ℕ → Type 0
  pub scale_type : ℕ → Type 0
  pub expression : Expr → Type 0

-- what is asked holds of each code and each expression in a value
abbrev pub OfDomainOrder : Asked → DomainOrder → Type 0
OfDomainOrder asked order_of.True = Unit {0}
OfDomainOrder asked (order_of.Cells order) = Unit {0}
OfDomainOrder asked (order_of.Operation order op field) = asked.operation op

abbrev pub OfFieldDomain : Asked → FieldDomain → Type 0
OfFieldDomain asked f = IfSome f.sort (OfDomainOrder asked)

abbrev pub OfFieldsDomain : Asked → FieldsDomain → Type 0
OfFieldsDomain asked f = IfSome f.sort (OfDomainOrder asked)

abbrev pub OfDomain : Asked → Domain → Type 0
OfDomain asked (domain.Cells cells) = Unit {0}
OfDomain asked (domain.Signal e) = asked.expression e
OfDomain asked (domain.Field f) = OfFieldDomain asked f
OfDomain asked (domain.Fields f) = OfFieldsDomain asked f

abbrev pub OfScale : Asked → Scale → Type 0
OfScale asked s = asked.scale_type s.type_ × OfDomain asked s.domain × IfSome s.domain_raw asked.expression

abbrev pub OfChannelValue : Asked → ChannelValue → Type 0
OfChannelValue asked c = IfSome c.signal asked.expression × IfSome c.test asked.expression

abbrev pub OfChannel : Asked → Channel → Type 0
OfChannel asked (channel.One value) = OfChannelValue asked value
OfChannel asked (channel.Several values) = Each (OfChannelValue asked) values

-- the channels of an encode set, in the order of its members
abbrev pub channels_of : Channels → List (Option Channel)
channels_of c =
    c.x ∷ c.x2 ∷ c.xc ∷ c.width ∷ c.y ∷ c.y2 ∷ c.yc ∷ c.height ∷ c.fill ∷ c.stroke ∷ c.stroke_width ∷ c.opacity ∷ c.size ∷ c.shape ∷
    c.text ∷ c.align ∷ c.baseline ∷ c.dx ∷ c.dy ∷ c.font_size ∷ []

abbrev pub OfChannels : Asked → Channels → Type 0
OfChannels asked c = Each (λ o. IfSome o (OfChannel asked)) (channels_of c)

abbrev pub OfEncode : Asked → Encode → Type 0
OfEncode asked e = IfSome e.enter (OfChannels asked) × IfSome e.update (OfChannels asked)

abbrev pub OfAggregate : Asked → Aggregate → Type 0
OfAggregate asked a = IfSome a.ops (Each asked.operation)

abbrev pub OfTransform : Asked → Transform → Type 0
OfTransform asked (transform.Filter f) = asked.expression f.expr
OfTransform asked (transform.Formula f) = asked.expression f.expr
OfTransform asked (transform.Extent e) = Unit {0}
OfTransform asked (transform.Bin b) = Unit {0}
OfTransform asked (transform.TimeUnit u) = asked.unit u.units
OfTransform asked (transform.Aggregate a) = OfAggregate asked a
OfTransform asked (transform.JoinAggregate a) = OfAggregate asked a
OfTransform asked (transform.Stack s) = Unit {0}
OfTransform asked (transform.Window w) = Each asked.operation w.ops
OfTransform asked (transform.Lookup l) = Unit {0}
OfTransform asked (transform.Fold f) = Unit {0}

abbrev pub OfDataSet : Asked → DataSet → Type 0
OfDataSet asked d = IfSome d.transform (Each (OfTransform asked))

abbrev pub OfSignal : Asked → Signal → Type 0
OfSignal asked s = IfSome s.update asked.expression

abbrev pub OfSize : Asked → Size → Type 0
OfSize asked (size.Number number) = Unit {0}
OfSize asked (size.Signal e) = asked.expression e

abbrev mutual
  pub OfGroup : Asked → Group → Type 0
  OfGroup asked (Group' datasets signals scales layout marks axes legends title) =
      IfSome datasets (Each (OfDataSet asked)) × IfSome signals (Each (OfSignal asked))
      × IfSome scales (Each (OfScale asked)) × OfMarks asked marks

  pub OfMarks : Asked → Held-Group-marks → Type 0
  OfMarks asked None' = Unit {0}
  OfMarks asked (Some' shape marks) = OfEachMark asked marks

  pub OfEachMark : Asked → {n : _} → Row_of-VgMark n → Type 0
  OfEachMark asked end_of-VgMark = Unit {0}
  OfEachMark asked (more_of-VgMark mark others) = OfMark asked mark × OfEachMark asked others

  pub OfMark : Asked → VgMark → Type 0
  OfMark asked (VgMark' type_ name from encode sort group) = IfSome encode (OfEncode asked) × OfGroup asked group

abbrev pub OfSpec : Asked → VgSpec → Type 0
OfSpec asked g = OfGroup asked g.group × IfSome g.width (OfSize asked) × IfSome g.height (OfSize asked)
