mod KindLemmas
mod RecordLemmas
mod FieldLemmas
mod StepLemmas
mod TextLemmas
mod JsonLemmas
mod HeaderLemmas
mod FillLemmas
