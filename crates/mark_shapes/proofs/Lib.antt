mod HalfLemmas
mod RunLemmas
mod PathLemmas
mod TextLemmas
