mod OnceLemmas
mod TableNames
