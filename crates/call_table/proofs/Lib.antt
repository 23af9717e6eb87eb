mod NumberedLemmas
mod FoldLemmas
mod ShownLemmas
