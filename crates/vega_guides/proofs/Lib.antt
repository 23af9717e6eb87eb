pub mod TestedLaw
