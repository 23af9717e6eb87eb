mod TrailLemmas
mod FarAddresses
mod KeptLemmas
