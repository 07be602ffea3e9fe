mod ArgumentLemmas
mod TreeLemmas
mod FloatLemmas
