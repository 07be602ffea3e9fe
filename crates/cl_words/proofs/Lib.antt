mod LawLemmas
mod LineLemmas
mod NumberLemmas
mod TakesLemmas
mod UseLemmas
