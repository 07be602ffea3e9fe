mod KnownLemmas
mod SuitedLemmas
mod CircularLemmas
mod EntryLemmas
mod TableLemmas
