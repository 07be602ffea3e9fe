-- A place by bytes is one by characters.
use Rattle.jv_base.proofs.EntryLemmas.{entry_not, entry_stops}
use Rattle.jv_base.proofs.reading.read_entry.Goals as goal

pub returns-clause-outside : goal.returns-clause-outside
returns-clause-outside c =
    λ place e. entry_not c.args.text.now c.as_bytes.result.now place c.as_bytes.ensures.value
    (c.entry_of.ensures.fault place e)

pub returns-clause-fault : goal.returns-clause-fault
returns-clause-fault c =
    λ place e. entry_stops c.args.text.now c.as_bytes.result.now place c.as_bytes.ensures.value
    (c.entry_of.ensures.fault place e)
