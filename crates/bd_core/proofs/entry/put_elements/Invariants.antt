-- The classes of the types so far were put.
use Rattle.std.proofs.Common.{take}
use Rattle.bd_core.specs.Calls.Adds.{Adds, Each}
use Rattle.bd_core.proofs.EntryLemmas.{OfType}
use Rattle.bd_core.proofs.entry.put_elements.Given as goal

abbrev pub invariant-types : goal.invariant-types
invariant-types l = Adds (Each (take l.ty-index l.fn.types) OfType) l.fn.out l.out
