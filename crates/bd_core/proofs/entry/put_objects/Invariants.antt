-- What the types so far give was put.
use Rattle.std.proofs.Common.{take}
use Rattle.jv_base.specs.Types.{field_of}
use Rattle.bd_core.specs.Calls.Adds.{Adds, Each}
use Rattle.bd_core.specs.Calls.Entry.{OfInput}
use Rattle.bd_core.specs.Loads.{given}
use Rattle.bd_core.proofs.entry.put_objects.Given as goal

abbrev pub invariant-types : goal.invariant-types
invariant-types l =
    Adds (Each (take l.ty-index l.fn.types) (λ ty. OfInput (given l.fn.loaded).classes (field_of ty))) l.fn.out l.out
