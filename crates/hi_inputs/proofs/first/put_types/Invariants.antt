-- The types so far were put.
use Rattle.std.proofs.Common.{take}
use Rattle.hi_inputs.specs.Calls.Flat.{AddsTypes}
use Rattle.hi_inputs.proofs.AddLemmas.{Each}
use Rattle.hi_inputs.proofs.FieldLemmas.{IsTypeOf}
use Rattle.hi_inputs.proofs.first.put_types.Given as goal

abbrev pub invariant-types : goal.invariant-types
invariant-types l = AddsTypes (Each IsTypeOf (take l.ty-index l.fn.types)) l.fn.out l.out
