-- The types of the fields so far were put.
use Rattle.std.proofs.Common.{take}
use Rattle.hi_inputs.specs.Calls.Flat.{AddsTypes}
use Rattle.hi_inputs.specs.Calls.Below.{IsInstanceType}
use Rattle.hi_inputs.proofs.AddLemmas.{Each}
use Rattle.hi_inputs.proofs.fields.put_fields.Given as goal

abbrev pub invariant-fields : goal.invariant-fields
invariant-fields l = AddsTypes (Each IsInstanceType (take l.field-index l.fn.fields)) l.fn.out l.out
