-- The types of the classes so far were put.
use Rattle.std.proofs.Common.{take, []}
use Rattle.hi_inputs.specs.Calls.Flat.{AddsTypes}
use Rattle.hi_inputs.specs.Calls.Below.{DeclaresType}
use Rattle.hi_inputs.proofs.AddLemmas.{Each}
use Rattle.hi_inputs.proofs.fields.field_types.Given as goal

abbrev pub invariant-classes : goal.invariant-classes
invariant-classes l = AddsTypes (Each (DeclaresType l.fn.classes) (take l.above-index l.above-items)) [] l.types
