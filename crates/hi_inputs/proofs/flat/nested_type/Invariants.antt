-- Each turn adds a dimension.
use Rattle.std.proofs.Common.{◌≡◌}
use Rattle.jv_base.specs.Types.{field_of}
use Rattle.hi_inputs.specs.Calls.Flat.{element_of}
use Rattle.hi_inputs.proofs.flat.nested_type.Given as goal

abbrev pub invariant-loop : goal.invariant-loop
invariant-loop l = record {
  dimensions : (field_of l.ty).dimensions ≡ l.counter;
  element : (field_of l.ty).element ≡ element_of l.flat.element;
}
