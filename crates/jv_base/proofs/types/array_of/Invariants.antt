-- Each turn adds a dimension.
use Rattle.std.proofs.Common.{◌≡◌, ◌+◌}
use Rattle.jv_base.specs.Types.{field_of}
use Rattle.jv_base.proofs.types.array_of.Given as goal

abbrev pub invariant-loop : goal.invariant-loop
invariant-loop l = record {
  dimensions : (field_of l.ty).dimensions ≡ (field_of l.initial.ty).dimensions + l.counter;
  element : (field_of l.ty).element ≡ (field_of l.initial.ty).element;
}
