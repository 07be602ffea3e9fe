-- The dimensions so far, and those that are left.
use Rattle.std.proofs.Common.{◌≡◌, ◌+◌}
use Rattle.jv_base.specs.Types.{field_of}
use Rattle.hi_inputs.proofs.flat.dimensions_of.Given as goal

abbrev pub invariant-loop-element : goal.invariant-loop-element
invariant-loop-element l = l.dimensions + (field_of l.element).dimensions ≡ (field_of l.fn.ty).dimensions
