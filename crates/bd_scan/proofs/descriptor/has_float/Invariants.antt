-- What is left tells what all tells.
use Rattle.std.proofs.Common.{◌≡◌, length}
use Rattle.bd_scan.specs.Descriptors.{has_float, has_float_within}
use Rattle.bd_scan.proofs.descriptor.has_float.Given as goal

abbrev pub invariant-loop-rest : goal.invariant-loop-rest
invariant-loop-rest l = has_float_within l.in_name l.rest ≡ has_float l.desc

abbrev pub decreases-loop-rest : goal.decreases-loop-rest
decreases-loop-rest l = length l.rest
