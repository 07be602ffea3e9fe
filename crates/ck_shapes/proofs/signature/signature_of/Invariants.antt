-- What is left tells the rest of what all tells.
use Rattle.std.proofs.Common.{◌≡◌, length, [], false}
use Rattle.ck_shapes.specs.Descriptors.{signature_within}
use Rattle.ck_shapes.proofs.signature.signature_of.Given as goal

abbrev pub invariant-loop-rest : goal.invariant-loop-rest
invariant-loop-rest l =
    signature_within l.parameters l.in_name l.in_array l.rest ≡ signature_within [] false false l.desc

abbrev pub decreases-loop-rest : goal.decreases-loop-rest
decreases-loop-rest l = length l.rest
