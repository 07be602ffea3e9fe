use Rattle.std.proofs.Common.{◌≡◌, take, replicate}
use Rattle.cf_thin.proofs.descriptor.are_ints.Given as goal

abbrev pub invariant-loop-letter : goal.invariant-loop-letter
invariant-loop-letter l = take l.letter-index l.params ≡ replicate l.letter-index 73
