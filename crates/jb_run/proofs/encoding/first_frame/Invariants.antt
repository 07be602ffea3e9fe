-- The locals so far hold the inputs so far.
use Rattle.std.proofs.Common.{◌≡◌, map, take, Some}
use Rattle.jb_run.specs.declared.int_bits.IntBits.{IntBits}
use Rattle.jb_run.proofs.encoding.first_frame.Given as goal

abbrev pub invariant-loop-word : goal.invariant-loop-word
invariant-loop-word l = l.locals.items ≡ map (λ (w : IntBits). Some w) (take l.word-index l.inputs)
