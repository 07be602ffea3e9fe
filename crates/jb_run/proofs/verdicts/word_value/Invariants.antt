-- The pattern has the bits so far.
use Rattle.jb_run.specs.Solved.{value_at}
use Rattle.jb_run.proofs.InputLemmas.{PatternSoFar}
use Rattle.jb_run.proofs.verdicts.word_value.Given as goal

abbrev pub invariant-bits : goal.invariant-bits
invariant-bits l = PatternSoFar (value_at l.assignment) l.word l.pattern l.i
