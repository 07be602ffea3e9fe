-- The arguments so far are ints, which the words so far show.
use Rattle.std.proofs.Common.{take}
use Rattle.jb_run.specs.Solved.{value_at}
use Rattle.jb_run.proofs.InputLemmas.{ArgsShown}
use Rattle.jb_run.proofs.verdicts.input_of.Given as goal

abbrev pub invariant-words : goal.invariant-words
invariant-words l = ArgsShown (value_at l.assignment) (take l.word-index l.inputs) l.args.items
