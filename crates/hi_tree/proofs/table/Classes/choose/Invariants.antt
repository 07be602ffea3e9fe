-- What was looked at is chosen from.
use Rattle.std.proofs.Common.{length}
use Rattle.hi_tree.specs.Calls.Walking.{mark_of, names_met}
use Rattle.hi_tree.specs.Calls.Choosing.{choice_of}
use Rattle.hi_tree.proofs.ChoosingState.{IsChoosing}
use Rattle.hi_tree.proofs.table.Classes.choose.Given as goal

abbrev pub invariant-loop-class : goal.invariant-loop-class
invariant-loop-class l =
    IsChoosing l.self l.start l.method.name l.method.desc (names_met l.fn.met) (names_met l.met) (mark_of l.shaded)
    (choice_of l.chosen)

abbrev pub decreases-loop-class : goal.decreases-loop-class
decreases-loop-class l = length l.met
