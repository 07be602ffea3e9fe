use Rattle.sa_core.specs.TrailView.{lits_of}
use Rattle.sa_core.proofs.AskLemmas.{spare_behind, spare_before}
use Rattle.sa_core.proofs.propagate.spare_from.Goals as goal

pub returns-in-Some : goal.returns-in-Some
returns-in-Some c =
    spare_behind (lits_of c.args.trail.now.steps) c.args.lits.now c.args.other c.min-middle.result c.in-Some.index
    c.in-Some.ensures

pub returns-in-None : goal.returns-in-None
returns-in-None c =
    spare_before (lits_of c.args.trail.now.steps) c.args.lits.now c.args.other c.min-middle.result
    c.spare_of-in-None.result c.in-None.ensures c.spare_of-in-None.ensures
