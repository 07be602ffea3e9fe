use Rattle.jb_run.proofs.MuxLemmas.{or_of}
use Rattle.jb_run.proofs.gates.or.Goals as goal

pub returns-clause-gate : goal.returns-clause-gate
returns-clause-gate c named =
    or_of c.args.formula.now c.and.new.formula c.args.a c.args.b c.not.result c.not-2.result c.in_ok-and.field-0
    c.not-3.result
    c.not.ensures c.not-2.ensures c.not-3.ensures c.in_ok-and.ensures.gate named
