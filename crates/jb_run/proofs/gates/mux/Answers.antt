use Rattle.jb_run.proofs.MuxLemmas.{mux_of}
use Rattle.jb_run.proofs.gates.mux.Goals as goal

pub returns-clause-gate : goal.returns-clause-gate
returns-clause-gate c named below =
    mux_of c.args.formula.now c.and.new.formula c.and-2.new.formula c.or.new.formula c.args.choice c.args.a c.args.b
    c.not.result c.in_ok-from_a.from_a c.in_ok-from_b.from_b c.or.result
    c.not.ensures c.in_ok-from_a.ensures.gate c.in_ok-from_b.ensures.gate c.or.ensures.gate named below
