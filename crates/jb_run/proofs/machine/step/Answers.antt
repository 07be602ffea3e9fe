use Rattle.std.proofs.Common.{sym, rules}
use Rattle.jb_run.proofs.MachineLemmas.{step_some, step_none}
use Rattle.jb_run.proofs.machine.step.Goals as goal

pub returns-in-Some : goal.returns-in-Some
returns-in-Some c = let e = step_some _ c.args.state c.in-Some.instr c.in-Some.next (sym c.in-Some.ensures.value) in
    search (rules, e)

pub returns-in-None : goal.returns-in-None
returns-in-None c = sym (step_none _ c.args.state (sym c.in-None.ensures.value))
