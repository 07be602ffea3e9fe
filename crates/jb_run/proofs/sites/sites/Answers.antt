use Rattle.std.proofs.Common.{sym, arith}
use Rattle.jb_run.proofs.SiteLemmas.{so_far_none, so_far_more, so_far_all}
use Rattle.jb_run.proofs.sites.sites.Goals as goal

pub instrs-init : goal.instrs-init
instrs-init c = so_far_none _ _ _ c.new-goals.ensures

pub instrs-preserved : goal.instrs-preserved
instrs-preserved c =
    so_far_more _ _ c.instrs.goals _ c.instrs.pc _ c.in-Some.instr c.instrs.invariant (omega arith)
    (sym c.in-Some.ensures.value) c.in-Some.ensures.within.1 c.in_ok-push_goals.ensures

pub returns : goal.returns
returns c = so_far_all _ _ _ c.instrs.pc c.instrs.invariant (omega arith)
