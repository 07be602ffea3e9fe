use Rattle.std.proofs.Common.{suc, sym, ap, ◌∙◌, arith}
use Rattle.jb_run.specs.Machine.{after}
use Rattle.jb_run.proofs.MachineLemmas.{after_none, after_more, step_rises, raised_is}
use Rattle.jb_run.proofs.MachineLemmas.{ended_is, ended_stops, ended_quiet}
use Rattle.jb_run.proofs.MachineLemmas.{run_ends}
use Rattle.jb_run.proofs.machine.violated.Goals as goal

pub run-init : goal.run-init
run-init c = (0, ap (after c.args.code.now 0) (sym c.in_ok-state.ensures) ∙ after_none _ _)

pub run-smaller : goal.run-smaller
run-smaller c = let rises = step_rises c.go_forward.ensures c.args.code.now c.run.state c.in-Next.next
    (sym c.in_ok-next.ensures ∙ c.in-Next.is) in omega (arith, rises.0, rises.1)

pub run-preserved : goal.run-preserved
run-preserved c = (
  suc c.run.invariant.0,
  after_more c.args.code.now c.run.invariant.0 _ c.run.state c.in-Next.next c.run.invariant.1
      (sym c.in_ok-next.ensures ∙ c.in-Next.is),
)

pub returns-in-Raised : goal.returns-in-Raised
returns-in-Raised c = record {
  violates = raised_is c.args.code.now c.args.ints.now c.run.invariant.0 c.run.state c.in-Raised.kind c.run.invariant.1
      (sym c.in_ok-next.ensures ∙ c.in-Raised.is);
  ends = run_ends c.go_forward.ensures c.args.code.now c.args.ints.now;
}

pub returns-in-Ended : goal.returns-in-Ended
returns-in-Ended c = record {
  violates = ended_is c.args.code.now c.args.ints.now c.run.invariant.0 c.run.state c.run.invariant.1
      (ended_stops c.args.code.now c.run.state _ c.in_ok-next.ensures c.in-Ended.is)
      (ended_quiet c.args.code.now c.run.state _ c.in_ok-next.ensures c.in-Ended.is);
  ends = run_ends c.go_forward.ensures c.args.code.now c.args.ints.now;
}
