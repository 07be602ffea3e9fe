-- Two gates, and a frame that comes under each of them.
use Rattle.std.proofs.Common.{refl}
use Rattle.std.proofs.lemmas.Result.{on_ok_weaker}
use Rattle.jb_run.proofs.BranchLemmas.{branches}
use Rattle.jb_run.proofs.encoder.Encoder.branch.Goals as goal

pub returns : goal.returns
returns c =
    on_ok_weaker c.arrive-2.result
    (λ arrives. branches c.args.self.now
    (record c.args.self.now { formula = c.and-2.new.formula }) c.arrive.new.self c.arrive-2.new.self
    c.and.new.formula c.args.frame c.in_ok-copy_under.field-0 c.under.result c.args.condition c.not.result
    c.in_ok-taken.taken c.in_ok-passed.passed c.args.true_pc c.args.false_pc
    (record {
      opposite_is = c.not.ensures;
      taken_gate = c.in_ok-taken.ensures.gate;
      passed_gate = c.in_ok-passed.ensures.gate;
      pending = refl;
      raised = refl;
    })
    c.in_ok-copy_under.ensures c.under.ensures c.in_ok-arrive.ensures arrives)
    c.arrive-2.ensures
