use Rattle.std.proofs.lemmas.Result.{on_ok_weaker}
use Rattle.jb_run.specs.Machine as machine
use Rattle.jb_run.proofs.IntBranchLemmas.{one_none, zero_goes}
use Rattle.jb_run.proofs.encoder.Encoder.branch_on_zero.Goals as goal

pub returns-in_default : goal.returns-in_default
returns-in_default c =
    one_none c.args.self.now c.args.self.now c.args.frame
    (machine.branch_on_zero c.args.zero_pc c.args.other_pc) c.args.zero_pc c.args.other_pc (cc)

pub returns : goal.returns
returns c =
    on_ok_weaker c.branch-self.result
    (zero_goes c.args.self.now c.branch-self.new.self c.is_zero.new.formula c.args.frame c.pop_int.result.1
    c.in-Some-default.word c.in_ok-zero.zero c.args.zero_pc c.args.other_pc
    (cc) c.pop_int.ensures.rest c.in_ok-zero.ensures.gate c.in_ok-zero.ensures.int) c.branch-self.ensures
