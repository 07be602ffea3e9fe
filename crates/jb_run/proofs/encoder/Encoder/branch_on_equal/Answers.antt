use Rattle.std.proofs.lemmas.Result.{on_ok_weaker}
use Rattle.jb_run.specs.Machine as machine
use Rattle.jb_run.proofs.IntBranchLemmas.{two_none, two_none_below, equal_goes}
use Rattle.jb_run.proofs.encoder.Encoder.branch_on_equal.Goals as goal

pub returns-in_default : goal.returns-in_default
returns-in_default c =
    two_none c.args.self.now c.args.self.now c.args.frame
    (machine.branch_on_equal c.args.equal_pc c.args.other_pc) c.args.equal_pc c.args.other_pc (cc)

pub returns-in_default-pop_int : goal.returns-in_default-pop_int
returns-in_default-pop_int c =
    two_none_below c.args.self.now c.args.self.now c.args.frame c.pop_int.result.1 c.in-Some-default.b
    (machine.branch_on_equal c.args.equal_pc c.args.other_pc) c.args.equal_pc c.args.other_pc
    (cc) c.pop_int.ensures.rest (cc)

pub returns : goal.returns
returns c =
    on_ok_weaker c.branch-self.result
    (equal_goes c.args.self.now c.branch-self.new.self c.are_equal.new.formula c.args.frame c.pop_int.result.1
    c.pop_int-2.result.1 c.in-Some-default-pop_int.a c.in-Some-default.b c.in_ok-equal.equal c.args.equal_pc
    c.args.other_pc
    (cc) c.pop_int.ensures.rest (cc) c.pop_int-2.ensures.rest c.in_ok-equal.ensures.gate c.in_ok-equal.ensures.int)
    c.branch-self.ensures
