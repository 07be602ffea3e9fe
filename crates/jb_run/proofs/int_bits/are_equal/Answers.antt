use Rattle.jb_run.proofs.BitLemmas.{equal_of}
use Rattle.jb_run.proofs.IntGateLemmas.{equal_found}
use Rattle.jb_run.proofs.int_bits.are_equal.Goals as goal

pub returns-clause-gate : goal.returns-clause-gate
returns-clause-gate c named =
    equal_of c.args.formula.now c.xor_ints.new.formula c.is_zero.new.formula c.args.a.now c.args.b.now
    c.in_ok-difference.difference c.is_zero.result
    c.in_ok-difference.ensures.gate c.is_zero.ensures.gate named

pub returns-clause-int : goal.returns-clause-int
returns-clause-int c named =
    equal_found c.args.formula.now c.is_zero.new.formula c.args.a.now c.args.b.now c.is_zero.result
    (equal_of c.args.formula.now c.xor_ints.new.formula c.is_zero.new.formula c.args.a.now c.args.b.now
    c.in_ok-difference.difference c.is_zero.result
    c.in_ok-difference.ensures.gate c.is_zero.ensures.gate named)
