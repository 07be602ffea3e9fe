use Rattle.std.proofs.Common.{◌≡◌, arith}
use Rattle.jb_run.proofs.BitLemmas.{zero_more, zero_all}
use Rattle.jb_run.proofs.IntGateLemmas.{zero_int}
use Rattle.jb_run.proofs.int_bits.is_zero.Goals as goal

pub loop-index-preserved : goal.loop-index-preserved
loop-index-preserved c =
    zero_more c.args.formula.now c.loop-index.formula c.and.new.formula c.args.a.now c.loop-index.zero c.not.result
    c.in_ok-zero.zero c.loop-index.index
    c.not.ensures (omega arith) c.loop-index.invariant c.and.ensures.keeps c.in_ok-zero.ensures.gate

pub returns-clause-gate : goal.returns-clause-gate
returns-clause-gate c named =
    let all : c.loop-index.index ≡ 32 = omega arith in
    zero_all c.args.formula.now c.loop-index.formula c.args.a.now c.loop-index.zero c.loop-index.index
    c.loop-index.invariant all named

pub returns-clause-int : goal.returns-clause-int
returns-clause-int c named w n =
    let all : c.loop-index.index ≡ 32 = omega arith in
    zero_int c.args.formula.now c.loop-index.formula c.args.a.now c.loop-index.zero
    (zero_all c.args.formula.now c.loop-index.formula c.args.a.now c.loop-index.zero c.loop-index.index
    c.loop-index.invariant all named) w n
