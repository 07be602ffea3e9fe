use Rattle.std.proofs.Common.{arith}
use Rattle.jb_run.specs.Gate.{AreIntsNamed, different, bit_at}
use Rattle.jb_run.proofs.BitLemmas.{bits_more, named_later}
use Rattle.jb_run.proofs.IntGateLemmas.{xor_int}
use Rattle.jb_run.proofs.int_bits.xor_ints.Goals as goal

pub loop-i-preserved : goal.loop-i-preserved
loop-i-preserved c =
    let old = c.args.formula.now in
    let a = c.args.a.now in
    let b = c.args.b.now in
    bits_more (AreIntsNamed old a b) old c.loop-i.formula c.xor.new.formula c.loop-i.bits c.loop-i.i
    c.in_ok-bits.field-0 (λ k. different (bit_at a k) (bit_at b k))
    c.loop-i.invariant (omega arith) c.xor.ensures.keeps
    (λ named so. c.in_ok-bits.ensures.gate (named_later old c.loop-i.formula a b c.loop-i.i named so.extends
    (omega arith)))

pub returns-clause-int : goal.returns-clause-int
returns-clause-int c named w n m =
    xor_int c.args.formula.now c.loop-i.formula c.args.a.now c.args.b.now c.loop-i.bits c.loop-i.i c.loop-i.invariant
    (omega arith) named w n m
