use Rattle.std.proofs.Common.{arith}
use Rattle.jb_run.specs.Satisfies.{IsBitBelow}
use Rattle.jb_run.specs.Gate.{AreIntsNamed, chosen, bit_at}
use Rattle.jb_run.proofs.DefinitionLemmas.{bit_below_more}
use Rattle.jb_run.proofs.BitLemmas.{bits_more, named_later}
use Rattle.jb_run.proofs.IntGateLemmas.{chosen_first, chosen_second}
use Rattle.jb_run.proofs.int_bits.mux_ints.Goals as goal

pub loop-i-preserved : goal.loop-i-preserved
loop-i-preserved c =
    let old = c.args.formula.now in
    let a = c.args.a.now in
    let b = c.args.b.now in
    let choice = c.args.choice in
    bits_more (AreIntsNamed old a b × IsBitBelow old.variables choice) old c.loop-i.formula c.mux.new.formula
    c.loop-i.bits c.loop-i.i c.in_ok-bits.field-0 (λ k. chosen choice (bit_at a k) (bit_at b k))
    c.loop-i.invariant (omega arith) c.mux.ensures.keeps
    (λ p so. c.in_ok-bits.ensures.gate (named_later old c.loop-i.formula a b c.loop-i.i p.0 so.extends (omega arith))
    (bit_below_more old.variables c.loop-i.formula.variables choice so.extends.grows p.1))

pub returns-clause-first : goal.returns-clause-first
returns-clause-first c named below w n =
    chosen_first c.args.formula.now c.loop-i.formula c.args.choice c.args.a.now c.args.b.now c.loop-i.bits c.loop-i.i
    c.loop-i.invariant (omega arith) named below w n

pub returns-clause-second : goal.returns-clause-second
returns-clause-second c named below w n =
    chosen_second c.args.formula.now c.loop-i.formula c.args.choice c.args.a.now c.args.b.now c.loop-i.bits c.loop-i.i
    c.loop-i.invariant (omega arith) named below w n
