use Rattle.std.proofs.Common.{◌≡◌, refl, arith}
use Rattle.jb_run.proofs.FreshIntLemmas.{fresh_none, fresh_more, fresh_all}
use Rattle.jb_run.proofs.int_bits.unknown.Goals as goal

pub loop-i-init : goal.loop-i-init
loop-i-init c = fresh_none c.args.formula.now _ refl

pub loop-i-preserved : goal.loop-i-preserved
loop-i-preserved c =
    fresh_more c.args.formula.now c.loop-i.formula c.fresh.new.formula c.loop-i.bits c.loop-i.i c.in_ok-bits.field-0
    (omega arith) c.loop-i.invariant c.fresh.ensures.keeps c.in_ok-bits.ensures.input

pub returns-clause-input : goal.returns-clause-input
returns-clause-input c named =
    let all : c.loop-i.i ≡ 32 = omega arith in
    fresh_all c.args.formula.now c.loop-i.formula
    (record { bits = c.loop-i.bits }) c.loop-i.i c.loop-i.invariant all named
