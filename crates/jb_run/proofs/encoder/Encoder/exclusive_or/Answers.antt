use Rattle.std.proofs.lemmas.Result.{on_ok_weaker}
use Rattle.jb_run.proofs.NumberLemmas.{xor_goes, xor_none, xor_none_below}
use Rattle.jb_run.proofs.encoder.Encoder.exclusive_or.Goals as goal

pub returns-in_default : goal.returns-in_default
returns-in_default c = xor_none c.args.self.now c.args.pc c.args.next c.args.frame (cc)

pub returns-in_default-pop_int : goal.returns-in_default-pop_int
returns-in_default-pop_int c =
    xor_none_below c.args.self.now c.args.pc c.args.next c.args.frame c.pop_int.result.1 c.in-Some-default.b
    (cc) c.pop_int.ensures.rest (cc)

pub returns : goal.returns
returns c =
    on_ok_weaker c.arrive.result
    (xor_goes c.args.self.now c.arrive.new.self c.xor_ints.new.formula c.args.pc c.args.next c.args.frame
    c.pop_int.result.1 c.pop_int-2.result.1 c.in_ok-with_operand.field-0 c.in-Some-default-pop_int.a
    c.in-Some-default.b c.in_ok-word.word
    (cc) c.pop_int.ensures.rest (cc) c.pop_int-2.ensures.rest c.in_ok-with_operand.ensures c.in_ok-word.ensures.gate
    c.in_ok-word.ensures.int) c.arrive.ensures
