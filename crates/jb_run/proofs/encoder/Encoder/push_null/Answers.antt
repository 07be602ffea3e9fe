use Rattle.std.proofs.lemmas.Result.{on_ok_weaker}
use Rattle.jb_run.proofs.NumberLemmas.{push_null_goes}
use Rattle.jb_run.proofs.encoder.Encoder.push_null.Goals as goal

pub returns : goal.returns
returns c =
    on_ok_weaker c.arrive.result
    (push_null_goes c.args.self.now c.arrive.new.self c.args.pc c.args.next c.args.frame c.in_ok-with_operand.field-0
    c.in_ok-with_operand.ensures) c.arrive.ensures
