use Rattle.std.proofs.lemmas.Result.{on_ok_weaker}
use Rattle.jb_run.proofs.LocalLemmas.{load_goes}
use Rattle.jb_run.proofs.encoder.Encoder.load.Goals as goal

pub returns : goal.returns
returns c =
    on_ok_weaker c.arrive.result
    (load_goes c.args.self.now c.arrive.new.self c.args.pc c.args.next c.args.index c.args.frame
    c.in_ok-with_operand.field-0 c.in-Some.word (cc) c.in_ok-with_operand.ensures) c.arrive.ensures
