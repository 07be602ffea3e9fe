use Rattle.std.proofs.lemmas.Result.{on_ok_weaker}
use Rattle.jb_run.proofs.LocalLemmas.{store_goes, store_none}
use Rattle.jb_run.proofs.encoder.Encoder.store.Goals as goal

pub returns : goal.returns
returns c =
    on_ok_weaker c.arrive.result
    (store_goes c.args.self.now c.arrive.new.self c.args.pc c.args.next c.args.index c.args.frame c.pop_int.result.1
    c.in_ok-with_local.field-0 c.in-Some-default.word (cc) c.pop_int.ensures.rest c.in_ok-with_local.ensures)
    c.arrive.ensures

pub returns-in_default : goal.returns-in_default
returns-in_default c = store_none c.args.self.now c.args.pc c.args.next c.args.index c.args.frame (cc)
