-- All four parts.
use Rattle.std.proofs.Common.{rules}
use Rattle.std.proofs.lemmas.Result.{on_ok_weaker}
use Rattle.bd_core.specs.Loads.{given}
use Rattle.bd_core.proofs.EntryLemmas.{entry_gift}
use Rattle.bd_core.proofs.entry.put_entry.Goals as goal

pub returns : goal.returns
returns c =
    on_ok_weaker c.put_inputs.result
    (entry_gift (given c.args.loaded.now) c.args.job.now c.args.out.now c.put_root.new.out c.put_described.new.out
    c.put_receiver.new.out c.put_inputs.new.out (search rules) (search rules) (search rules)) c.put_inputs.ensures
