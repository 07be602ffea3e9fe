-- The key is the item.
use Rattle.std.proofs.Common.{sym}
use Rattle.bd_core.proofs.LogLemmas.{found_key}
use Rattle.bd_core.proofs.log.Log.release.Goals as goal

pub returns-clause-value : goal.returns-clause-value
returns-clause-value c =
    found_key c.args.item.now c.args.self.now.held.entries c.in-Some.key (sym c.in-Some.ensures.key)
