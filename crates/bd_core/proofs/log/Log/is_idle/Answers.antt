-- A map that is not empty has an item.
use Rattle.std.proofs.Common.{sym, ◌∙◌}
use Rattle.bd_core.proofs.LogLemmas.{one_held}
use Rattle.bd_core.proofs.log.Log.is_idle.Goals as goal

pub returns-clause-busy : goal.returns-clause-busy
returns-clause-busy c = λ busy.
    let one = one_held c.args.self.now.held.entries (λ e. busy (c.is_empty.ensures.1 e)) in
    (one.0, one.1, sym (c.requires.logged.held one.0) ∙ one.2)
