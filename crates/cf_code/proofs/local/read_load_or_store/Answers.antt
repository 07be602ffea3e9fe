use Rattle.std.proofs.Common.{◌∙◌}
use Rattle.cf_code.proofs.LocalLemmas.{load_based, store_based}
use Rattle.cf_code.proofs.local.read_load_or_store.Goals as goal

pub returns-in_err-word-clause-load : goal.returns-in_err-word-clause-load
returns-in_err-word-clause-load c w i fits is =
    let none = c.in_default.ensures.only w i fits (is ∙ load_based w i) in
    absurd cc

pub returns-in_err-word-clause-store : goal.returns-in_err-word-clause-store
returns-in_err-word-clause-store c w i fits is =
    let none = c.in_err-word.ensures.only w i fits (is ∙ store_based w i) in
    absurd cc
