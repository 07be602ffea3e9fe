-- The invariant, as it is told to callers.
use Rattle.tm_terms.proofs.BankLemmas.{shared-by}
use Rattle.tm_terms.proofs.bank.Bank.laws.Goals as goal

pub returns-clause-terms : goal.returns-clause-terms
returns-clause-terms c = rw (← c.self.view_is) c.self.invariant.terms

pub returns-clause-shared : goal.returns-clause-shared
returns-clause-shared c = rw (← c.self.view_is) (shared-by c.self.inside.ops c.self.inside.places
    c.self.invariant.placed)
