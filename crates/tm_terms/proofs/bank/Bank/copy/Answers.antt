-- The copies are equal.
use Rattle.tm_terms.proofs.BankLemmas.{bank-same}
use Rattle.tm_terms.proofs.bank.Bank.copy.Goals as goal

pub invariant_of-result : goal.invariant_of-result
invariant_of-result c =
    rw (c.in_ok-copied.ensures, c.as_slice.ensures, c.in_ok-copied-2.ensures, c.as_slice-2.ensures)
    (bank-same c.self.inside.ops c.self.inside.sorts c.self.inside.places c.in_ok-copied-3.field-0
    c.in_ok-copied-3.ensures
    c.self.invariant)
