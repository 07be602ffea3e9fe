-- The value is the last of those that were found.
use Rattle.std.proofs.Common.{sym, ◌∙◌, arith}
use Rattle.std.proofs.lemmas.Option.{get_or_from_slice_get}
use Rattle.tm_terms.proofs.bank.Bank.value.Goals as goal

pub first_values-requires-clause-terms : goal.first_values-requires-clause-terms
first_values-requires-clause-terms c = rw c.as_slice-ops.ensures c.self.invariant.terms

pub returns : goal.returns
returns c =
    let each = c.in_ok-values.ensures.each c.args.id.0 (omega arith) in
    sym (get_or_from_slice_get c.in_ok-values.values c.args.id.0 c.at.result.now 0 c.at.ensures)
    ∙ (rw (c.as_slice-ops.ensures, c.as_slice.ensures, c.self.view_is) at each)
