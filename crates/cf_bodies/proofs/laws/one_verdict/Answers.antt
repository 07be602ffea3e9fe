use Rattle.cf_bodies.proofs.LawLemmas.{one_verdict}
use Rattle.cf_bodies.proofs.laws.one_verdict.Goals as goal

pub returns : goal.returns
returns c =
    one_verdict c.one_size.ensures c.one_code.ensures c.no_code.ensures c.one_fault.ensures c.one_beginning.ensures
    c.code_decided.ensures c.plain_class_decided.ensures c.one_first.ensures
