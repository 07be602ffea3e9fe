-- A method name is before the colon, and a descriptor behind it.
use Rattle.std.proofs.Common.{arith}
use Rattle.std.proofs.lemmas.Result.{err_from_is_err_and}
use Rattle.jv_base.proofs.SiteLemmas.{method_parting}
use Rattle.jv_base.proofs.JoinedLemmas.{alone, in_first, in_second}
use Rattle.jv_base.proofs.site.method_and_rest.Goals as goal

pub returns-in_default-clause-fault : goal.returns-in_default-clause-fault
returns-in_default-clause-fault c =
    λ at e. alone method_parting c.args.text.now c.args.place at c.method_front.result c.in_default.ensures.none (cc)
    c.method_front.ensures.longest

pub returns-in_err-name-clause-fault : goal.returns-in_err-name-clause-fault
returns-in_err-name-clause-fault c =
    λ at e.
    let p = err_from_is_err_and c.from_residual.result c.from_residual.ensures.1 in
    in_first method_parting c.args.text.now c.in-Some.name_text.now c.in-Some.rest.now c.in-Some.ensures.parts
    c.in-Some.ensures.first c.args.place at (c.in_err-name.ensures.fault at (cc))

pub returns-in_err-desc-clause-fault : goal.returns-in_err-desc-clause-fault
returns-in_err-desc-clause-fault c =
    λ at e.
    let p = err_from_is_err_and c.from_residual-in_err-desc.result c.from_residual-in_err-desc.ensures.1 in
    let found = c.in_ok-name.ensures.found in
    in_second method_parting c.args.text.now c.in-Some.name_text.now c.in-Some.rest.now c.in-Some.ensures.parts
    (c.in_ok-name.name, found.0, found.1, found.2) c.args.place _ at (omega arith) (c.in_err-desc.ensures.fault at (cc))
