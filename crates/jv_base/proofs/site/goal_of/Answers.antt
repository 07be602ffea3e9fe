-- A class is before the first dot, and a member behind it.
use Rattle.std.proofs.Common.{◌≡◌, arith}
use Rattle.std.proofs.lemmas.Result.{err_from_is_err_and}
use Rattle.jv_base.proofs.SiteLemmas.{site_parting}
use Rattle.jv_base.proofs.JoinedLemmas.{alone, in_first, in_second}
use Rattle.jv_base.proofs.site.goal_of.Goals as goal

pub returns-in_default-clause-fault : goal.returns-in_default-clause-fault
returns-in_default-clause-fault c =
    λ at e.
    let is : at ≡ c.spelled_front.result = cc in
    alone site_parting c.args.text.now 0 at c.spelled_front.result c.in_default.ensures.none (omega (arith, is))
    c.spelled_front.ensures.longest

pub returns-in_err-class-clause-fault : goal.returns-in_err-class-clause-fault
returns-in_err-class-clause-fault c =
    λ at e.
    let p = err_from_is_err_and c.from_residual.result c.from_residual.ensures.1 in
    in_first site_parting c.args.text.now c.in-Some.class_text.now c.in-Some.rest.now c.in-Some.ensures.parts
    c.in-Some.ensures.first 0 at (c.in_err-class.ensures.fault at (cc))

pub returns-in_err-name-clause-fault : goal.returns-in_err-name-clause-fault
returns-in_err-name-clause-fault c =
    λ at e.
    let p = err_from_is_err_and c.from_residual-in_err-name.result c.from_residual-in_err-name.ensures.1 in
    let found = c.in_ok-class.ensures.found in
    in_second site_parting c.args.text.now c.in-Some.class_text.now c.in-Some.rest.now c.in-Some.ensures.parts
    (c.in_ok-class.class, found.0, found.1, found.2) 0 _ at (omega arith) (c.in_err-name.ensures.fault at (cc))
