-- A pc is before the colon, and a kind behind it.
use Rattle.std.proofs.Common.{arith}
use Rattle.std.proofs.lemmas.Result.{err_from_is_err_and}
use Rattle.jv_base.proofs.SiteLemmas.{place_parting}
use Rattle.jv_base.proofs.JoinedLemmas.{alone, in_first, in_second}
use Rattle.jv_base.proofs.site.pc_and_kind.Goals as goal

pub returns-in_default-clause-fault : goal.returns-in_default-clause-fault
returns-in_default-clause-fault c =
    λ at e. alone place_parting c.args.text.now c.args.place at c.leading_pc.result.1 c.in_default.ensures.none (cc)
    c.leading_pc.ensures.longest

pub returns-in_err-pc-clause-fault : goal.returns-in_err-pc-clause-fault
returns-in_err-pc-clause-fault c =
    λ at e.
    let p = err_from_is_err_and c.from_residual.result c.from_residual.ensures.1 in
    in_first place_parting c.args.text.now c.in-Some.pc_text.now c.in-Some.kind_text.now c.in-Some.ensures.parts
    c.in-Some.ensures.first c.args.place at (c.in_err-pc.ensures.fault at (cc))

pub returns-in_err-kind-clause-fault : goal.returns-in_err-kind-clause-fault
returns-in_err-kind-clause-fault c =
    λ at e.
    let p = err_from_is_err_and c.from_residual-in_err-kind.result c.from_residual-in_err-kind.ensures.1 in
    in_second place_parting c.args.text.now c.in-Some.pc_text.now c.in-Some.kind_text.now c.in-Some.ensures.parts
    (c.in_ok-pc.pc, omega arith, c.in_ok-pc.ensures.found) c.args.place _ at (omega arith)
    (c.in_err-kind.ensures.fault at (cc))
