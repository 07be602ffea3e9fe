-- A sum with a constant.
use Rattle.std.proofs.Common.{ap, ◌∙◌, Some}
use Rattle.tm_terms.specs.declared.op.Op.TheVariants.{Add}
use Rattle.tm_terms.proofs.SameLemmas.{fits-stands}
use Rattle.tm_terms.proofs.ChainRules.{plus_second, plus_first}
use Rattle.tm_terms.proofs.chain.plus.Goals as goal

pub constant_at-requires : goal.constant_at-requires
constant_at-requires c =
    let e = c.op.ensures ∙ ap Some c.in-Add.is in
    (fits-stands c.args.bank.now c.args.a.0 (Add c.in-Add.x c.in-Add.y) c.laws.ensures.terms e).below.1

pub constant_at-requires-in-None : goal.constant_at-requires-in-None
constant_at-requires-in-None c =
    let e = c.op.ensures ∙ ap Some c.in-Add.is in
    (fits-stands c.args.bank.now c.args.a.0 (Add c.in-Add.x c.in-Add.y) c.laws.ensures.terms e).below.0

pub returns-in-Some : goal.returns-in-Some
returns-in-Some c =
    plus_second c.args.bank.now c.laws.ensures.terms c.args.a c.in-Add.x c.in-Add.y (c.op.ensures ∙ ap Some c.in-Add.is)
    c.in-Some.c c.in-Some.ensures.found

pub returns-in-Some-constant_at : goal.returns-in-Some-constant_at
returns-in-Some-constant_at c =
    plus_first c.args.bank.now c.laws.ensures.terms c.args.a c.in-Add.x c.in-Add.y (c.op.ensures ∙ ap Some c.in-Add.is)
    c.in-Some-constant_at.c c.in-Some-constant_at.ensures.found
