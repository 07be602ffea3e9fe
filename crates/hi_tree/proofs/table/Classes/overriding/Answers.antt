use Rattle.std.proofs.Common.{sym, ◌∙◌, ap}
use Rattle.std.proofs.lemmas.Result.{err_from_is_err_and}
use Rattle.hi_tree.specs.Calls.Steps.{above_name}
use Rattle.hi_tree.specs.Calls.Choosing.{choice_of, text_of}
use Rattle.hi_tree.proofs.SelectLemmas.{own_fault, own_selected, own_hidden, above_fault, default_selected}
use Rattle.hi_tree.proofs.SelectLemmas.{default_none, default_two}
use Rattle.hi_tree.proofs.table.Classes.overriding.Goals as goal

pub returns-in_err-own-clause-fault : goal.returns-in_err-own-clause-fault
returns-in_err-own-clause-fault c =
    let p = err_from_is_err_and c.from_residual.result c.from_residual.ensures.1 in
    rw (p.1, p.2)
    (own_fault c.args.self.now c.args.class.now c.args.resolved.now c.args.declared c.requires.declared
    c.requires.overridable
    (above_name c.holder-class.result) c.holder-class.ensures c.in_err-own.field-0.0 c.in_err-own.ensures.fault)

pub returns-then-has_body-clause-found : goal.returns-then-has_body-clause-found
returns-then-has_body-clause-found c =
    own_selected c.args.self.now c.args.class.now c.args.resolved.now c.args.declared c.requires.declared
    c.requires.overridable
    (above_name c.holder-class.result) c.holder-class.ensures c.in_ok-own.own c.in_ok-own.ensures.found
    c.in-Found.first c.in-Found.is c.text.result.now
    c.text.ensures (sym c.has_body.ensures ∙ c.if-has_body.true)

pub returns-else-has_body-clause-fault : goal.returns-else-has_body-clause-fault
returns-else-has_body-clause-fault c =
    own_hidden c.args.self.now c.args.class.now c.args.resolved.now c.args.declared c.requires.declared
    c.requires.overridable
    (above_name c.holder-class.result) c.holder-class.ensures c.in_ok-own.own c.in_ok-own.ensures.found
    c.in-Found.first c.in-Found.is
    (sym c.has_body.ensures ∙ c.if-has_body.false)

pub returns-in_err-chosen-clause-fault : goal.returns-in_err-chosen-clause-fault
returns-in_err-chosen-clause-fault c =
    let p = err_from_is_err_and c.from_residual-in_err-chosen.result c.from_residual-in_err-chosen.ensures.1 in
    rw (p.1, p.2)
    (above_fault c.args.self.now c.args.class.now c.args.resolved.now c.args.declared c.requires.declared
    c.requires.overridable
    (above_name c.holder-class.result) c.holder-class.ensures c.in_ok-own.own c.in_ok-own.ensures.found
    c.in_default.not-Found c.in_err-chosen.field-0.0
    c.in_err-chosen.ensures.fault)

pub returns-in-None-clause-fault : goal.returns-in-None-clause-fault
returns-in-None-clause-fault c =
    default_none c.args.self.now c.args.class.now c.args.resolved.now c.args.declared c.requires.declared
    c.requires.overridable
    (above_name c.holder-class.result) c.holder-class.ensures c.in_ok-own.own c.in_ok-own.ensures.found
    c.in_default.not-Found c.in_ok-chosen.ensures.clean
    (choice_of c.in_ok-chosen.chosen) c.in_ok-chosen.ensures.chosen (ap text_of c.in-None.is)

pub returns-in-Some-clause-fault : goal.returns-in-Some-clause-fault
returns-in-Some-clause-fault c =
    default_two c.args.self.now c.args.class.now c.args.resolved.now c.args.declared c.requires.declared
    c.requires.overridable
    (above_name c.holder-class.result) c.holder-class.ensures c.in_ok-own.own c.in_ok-own.ensures.found
    c.in_default.not-Found c.in_ok-chosen.ensures.clean
    (choice_of c.in_ok-chosen.chosen) c.in_ok-chosen.ensures.chosen c.in-Some.field-0.now (ap text_of c.in-Some.is)
    c.if-chosen.true

pub returns-clause-found : goal.returns-clause-found
returns-clause-found c =
    default_selected c.args.self.now c.args.class.now c.args.resolved.now c.args.declared c.requires.declared
    c.requires.overridable
    (above_name c.holder-class.result) c.holder-class.ensures c.in_ok-own.own c.in_ok-own.ensures.found
    c.in_default.not-Found c.in_ok-chosen.ensures.clean
    (choice_of c.in_ok-chosen.chosen) c.in_ok-chosen.ensures.chosen c.in-Some-2.default.now (ap text_of c.in-Some-2.is)
    c.if-chosen.false
