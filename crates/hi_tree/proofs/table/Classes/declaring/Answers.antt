use Rattle.std.proofs.Common.{sym}
use Rattle.std.proofs.lemmas.Result.{err_from_is_err_and}
use Rattle.hi_tree.specs.Calls.Steps.{above_name}
use Rattle.hi_tree.specs.Calls.Choosing.{choice_of}
use Rattle.hi_tree.proofs.ResolveLemmas.{own_declared, own_fault, above_fault, chosen_declared, chosen_none}
use Rattle.hi_tree.proofs.table.Classes.declaring.Goals as goal

pub returns-in_err-own-clause-fault : goal.returns-in_err-own-clause-fault
returns-in_err-own-clause-fault c =
    let p = err_from_is_err_and c.from_residual.result c.from_residual.ensures.1 in
    rw (p.1, p.2)
    (own_fault c.args.self.now c.args.interface c.args.at.now c.own_up.result (above_name c.holder-class.result)
    c.own_up.ensures c.holder-class.ensures c.in_err-own.field-0.0 c.in_err-own.ensures.fault)

pub returns-in-Found-clause-found : goal.returns-in-Found-clause-found
returns-in-Found-clause-found c =
    own_declared c.args.self.now c.args.interface c.args.at.now c.own_up.result (above_name c.holder-class.result)
    c.own_up.ensures c.holder-class.ensures c.in_ok-own.own c.in-Found.class c.text.result.now c.in_ok-own.ensures.found
    c.in-Found.is c.text.ensures

pub returns-in_err-chosen-clause-fault : goal.returns-in_err-chosen-clause-fault
returns-in_err-chosen-clause-fault c =
    let p = err_from_is_err_and c.from_residual-in_err-chosen.result c.from_residual-in_err-chosen.ensures.1 in
    rw (p.1, p.2)
    (above_fault c.args.self.now c.args.interface c.args.at.now c.own_up.result (above_name c.holder-class.result)
    c.own_up.ensures c.holder-class.ensures c.in_ok-own.own c.in_ok-own.ensures.found c.in_default.not-Found
    c.in_err-chosen.field-0.0 c.in_err-chosen.ensures.fault)

pub returns-in-Some-clause-found : goal.returns-in-Some-clause-found
returns-in-Some-clause-found c =
    chosen_declared c.args.self.now c.args.interface c.args.at.now c.own_up.result (above_name c.holder-class.result)
    c.own_up.ensures c.holder-class.ensures c.in_ok-own.own c.in_ok-own.ensures.found c.in_default.not-Found
    c.in_ok-chosen.ensures.clean (choice_of c.in_ok-chosen.chosen) c.in_ok-chosen.ensures.chosen c.in-Some.class.now
    (sym c.in-Some.ensures)

pub returns-clause-fault : goal.returns-clause-fault
returns-clause-fault c =
    chosen_none c.args.self.now c.args.interface c.args.at.now c.own_up.result (above_name c.holder-class.result)
    c.own_up.ensures c.holder-class.ensures c.in_ok-own.own c.in_ok-own.ensures.found c.in_default.not-Found
    c.in_ok-chosen.ensures.clean (choice_of c.in_ok-chosen.chosen) c.in_ok-chosen.ensures.chosen (sym c.in-None.ensures)
