use Rattle.std.proofs.Common.{ℕ, List, sym, subst}
use Rattle.std.proofs.lemmas.Result.{err_from_is_err_and}
use Rattle.hi_tree.specs.Selection.{IsSelectedIn, itself, is_static, no_body}
use Rattle.hi_tree.proofs.SelectLemmas.{declared_fault}
use Rattle.hi_tree.proofs.table.Classes.selecting.Goals as goal

pub returns-in_err-declared-clause-fault : goal.returns-in_err-declared-clause-fault
returns-in_err-declared-clause-fault c =
    let p = err_from_is_err_and c.from_residual.result c.from_residual.ensures.1 in
    rw (p.1, p.2)
    (declared_fault c.args.self.now c.args.class.now c.args.resolved.now c.in_err-declared.field-0.0
    c.in_err-declared.ensures.fault)

pub returns-then-declared-clause-fault : goal.returns-then-declared-clause-fault
returns-then-declared-clause-fault c =
    is_static c.in_ok-declared.declared c.in_ok-declared.ensures.found c.if-declared.true

pub returns-then-declared-2-clause-fault : goal.returns-then-declared-2-clause-fault
returns-then-declared-2-clause-fault c =
    no_body c.in_ok-declared.declared c.in_ok-declared.ensures.found c.in-Private.is c.if-declared-2.true

pub returns-else-declared-2-clause-found : goal.returns-else-declared-2-clause-found
returns-else-declared-2-clause-found c =
    subst (λ (n : List ℕ). IsSelectedIn c.args.self.now c.args.class.now c.args.resolved.now n) (sym c.as_str.ensures)
    (itself c.in_ok-declared.declared c.in_ok-declared.ensures.found c.in-Private.is c.if-declared.false
    c.if-declared-2.false)
