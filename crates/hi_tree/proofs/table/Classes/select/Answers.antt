use Rattle.std.proofs.lemmas.Result.{err_from_is_err_and}
use Rattle.hi_tree.proofs.SelectLemmas.{select_memory}
use Rattle.hi_tree.proofs.table.Classes.select.Goals as goal

pub returns-in_err-method_in-clause-fault : goal.returns-in_err-method_in-clause-fault
returns-in_err-method_in-clause-fault c =
    let p = err_from_is_err_and c.from_residual-in_err-method_in.result c.from_residual-in_err-method_in.ensures.1 in
    rw p.1 (select_memory c.args.self.now c.args.class.now c.args.resolved.now p.0 p.2)
